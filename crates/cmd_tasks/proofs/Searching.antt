-- A page as the next look of a search.
use Rattle.std.proofs.Common.{◌≡◌, ◌≢◌, ℕ, suc, ◌+◌, ◌<◌, ◌≤◌, List, [], ◌∷◌, ◌++◌, map, take, length, Bool, true, false, cond, Option, Some, None, refl, sym, ap, ◌∙◌, subst, arith, inl, inr, ⊎_elim, Ordering, Less, Equal, Greater, is_gt, Vec, Global, length-append}
use Rattle.std.specs.Prelude.{◌&&◌, ⊤, IfSome, nat_lt, option_and_then}
use Rattle.std.specs.List.{filter, AllByRecursion as Each}
use Rattle.std.specs.Ordering.{is_lt, is_le, is_eq, ordering_reverse}
use Rattle.std.proofs.lemmas.Bool.{ltb-true}
use Rattle.std.proofs.lemmas.Cmp.{tied_itself, upto}
use Rattle.std.proofs.lemmas.List.{length-map, map-append}
use Rattle.json_tree.specs.Tree.{Tree}
use Rattle.json_tree.specs.Id.{id_cmp}
use Rattle.shred_cols.specs.Row.{Version, id_of}
use Rattle.shred_cols.specs.Rows.{Rows, ascends, version_of, is_after}
use Rattle.col_keeper.specs.Tables.{Name}
use Rattle.col_keeper.specs.Asked.{meets_document}
use Rattle.filter_tree.specs.Filters.{FilterTree}
use Rattle.filter_tree.specs.Matches.{matches}
use Rattle.view_sort.specs.Sort.{SortKeys, HasIds}
use Rattle.store_core.specs.State.{State as Base, version}
use Rattle.store_core.specs.declared.entry.Entry.{Entry}
use Rattle.cmd_tasks.specs.Trace.{Sight, sight, Found, found, found_in, probed_in, probe_of, up_to, now, rows_now, shown, shown_by, seen_by, end_of, next_from, Looks, IsLook, FullPage, GoesOn}
use Rattle.cmd_tasks.specs.Attempts.{IsOneOf}
use Rattle.cmd_tasks.specs.Searches.{bound, is_too_many, stored, in_order}
use Rattle.cmd_tasks.specs.Pages.{found_row}
use Rattle.cmd_tasks.specs.Rank.{rank_of}
use Rattle.cmd_tasks.specs.Looking.{Made, Glances, Sees, StopsSo}
use Rattle.cmd_tasks.specs.Finding.{are_too_many, AreDocuments, IsAdded, Adds}
use Rattle.cmd_tasks.specs.Searching.{IsSearchable, IsSeen, IsSearching, Searches, Seeks}
use Rattle.cmd_tasks.specs.declared.trace.Item.{Item}
use Rattle.cmd_tasks.specs.declared.trace.Item.TheVariants.{Looked, Wrote, Lost, Faulted}
use Rattle.cmd_tasks.specs.declared.work.Search.{Search}
use Rattle.cmd_tasks.specs.declared.work.Progress.{Progress}
use Rattle.cmd_tasks.specs.declared.work.Glance.TheVariants as g
use Rattle.cmd_tasks.specs.declared.work.Searched.{Searched}
use Rattle.cmd_tasks.specs.declared.work.Searched.TheVariants as r
use Rattle.cmd_tasks.proofs.Listing.{Row, Rises, IsBelow, ids_total, rises}
use Rattle.cmd_tasks.proofs.Keeping.{first_rows, rows_same}

-- ---- lists

pub no : false ≡ true → ⊥
no e = cc

pub both_of : (a b : Bool) → a && b ≡ true → (a ≡ true) × (b ≡ true)
both_of true b h = (refl, h)
both_of false b h = cc

pub weaker : {A : Type 0} (P Q : A → Type 0) (xs : List A) → ((x : A) → P x → Q x) → Each P xs → Each Q xs
weaker P Q [] f h = tt
weaker P Q (x ∷ xs) f h = (f x h.0, weaker P Q xs f h.1)

each_append : {A : Type 0} (P : A → Type 0) (xs ys : List A) → Each P xs → Each P ys → Each P (xs ++ ys)
each_append P [] ys a b = b
each_append P (x ∷ xs) ys a b = (a.0, each_append P xs ys a.1 b)

pub each_of_map : {A B : Type 0} (f : A → B) (P : B → Type 0) (xs : List A) → Each P (map f xs) → Each (λ x. P (f x)) xs
each_of_map f P [] h = tt
each_of_map f P (x ∷ xs) h = (h.0, each_of_map f P xs h.1)

-- each element stands in the list
each_is_one : {A : Type 0} (xs : List A) → Each (λ x. IsOneOf x xs) xs
each_is_one [] = tt
each_is_one (x ∷ xs) = ((0, refl), weaker (λ z. IsOneOf z xs) (λ z. IsOneOf z (x ∷ xs)) xs (λ z w. (suc w.0, w.1)) (each_is_one xs))

-- ---- the order of ids

lt_apart : (o p : Ordering) → p ≡ ordering_reverse o → is_lt o ≡ true → is_eq p ≡ false
lt_apart Less p r e = ap is_eq r
lt_apart Equal p r e = cc
lt_apart Greater p r e = cc

lt_not_le : (o p : Ordering) → p ≡ ordering_reverse o → is_lt o ≡ true → is_le p ≡ false
lt_not_le Less p r e = ap is_le r
lt_not_le Equal p r e = cc
lt_not_le Greater p r e = cc

lt_not_gt : (o : Ordering) → is_lt o ≡ true → is_gt o ≡ false
lt_not_gt Less e = refl
lt_not_gt Equal e = refl
lt_not_gt Greater e = cc

le_not_gt : (o : Ordering) → is_le o ≡ true → is_gt o ≡ false
le_not_gt Less e = refl
le_not_gt Equal e = refl
le_not_gt Greater e = cc

not_gt_le : (o : Ordering) → is_gt o ≡ false → is_le o ≡ true
not_gt_le Less e = refl
not_gt_le Equal e = refl
not_gt_le Greater e = cc

below_apart : (x y : Tree) → IsBelow x y → x ≢ y
below_apart x y h e = no (sym (ap is_lt (tied_itself ids_total x)) ∙ subst (λ (z : Tree). is_lt (id_cmp x z) ≡ true) (sym e) h)

-- one comes up to u, and the other comes behind it
apart_by : (u x y : Tree) → is_le (id_cmp x u) ≡ true → IsBelow u y → x ≢ y
apart_by u x y a b e = no (sym (lt_not_le (id_cmp u y) (id_cmp y u) (ids_total.antisymm y u) b) ∙ subst (λ (z : Tree). is_le (id_cmp z u) ≡ true) e a)

-- x comes up to l, and u comes behind some z that comes behind l
pub up_to_more : (l u x z : Tree) → is_le (id_cmp x l) ≡ true → IsBelow l z → is_le (id_cmp z u) ≡ true → is_le (id_cmp x u) ≡ true
up_to_more l u x z a b c =
    not_gt_le (id_cmp x u) (upto ids_total x l u (le_not_gt (id_cmp x l) a) (upto ids_total l z u (lt_not_gt (id_cmp l z) b) (le_not_gt (id_cmp z u) c)))

-- ---- what stands in rows whose ids rise

-- the row of a document stands under its id
stand : (es : List Row) → Rises es → Each (λ e. version_of e.0 es ≡ Some e.1) es
stand [] h = tt
stand (x ∷ es) h = (
  ap (λ (o : Ordering). cond (is_eq o) (Some x.1) (version_of x.0 es)) (tied_itself ids_total x.0),
  behind es es h.0 (stand es h.1),
)
  where
    behind : (rest all : List Row) → Each (λ z. IsBelow x.0 z.0) rest → Each (λ e. version_of e.0 all ≡ Some e.1) rest → Each (λ e. version_of e.0 (x ∷ all) ≡ Some e.1) rest
    behind [] all a b = tt
    behind (z ∷ rest) all a b = (ap (λ (t : Bool). cond t (Some x.1) (version_of z.0 all)) (lt_apart (id_cmp x.0 z.0) (id_cmp z.0 x.0) (ids_total.antisymm z.0 x.0) a.0) ∙ b.0, behind rest all a.1 b.1)

of_filter : (P : Row → Type 0) (Q : Found → Type 0) (q : Row → Bool) (es : List Row) → ((e : Row) → q e ≡ true → P e → Q (found e)) → Each P es → Each Q (map found (filter q es))
of_filter P Q q [] f h = tt
of_filter P Q q (e ∷ es) f h = elim (q e) as (λ t. q e ≡ t → Each Q (map found (cond t (e ∷ filter q es) (filter q es)))) [
  | true ↦ λ w. (f e w h.0, of_filter P Q q es f h.1)
  | false ↦ λ w. of_filter P Q q es f h.1
] refl

abbrev pub Ascend : List Found → Type 0
Ascend [] = ⊤
Ascend (x ∷ xs) = Each (λ y. IsBelow x.id y.id) xs × Ascend xs

pub filter_ascends : (q : Row → Bool) (es : List Row) → Rises es → Ascend (map found (filter q es))
filter_ascends q [] h = tt
filter_ascends q (e ∷ es) h = elim (q e) as (λ t. Ascend (map found (cond t (e ∷ filter q es) (filter q es)))) [
  | true ↦ (of_filter (λ z. IsBelow e.0 z.0) (λ y. IsBelow e.0 y.id) q es (λ z w b. b) h.0, filter_ascends q es h.1)
  | false ↦ filter_ascends q es h.1
]

-- rows in order of id have ids, none twice
ids_apart : (vs : List Version) → AreDocuments vs → Ascend (map found_row vs) → HasIds vs
ids_apart [] d up = tt
ids_apart (v ∷ vs) d up =
    ((d.0, weaker (λ w. IsBelow (id_of v.doc) (id_of w.doc)) (λ w. id_of v.doc ≢ id_of w.doc) vs (λ w b. below_apart (id_of v.doc) (id_of w.doc) b) (each_of_map found_row (λ y. IsBelow (id_of v.doc) y.id) vs up.0)), ids_apart vs d.1 up.1)

ids_append : (vs ws : List Version) → HasIds vs → HasIds ws → Each (λ v. Each (λ w. id_of v.doc ≢ id_of w.doc) ws) vs → HasIds (vs ++ ws)
ids_append [] ws a b far = b
ids_append (v ∷ vs) ws a b far = ((a.0.0, each_append (λ w. id_of v.doc ≢ id_of w.doc) vs ws a.0.1 far.0), ids_append vs ws a.1 b far.1)

-- ---- a look

-- the document lies in the interval, and stands in the rows
pub record IsInside (rs : Rows) (after up : Option Tree) (x : Found) : Type 0 where
  pub behind : is_after after x.id ≡ true
  pub within : up_to up x.id ≡ true
  pub stands : version_of x.id rs ≡ Some (stored x)

pub inside : (rs : Rows) (f : FilterTree) (after up : Option Tree) → Rises rs → Each (IsInside rs after up) (found_in rs f after up)
inside rs f after up h = of_filter (λ e. version_of e.0 rs ≡ Some e.1) (IsInside rs after up) (λ e. is_after after e.0 && (up_to up e.0 && matches f e.1.doc)) rs
    (λ e w s. let p = both_of (is_after after e.0) (up_to up e.0 && matches f e.1.doc) w in record { behind = p.0; within = (both_of (up_to up e.0) (matches f e.1.doc) p.1).0; stands = s }) (stand rs h)

-- what the rows of a look are
record AreLooked (state : Base) (coll : Name) (last up : Option Tree) (rows : List Version) : Type 0 where
  pub ids : HasIds rows
  pub behind : Each (λ v. is_after last (id_of v.doc) ≡ true) rows
  pub within : Each (λ v. up_to up (id_of v.doc) ≡ true) rows
  pub stand : Each (λ v. version state coll (id_of v.doc) ≡ Some v) rows

abbrev rows_or : Option Rows → Rows
rows_or o = elim o as (λ _. Rows) [ None ↦ [] | Some x ↦ x ]

looked : (base : Base) (coll : Name) (f : FilterTree) (last : Option Tree) (s : Sight) (rows : List Version) → IsLook base coll f last s → ascends (rows_now base coll s) ≡ true → shown_by base coll f s ≡ map found_row rows → AreDocuments rows
    → AreLooked (now base coll s) coll last (end_of s.item) rows
looked base coll f last s rows look sorted shows docs = of_item s.item look.1 shows
  where
    rs : Rows
    rs = rows_now base coll s

    up : Rises rs
    up = rises rs sorted

    stands : (v : Version) → version_of (id_of v.doc) rs ≡ Some v → version (now base coll s) coll (id_of v.doc) ≡ Some v
    stands v e = ap (option_and_then (version_of (id_of v.doc))) look.0.1 ∙ (sym (ap (λ (o : Option Rows). version_of (id_of v.doc) (rows_or o)) look.0.1) ∙ e)

    of_item : (i : Item) → Looks base coll f rs last i → seen_by base coll f rs i ≡ map found_row rows → AreLooked (now base coll s) coll last (end_of i) rows
    of_item (Looked at after to page) l e =
        let all : Each (λ v. IsInside rs after to (found_row v)) rows = each_of_map found_row (IsInside rs after to) rows (subst (λ (xs : List Found). Each (IsInside rs after to) xs) e (inside rs f after to up)) in
        record {
          ids = ids_apart rows docs (subst (λ (xs : List Found). Ascend xs) e (filter_ascends _ rs up));
          behind = weaker (λ v. IsInside rs after to (found_row v)) (λ v. is_after last (id_of v.doc) ≡ true) rows (λ v h. subst (λ (a : Option Tree). is_after a (id_of v.doc) ≡ true) l.0 h.behind) all;
          within = weaker (λ v. IsInside rs after to (found_row v)) (λ v. up_to to (id_of v.doc) ≡ true) rows (λ v h. h.within) all;
          stand = weaker (λ v. IsInside rs after to (found_row v)) (λ v. version (now base coll s) coll (id_of v.doc) ≡ Some v) rows (λ v h. stands v h.stands) all;
        }
    of_item (Wrote at) l e = absurd l
    of_item (Lost at read x) l e = absurd l
    of_item (Faulted at before count) l e = absurd l

-- a full page's end lies behind its start: a row lies between
some_row : (q : Row → Bool) (es : List Row) → 1 ≤ length (filter q es) → (e : Row) × (q e ≡ true)
some_row q [] l = absurd (omega arith)
some_row q (e ∷ es) l = elim (q e) as (λ t. q e ≡ t → 1 ≤ length (cond t (e ∷ filter q es) (filter q es)) → (z : Row) × (q z ≡ true)) [ true ↦ λ w m. (e, w) | false ↦ λ w m. some_row q es m ] refl l

row_between : (rs : Rows) (f : FilterTree) (after up : Option Tree) → probed_in rs f after up ≡ 64 → (e : Row) × (is_after after e.0 ≡ true) × (up_to up e.0 ≡ true)
row_between rs f after up full =
    let q : Row → Bool = λ e. is_after after e.0 && (up_to up e.0 && meets_document (probe_of f) e.1.doc) in
    let e = some_row q rs (omega (arith, full)) in
    let p = both_of (is_after after e.0.0) (up_to up e.0.0 && meets_document (probe_of f) e.0.1.doc) e.1 in
    (e.0, p.0, (both_of (up_to up e.0.0) (meets_document (probe_of f) e.0.1.doc) p.1).0)

pub full_between : (base : Base) (coll : Name) (f : FilterTree) (rs : Rows) (last : Option Tree) (i : Item) → Looks base coll f rs last i → FullPage base coll f rs i → (e : Row) × (is_after last e.0 ≡ true) × (up_to (end_of i) e.0 ≡ true)
full_between base coll f rs last (Looked at after up page) l full = let e = row_between rs f after up full.1 in (e.0, subst (λ (a : Option Tree). is_after a e.0.0 ≡ true) l.0 e.1, e.2)
full_between base coll f rs last (Wrote at) l full = absurd l
full_between base coll f rs last (Lost at read x) l full = absurd l
full_between base coll f rs last (Faulted at before count) l full = absurd l

full_end : (base : Base) (coll : Name) (f : FilterTree) (rs : Rows) (i : Item) → FullPage base coll f rs i → end_of i ≡ None → ⊥
full_end base coll f rs (Looked at after up page) full e = not_none full.0.0 (sym e ∙ full.0.1)
  where
    not_none : (u : Tree) → ◌≡◌ {A = Option Tree} None (Some u) → ⊥
    not_none u e = cc
full_end base coll f rs (Wrote at) full e = absurd full
full_end base coll f rs (Lost at read x) full e = absurd full
full_end base coll f rs (Faulted at before count) full e = absurd full

map_none : (vs : List Version) → [] ≡ map found_row vs → vs ≡ []
map_none [] e = refl
map_none (v ∷ vs) e = cc

-- ---- the search with a look more

module _ (base : Base) (coll : Name) (from : Option Tree) (search : Search) where
  abbrev f : FilterTree
  f = Rattle.cmd_tasks.specs.Searching.filter_of base coll from search

  -- where the search has no place to go on from, it has shown nothing
  none_shown : (looks : List Sight) (last : Option Tree) (vs : List Version) → GoesOn base coll f (bound search.sort search.keep) looks → last ≡ next_from from looks → last ≡ None → shown base coll f looks ≡ map found_row vs → vs ≡ []
  none_shown [] last vs on is none are = map_none vs are
  none_shown (s ∷ looks) last vs on is none are = absurd (full_end base coll f (rows_now base coll s) s.item on.0 (sym is ∙ none))

  -- all that was shown lies up to `last`
  abbrev AreBelow : Option Tree → List Version → Type 0
  AreBelow last vs = IfSome last (λ u. Each (λ v. up_to (Some u) (id_of v.doc) ≡ true) vs)

  far : (last : Option Tree) (vs rows : List Version) → (last ≡ None → vs ≡ []) → AreBelow last vs → Each (λ v. is_after last (id_of v.doc) ≡ true) rows → Each (λ v. Each (λ w. id_of v.doc ≢ id_of w.doc) rows) vs
  far None vs rows none below behind = subst (λ (l : List Version). Each (λ v. Each (λ w. id_of v.doc ≢ id_of w.doc) rows) l) (sym (none refl)) tt
  far (Some u) vs rows none below behind = weaker (λ v. is_le (id_cmp (id_of v.doc) u) ≡ true) (λ v. Each (λ w. id_of v.doc ≢ id_of w.doc) rows) vs
      (λ v a. weaker (λ w. IsBelow u (id_of w.doc)) (λ w. id_of v.doc ≢ id_of w.doc) rows (λ w b. apart_by u (id_of v.doc) (id_of w.doc) a b) behind) below

  below_more : (last : Option Tree) (u z : Tree) (vs : List Version) → (last ≡ None → vs ≡ []) → AreBelow last vs → is_after last z ≡ true → is_le (id_cmp z u) ≡ true → Each (λ v. is_le (id_cmp (id_of v.doc) u) ≡ true) vs
  below_more None u z vs none below a b = subst (λ (l : List Version). Each (λ v. is_le (id_cmp (id_of v.doc) u) ≡ true) l) (sym (none refl)) tt
  below_more (Some l) u z vs none below a b = weaker (λ v. is_le (id_cmp (id_of v.doc) l) ≡ true) (λ v. is_le (id_cmp (id_of v.doc) u) ≡ true) vs (λ v h. up_to_more l u (id_of v.doc) z h a b) below

  still_below : (last up : Option Tree) (i : Item) (rs : Rows) (vs rows : List Version) → (last ≡ None → vs ≡ []) → AreBelow last vs → Looks base coll f rs last i → end_of i ≡ up → IfSome up (λ u. FullPage base coll f rs i)
      → Each (λ v. up_to (end_of i) (id_of v.doc) ≡ true) rows → AreBelow up (vs ++ rows)
  still_below last None i rs vs rows none below l e full within = tt
  still_below last (Some u) i rs vs rows none below l e full within =
      let z = full_between base coll f rs last i l full in
      each_append (λ v. up_to (Some u) (id_of v.doc) ≡ true) vs rows (below_more last u z.0.0 vs none below z.1 (subst (λ (a : Option Tree). up_to a z.0.0 ≡ true) e z.2))
      (subst (λ (a : Option Tree). Each (λ v. up_to a (id_of v.doc) ≡ true) rows) e within)

  seen_more : (s : Sight) (looks : List Sight) (x : Found) → IsSeen base coll f x looks → IsSeen base coll f x (s ∷ looks)
  seen_more s looks x h = record { look = h.look; among = (suc h.among.0, h.among.1); shows = h.shows; stood = h.stood }

  seen_now : (s : Sight) (looks : List Sight) (rows : List Version) → shown_by base coll f s ≡ map found_row rows → Each (λ v. version (now base coll s) coll (id_of v.doc) ≡ Some v) rows → Each (λ v. IsSeen base coll f (found_row v) (s ∷ looks)) rows
  seen_now s looks rows e stand = both rows (each_of_map found_row (λ x. IsOneOf x (shown_by base coll f s)) rows (subst (λ (xs : List Found). Each (λ x. IsOneOf x (shown_by base coll f s)) xs) e (each_is_one (shown_by base coll f s)))) stand
    where
      both : (vs : List Version) → Each (λ v. IsOneOf (found_row v) (shown_by base coll f s)) vs → Each (λ v. version (now base coll s) coll (id_of v.doc) ≡ Some v) vs → Each (λ v. IsSeen base coll f (found_row v) (s ∷ looks)) vs
      both [] a b = tt
      both (v ∷ vs) a b = (record { look = s; among = (0, refl); shows = a.0; stood = b.0 }, both vs a.1 b.1)

  module _ (k : ℕ) (H' : List Entry) (looks : List Sight) (p : Progress) (searching : IsSearching base coll from search p looks) (unended : GoesOn base coll f (bound search.sort search.keep) looks) where
    -- how many are shown with a page
    counted : (item : Item) (page : Vec Version Global) (last : Option Tree) → Sees base coll k H' f p.last (g.Shown item page last) → p.shown + length page.items ≡ length (shown base coll f (sight H' item ∷ looks))
    counted item page last sees =
        (λ j. searching.count j + sym (ap length sees.1 ∙ length-map page.items found_row) j) ∙ sym (length-append (shown base coll f looks) (shown_by base coll f (sight H' item)))

    -- the progress behind a page is that of the looks with it
    goes_on : (item : Item) (page : Vec Version Global) (last : Option Tree) (p' : Progress) → Sees base coll k H' f p.last (g.Shown item page last) → IsAdded search p page.items last p' → IsSearching base coll from search p' (sight H' item ∷ looks)
    goes_on item page last p' sees added = record {
      last = added.last_is ∙ sym sees.2;
      count = added.shown ∙ counted item page last sees;
      kept = ap (map found_row) (added.kept vs apart (rows_same p.kept.items (take search.keep (Rattle.cmd_tasks.specs.Finding.ordered search.sort vs)) (searching.kept ∙ ap (λ (xs : List Found). take search.keep (in_order search.sort xs)) searching.are ∙ first_rows search.sort search.keep vs)))
          ∙ sym (ap (λ (xs : List Found). take search.keep (in_order search.sort xs)) are ∙ first_rows search.sort search.keep (vs ++ rows));
      versions = vs ++ rows;
      are = are;
      apart = apart;
      below = subst (λ (u : Option Tree). AreBelow u (vs ++ rows)) (sym added.last_is) (still_below p.last last item (rows_now base coll s) vs rows none searching.below sees.0.1 sees.2 sees.3 look.within);
      seen = each_append (λ v. IsSeen base coll f (found_row v) (s ∷ looks)) vs rows
          (weaker (λ v. IsSeen base coll f (found_row v) looks) (λ v. IsSeen base coll f (found_row v) (s ∷ looks)) vs (λ v h. seen_more s looks (found_row v) h) searching.seen) (seen_now s looks rows sees.1 look.stand);
    }
      where
        s : Sight
        s = sight H' item

        rows : List Version
        rows = page.items

        vs : List Version
        vs = searching.versions

        look : AreLooked (now base coll s) coll p.last (end_of item) rows
        look = looked base coll f p.last s rows sees.0 sees.4 sees.1 added.documents

        none : p.last ≡ None → vs ≡ []
        none e = none_shown looks p.last vs unended searching.last e searching.are

        apart : HasIds (vs ++ rows)
        apart = ids_append vs rows searching.apart look.ids (far p.last vs rows none searching.below look.behind)

        are : shown base coll f (s ∷ looks) ≡ map found_row (vs ++ rows)
        are = (λ j. searching.are j ++ sees.1 j) ∙ sym (map-append found_row vs rows)

    -- it is the next look
    is_next : (item : Item) (page : Vec Version Global) (last : Option Tree) → Sees base coll k H' f p.last (g.Shown item page last) → IsLook base coll f (next_from from looks) (sight H' item)
    is_next item page last sees = subst (λ (a : Option Tree). IsLook base coll f a (sight H' item)) searching.last sees.0

    too_many : (s : Sight) (n : ℕ) (b : Bool) → n ≡ length (shown base coll f (s ∷ looks)) → are_too_many search.sort n ≡ b → is_too_many search.sort (shown base coll f (s ∷ looks)) ≡ b
    too_many s n b e h = by_sort search.sort n (shown base coll f (s ∷ looks)) e ∙ h
      where
        by_sort : (sort : SortKeys) (n : ℕ) (xs : List Found) → n ≡ length xs → is_too_many sort xs ≡ are_too_many sort n
        by_sort [] n xs e = refl
        by_sort (key ∷ keys) n xs e = ap (λ (m : ℕ). nat_lt 10000 m) (sym e)

    -- more than are sorted end the search
    ends_with_many : (sort : SortKeys) (keep n : ℕ) → are_too_many sort n ≡ true → bound sort keep ≤ n
    ends_with_many [] keep n h = absurd (no h)
    ends_with_many (key ∷ keys) keep n h = let l = ltb-true 10000 n h in omega arith

    -- what a page makes of the search
    pub adds_seeks : (item : Item) (page : Vec Version Global) (last : Option Tree) (o : Searched) → Sees base coll k H' f p.last (g.Shown item page last) → Adds search p item page.items last o → Seeks base coll from search k H' looks o
    adds_seeks item page last (r.More i p') sees a = subst (λ (z : Item). Seeks base coll from search k H' looks (r.More z p')) (sym a.0) (
      is_next item page last sees,
      goes_on item page last p' sees a.1,
      (subst (λ (u : Option Tree). IfSome u (λ z. FullPage base coll f (rows_now base coll (sight H' item)) item)) a.2.1 sees.3, (let c = counted item page last sees in let n = a.1.shown in let l = a.3 in omega arith)),
    )
    adds_seeks item page last (r.Whole i p') sees a = subst (λ (z : Item). Seeks base coll from search k H' looks (r.Whole z p')) (sym a.0) (
      is_next item page last sees,
      goes_on item page last p' sees a.1,
      ⊎_elim (λ (e : last ≡ None). inl (sees.2 ∙ e)) (λ (l : bound search.sort search.keep ≤ p'.shown). inr (let c = counted item page last sees in let n = a.1.shown in omega arith)) a.2,
      too_many (sight H' item) p'.shown false (a.1.shown ∙ counted item page last sees) a.1.sortable,
    )
    adds_seeks item page last (r.Stopped i reply) sees a = subst (λ (z : Item). Seeks base coll from search k H' looks (r.Stopped z reply)) (sym a.0) (inr (
      is_next item page last sees,
      inr (let c = counted item page last sees in let m = ends_with_many search.sort search.keep (p.shown + length page.items) a.1 in omega arith),
      too_many (sight H' item) (p.shown + length page.items) true (counted item page last sees) a.1,
      a.2,
    ))
    adds_seeks item page last r.NoMemory sees a = tt

    -- where there was nothing to look at
    pub ended_seeks : (item : Item) (reply : Rattle.reply_env.specs.declared.reply.Reply.Reply) → StopsSo base coll k H' p.last item reply → Seeks base coll from search k H' looks (r.Stopped item reply)
    ended_seeks item reply stops = inl (subst (λ (a : Option Tree). StopsSo base coll k H' a item reply) searching.last stops)

-- ---- told or not

few : (sort : SortKeys) (keep n : ℕ) → keep ≤ 500 → n < bound sort keep → n < 10001
few [] keep n most l = omega arith
few (key ∷ keys) keep n most l = l

pub adds_searches : (k low high : ℕ) (search : Search) (p : Progress) (H H' : List Entry) (item : Item) (page : Vec Version Global) (last : Option Tree) (o : Searched) → IsSearchable search p → Glances k low high p.last H H' (g.Shown item page last)
    → Adds search p item page.items last o → Searches k low high search p H H' o
adds_searches k low high search p H H' item page last (r.More i p') ready h a = (
  subst (Made k low high H H') (sym a.0) h.0,
  record { wanted = ready.wanted; few = few search.sort search.keep p'.shown ready.most a.3; most = ready.most },
  subst (λ (u : Option Tree). rank_of u < rank_of p.last) (sym (a.1.last_is ∙ a.2.1)) (subst (λ (u : Option Tree). IfSome u (λ z. rank_of (Some z) < rank_of p.last)) a.2.1 h.1),
)
adds_searches k low high search p H H' item page last (r.Whole i p') ready h a = subst (Made k low high H H') (sym a.0) h.0
adds_searches k low high search p H H' item page last (r.Stopped i reply) ready h a = subst (Made k low high H H') (sym a.0) h.0
adds_searches k low high search p H H' item page last r.NoMemory ready h a = h.2
