-- A page of rows is a look of a listing.
use Rattle.std.proofs.Common.{◌≡◌, ℕ, ◌<◌, ◌≤◌, List, [], ◌∷◌, ◌++◌, map, drop, length, Bool, true, false, cond, Option, Some, None, refl, sym, ap, ◌∙◌, subst, arith, leb, ⊎_elim, ◌⊎◌, Less, Equal, Greater, Ordering}
use Rattle.std.specs.Prelude.{◌&&◌, ◌↔◌, ⊤}
use Rattle.std.specs.Option.{option_map}
use Rattle.std.specs.List.{filter, AllByRecursion as Each}
use Rattle.std.specs.Ordering.{is_lt, is_le, ordering_reverse}
use Rattle.std.specs.Cmp.{IsTotalOrder}
use Rattle.std.specs.FinMap.Entries.{is_sorted, below_all}
use Rattle.std.proofs.lemmas.Bool.{leb-true}
use Rattle.std.proofs.lemmas.Bool.Decides.{leb_tells}
use Rattle.std.proofs.lemmas.Cmp.{tied_itself, then_total, on_total, nat_cmp_total, int_cmp_total, lists_total}
use Rattle.std.proofs.lemmas.List.{take_all, length-take-le, take-append-drop}
use Rattle.json_tree.specs.Tree.{Tree}
use Rattle.json_tree.specs.Id.{id_cmp, id_tag, id_text, id_number}
use Rattle.shred_cols.specs.Row.{Version, id_of}
use Rattle.shred_cols.specs.Rows.{Rows, keyed, ascends, is_after}
use Rattle.shred_cols.specs.declared.probe.Probe.{Probe}
use Rattle.col_keeper.specs.Asked.{meets_document}
use Rattle.col_keeper.specs.Pages.{IsPage, met_after}
use Rattle.filter_tree.specs.Filters.{FilterTree}
use Rattle.filter_tree.specs.Matches.{matches}
use Rattle.store_core.specs.Outcomes.{ShowsPage}
use Rattle.cmd_tasks.specs.Trace.{up_to, found, found_in, probed_in, probe_of}
use Rattle.cmd_tasks.specs.Pages.{found_row, last_of, up_of}

abbrev pub Row : Type 0
Row = Tree × Version

-- ---- the order of ids

pub ids_total : IsTotalOrder id_cmp
ids_total = then_total (on_total id_tag nat_cmp_total) (then_total (on_total id_text (lists_total nat_cmp_total)) (on_total id_number int_cmp_total))

abbrev pub IsBelow : Tree → Tree → Type 0
IsBelow x y = is_lt (id_cmp x y) ≡ true

lt_le : (o : Ordering) → is_lt o ≡ true → is_le o ≡ true
lt_le Less e = refl
lt_le Equal e = cc
lt_le Greater e = cc

pub lt_not_le : (o p : Ordering) → p ≡ ordering_reverse o → is_lt o ≡ true → is_le p ≡ false
lt_not_le Less p r e = ap is_le r
lt_not_le Equal p r e = cc
lt_not_le Greater p r e = cc

below_up_to : (x u : Tree) → IsBelow x u → is_le (id_cmp x u) ≡ true
below_up_to x u h = lt_le (id_cmp x u) h

itself_up_to : (x : Tree) → is_le (id_cmp x x) ≡ true
itself_up_to x = ap is_le (tied_itself ids_total x)

above_not : (u y : Tree) → IsBelow u y → is_le (id_cmp y u) ≡ false
above_not u y h = lt_not_le (id_cmp u y) (id_cmp y u) (ids_total.antisymm y u) h

-- ---- rows in the order of their ids

abbrev pub Rises : List Row → Type 0
Rises [] = ⊤
Rises (e ∷ es) = Each (λ x. IsBelow e.0 x.0) es × Rises es

both_of : (a b : Bool) → a && b ≡ true → (a ≡ true) × (b ≡ true)
both_of true b h = (refl, h)
both_of false b h = cc

below : (x : Tree) (es : List Row) → below_all id_cmp x es ≡ true → Each (λ e. IsBelow x e.0) es
below x [] h = tt
below x (e ∷ es) h = let p = both_of _ _ h in (p.0, below x es p.1)

pub rises : (es : List Row) → is_sorted id_cmp es ≡ true → Rises es
rises [] h = tt
rises (e ∷ es) h = let p = both_of _ _ h in (below e.0 es p.0, rises es p.1)

-- ---- filters

each_filter : (P : Row → Type 0) (q : Row → Bool) (es : List Row) → Each P es → Each P (filter q es)
each_filter P q [] h = tt
each_filter P q (e ∷ es) h = elim (q e) as (λ t. Each P (cond t (e ∷ filter q es) (filter q es))) [ true ↦ (h.0, each_filter P q es h.1) | false ↦ each_filter P q es h.1 ]

rises_filter : (q : Row → Bool) (es : List Row) → Rises es → Rises (filter q es)
rises_filter q [] h = tt
rises_filter q (e ∷ es) h = elim (q e) as (λ t. Rises (cond t (e ∷ filter q es) (filter q es))) [ true ↦ (each_filter (λ x. IsBelow e.0 x.0) q es h.0, rises_filter q es h.1) | false ↦ rises_filter q es h.1 ]

filter_filter : {A : Type 0} (p q : A → Bool) (es : List A) → filter p (filter q es) ≡ filter (λ e. q e && p e) es
filter_filter p q [] = refl
filter_filter p q (e ∷ es) = elim (q e) as (λ t. filter p (cond t (e ∷ filter q es) (filter q es)) ≡ cond (t && p e) (e ∷ filter (λ x. q x && p x) es) (filter (λ x. q x && p x) es)) [
  | true ↦ ap (λ r. cond (p e) (e ∷ r) r) (filter_filter p q es)
  | false ↦ filter_filter p q es
]

filter_alike : {A : Type 0} (p q : A → Bool) (es : List A) → ((a : A) → p a ≡ q a) → filter p es ≡ filter q es
filter_alike p q [] h = refl
filter_alike p q (e ∷ es) h = λ i. cond (h e i) (e ∷ filter_alike p q es h i) (filter_alike p q es h i)

filter_map_of : {A B : Type 0} (f : A → B) (q : B → Bool) (xs : List A) → filter q (map f xs) ≡ map f (filter (λ x. q (f x)) xs)
filter_map_of f q [] = refl
filter_map_of f q (x ∷ xs) = elim (q (f x)) as (λ t. cond t (f x ∷ filter q (map f xs)) (filter q (map f xs)) ≡ map f (cond t (x ∷ filter (λ y. q (f y)) xs) (filter (λ y. q (f y)) xs))) [
  | true ↦ ap (λ r. f x ∷ r) (filter_map_of f q xs)
  | false ↦ filter_map_of f q xs
]

pub map_of_map : {A B C : Type 0} (f : A → B) (g : B → C) (xs : List A) → map g (map f xs) ≡ map (λ x. g (f x)) xs
map_of_map f g [] = refl
map_of_map f g (x ∷ xs) = ap (λ r. g (f x) ∷ r) (map_of_map f g xs)

-- ---- cutting at the last row of a page

same_some : {A : Type 0} (a b : A) → Some a ≡ Some b → a ≡ b
same_some a b q = cc

last_has : (P : Row → Type 0) (xs ys : List Row) (u : Row) → last_of xs ≡ Some u → Each P (xs ++ ys) → P u
last_has P [] ys u e h = cc
last_has P (x ∷ []) ys u e h = subst P (same_some x u e) h.0
last_has P (x ∷ y ∷ xs) ys u e h = last_has P (y ∷ xs) ys u e h.1

none_above : (u : Tree) (ys : List Row) → Each (λ y. IsBelow u y.0) ys → filter (λ e. is_le (id_cmp e.0 u)) ys ≡ []
none_above u [] h = refl
none_above u (y ∷ ys) h = ap (λ t. cond t (y ∷ filter (λ e. is_le (id_cmp e.0 u)) ys) (filter (λ e. is_le (id_cmp e.0 u)) ys)) (above_not u y.0 h.0) ∙ none_above u ys h.1

cut : (xs ys : List Row) (u : Row) → Rises (xs ++ ys) → last_of xs ≡ Some u → filter (λ e. is_le (id_cmp e.0 u.0)) (xs ++ ys) ≡ xs
cut [] ys u r e = cc
cut (x ∷ []) ys u r e =
    let s : x ≡ u = same_some x u e in
    ap (λ t. cond t (x ∷ filter (λ z. is_le (id_cmp z.0 u.0)) ys) (filter (λ z. is_le (id_cmp z.0 u.0)) ys)) (subst (λ (z : Row). is_le (id_cmp x.0 z.0) ≡ true) s (itself_up_to x.0))
    ∙ ap (λ t. x ∷ t) (none_above u.0 ys (subst (λ (z : Row). Each (λ y. IsBelow z.0 y.0) ys) s r.0))
cut (x ∷ y ∷ xs) ys u r e =
    let lt : IsBelow x.0 u.0 = last_has (λ z. IsBelow x.0 z.0) (y ∷ xs) ys u e r.0 in
    let rest = filter (λ z. is_le (id_cmp z.0 u.0)) (y ∷ xs ++ ys) in
    ap (λ t. cond t (x ∷ rest) rest) (below_up_to x.0 u.0 lt) ∙ ap (λ t. x ∷ t) (cut (y ∷ xs) ys u r.1 e)

-- ---- a page

narrow_probe : (a may u : Bool) → (a && may) && u ≡ a && (u && may)
narrow_probe true true true = refl
narrow_probe true true false = refl
narrow_probe true false true = refl
narrow_probe true false false = refl
narrow_probe false may u = refl

no : false ≡ true → ⊥
no e = cc

-- a document that matches meets the probe
meets_probe : (f : FilterTree) (d : Tree) → matches f d ≡ true → meets_document (probe_of f) d ≡ true
unfolding meets_document
meets_probe f d h = refl

assoc : (a may u m : Bool) → (m ≡ true → may ≡ true) → (a && may) && (u && m) ≡ a && (u && m)
assoc true true u m h = refl
assoc true false true true h = absurd (no (h refl))
assoc true false true false h = refl
assoc true false false m h = refl
assoc false may u m h = refl

keyed_last : (page : List Version) → last_of (map keyed page) ≡ option_map keyed (last_of page)
keyed_last [] = refl
keyed_last (v ∷ []) = refl
keyed_last (v ∷ w ∷ page) = keyed_last (w ∷ page)

all_of : {A : Type 0} (es : List A) → filter (λ e. true) es ≡ es
all_of [] = refl
all_of (e ∷ es) = ap (λ t. e ∷ t) (all_of es)

nonempty : (xs : List Version) → last_of xs ≡ None → 1 ≤ length xs → ⊥
nonempty [] e l = absurd (omega arith)
nonempty (x ∷ []) e l = cc
nonempty (x ∷ y ∷ xs) e l = nonempty (y ∷ xs) e (omega arith)

-- the rows of an interval that meet the probe are the page
pub page_is : (probe : Probe) (after : Option Tree) (r : Rows) (page : List Version) (end : Bool) → ascends r ≡ true → IsPage after 64 page end → ShowsPage probe after r page end
    → filter (λ e. up_to (up_of end page) e.0) (met_after probe after r) ≡ map keyed page
page_is probe after r page true sorted p s = all_of _ ∙ (sym (take_all 64 (met_after probe after r) (s.1.0 refl)) ∙ sym s.0)
page_is probe after r page false sorted p s = go (last_of page) refl
  where
    met : List Row
    met = met_after probe after r

    whole : map keyed page ++ drop 64 met ≡ met
    whole = ap (λ t. t ++ drop 64 met) s.0 ∙ take-append-drop 64 met

    go : (o : Option Version) → last_of page ≡ o → filter (λ e. up_to (option_map (λ v. id_of v.doc) o) e.0) met ≡ map keyed page
    go None e = absurd (nonempty page e (p.goes_on refl))
    go (Some u) e = ap (filter (λ z. is_le (id_cmp z.0 (id_of u.doc)))) (sym whole) ∙ cut (map keyed page) (drop 64 met) (keyed u)
        (subst Rises (sym whole) (rises_filter _ _ (rises r sorted))) (keyed_last page ∙ ap (option_map keyed) e)

-- the documents that the look shows are the page's that match
pub page_shows : (f : FilterTree) (after : Option Tree) (r : Rows) (page : List Version) (end : Bool) → ascends r ≡ true → IsPage after 64 page end → ShowsPage (probe_of f) after r page end
    → found_in r f after (up_of end page) ≡ map found_row (filter (λ v. matches f v.doc) page)
page_shows f after r page end sorted p s =
    let up = up_of end page in
    let q : Row → Bool = λ e. matches f e.1.doc in
    ap (map found) (
    sym (filter_filter q (λ e. up_to up e.0) (met_after (probe_of f) after r) ∙ (filter_filter _ _ r ∙ filter_alike _ _ r (λ e. assoc (is_after after e.0) (meets_document (probe_of f) e.1.doc) (up_to up e.0) (matches f e.1.doc) (meets_probe f e.1.doc))))
    ∙ (ap (filter q) (page_is (probe_of f) after r page end sorted p s) ∙ filter_map_of keyed q page))
    ∙ map_of_map keyed found (filter (λ v. matches f v.doc) page)

-- a page that isn't the end is full
pub page_full : (f : FilterTree) (after : Option Tree) (r : Rows) (page : List Version) → ascends r ≡ true → IsPage after 64 page false → ShowsPage (probe_of f) after r page false → probed_in r f after (up_of false page) ≡ 64
page_full f after r page sorted p s =
    let met = met_after (probe_of f) after r in let up = up_of false page in
    ap length (sym (filter_filter _ _ r ∙ filter_alike _ _ r (λ e. narrow_probe (is_after after e.0) (meets_document (probe_of f) e.1.doc) (up_to up e.0))) ∙ (page_is (probe_of f) after r page false sorted p s ∙ s.0))
    ∙ length-take-le 64 met (more (length met) s.1)
  where
    more : (n : ℕ) → (false ≡ true) ↔ (n ≤ 64) → 64 ≤ n
    more n h = elim (leb n 64) as (λ t. leb n 64 ≡ t → 64 ≤ n) [ true ↦ λ e. absurd (no (h.1 (leb-true n 64 e))) | false ↦ λ e. few e (leb_tells n 64) ] refl
      where
        few : leb n 64 ≡ false → ((leb n 64 ≡ true) × (n ≤ 64)) ⊎ ((leb n 64 ≡ false) × (64 < n)) → 64 ≤ n
        few e z = ⊎_elim (λ q. absurd (no (sym e ∙ q.0))) (λ q. let l = q.1 in omega arith) z
