-- What the looks of one listing show: in order of id, and whatever matches in all of them, as far as they came.
use Rattle.std.proofs.Common.{◌≡◌, ℕ, zero, suc, ◌≤◌, List, [], ◌∷◌, ◌++◌, map, length, Bool, true, false, cond, Option, Some, None, refl, sym, ap, ◌∙◌, subst, arith, Ordering, Less, Equal, Greater, ⊎_elim, ◌⊎◌, inl, inr}
use Rattle.std.specs.Prelude.{◌&&◌, ⊤}
use Rattle.std.specs.List.{filter, AllByRecursion as Each}
use Rattle.std.specs.Ordering.{is_lt, is_le, ordering_reverse}
use Rattle.json_tree.specs.Tree.{Tree}
use Rattle.json_tree.specs.Id.{id_cmp}
use Rattle.shred_cols.specs.Row.{Version}
use Rattle.shred_cols.specs.Rows.{Rows, is_after, ascends}
use Rattle.col_keeper.specs.Asked.{meets_document}
use Rattle.col_keeper.specs.Tables.{Name}
use Rattle.filter_tree.specs.Filters.{FilterTree}
use Rattle.filter_tree.specs.Matches.{matches}
use Rattle.store_core.specs.State.{State}
use Rattle.cmd_tasks.specs.Trace.{Sight, Found, found, found_in, probed_in, probe_of, up_to, end_of, next_from, rows_now, Looks, seen_by, shown_by, shown, FullPage, GoesOn, IsListing}
use Rattle.cmd_tasks.specs.Attempts.{IsOneOf}
use Rattle.cmd_tasks.specs.Searches.{stored}
use Rattle.cmd_tasks.specs.Joined.{HasKey, IdsAreTold, Rise, Matches, HasMatch}
use Rattle.cmd_tasks.specs.declared.trace.Item.{Item}
use Rattle.cmd_tasks.specs.declared.trace.Item.TheVariants.{Looked, Wrote, Lost, Faulted}
use Rattle.cmd_tasks.proofs.Listing.{Row, IsBelow, Rises, rises, ids_total}
use Rattle.cmd_tasks.proofs.Ascent.{each_append}

-- ---- ids, each after another

before_up_to : (x y u : Tree) (o p : Ordering) → id_cmp x y ≡ o → id_cmp y u ≡ p → is_lt o ≡ true → is_le p ≡ true → is_lt (id_cmp x u) ≡ true
before_up_to x y u Less Less e q h k = ap is_lt (ids_total.trans x y u e q)
before_up_to x y u Less Equal e q h k = ap is_lt (sym (Rattle.std.proofs.lemmas.Cmp.alike_right ids_total y u x q) ∙ e)
before_up_to x y u Less Greater e q h k = cc
before_up_to x y u Equal p e q h k = cc
before_up_to x y u Greater p e q h k = cc

up_to_before : (x u y : Tree) (o p : Ordering) → id_cmp x u ≡ o → id_cmp u y ≡ p → is_le o ≡ true → is_lt p ≡ true → is_lt (id_cmp x y) ≡ true
up_to_before x u y Less Less e q h k = ap is_lt (ids_total.trans x u y e q)
up_to_before x u y Equal p e q h k = ap is_lt (ids_total.congr x u y e ∙ q) ∙ k
up_to_before x u y Less Equal e q h k = cc
up_to_before x u y Less Greater e q h k = cc
up_to_before x u y Greater p e q h k = cc

-- the id is behind u, or up to it
pub beyond : (id u : Tree) (o p : Ordering) → p ≡ ordering_reverse o → is_le o ≡ false → is_lt p ≡ true
beyond id u Less p q h = cc
beyond id u Equal p q h = cc
beyond id u Greater p q h = ap is_lt q

after_up_to : (a : Option Tree) (y u : Tree) → is_after a y ≡ true → up_to (Some u) y ≡ true → is_after a u ≡ true
after_up_to None y u h k = refl
after_up_to (Some x) y u h k = before_up_to x y u _ _ refl refl h k

pub up_to_after : (x u y : Tree) → up_to (Some u) x ≡ true → is_after (Some u) y ≡ true → is_after (Some x) y ≡ true
up_to_after x u y h k = up_to_before x u y _ _ refl refl h k

less_at_most : (o : Ordering) → is_lt o ≡ true → is_le o ≡ true
less_at_most Less h = refl
less_at_most Equal h = cc
less_at_most Greater h = cc

pub after_after : (a : Option Tree) (x y : Tree) → is_after a x ≡ true → is_after (Some x) y ≡ true → is_after a y ≡ true
after_after a x y h k = after_up_to a x y h (less_at_most (id_cmp x y) k)

-- ---- lists

pub same : {A : Type 0} (a b : A) → Some a ≡ Some b → a ≡ b
same a b q = cc

pub one_left : {A : Type 0} (x : A) (xs ys : List A) → IsOneOf x xs → IsOneOf x (xs ++ ys)
one_left x [] ys h = cc
one_left x (z ∷ xs) ys (zero, e) = (zero, e)
one_left x (z ∷ xs) ys (suc n, e) = let more = one_left x xs ys (n, e) in (suc more.0, more.1)

pub one_right : {A : Type 0} (x : A) (xs ys : List A) → IsOneOf x ys → IsOneOf x (xs ++ ys)
one_right x [] ys h = h
one_right x (z ∷ xs) ys h = let more = one_right x xs ys h in (suc more.0, more.1)

pub one_has : {A : Type 0} (P : A → Type 0) (x : A) (xs : List A) → IsOneOf x xs → Each P xs → P x
one_has P x [] h all = cc
one_has P x (z ∷ xs) (zero, e) all = subst P (same z x e) all.0
one_has P x (z ∷ xs) (suc n, e) all = one_has P x xs (n, e) all.1

pub each_weaker : {A : Type 0} (P Q : A → Type 0) → ((a : A) → P a → Q a) → (xs : List A) → Each P xs → Each Q xs
each_weaker P Q go [] h = tt
each_weaker P Q go (x ∷ xs) h = (go x h.0, each_weaker P Q go xs h.1)

pub each_of_map : {A B : Type 0} (P : B → Type 0) (g : A → B) (xs : List A) → Each P (map g xs) → Each (λ x. P (g x)) xs
each_of_map P g [] h = tt
each_of_map P g (x ∷ xs) h = (h.0, each_of_map P g xs h.1)

pub each_own : {A : Type 0} (xs : List A) → Each (λ x. IsOneOf x xs) xs
each_own [] = tt
each_own (x ∷ xs) = ((zero, refl), each_weaker _ _ (λ a h. (suc h.0, h.1)) xs (each_own xs))

each_two : {A : Type 0} (P Q : A → Type 0) (xs : List A) → Each P xs → Each Q xs → Each (λ x. P x × Q x) xs
each_two P Q [] h k = tt
each_two P Q (x ∷ xs) h k = ((h.0, k.0), each_two P Q xs h.1 k.1)

-- a document of this id is among these
abbrev pub IsShown : Tree → List Found → Type 0
IsShown id xs = (x : Found) × IsOneOf x xs × (x.id ≡ id)

-- the id comes after all of these
abbrev pub IsPast : Tree → List Found → Type 0
IsPast id xs = Each (λ x. is_after (Some x.id) id ≡ true) xs

pub rise_append : (xs ys : List Found) → Rise xs → Rise ys → Each (λ y. IsPast y.id xs) ys → Rise (xs ++ ys)
rise_append [] ys up more past = more
rise_append (x ∷ xs) ys up more past = (each_append _ xs ys up.0 (each_weaker _ _ (λ y h. h.0) ys past), rise_append xs ys up.1 more (each_weaker _ _ (λ y h. h.1) ys past))

pub and_parts : (a b : Bool) → a && b ≡ true → (a ≡ true) × (b ≡ true)
and_parts true b h = (refl, h)
and_parts false b h = cc

-- ---- the documents of an interval

module _ (f : FilterTree) (a u : Option Tree) where
  abbrev pub inside : Row → Bool
  inside e = is_after a e.0 && (up_to u e.0 && matches f e.1.doc)

  each_found : (P : Row → Type 0) (Q : Found → Type 0) → ((e : Row) → inside e ≡ true → P e → Q (found e)) → (r : Rows) → Each P r → Each Q (found_in r f a u)
  each_found P Q go [] h = tt
  each_found P Q go (e ∷ r) h =
      elim (inside e) as (λ t. inside e ≡ t → Each Q (map found (cond t (e ∷ filter inside r) (filter inside r)))) [ true ↦ λ q. (go e q h.0, each_found P Q go r h.1) | false ↦ λ q. each_found P Q go r h.1 ] refl

  found_rise : (r : Rows) → Rises r → Rise (found_in r f a u)
  found_rise [] h = tt
  found_rise (e ∷ r) h =
      elim (inside e) as (λ t. Rise (map found (cond t (e ∷ filter inside r) (filter inside r)))) [
        | true ↦ (each_found (λ x. IsBelow e.0 x.0) (λ y. is_after (Some e.0) y.id ≡ true) (λ x q h. h) r h.0, found_rise r h.1)
        | false ↦ found_rise r h.1
      ]

  pub is_found : (e : Row) (r : Rows) → inside e ≡ true → IsOneOf e r → IsOneOf (found e) (found_in r f a u)
  is_found e [] q h = cc
  is_found e (d ∷ r) q (zero, h) = subst (λ d. IsOneOf (found e) (map found (cond (inside d) (d ∷ filter inside r) (filter inside r)))) (sym (same d e h)) (subst (λ t. IsOneOf (found e) (map found (cond t (e ∷ filter inside r) (filter inside r)))) (sym q) (zero, refl))
  is_found e (d ∷ r) q (suc n, h) =
      let more = is_found e r q (n, h) in
      elim (inside d) as (λ t. IsOneOf (found e) (map found (cond t (d ∷ filter inside r) (filter inside r)))) [ true ↦ (suc more.0, more.1) | false ↦ more ]

  -- the interval up to w has a row, so it isn't empty
  nonempty : (w : Tree) (r : Rows) → 1 ≤ length (filter (λ e. is_after a e.0 && (up_to (Some w) e.0 && meets_document (probe_of f) e.1.doc)) r) → is_after a w ≡ true
  nonempty w [] h = absurd (omega (arith, h))
  nonempty w (e ∷ r) h = go (is_after a e.0) (up_to (Some w) e.0) (meets_document (probe_of f) e.1.doc) refl refl (nonempty w r) h
    where
      test : Row → Bool
      test x = is_after a x.0 && (up_to (Some w) x.0 && meets_document (probe_of f) x.1.doc)

      go : (s t m : Bool) → is_after a e.0 ≡ s → up_to (Some w) e.0 ≡ t → (1 ≤ length (filter test r) → is_after a w ≡ true) → 1 ≤ length (cond (s && (t && m)) (e ∷ filter test r) (filter test r)) → is_after a w ≡ true
      go true true true p q rest h = after_up_to a e.0 w p q
      go true true false p q rest h = rest h
      go true false m p q rest h = rest h
      go false t m p q rest h = rest h

-- ---- one look

module _ (base : State) (coll : Name) (f : FilterTree) (r : Rows) where
  -- what comes after the end of a full page comes after its start and all that it shows
  pub look_behind : (i : Item) (from : Option Tree) (y : Tree) → Looks base coll f r from i → FullPage base coll f r i → is_after (end_of i) y ≡ true → (is_after from y ≡ true) × IsPast y (seen_by base coll f r i)
  look_behind (Looked at after up page) from y is full h = go up full.0.0 full.0.1 full.1 h
    where
      go : (up : Option Tree) (w : Tree) → up ≡ Some w → probed_in r f after up ≡ 64 → is_after up y ≡ true → (is_after from y ≡ true) × IsPast y (found_in r f after up)
      go None w q n h = cc
      go (Some u) w q n h =
          let start = after_after after u y (nonempty f after None u r (omega (arith, n))) h in (
            subst (λ o. is_after o y ≡ true) is.0 start,
            each_found f after (Some u) (λ e. ⊤) (λ x. is_after (Some x.id) y ≡ true) (λ e q t. up_to_after e.0 u y (and_parts _ _ (and_parts _ _ q).1).0 h) r (all_true r),
          )
        where
          all_true : (r : Rows) → Each (λ e. ⊤) r
          all_true [] = tt
          all_true (e ∷ r) = (tt, all_true r)
  look_behind (Wrote at) from y is full h = absurd is
  look_behind (Lost at read old) from y is full h = absurd is
  look_behind (Faulted at before count) from y is full h = absurd is

  -- a look shows documents after its start, in order of id
  pub look_rises : (i : Item) (from : Option Tree) → ascends r ≡ true → Looks base coll f r from i → Each (λ x. is_after from x.id ≡ true) (seen_by base coll f r i) × Rise (seen_by base coll f r i)
  look_rises (Looked at after up page) from sorted is =
      (each_found f after up (λ e. IsOneOf e r) (λ x. is_after from x.id ≡ true) (λ e q one. subst (λ o. is_after o e.0 ≡ true) is.0 (and_parts _ _ q).0) r (each_own r), found_rise f after up r (rises r sorted))
  look_rises (Wrote at) from sorted is = absurd is
  look_rises (Lost at read old) from sorted is = absurd is
  look_rises (Faulted at before count) from sorted is = absurd is

  -- each document that a look shows stands in the rows and matches
  look_matches : (i : Item) → Each (λ x. IsOneOf (x.id, stored x) r × (matches f x.doc ≡ true)) (seen_by base coll f r i)
  look_matches (Looked at after up page) =
      each_found f after up (λ e. IsOneOf e r) (λ x. IsOneOf (x.id, stored x) r × (matches f x.doc ≡ true)) (λ e q one. (one, (and_parts _ _ (and_parts _ _ q).1).1)) r (each_own r)
  look_matches (Wrote at) = tt
  look_matches (Lost at read old) = tt
  look_matches (Faulted at before count) = tt

  -- the ids of what a look shows are those that it tells
  look_told : (i : Item) (from : Option Tree) → Looks base coll f r from i → IdsAreTold i → Each (λ x. HasKey x.id) (seen_by base coll f r i)
  look_told (Looked at after up page) from is told = each_of_map (λ e. HasKey e.0) (λ x. (x.id, x.tx)) (found_in r f after up) (subst (Each (λ e. HasKey e.0)) is.1 told)
  look_told (Wrote at) from is told = absurd is
  look_told (Lost at read old) from is told = absurd is
  look_told (Faulted at before count) from is told = absurd is

  -- a document that stands after the look's start and matches is shown, or comes after the look's end
  look_covers : (i : Item) (from : Option Tree) (id : Tree) (v : Version) → Looks base coll f r from i → is_after from id ≡ true → IsOneOf (id, v) r → matches f v.doc ≡ true
      → IsShown id (seen_by base coll f r i) ⊎ ((u : Tree) × (end_of i ≡ Some u) × (is_after (Some u) id ≡ true) × IsPast id (seen_by base coll f r i))
  look_covers (Looked at after up page) from id v is h one m = go up
    where
      begun : is_after after id ≡ true
      begun = subst (λ o. is_after o id ≡ true) (sym is.0) h

      shows : (up : Option Tree) → up_to up id ≡ true → IsShown id (found_in r f after up)
      shows up q = (found (id, v), is_found f after up (id, v) r (ap (λ t. t && (up_to up id && matches f v.doc)) begun ∙ (ap (λ t. t && matches f v.doc) q ∙ m)) one, refl)

      go : (up : Option Tree) → IsShown id (found_in r f after up) ⊎ ((u : Tree) × (up ≡ Some u) × (is_after (Some u) id ≡ true) × IsPast id (found_in r f after up))
      go None = inl (shows None refl)
      go (Some u) = elim (up_to (Some u) id) as (λ t. up_to (Some u) id ≡ t → IsShown id (found_in r f after (Some u)) ⊎ ((w : Tree) × (Some u ≡ Some w) × (is_after (Some w) id ≡ true) × IsPast id (found_in r f after (Some u)))) [
        | true ↦ λ q. inl (shows (Some u) q)
        | false ↦ λ q. let far = beyond id u (id_cmp id u) (id_cmp u id) (ids_total.antisymm u id) q in
            inr (u, refl, far, each_found f after (Some u) (λ e. IsOneOf e r) (λ x. is_after (Some x.id) id ≡ true) (λ e q one. up_to_after e.0 u id (and_parts _ _ (and_parts _ _ q).1).0 far) r (each_own r))
      ] refl
  look_covers (Wrote at) from id v is h one m = absurd is
  look_covers (Lost at read old) from id v is h one m = absurd is
  look_covers (Faulted at before count) from id v is h one m = absurd is

-- ---- a listing

module _ (base : State) (coll : Name) (f : FilterTree) (from : Option Tree) (most : ℕ) where
  -- what comes after the end of a listing that goes on comes after its start and all that it shows
  listing_behind : (looks : List Sight) → IsListing base coll f from most looks → GoesOn base coll f most looks → (y : Tree) → is_after (next_from from looks) y ≡ true
      → (is_after from y ≡ true) × IsPast y (shown base coll f looks)
  listing_behind [] is on y h = (h, tt)
  listing_behind (s ∷ earlier) is on y h =
      let one = look_behind base coll f (rows_now base coll s) s.item (next_from from earlier) y is.2.1 on.0 h in
      let more = listing_behind earlier is.0 is.1 y one.0 in
      (more.0, each_append _ (shown base coll f earlier) _ more.1 one.1)

  -- a listing shows documents after its start, in order of id
  pub listing_rises : (looks : List Sight) → Each (λ s. ascends (rows_now base coll s) ≡ true) looks → IsListing base coll f from most looks
      → Each (λ x. is_after from x.id ≡ true) (shown base coll f looks) × Rise (shown base coll f looks)
  listing_rises [] rows is = (tt, tt)
  listing_rises (s ∷ earlier) rows is =
      let before = shown base coll f earlier in
      let new = shown_by base coll f s in
      let one = look_rises base coll f (rows_now base coll s) s.item (next_from from earlier) rows.0 is.2.1 in
      let more = listing_rises earlier rows.1 is.0 in (
        each_append _ before new more.0 (each_weaker _ _ (λ x h. (listing_behind earlier is.0 is.1 x.id h).0) new one.0),
        rise_append before new more.1 one.1 (each_weaker _ _ (λ x h. (listing_behind earlier is.0 is.1 x.id h).1) new one.0),
      )

  -- the ids of what a listing shows are those that its looks tell
  pub listing_told : (looks : List Sight) → IsListing base coll f from most looks → Each (λ s. IdsAreTold s.item) looks → Each (λ x. HasKey x.id) (shown base coll f looks)
  listing_told [] is told = tt
  listing_told (s ∷ earlier) is told =
      each_append _ (shown base coll f earlier) (shown_by base coll f s) (listing_told earlier is.0 told.1) (look_told base coll f (rows_now base coll s) s.item (next_from from earlier) is.2.1 told.0)

  -- the listing hasn't come to this id
  abbrev pub IsBefore : Tree → List Sight → Type 0
  IsBefore id [] = is_after from id ≡ true
  IsBefore id (s ∷ earlier) = (u : Tree) × (end_of s.item ≡ Some u) × (is_after (Some u) id ≡ true)

  goes_on : (id : Tree) (looks : List Sight) → IsBefore id looks → is_after (next_from from looks) id ≡ true
  goes_on id [] h = h
  goes_on id (s ∷ earlier) h = subst (λ o. is_after o id ≡ true) (sym h.1) h.2

  -- what matches throughout is shown, or the listing hasn't come to it
  pub listing_covers : (looks : List Sight) → IsListing base coll f from most looks → (id : Tree) → is_after from id ≡ true
      → Each (HasMatch base coll f id) looks
      → IsShown id (shown base coll f looks) ⊎ (IsBefore id looks × IsPast id (shown base coll f looks))
  listing_covers [] is id h all = inr (h, tt)
  listing_covers (s ∷ earlier) is id h all =
      let old = shown base coll f earlier in
      let new = shown_by base coll f s in
      ⊎_elim
      (λ (x : IsShown id old). inl (x.0, one_left x.0 old new x.1, x.2))
      (λ (b : IsBefore id earlier × IsPast id old). ⊎_elim
      (λ (x : IsShown id new). inl (x.0, one_right x.0 old new x.1, x.2))
      (λ e. inr ((e.0, e.1, e.2), each_append _ old new b.1 e.3))
      (look_covers base coll f (rows_now base coll s) s.item (next_from from earlier) id all.0.0 is.2.1 (goes_on id earlier b.0) all.0.1.0 all.0.1.1))
      (listing_covers earlier is.0 id h all.1)

  -- each document that a listing shows matched at the point of a look
  pub listing_matches : (looks : List Sight) → Each (λ x. (s : Sight) × IsOneOf s looks × IsOneOf x (shown_by base coll f s) × Matches base coll f x.id (stored x) s) (shown base coll f looks)
  listing_matches [] = tt
  listing_matches (s ∷ earlier) =
      each_append _ (shown base coll f earlier) (shown_by base coll f s)
      (each_weaker _ _ (λ x h. (h.0, (suc h.1.0, h.1.1), h.2, h.3)) _ (listing_matches earlier))
      (each_weaker _ _ (λ x h. (s, (zero, refl), h.0, h.1)) _ (each_two _ _ _ (each_own (shown_by base coll f s)) (look_matches base coll f (rows_now base coll s) s.item)))
