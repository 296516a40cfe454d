-- The places of rows that differ.
use Rattle.std.proofs.Common.{◌≡◌, ◌<◌, ◌↔◌, ℕ, zero, suc, Bool, true, false, not, List, [], ◌∷◌, length, map, Some, slice_get, get_or, IsTrue, refl, sym, ◌∙◌, ap, arith, bytes_eq, ⊎_elim}
use Rattle.std.specs.List.{list_any, position, position_or_len}
use Rattle.std.proofs.lemmas.Bool.{and_parts, cases_lt}
use Rattle.std.proofs.lemmas.List.{get_or-map, length-map}
use Rattle.std.proofs.lemmas.List.Folds.{list_any_at}
use Rattle.std.proofs.lemmas.List.Sums.{passes_at_first, fails_before_first}
use Rattle.std.proofs.lemmas.List.Quantifiers.{position-Some}
use Rattle.std.proofs.lemmas.Option.{slice_get_within, slice_get-get_or, slice_get-map, get_or_from_slice_get}
use Rattle.std.proofs.lemmas.Slice.Eq.{bytes_eq-Decides}
use Rattle.std.proofs.lemmas.Grind.{common_steps}
use Rattle.name_tables.specs.Names.{all_distinct}

-- a row that stands at a place is among the rows
list_any-row : (row : List ℕ) (rows : List (List ℕ)) (place : ℕ) → slice_get rows place ≡ Some row → list_any (bytes_eq row) rows ≡ true
list_any-row row rows place at =
    list_any_at (bytes_eq row) rows place [] (slice_get_within rows place row at)
    ((bytes_eq-Decides row (get_or rows place [])).1 (sym (get_or_from_slice_get rows place row [] at)))

-- the first of rows that differ is no later one
first_not_later : (first : List ℕ) (rows : List (List ℕ)) (row : List ℕ) (place : ℕ) → IsTrue (all_distinct (first ∷ rows)) → Some first ≡ Some row → slice_get rows place ≡ Some row → ⊥
first_not_later first rows row place differ at_first at =
    let e : first ≡ row = cc in
    let later : list_any (bytes_eq first) rows ≡ true = list_any-row first rows place (at ∙ ap Some (sym e)) in
    let parts = and_parts (not (list_any (bytes_eq first) rows)) (all_distinct rows) differ in
    let none : not (list_any (bytes_eq first) rows) ≡ true = parts.0 in
    let clash : not true ≡ true = ap not (sym later) ∙ none in
    cc

-- where rows differ, equal rows stand at one place
pub all_distinct-place : (rows : List (List ℕ)) (row : List ℕ) (i j : ℕ) → IsTrue (all_distinct rows) → slice_get rows i ≡ Some row → slice_get rows j ≡ Some row → i ≡ j
all_distinct-place [] row i j differ at_i at_j = absurd (cc)
all_distinct-place (first ∷ rows) row zero zero differ at_i at_j = refl
all_distinct-place (first ∷ rows) row zero (suc j) differ at_i at_j =
    absurd (first_not_later first rows row j differ at_i at_j)
all_distinct-place (first ∷ rows) row (suc i) zero differ at_i at_j =
    absurd (first_not_later first rows row i differ at_j at_i)
all_distinct-place (first ∷ rows) row (suc i) (suc j) differ at_i at_j =
    ap suc (all_distinct-place rows row i j (and_parts (not (list_any (bytes_eq first) rows)) (all_distinct rows) differ).1 at_i at_j)

-- a search among rows that differ finds a name exactly at the place where it stands
pub position-place : {X : Type 0} (bytes : X → List ℕ) (rows : List X) (d : X) (name : List ℕ) (i : ℕ) → IsTrue (all_distinct (map bytes rows)) → (position (λ row. bytes_eq (bytes row) name) rows ≡ Some i) ↔ (slice_get (map bytes rows) i ≡ Some name)
position-place {X = X} bytes rows d name i differ =
    let test : X → Bool = λ row. bytes_eq (bytes row) name in
    let stands : (k : ℕ) → k < length rows → test (get_or rows k d) ≡ true → slice_get (map bytes rows) k ≡ Some name = λ k within passes. rw (slice_get-map bytes rows k, slice_get-get_or rows k d within) (ap Some ((bytes_eq-Decides (bytes (get_or rows k d)) name).0 passes)) in (
      λ found. let at = position-Some test rows i d found in stands i at.0 at.1,
      λ at. let within : i < length rows = simp length-map at (slice_get_within (map bytes rows) i name at) in
          let passes : test (get_or rows i d) ≡ true = (bytes_eq-Decides (bytes (get_or rows i d)) name).1 (sym (get_or-map bytes rows i d [] within) ∙ get_or_from_slice_get (map bytes rows) i name [] at) in
          let first : position_or_len test rows < length rows = ⊎_elim (λ below. below) (λ past. absurd (let fails = fails_before_first test rows i d (omega arith) in let clash : true ≡ false = sym passes ∙ fails in cc)) (cases_lt (position_or_len test rows) (length rows)) in
          let same : position_or_len test rows ≡ i = all_distinct-place (map bytes rows) name (position_or_len test rows) i differ (stands (position_or_len test rows) first (passes_at_first test rows d first)) at in
          grind (arith, common_steps),
    )
