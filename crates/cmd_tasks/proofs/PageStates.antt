-- The page state behind the rows of a page.
use Rattle.std.proofs.Common.{◌≡◌, ◌≢◌, ℕ, ◌+◌, ◌-◌, ◌^◌, List, [], ◌∷◌, map, length, Bool, true, false, ◌&&◌, Option, Some, None, Result, Ok, Err, refl, sym, ap, ◌∙◌, eqb-true}
use Rattle.std.specs.Prelude.{IfOk, min, ◌==◌, if◌then◌else◌, slice_get}
use Rattle.std.specs.Option.{option_map}
use Rattle.std.proofs.lemmas.List.{length-map}
use Rattle.shred_cols.specs.Row.{Version, id_of}
use Rattle.view_sort.specs.Sort.{SortKeys}
use Rattle.view_sort.specs.Page.{state_text}
use Rattle.cmd_grammar.specs.Commands.{Paging}
use Rattle.cmd_tasks.specs.Trace.{Found}
use Rattle.cmd_tasks.specs.Pages.{found_row, last_of}
use Rattle.cmd_tasks.specs.Part.{given_of, has_next, state_after}
use Rattle.cmd_tasks.proofs.Lasts.{last_is}

pub if_ok : {A E : Type 0} (r : Result A E) (P Q : A → Type 0) → ((a : A) → P a → Q a) → IfOk r P → IfOk r Q
if_ok (Ok a) P Q f h = f a h
if_ok (Err e) P Q f h = tt

-- a sort has none
pub none_sorted : (sort : SortKeys) (p : Paging) (xs : List Found) → sort ≢ [] → state_after sort p xs ≡ None
none_sorted [] p xs n = absurd (n refl)
none_sorted (key ∷ keys) p xs n = refl

last_found : (rows : List Version) → last_of (map found_row rows) ≡ option_map found_row (last_of rows)
last_found [] = refl
last_found (v ∷ []) = refl
last_found (v ∷ w ∷ rows) = last_found (w ∷ rows)

-- by how many are shown, and the last of them
abbrev state_by : Paging → ℕ → Option Found → Option (List ℕ)
state_by p n last = if has_next p n then option_map (λ x. state_text (min (given_of p.page + n) (2 ^ 63 - 1)) x.id) last else None

both : (a b : Bool) → a && b ≡ true → a ≡ true
both true b e = refl
both false b e = e

full_page : (p : Paging) (n : ℕ) → has_next p n ≡ true → n ≡ 20
full_page p n h = eqb-true n 20 (both (n == 20) _ h)

pub none_behind : (sort : SortKeys) (p : Paging) (rows : List Version) → has_next p (length rows) ≡ false → state_after sort p (map found_row rows) ≡ None
none_behind (key ∷ keys) p rows h = refl
none_behind [] p rows h = ap (λ (n : ℕ). state_by p n (last_of (map found_row rows))) (length-map rows found_row) ∙ ap (λ (b : Bool). if b then option_map (λ (x : Found). state_text (min (given_of p.page + length rows) (2 ^ 63 - 1)) x.id) (last_of (map found_row rows)) else None) h

-- behind a full page, the last row's
pub state_is : (sort : SortKeys) (p : Paging) (rows : List Version) (row : Version) (given : ℕ) → sort ≡ [] → has_next p (length rows) ≡ true → given_of p.page ≡ given → slice_get rows (length rows - 1) ≡ Some row
    → Some (state_text (min (given + 20) (2 ^ 63 - 1)) (id_of row.doc)) ≡ state_after sort p (map found_row rows)
state_is sort p rows row given none full given_is last = sym (
    ap (λ (z : SortKeys). state_after z p (map found_row rows)) none
    ∙ ((λ i. state_by p (length-map rows found_row i) (found_last i))
    ∙ (ap (λ (b : Bool). if b then option_map (λ (x : Found). state_text (min (given_of p.page + length rows) (2 ^ 63 - 1)) x.id) (Some (found_row row)) else None) full
    ∙ (λ i. Some (state_text (min (given_is i + full_page p (length rows) full i) (2 ^ 63 - 1)) (id_of row.doc)))))
    )
  where
    found_last : last_of (map found_row rows) ≡ Some (found_row row)
    found_last = last_found rows ∙ ap (option_map found_row) (sym (last_is rows) ∙ last)
