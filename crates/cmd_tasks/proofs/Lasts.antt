-- The last of a list, by its place.
use Rattle.std.proofs.Common.{◌≡◌, ◌-◌, List, [], ◌∷◌, length, refl, ap, ◌∙◌, arith, ℕ, suc}
use Rattle.std.specs.Prelude.{slice_get}
use Rattle.cmd_tasks.specs.Pages.{last_of}

pub last_is : {A : Type 0} (xs : List A) → slice_get xs (length xs - 1) ≡ last_of xs
last_is [] = refl
last_is (x ∷ []) = refl
last_is (x ∷ y ∷ xs) = ap (λ n. slice_get (x ∷ y ∷ xs) n) (minus (length xs)) ∙ last_is (y ∷ xs)
  where
    minus : (n : ℕ) → suc (suc n) - 1 ≡ suc (suc n - 1)
    minus n = omega arith
