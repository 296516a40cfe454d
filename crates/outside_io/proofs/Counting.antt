-- How many of the calls of an object in memory failed, one call after another.
use Rattle.std.proofs.Common.{◌≡◌, ◌≤◌, ◌<◌, ◌++◌, ◌+◌, ◌^◌, ◌-◌, min, inl, inr, ◌||◌, ℕ, zero, suc, List, [], ◌∷◌, true, false, cond, refl, ap, sym, ◌∙◌, arith, add-one, add-zero, nat_eq, get_or}
use Rattle.std.specs.List.{range_with_len, list_any, sum_by}
use Rattle.std.proofs.lemmas.List.Sums.{count_by-le-length, sum_by_push}
use Rattle.std.proofs.lemmas.List.FromFn.{length-range_with_len}
use Rattle.std.proofs.lemmas.Bool.{cases_lt}
use Rattle.outside_io.specs.Calls.{failed_of}

-- one more number at the end
range_more : (a n : ℕ) → range_with_len a (suc n) ≡ range_with_len a n ++ (a + n) ∷ []
range_more a zero = ap (λ m. m ∷ []) (sym (add-zero a))
range_more a (suc n) = ap (λ l. a ∷ l) (range_more (a + 1) n ∙ ap (λ m. range_with_len (a + 1) n ++ m ∷ []) (omega arith))

-- one more call adds one where its number is listed
pub failed_of-more : (fails : List ℕ) (made : ℕ) → failed_of fails (made + 1) ≡ failed_of fails made + cond (list_any (λ k. nat_eq k (made + 1)) fails) 1 0
failed_of-more fails made =
    let counts : ℕ → ℕ = λ n. cond (list_any (λ k. nat_eq k n) fails) 1 0 in
    let one : ℕ → List ℕ = λ n. range_with_len 1 made ++ n ∷ [] in
    ap (sum_by counts) (ap (range_with_len 1) (add-one made) ∙ range_more 1 made ∙ ap one (omega arith))
    ∙ sum_by_push counts (range_with_len 1 made) (made + 1)

-- no more calls fail than are made
pub failed_of-le : (fails : List ℕ) (made : ℕ) → failed_of fails made ≤ made
failed_of-le fails made =
    let most = count_by-le-length (λ n. list_any (λ k. nat_eq k n) fails) (range_with_len 1 made) in
    omega (arith, most, length-range_with_len 1 made)

-- the count rises where the next call is listed
pub failed_of-listed : (fails : List ℕ) (made next : ℕ) → list_any (λ k. nat_eq k (made + 1)) fails ≡ true → made + 1 < 2 ^ 64 → next ≡ min (made + 1) (2 ^ 64 - 1) → failed_of fails next ≡ failed_of fails made + 1
failed_of-listed fails made next is below moves =
    let one : next ≡ made + 1 = omega arith in
    ap (failed_of fails) one ∙ failed_of-more fails made ∙ ap (λ b. failed_of fails made + cond b 1 0) is

-- and else stays
pub failed_of-not_listed : (fails : List ℕ) (made next : ℕ) → list_any (λ k. nat_eq k (made + 1)) fails ≡ false → made < 2 ^ 64 → next ≡ min (made + 1) (2 ^ 64 - 1) → failed_of fails next ≡ failed_of fails made
failed_of-not_listed fails made next is below moves =
    elim (cases_lt (made + 1) (2 ^ 64)) [
      | inl h ↦ (let one : next ≡ made + 1 = omega arith in
          ap (failed_of fails) one ∙ failed_of-more fails made ∙ ap (λ b. failed_of fails made + cond b 1 0) is ∙ add-zero (failed_of fails made))
      | inr h ↦ (let same : next ≡ made = omega arith in ap (failed_of fails) same)
    ]

-- no number is listed that is above all of those that are
pub above_none : (fails : List ℕ) (top number : ℕ) → ((i : ℕ) → get_or fails i 0 < top) → top ≤ number → list_any (λ k. nat_eq k number) fails ≡ false
above_none [] top number all above = refl
above_none (x ∷ xs) top number all above =
    let rest = above_none xs top number (λ i. all (suc i)) above in
    let first : x < top = all 0 in
    let other : nat_eq x number ≡ false = grind arith in
    ap (λ b. b || list_any (λ k. nat_eq k number) xs) other ∙ rest
