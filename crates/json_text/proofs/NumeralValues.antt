-- A numeral, by its parts.
use Rattle.std.proofs.Common.{◌≡◌, ℕ, ◌≤◌, ℤ, pos, negsuc, neg_ℤ, ◌≤ℤ◌, ◌^◌, List, [], true, false, cond, Option, Some, None, option_map, option_and_then, refl, sym, ap, ap₂, ◌∙◌, subst, ◌⊎◌, inl, inr, ⊎_elim, arith}
use Rattle.std.proofs.lemmas.Int.{ints}
use Rattle.std.specs.Char.{is_ascii_digit}
use Rattle.json_text.specs.Numeral.{digits, after_digits, is_whole, fraction_at, exponent_of, decimal_of, unsigned}
use Rattle.json_tree.specs.Cut.{IsCut}
use Rattle.json_text.specs.SplitNumeral.{WholeRead, IsExponent, IsSplitNumeral}
use Rattle.json_text.specs.declared.token.numeral.SplitNumeral.{SplitNumeral}
use Rattle.std.specs.List.{list_all}

module _ (s w r : List ℕ) (whole : w ≡ digits s) (rest : r ≡ after_digits s) where
  pub not_whole : is_whole w ≡ false → unsigned s ≡ None
  unfolding unsigned
  not_whole h = ap (λ b. cond b (option_and_then (λ f. option_map (decimal_of (digits s) f.0) (exponent_of f.1)) (fraction_at (after_digits s))) None) (ap is_whole (sym whole) ∙ h)

  unsigned_by : is_whole w ≡ true → unsigned s ≡ option_and_then (λ f. option_map (decimal_of w f.0) (exponent_of f.1)) (fraction_at r)
  unfolding unsigned
  unsigned_by h =
      ap (λ b. cond b (option_and_then (λ f. option_map (decimal_of (digits s) f.0) (exponent_of f.1)) (fraction_at (after_digits s))) None) (ap is_whole (sym whole) ∙ h)
      ∙ ap₂ (λ a b. option_and_then (λ f. option_map (decimal_of a f.0) (exponent_of f.1)) (fraction_at b)) (sym whole) (sym rest)

  pub no_fraction : is_whole w ≡ true → fraction_at r ≡ None → unsigned s ≡ None
  no_fraction e h = unsigned_by e ∙ ap (option_and_then (λ f. option_map (decimal_of w f.0) (exponent_of f.1))) h

  pub no_exponent : (f : List ℕ × List ℕ) → is_whole w ≡ true → fraction_at r ≡ Some f → exponent_of f.1 ≡ None → unsigned s ≡ None
  no_exponent f e h k = unsigned_by e ∙ ap (option_and_then (λ f. option_map (decimal_of w f.0) (exponent_of f.1))) h ∙ ap (option_map (decimal_of w f.0)) k

  pub some_parts : (f : List ℕ × List ℕ) (z : ℤ) → is_whole w ≡ true → fraction_at r ≡ Some f → exponent_of f.1 ≡ Some z → unsigned s ≡ Some (decimal_of w f.0 z)
  some_parts f z e h k = unsigned_by e ∙ ap (option_and_then (λ f. option_map (decimal_of w f.0) (exponent_of f.1))) h ∙ ap (option_map (decimal_of w f.0)) k

-- ---- exponents

pub cut_same : (z : ℤ) → IsCut z z
cut_same z = record { same = inl refl }

pub zero_exponent : (bytes : List ℕ) → bytes ≡ [] → IsExponent (exponent_of bytes) (pos 0)
zero_exponent bytes e = record { exponent = pos 0; read = ap exponent_of e; cut = cut_same (pos 0); high = omega (arith, ints); low = omega (arith, ints) }

pub minus_exponent : (o : Option ℤ) (whole : Option ℕ) (n : ℕ) (z : ℤ) → WholeRead whole n → o ≡ option_map (λ n. neg_ℤ (pos n)) whole → z ≡ neg_ℤ (pos n) → IsExponent o z
minus_exponent o whole n z r e is = record {
  exponent = neg_ℤ (pos r.0);
  read = e ∙ ap (option_map (λ n. neg_ℤ (pos n))) r.1;
  cut = record { same = ⊎_elim (λ k. inl (is ∙ ap (λ n. neg_ℤ (pos n)) k)) (λ k. inr (inr (omega (arith, ints, k.0), omega (arith, ints, k.1, is)))) r.2.same };
  high = omega (arith, ints, r.2.small);
  low = omega (arith, ints, r.2.small);
}

pub parts_at : (bytes : List ℕ) (z e : ℤ) → IsCut e z → z ≤ℤ pos (10 ^ 22) → negsuc (10 ^ 22) ≤ℤ z → (p : SplitNumeral) → p.exponent ≡ z → unsigned bytes ≡ Some (decimal_of p.whole.now p.fraction.now e)
    → list_all is_ascii_digit p.whole.now ≡ true → list_all is_ascii_digit p.fraction.now ≡ true → IsSplitNumeral bytes p
parts_at bytes z e cut high low p same read w f = record {
  exponent = e;
  read = read;
  cut = subst (IsCut e) (sym same) cut;
  high = subst (λ y. y ≤ℤ pos (10 ^ 22)) (sym same) high;
  low = subst (λ y. negsuc (10 ^ 22) ≤ℤ y) (sym same) low;
  whole = w;
  fraction = f;
}
