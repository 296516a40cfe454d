-- A numeral spells something exactly where it is [ minus ] int [ frac ] [ exp ].
use Rattle.std.proofs.Common.{◌≡◌, ◌⊎◌, inl, inr, ⊎_elim, ℕ, ℤ, pos, neg_ℤ, List, [], ◌∷◌, ◌++◌, length, Bool, true, false, cond, eqb, not, ◌||◌, Option, Some, None, is_some, option_map, option_and_then, refl, sym, ap, ap₂, ◌∙◌, subst, arith}
use Rattle.std.proofs.lemmas.List.{take-append-drop}
use Rattle.std.proofs.lemmas.Bool.{and_parts, true≢false, ne_eqb, eq-eqb, cases_eq}
use Rattle.std.proofs.lemmas.Bool.Decides.{nat_tests}
use Rattle.std.specs.List.{prefix_len, list_all}
use Rattle.std.specs.Char.{is_ascii_digit}
use Rattle.std.specs.Str.Parse.{digits_value}
use Rattle.json_tree.specs.Num.{Decimal, units_of}
use Rattle.json_text.specs.Numeral.{digits, after_digits, is_whole, if_some, fraction_at, whole_digits, signed_digits, exponent_of, decimal_of, unsigned, numeral, AreDigits, IsMinus, IsInt, IsFrac, IsExp, IsNumeral}
use Rattle.json_text.proofs.Runs.{run_passes}
use Rattle.json_text.proofs.NumeralValues.{some_parts}
use Rattle.json_text.proofs.NumbersReadBack.{RunEnds, run_front, run_rest, no_minus}

-- ---- what is written so spells something

abbrev Spelt : {A : Type 0} → Option A → Type 0
Spelt o = is_some o ≡ true

not_point : (x : ℕ) → ((x ≡ 101) ⊎ (x ≡ 69)) → (eqb x 46 ≡ false) × (is_ascii_digit x ≡ false) × (((eqb x 101) || (eqb x 69)) ≡ true)
not_point x (inl e) = (grind (arith, nat_tests), grind (arith, nat_tests), grind (arith, nat_tests))
not_point x (inr e) = (grind (arith, nat_tests), grind (arith, nat_tests), grind (arith, nat_tests))

no_sign : (d : ℕ) → is_ascii_digit d ≡ true → (eqb d 45 ≡ false) × (eqb d 43 ≡ false)
no_sign d h = (grind (arith, nat_tests), grind (arith, nat_tests))

spelt_whole : (d : ℕ) (ds : List ℕ) → AreDigits (d ∷ ds) → whole_digits (d ∷ ds) ≡ Some (digits_value 10 (d ∷ ds))
spelt_whole d ds h = ap (λ b. cond b (Some (digits_value 10 (d ∷ ds))) None) h

spelt_signed : (sign : List ℕ) (d : ℕ) (ds : List ℕ) → ((sign ≡ []) ⊎ ((sign ≡ 43 ∷ []) ⊎ (sign ≡ 45 ∷ []))) → AreDigits (d ∷ ds) → (z : ℤ) × (signed_digits (sign ++ d ∷ ds) ≡ Some z)
spelt_signed sign d ds (inl e) h =
    let s = no_sign d (and_parts (is_ascii_digit d) (list_all is_ascii_digit ds) h).0 in
    let w = spelt_whole d ds h in (
      _,
      ap (λ l. signed_digits (l ++ d ∷ ds)) e
          ∙ ap₂ (λ a b. cond a (option_map (λ n. neg_ℤ (pos n)) (whole_digits ds)) (cond b (option_map pos (whole_digits ds)) (option_map pos (whole_digits (d ∷ ds))))) s.0 s.1 ∙ ap (option_map pos) w,
    )
spelt_signed sign d ds (inr (inl e)) h = (_, ap (λ l. signed_digits (l ++ d ∷ ds)) e ∙ ap (option_map pos) (spelt_whole d ds h))
spelt_signed sign d ds (inr (inr e)) h = (_, ap (λ l. signed_digits (l ++ d ∷ ds)) e ∙ ap (option_map (λ n. neg_ℤ (pos n))) (spelt_whole d ds h))

spelt_exponent : (exp : List ℕ) → IsExp exp → (z : ℤ) × (exponent_of exp ≡ Some z)
spelt_exponent exp (inl e) = (_, ap exponent_of e)
spelt_exponent exp (inr p) =
    let s = spelt_signed p.1 p.2 p.3 p.6 p.7 in
    (s.0, ap exponent_of p.4 ∙ ap (λ b. cond b (signed_digits (p.1 ++ p.2 ∷ p.3)) None) (not_point p.0 p.5).2 ∙ s.1)

exp_stops : (exp : List ℕ) → IsExp exp → RunEnds is_ascii_digit exp
exp_stops exp (inl e) = subst (RunEnds is_ascii_digit) (sym e) tt
exp_stops exp (inr p) = subst (RunEnds is_ascii_digit) (sym p.4) (not_point p.0 p.5).1

rest_stops : (frac exp : List ℕ) → IsFrac frac → IsExp exp → RunEnds is_ascii_digit (frac ++ exp)
rest_stops frac exp (inl e) x = subst (λ l. RunEnds is_ascii_digit (l ++ exp)) (sym e) (exp_stops exp x)
rest_stops frac exp (inr p) x = subst (λ l. RunEnds is_ascii_digit (l ++ exp)) (sym p.2) refl

no_fraction_at : (exp : List ℕ) → IsExp exp → fraction_at exp ≡ Some ([], exp)
no_fraction_at exp (inl e) = ap fraction_at e ∙ ap (λ l. Some ([], l)) (sym e)
no_fraction_at exp (inr p) =
    let s = p.1 ++ p.2 ∷ p.3 in
    ap fraction_at p.4 ∙ ap (λ b. cond b (if_some (digits s) (Some (digits s, after_digits s))) (Some ([], p.0 ∷ s))) (not_point p.0 p.5).0 ∙ ap (λ l. Some ([], l)) (sym p.4)

fraction_front : (frac exp : List ℕ) → IsFrac frac → IsExp exp → (f : List ℕ) × (fraction_at (frac ++ exp) ≡ Some (f, exp))
fraction_front frac exp (inl e) x = ([], ap (λ l. fraction_at (l ++ exp)) e ∙ no_fraction_at exp x)
fraction_front frac exp (inr p) x =
    let w = p.0 ∷ p.1 in
    let stops = exp_stops exp x in
    (w, ap (λ l. fraction_at (l ++ exp)) p.2 ∙ ap₂ (λ f r. if_some f (Some (f, r))) (run_front is_ascii_digit w exp p.3 stops) (run_rest is_ascii_digit w exp p.3 stops))

int_digits : (int : List ℕ) → IsInt int → (list_all is_ascii_digit int ≡ true) × (is_whole int ≡ true)
int_digits int (inl e) = (ap (list_all is_ascii_digit) e, ap is_whole e)
int_digits int (inr p) =
    (ap (list_all is_ascii_digit) p.2 ∙ p.4, ap is_whole p.2 ∙ ap (λ b. not b || eqb (length p.1) 0) (ne_eqb p.0 48 p.3))

spelt_unsigned : (int frac exp : List ℕ) → IsInt int → IsFrac frac → IsExp exp → (d : Decimal) × (unsigned (int ++ (frac ++ exp)) ≡ Some d)
spelt_unsigned int frac exp i f x =
    let rest = frac ++ exp in
    let all = int_digits int i in
    let stops = rest_stops frac exp f x in
    let fraction = fraction_front frac exp f x in
    let exponent = spelt_exponent exp x in (
      decimal_of int fraction.0 exponent.0,
      some_parts (int ++ rest) int rest (sym (run_front is_ascii_digit int rest all.0 stops)) (sym (run_rest is_ascii_digit int rest all.0 stops)) (fraction.0, exp) exponent.0 all.1 fraction.1 exponent.1,
    )

int_first : (int rest : List ℕ) → IsInt int → (d : ℕ) × (ds : List ℕ) × (int ++ rest ≡ d ∷ ds) × (eqb d 45 ≡ false)
int_first int rest (inl e) = (48, rest, ap (λ l. l ++ rest) e, refl)
int_first int rest (inr p) = (p.0, p.1 ++ rest, ap (λ l. l ++ rest) p.2, no_minus p.0 (and_parts (is_ascii_digit p.0) (list_all is_ascii_digit p.1) p.4).0)

pub spells_where_numeral : (bytes : List ℕ) → IsNumeral bytes → Spelt (numeral bytes)
unfolding numeral
spells_where_numeral bytes n =
    let rest = n.int ++ (n.frac ++ n.exp) in
    let u = spelt_unsigned n.int n.frac n.exp n.is_int n.is_frac n.is_exp in
    ⊎_elim
    (λ e.
    let first = int_first n.int (n.frac ++ n.exp) n.is_int in
    let all : bytes ≡ first.0 ∷ first.1 = n.written ∙ ap (λ l. l ++ rest) e ∙ first.2 in
    ap (λ l. is_some (numeral l)) all
    ∙ ap (λ b. is_some (cond b (option_map (λ d. option_map (λ n. neg_ℤ (pos n)) (units_of d)) (unsigned first.1)) (option_map (λ d. option_map pos (units_of d)) (unsigned (first.0 ∷ first.1))))) first.3
    ∙ ap (λ l. is_some (option_map (λ d. option_map pos (units_of d)) (unsigned l))) (sym first.2) ∙ ap (λ o. is_some (option_map (λ d. option_map pos (units_of d)) o)) u.1)
    (λ e. ap (λ l. is_some (numeral l)) (n.written ∙ ap (λ l. l ++ rest) e) ∙ ap (λ o. is_some (option_map (λ d. option_map (λ n. neg_ℤ (pos n)) (units_of d)) o)) u.1)
    n.is_minus

-- ---- what spells something is written so

cut : (s : List ℕ) → s ≡ digits s ++ after_digits s
cut s = sym (take-append-drop (prefix_len is_ascii_digit s) s)

int_of : (w : List ℕ) → list_all is_ascii_digit w ≡ true → is_whole w ≡ true → IsInt w
int_of [] all whole = absurd (cc whole)
int_of (d ∷ ds) all whole = ⊎_elim (λ zero. inl (alone ds zero whole)) (λ other. inr (d, ds, refl, other, all)) (cases_eq d 48)
  where
    alone : (ds : List ℕ) → d ≡ 48 → is_whole (d ∷ ds) ≡ true → d ∷ ds ≡ 48 ∷ []
    alone [] e w = ap (λ x. x ∷ []) e
    alone (x ∷ xs) e w = absurd (true≢false (sym w ∙ ap (λ b. not b || eqb (length (x ∷ xs)) 0) (eq-eqb d 48 e) ∙ ne_eqb (length (x ∷ xs)) 0 (λ z. absurd (omega arith))))

abbrev Written : List ℕ → Type 0
Written rest = (frac : List ℕ) × (exp : List ℕ) × (rest ≡ frac ++ exp) × IsFrac frac × IsExp exp

spelt_parts : {A B : Type 0} (o : Option A) (f : A → Option B) → Spelt (option_and_then f o) → (x : A) × (o ≡ Some x) × Spelt (f x)
spelt_parts None f h = absurd (cc h)
spelt_parts (Some x) f h = (x, refl, h)

spelt_mapped : {A B : Type 0} (o : Option A) (f : A → B) → Spelt (option_map f o) → Spelt o
spelt_mapped None f h = absurd (cc h)
spelt_mapped (Some x) f h = refl

whole_spelt : (s : List ℕ) → Spelt (whole_digits s) → (d : ℕ) × (ds : List ℕ) × (s ≡ d ∷ ds) × AreDigits (d ∷ ds)
whole_spelt [] h = absurd (cc h)
whole_spelt (d ∷ ds) h = (d, ds, refl, by (list_all is_ascii_digit (d ∷ ds)) refl h)
  where
    by : (b : Bool) → list_all is_ascii_digit (d ∷ ds) ≡ b → Spelt (cond b (Some (digits_value 10 (d ∷ ds))) None) → list_all is_ascii_digit (d ∷ ds) ≡ true
    by true e h = e
    by false e h = absurd (cc h)

is_test : (x y : ℕ) → eqb x y ≡ true → x ≡ y
is_test x y e = grind (arith, nat_tests)

exp_of : (e : ℕ) (s : List ℕ) → ((e ≡ 101) ⊎ (e ≡ 69)) → Spelt (signed_digits s) → IsExp (e ∷ s)
exp_of e [] k h = absurd (cc h)
exp_of e (x ∷ s) k h = by (eqb x 45) (eqb x 43) refl refl h
  where
    by : (a b : Bool) → eqb x 45 ≡ a → eqb x 43 ≡ b → Spelt (cond a (option_map (λ n. neg_ℤ (pos n)) (whole_digits s)) (cond b (option_map pos (whole_digits s)) (option_map pos (whole_digits (x ∷ s))))) → IsExp (e ∷ x ∷ s)
    by true b p q h = let w = whole_spelt s (spelt_mapped (whole_digits s) _ h) in inr (e, 45 ∷ [], w.0, w.1, ap₂ (λ y l. e ∷ y ∷ l) (is_test x 45 p) w.2, k, inr (inr refl), w.3)
    by false true p q h = let w = whole_spelt s (spelt_mapped (whole_digits s) _ h) in inr (e, 43 ∷ [], w.0, w.1, ap₂ (λ y l. e ∷ y ∷ l) (is_test x 43 q) w.2, k, inr (inl refl), w.3)
    by false false p q h = let w = whole_spelt (x ∷ s) (spelt_mapped (whole_digits (x ∷ s)) _ h) in inr (e, [], w.0, w.1, ap (λ l. e ∷ l) w.2, k, inl refl, w.3)

exponent_spelt : (exp : List ℕ) → Spelt (exponent_of exp) → IsExp exp
exponent_spelt [] h = inl refl
exponent_spelt (x ∷ s) h = by (eqb x 101) (eqb x 69) refl refl h
  where
    by : (a b : Bool) → eqb x 101 ≡ a → eqb x 69 ≡ b → Spelt (cond (a || b) (signed_digits s) None) → IsExp (x ∷ s)
    by true b p q h = exp_of x s (inl (is_test x 101 p)) h
    by false true p q h = exp_of x s (inr (is_test x 69 q)) h
    by false false p q h = absurd (cc h)

fraction_spelt : (rest : List ℕ) (f : List ℕ × List ℕ) → fraction_at rest ≡ Some f → Spelt (exponent_of f.1) → Written rest
fraction_spelt [] f e h = ([], [], refl, inl refl, inl refl)
fraction_spelt (x ∷ s) f e h = by (eqb x 46) refl e
  where
    some : (ds : List ℕ) → ds ≡ digits s → if_some ds (Some (digits s, after_digits s)) ≡ Some f → x ≡ 46 → Written (x ∷ s)
    some [] d e point = absurd (cc e)
    some (y ∷ ys) d e point =
        let rest : after_digits s ≡ f.1 = cc e in (
          46 ∷ y ∷ ys,
          after_digits s,
          ap₂ (λ a l. a ∷ l) point (cut s ∙ ap (λ l. l ++ after_digits s) (sym d)),
          inr (y, ys, refl, ap (list_all is_ascii_digit) d ∙ run_passes is_ascii_digit s),
          exponent_spelt (after_digits s) (ap (λ l. is_some (exponent_of l)) rest ∙ h),
        )

    by : (b : Bool) → eqb x 46 ≡ b → cond b (if_some (digits s) (Some (digits s, after_digits s))) (Some ([], x ∷ s)) ≡ Some f → Written (x ∷ s)
    by true p e = some (digits s) refl e (is_test x 46 p)
    by false p e = let rest : x ∷ s ≡ f.1 = cc e in ([], x ∷ s, refl, inl refl, exponent_spelt (x ∷ s) (ap (λ l. is_some (exponent_of l)) rest ∙ h))

unsigned_spelt : (s : List ℕ) → Spelt (unsigned s) → IsInt (digits s) × Written (after_digits s)
unfolding unsigned
unsigned_spelt s h = by (is_whole (digits s)) refl h
  where
    by : (b : Bool) → is_whole (digits s) ≡ b → Spelt (cond b (option_and_then (λ f. option_map (decimal_of (digits s) f.0) (exponent_of f.1)) (fraction_at (after_digits s))) None) → IsInt (digits s) × Written (after_digits s)
    by true e h =
        let p = spelt_parts (fraction_at (after_digits s)) (λ f. option_map (decimal_of (digits s) f.0) (exponent_of f.1)) h in
        (int_of (digits s) (run_passes is_ascii_digit s) e, fraction_spelt (after_digits s) p.0 p.1 (spelt_mapped (exponent_of p.0.1) _ p.2))
    by false e h = absurd (cc h)

numeral_by : (bytes minus s : List ℕ) → bytes ≡ minus ++ s → IsMinus minus → Spelt (unsigned s) → IsNumeral bytes
numeral_by bytes minus s e m h =
    let p = unsigned_spelt s h in
    let w = p.1 in
    record { minus = minus; int = digits s; frac = w.0; exp = w.1; written = e ∙ ap (λ l. minus ++ l) (cut s ∙ ap (λ l. digits s ++ l) w.2); is_minus = m; is_int = p.0; is_frac = w.3; is_exp = w.4 }

pub numeral_where_spells : (bytes : List ℕ) → Spelt (numeral bytes) → IsNumeral bytes
unfolding numeral
numeral_where_spells [] h = absurd (cc h)
numeral_where_spells (x ∷ s) h = by (eqb x 45) refl h
  where
    by : (b : Bool) → eqb x 45 ≡ b → Spelt (cond b (option_map (λ d. option_map (λ n. neg_ℤ (pos n)) (units_of d)) (unsigned s)) (option_map (λ d. option_map pos (units_of d)) (unsigned (x ∷ s)))) → IsNumeral (x ∷ s)
    by true e h = numeral_by (x ∷ s) (45 ∷ []) s (ap (λ y. y ∷ s) (is_test x 45 e)) (inr refl) (spelt_mapped (unsigned s) _ h)
    by false e h = numeral_by (x ∷ s) [] (x ∷ s) refl (inl refl) (spelt_mapped (unsigned (x ∷ s)) _ h)

pub numerals : (bytes : List ℕ) → (Spelt (numeral bytes) → IsNumeral bytes) × (IsNumeral bytes → Spelt (numeral bytes))
numerals bytes = (numeral_where_spells bytes, spells_where_numeral bytes)
