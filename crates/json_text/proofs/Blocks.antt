-- Bytes seen sixteen at a time: a bit for each that doesn't stand for itself.
use Rattle.std.proofs.Common.{◌≡◌, ℕ, suc, ◌+◌, ◌*◌, ◌%◌, ◌^◌, ◌<◌, ◌≤◌, ltb, Bool, true, false, not, cond, eqb, ◌||◌, List, [], ◌∷◌, map, length, drop, replicate, refl, sym, ap, ap₂, ◌∙◌, arith}
use Rattle.std.proofs.lemmas.Simd.{zip2_splat, mask_l-mod, first_set_mask_l, length-chunk, chunk-drop}
use Rattle.std.proofs.lemmas.List.{length-map}
use Rattle.std.proofs.lemmas.List.Folds.{prefix_len-append}
use Rattle.std.proofs.lemmas.Bool.{eq-eqb, ne_eqb}
use Rattle.std.proofs.lemmas.Bool.Decides.{nat_tests}
use Rattle.std.specs.List.{prefix_len}
use lib.Bits.{bit_or}
use lib.Count.{count_trailing_zeros}
use lib.Lanes.{zip2, mask_l, top, chunk}
use Rattle.json_text.specs.Unescaped.{is_mark, is_plain}

-- all bits, where the test holds
abbrev lane : Bool → ℕ
lane b = cond b 255 0

abbrev pub equal_lane : ℕ → ℕ → ℕ
equal_lane a b = lane (eqb a b)

abbrev pub less_lane : ℕ → ℕ → ℕ
less_lane a b = lane (ltb a b)

either_lanes : (f g : ℕ → Bool) (xs : List ℕ) → zip2 bit_or (map (λ x. lane (f x)) xs) (map (λ x. lane (g x)) xs) ≡ map (λ x. lane (f x || g x)) xs
either_lanes f g [] = refl
either_lanes f g (x ∷ xs) = ap₂ (λ a b. a ∷ b) (both (f x) (g x)) (either_lanes f g xs)
  where
    both : (a b : Bool) → bit_or (lane a) (lane b) ≡ lane (a || b)
    both true true = refl
    both true false = refl
    both false true = refl
    both false false = refl

top_lanes : (f : ℕ → Bool) (xs : List ℕ) → map (top 7) (map (λ x. lane (f x)) xs) ≡ map f xs
top_lanes f [] = refl
top_lanes f (x ∷ xs) = ap₂ (λ a b. a ∷ b) (one (f x)) (top_lanes f xs)
  where
    one : (a : Bool) → top 7 (lane a) ≡ a
    one true = refl
    one false = refl

pub block_marks : (n : ℕ) (v : List ℕ) → length v ≡ n → n ≤ 64
    → mask_l (map (top 7) (zip2 bit_or (zip2 bit_or (zip2 equal_lane v (replicate n 34)) (zip2 equal_lane v (replicate n 92))) (zip2 less_lane v (replicate n 32)))) % 2 ^ 64 ≡ mask_l (map is_mark v)
block_marks n v long few =
    let equal = λ (y : ℕ). let e : zip2 equal_lane v (replicate n y) ≡ map (λ x. lane (eqb x y)) v = zip2_splat equal_lane v n y long in e in
    let less : zip2 less_lane v (replicate n 32) ≡ map (λ x. lane (ltb x 32)) v = zip2_splat less_lane v n 32 long in
    let two = ap₂ (zip2 bit_or) (equal 34) (equal 92) ∙ either_lanes (λ x. eqb x 34) (λ x. eqb x 92) v in
    let three = ap₂ (zip2 bit_or) two less ∙ either_lanes (λ x. eqb x 34 || eqb x 92) (λ x. ltb x 32) v in
    ap (λ l. mask_l l % 2 ^ 64) (ap (map (top 7)) three ∙ top_lanes is_mark v) ∙ mask_l-mod (map is_mark v) 64 (omega (arith, length-map v is_mark))

-- ---- a run of bytes that stand for themselves

opposite : (x : ℕ) → is_plain x ≡ not (is_mark x)
opposite x = grind (arith, nat_tests)

plain_run : (xs : List ℕ) → prefix_len (λ x. not (is_mark x)) xs ≡ prefix_len is_plain xs
plain_run [] = refl
plain_run (x ∷ xs) = ap₂ (λ b n. cond b (1 + n) 0) (sym (opposite x)) (plain_run xs)

-- the run of a block, and then of what follows it
split : (d : List ℕ) (i n : ℕ) → i + n ≤ length d → prefix_len is_plain (drop i d) ≡ cond (eqb (prefix_len is_plain (chunk i n d)) n) (n + prefix_len is_plain (drop (i + n) d)) (prefix_len is_plain (chunk i n d))
split d i n room =
    ap (prefix_len is_plain) (chunk-drop i n d) ∙ prefix_len-append is_plain (chunk i n d) (drop (i + n) d)
    ∙ ap (λ k. cond (eqb (prefix_len is_plain (chunk i n d)) k) (k + prefix_len is_plain (drop (i + n) d)) (prefix_len is_plain (chunk i n d))) (length-chunk i n d room)

first_mark : (d : List ℕ) (i n m : ℕ) → n ≤ 64 → i + n ≤ length d → m ≡ mask_l (map is_mark (chunk i n d)) → prefix_len is_plain (chunk i n d) ≡ cond (eqb m 0) n (count_trailing_zeros 64 m)
first_mark d i n m few room e =
    sym (plain_run (chunk i n d)) ∙ sym (first_set_mask_l is_mark (chunk i n d) n (length-chunk i n d room) few) ∙ ap (λ k. cond (eqb k 0) n (count_trailing_zeros 64 k)) (sym e)

pub block_passes : (d : List ℕ) (i n m : ℕ) → n ≤ 64 → i + n ≤ length d → m ≡ mask_l (map is_mark (chunk i n d)) → m ≡ 0 → prefix_len is_plain (drop i d) ≡ n + prefix_len is_plain (drop (i + n) d)
block_passes d i n m few room e none =
    let all : prefix_len is_plain (chunk i n d) ≡ n = first_mark d i n m few room e ∙ ap (λ b. cond b n (count_trailing_zeros 64 m)) (eq-eqb m 0 none) in
    split d i n room ∙ ap (λ b. cond b (n + prefix_len is_plain (drop (i + n) d)) (prefix_len is_plain (chunk i n d))) (eq-eqb _ n all)

none_marked : (b c : Bool) (n l m : ℕ) → c ≡ not b → cond c (1 + n) 0 ≡ suc l → (n ≡ l → m ≡ 0) → cond b 1 0 + 2 * m ≡ 0
none_marked true true n l m e h k = absurd (Prim.cc e)
none_marked true false n l m e h k = absurd (omega arith)
none_marked false true n l m e h k = let z = k (omega arith) in omega arith
none_marked false false n l m e h k = absurd (Prim.cc e)

all_plain : (xs : List ℕ) → prefix_len is_plain xs ≡ length xs → mask_l (map is_mark xs) ≡ 0
all_plain [] h = refl
all_plain (x ∷ xs) h = none_marked (is_mark x) (is_plain x) (prefix_len is_plain xs) (length xs) (mask_l (map is_mark xs)) (opposite x) h (all_plain xs)

pub block_stops : (d : List ℕ) (i n m : ℕ) → n ≤ 64 → i + n ≤ length d → m ≡ mask_l (map is_mark (chunk i n d)) → 0 < m → prefix_len is_plain (drop i d) ≡ count_trailing_zeros 64 m
block_stops d i n m few room e some =
    let zero : m ≡ 0 → ⊥ = λ z. omega (arith, z) in
    let run : prefix_len is_plain (chunk i n d) ≡ count_trailing_zeros 64 m = first_mark d i n m few room e ∙ ap (λ b. cond b n (count_trailing_zeros 64 m)) (ne_eqb m 0 zero) in
    let short : prefix_len is_plain (chunk i n d) ≡ n → ⊥ = λ z. zero (e ∙ all_plain (chunk i n d) (z ∙ sym (length-chunk i n d room))) in
    split d i n room ∙ ap (λ b. cond b (n + prefix_len is_plain (drop (i + n) d)) (prefix_len is_plain (chunk i n d))) (ne_eqb _ n short) ∙ run
