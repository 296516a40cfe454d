-- Numbers as bytes, the highest first.
use Rattle.std.proofs.Common.{◌≡◌, ℕ, ◌+◌, ◌*◌, ◌/◌, ◌%◌, ◌^◌, ◌<◌, ◌≤◌, List, [], ◌∷◌, length, get_or, refl, sym, ap, ap₂, ◌∙◌, arith, suc, zero, fold, pow-suc, mul_comm, cond, eqb}
use Rattle.std.proofs.Math.Nat.{pow-le-pow_right, div-div-eq-div-mul, mul-le-mul_right, mod-lt}
use Rattle.std.proofs.Math.Arith.{mod-mul}
use Rattle.std.proofs.lemmas.Bool.{lt-ltb, le-ltb, eq-eqb, ne_eqb}
use Rattle.std.proofs.lemmas.Cmp.{ranked, by_ranked}
use Rattle.std.specs.Int.{byte_at, bytes_high_first}
use Rattle.std.specs.declared.cmp.Ordering.TheVariants.{Less, Equal, Greater}
use Rattle.std.specs.Ordering.{nat_cmp, ordering_then}
use Rattle.std.specs.Cmp.Lexicographic.{slice_cmp}

abbrev pub step : ℕ → ℕ → ℕ
step high byte = high * 256 + byte

some_bytes : (k : ℕ) → 0 < 256 ^ k
some_bytes k = pow-le-pow_right {n = 256} (omega arith) {i = 0} {j = k} (omega arith)

-- one more byte in front of the low k bytes
byte_on : (k n high : ℕ) → (high * 256 + byte_at k n) * 256 ^ k + n % 256 ^ k ≡ high * 256 ^ suc k + n % 256 ^ suc k
byte_on zero n high = omega arith
byte_on (suc k) n high =
    let unit = 256 ^ suc k in
    let wider : 256 ^ suc (suc k) ≡ 256 * unit = pow-suc 256 (suc k) ∙ mul_comm unit 256 in
    rw (wider, mod-mul n {m = 256} {c = unit} (omega arith) (some_bytes (suc k))) (omega arith)

-- what is read of written bytes
pub bytes_read : (k n high : ℕ) → fold step high (bytes_high_first k n) ≡ high * 256 ^ k + n % 256 ^ k
bytes_read zero n high = omega arith
bytes_read (suc k) n high = bytes_read k n (high * 256 + byte_at k n) ∙ byte_on k n high

pub length-bytes_high_first : (k n : ℕ) → length (bytes_high_first k n) ≡ k
length-bytes_high_first zero n = refl
length-bytes_high_first (suc k) n = ap suc (length-bytes_high_first k n)

byte_at-is : (k n : ℕ) → byte_at k n ≡ n / 256 ^ k % 256
byte_at-is zero n = omega arith
byte_at-is (suc k) n = refl

-- what lies above the bytes read
high_kept : (bs : List ℕ) (high : ℕ) → ((i : ℕ) → get_or bs i 0 < 256) → fold step high bs / 256 ^ length bs ≡ high
high_kept [] high small = omega arith
high_kept (b ∷ bs) high small =
    let v = fold step (high * 256 + b) bs in
    let first : b < 256 = small 0 in
    ap (λ p. v / p) (pow-suc 256 (length bs)) ∙ sym (div-div-eq-div-mul v (256 ^ length bs) 256) ∙ ap (λ m. m / 256) (high_kept bs (high * 256 + b) (λ i. small (suc i))) ∙ omega arith

-- what is written of bytes that were read
pub bytes_written : (bs : List ℕ) (high : ℕ) → ((i : ℕ) → get_or bs i 0 < 256) → bytes_high_first (length bs) (fold step high bs) ≡ bs
bytes_written [] high small = refl
bytes_written (b ∷ bs) high small =
    let v = fold step (high * 256 + b) bs in
    let first : b < 256 = small 0 in
    let byte : byte_at (length bs) v ≡ b = byte_at-is (length bs) v ∙ ap (λ m. m % 256) (high_kept bs (high * 256 + b) (λ i. small (suc i))) ∙ omega arith in
    ap₂ (λ x xs. x ∷ xs) byte (bytes_written bs (high * 256 + b) (λ i. small (suc i)))

-- ---- the order

pub nat_less : (x y : ℕ) → x < y → nat_cmp x y ≡ Less
nat_less x y h = ap (λ b. cond b Less (cond (eqb x y) Equal Greater)) (lt-ltb x y h)

pub nat_equal : (x y : ℕ) → x ≡ y → nat_cmp x y ≡ Equal
nat_equal x y e = ap₂ (λ a b. cond a Less (cond b Equal Greater)) (le-ltb x y (omega arith)) (eq-eqb x y e)

pub nat_greater : (x y : ℕ) → y < x → nat_cmp x y ≡ Greater
nat_greater x y h = ap₂ (λ a b. cond a Less (cond b Equal Greater)) (le-ltb x y (omega arith)) (ne_eqb x y (λ e. absurd (omega (arith, e))))

by_parts : (x y p q unit : ℕ) → p < unit → q < unit → ordering_then (nat_cmp x y) (nat_cmp p q) ≡ nat_cmp (x * unit + p) (y * unit + q)
by_parts x y p q unit hp hq =
    by_ranked _ _ _ (nat_cmp x y) (ranked x y (nat_cmp x y) refl)
    (λ e h. ap (λ o. ordering_then o (nat_cmp p q)) e ∙ sym (nat_less (x * unit + p) (y * unit + q) (omega (arith, mul-le-mul_right {m = suc x} {n = y} unit h))))
    (λ e h. ap (λ o. ordering_then o (nat_cmp p q)) e ∙ same (ap (λ n. n * unit) h))
    (λ e h. ap (λ o. ordering_then o (nat_cmp p q)) e ∙ sym (nat_greater (x * unit + p) (y * unit + q) (omega (arith, mul-le-mul_right {m = suc y} {n = x} unit h))))
  where
    same : x * unit ≡ y * unit → nat_cmp p q ≡ nat_cmp (x * unit + p) (y * unit + q)
    same h =
        by_ranked _ _ _ (nat_cmp p q) (ranked p q (nat_cmp p q) refl) (λ e l. e ∙ sym (nat_less (x * unit + p) (y * unit + q) (omega arith)))
        (λ e l. e ∙ sym (nat_equal (x * unit + p) (y * unit + q) (omega arith))) (λ e l. e ∙ sym (nat_greater (x * unit + p) (y * unit + q) (omega arith)))

bytes_low : (k n : ℕ) → byte_at k n * 256 ^ k + n % 256 ^ k ≡ n % 256 ^ suc k
bytes_low k n = let e = byte_on k n 0 in omega arith

-- the order of the bytes is that of the numbers
pub bytes_order : (k m n : ℕ) → slice_cmp nat_cmp (bytes_high_first k m) (bytes_high_first k n) ≡ nat_cmp (m % 256 ^ k) (n % 256 ^ k)
bytes_order zero m n = sym (nat_equal (m % 256 ^ 0) (n % 256 ^ 0) (omega arith))
bytes_order (suc k) m n =
    ap (ordering_then (nat_cmp (byte_at k m) (byte_at k n))) (bytes_order k m n)
    ∙ by_parts (byte_at k m) (byte_at k n) (m % 256 ^ k) (n % 256 ^ k) (256 ^ k) (mod-lt m (some_bytes k)) (mod-lt n (some_bytes k)) ∙ ap₂ nat_cmp (bytes_low k m) (bytes_low k n)

-- one byte more of at most 16
pub byte_fits : (i n b : ℕ) → i < 16 → n < 256 ^ i → b < 256 → n * 256 + b < 2 ^ 128
byte_fits i n b h l s =
    let grown : 256 ^ suc i ≤ 256 ^ 16 = pow-le-pow_right {n = 256} (omega arith) {i = suc i} {j = 16} (omega arith) in
    let more : 256 ^ suc i ≡ 256 ^ i * 256 = pow-suc 256 i in
    omega arith
