-- Ids, their key bytes and their order.
use Rattle.std.proofs.Common.{◌≡◌, ◌≢◌, ℕ, ◌+◌, ◌*◌, ◌%◌, ◌^◌, ◌<◌, ◌≤◌, ℤ, pos, negsuc, List, ◌∷◌, length, get_or, refl, sym, ap, ap₂, ◌∙◌, arith, fold, nat_abs, Ordering, w64, true, false, ◌<ℤ◌}
use Rattle.std.proofs.Math.Nat.{mod-eq_of_lt}
use Rattle.std.proofs.lemmas.Int.{ints}
use Rattle.std.proofs.lemmas.Cmp.{int_ranked, by_ranked, nat_list_cmp_total, nat_cmp_total, int_cmp_total, then_total, on_total, lists_total, tied_itself}
use Rattle.std.specs.Cmp.{IsTotalOrder}
use Rattle.std.specs.Cmp.Lexicographic.{slice_cmp}
use Rattle.std.specs.declared.cmp.Ordering.TheVariants.{Less, Equal, Greater}
use Rattle.std.specs.Ordering.{nat_cmp, int_cmp, ordering_then, is_eq}
use Rattle.std.proofs.lemmas.Slice.Eq.{bytes_eq-Decides}
use Rattle.std.proofs.lemmas.Map.Text.{is_eq-slice_cmp}
use Rattle.std.specs.Int.{bytes_high_first}
use Rattle.std.specs.Int.RustNames.{FitsSigned}
use Rattle.json_tree.specs.Num.{IsNumber}
use Rattle.json_tree.specs.Tree.{Tree, null, boolean, number, text, date, list, object}
use Rattle.json_tree.specs.Id.{IsId, IsInRange, id_tag, id_text, id_number, id_cmp, top_inverted, number_bytes, date_bytes, key_of}
use Rattle.json_tree.specs.Bytes.{step, bytes_read, bytes_written, bytes_order, length-bytes_high_first, nat_less, nat_equal, nat_greater}

-- ---- the bits

number_bound : (n : ℤ) → IsNumber n → top_inverted 127 n < 256 ^ 16
number_bound (pos n) h = omega arith
number_bound (negsuc n) h = omega arith

date_bound : (d : ℤ) → FitsSigned w64 d → top_inverted 63 d < 256 ^ 8
date_bound (pos n) h = omega (arith, ints)
date_bound (negsuc n) h = omega (arith, ints)

pub length-number_bytes : (n : ℤ) → length (number_bytes n) ≡ 16
unfolding number_bytes
length-number_bytes n = length-bytes_high_first 16 (top_inverted 127 n)

pub length-date_bytes : (d : ℤ) → length (date_bytes d) ≡ 8
unfolding date_bytes
length-date_bytes d = length-bytes_high_first 8 (top_inverted 63 d)

pub number_bytes-read : (n : ℤ) → IsNumber n → fold step 0 (number_bytes n) ≡ top_inverted 127 n
unfolding number_bytes
number_bytes-read n h =
    let low = mod-eq_of_lt {n = top_inverted 127 n} {m = 256 ^ 16} (number_bound n h) in
    bytes_read 16 (top_inverted 127 n) 0 ∙ above (top_inverted 127 n % 256 ^ 16) (256 ^ 16) ∙ low
  where
    above : (m p : ℕ) → 0 * p + m ≡ m
    above m p = omega arith

pub number_bytes-written : (bs : List ℕ) (n : ℤ) → length bs ≡ 16 → ((i : ℕ) → get_or bs i 0 < 256) → top_inverted 127 n ≡ fold step 0 bs → number_bytes n ≡ bs
unfolding number_bytes
number_bytes-written bs n len small e = ap₂ bytes_high_first (sym len) e ∙ bytes_written bs 0 small

pub date_bytes-written : (bs : List ℕ) (d : ℤ) → length bs ≡ 8 → ((i : ℕ) → get_or bs i 0 < 256) → top_inverted 63 d ≡ fold step 0 bs → date_bytes d ≡ bs
unfolding date_bytes
date_bytes-written bs d len small e = ap₂ bytes_high_first (sym len) e ∙ bytes_written bs 0 small

-- ---- no id has these bytes

rest_is : (a b : List ℕ) (x : ℕ) → x ∷ a ≡ x ∷ b → a ≡ b
rest_is a b x e = Prim.cc e

pub no_number : (rest : List ℕ) → ((n : ℤ) → IsNumber n → number_bytes n ≢ rest) → (t : Tree) → IsId t → IsInRange t → key_of t ≢ 2 ∷ rest
no_number rest none (number n) i r = λ e. none n r (rest_is (number_bytes n) rest 2 e)
no_number rest none t i r = λ e. absurd (Prim.cc e)

pub no_date : (rest : List ℕ) → ((d : ℤ) → FitsSigned w64 d → date_bytes d ≢ rest) → (t : Tree) → IsId t → IsInRange t → key_of t ≢ 5 ∷ rest
no_date rest none (date d) i r = λ e. none d r (rest_is (date_bytes d) rest 5 e)
no_date rest none t i r = λ e. absurd (Prim.cc e)

-- ---- the order

pub id_cmp-total : IsTotalOrder id_cmp
id_cmp-total = then_total (on_total id_tag nat_cmp_total) (then_total (on_total id_text (lists_total nat_cmp_total)) (on_total id_number int_cmp_total))

both_equal : (o p : Ordering) → ordering_then o p ≡ Equal → (o ≡ Equal) × (p ≡ Equal)
both_equal Less p e = absurd (Prim.cc e)
both_equal Equal p e = (refl, e)
both_equal Greater p e = absurd (Prim.cc e)

then_equal : (o : Ordering) → o ≡ ordering_then o Equal
then_equal Less = refl
then_equal Equal = refl
then_equal Greater = refl

texts_tie : (a b : List ℕ) → slice_cmp nat_cmp a b ≡ Equal → a ≡ b
texts_tie a b e = (bytes_eq-Decides a b).0 (sym (is_eq-slice_cmp a b) ∙ ap is_eq e)

numbers_tie : (a b : ℤ) → int_cmp a b ≡ Equal → a ≡ b
numbers_tie a b e =
    by_ranked (a <ℤ b) (a ≡ b) (b <ℤ a) (int_cmp a b) (int_ranked a b (int_cmp a b) refl) (λ f h. absurd (Prim.cc (sym f ∙ e))) (λ f h. h) (λ f h. absurd (Prim.cc (sym f ∙ e)))

-- ids that the order doesn't tell apart are the same
pub id_ties : (x y : Tree) → IsId x → IsId y → id_cmp x y ≡ Equal → x ≡ y
id_ties (list a) y i j e = absurd (Prim.cc i)
id_ties (object a) y i j e = absurd (Prim.cc i)
id_ties x (list b) i j e = absurd (Prim.cc j)
id_ties x (object b) i j e = absurd (Prim.cc j)
id_ties (text a) (text b) i j e = ap text (texts_tie a b (both_equal (slice_cmp nat_cmp a b) Equal e).0)
id_ties (number a) (number b) i j e = ap number (numbers_tie a b e)
id_ties (boolean true) (boolean true) i j e = refl
id_ties (boolean false) (boolean false) i j e = refl
id_ties null null i j e = refl
id_ties (date a) (date b) i j e = ap date (numbers_tie a b e)
id_ties x y i j e = absurd (Prim.cc e)

inverted_grows : (h : ℕ) (m n : ℤ) → nat_abs m ≤ 2 ^ h → m <ℤ n → top_inverted h m < top_inverted h n
inverted_grows h (pos m) (pos n) b l = omega (arith, ints)
inverted_grows h (pos m) (negsuc n) b l = absurd (omega (arith, ints))
inverted_grows h (negsuc m) (pos n) b l = omega (arith, ints)
inverted_grows h (negsuc m) (negsuc n) b l = omega (arith, ints)

inverted_order : (h : ℕ) (m n : ℤ) → nat_abs m ≤ 2 ^ h → nat_abs n ≤ 2 ^ h → nat_cmp (top_inverted h m) (top_inverted h n) ≡ int_cmp m n
inverted_order h m n bm bn =
    by_ranked (m <ℤ n) (m ≡ n) (n <ℤ m) (int_cmp m n) (int_ranked m n (int_cmp m n) refl) (λ e l. nat_less _ _ (inverted_grows h m n bm l) ∙ sym e)
    (λ e l. nat_equal _ _ (ap (top_inverted h) l) ∙ sym e) (λ e l. nat_greater _ _ (inverted_grows h n m bn l) ∙ sym e)

numbers_order : (m n : ℤ) → IsNumber m → IsNumber n → slice_cmp nat_cmp (number_bytes m) (number_bytes n) ≡ int_cmp m n
unfolding number_bytes
numbers_order m n hm hn =
    bytes_order 16 (top_inverted 127 m) (top_inverted 127 n)
    ∙ ap₂ nat_cmp (mod-eq_of_lt {n = top_inverted 127 m} {m = 256 ^ 16} (number_bound m hm)) (mod-eq_of_lt {n = top_inverted 127 n} {m = 256 ^ 16} (number_bound n hn))
    ∙ inverted_order 127 m n (omega arith) (omega arith)

dates_order : (m n : ℤ) → FitsSigned w64 m → FitsSigned w64 n → slice_cmp nat_cmp (date_bytes m) (date_bytes n) ≡ int_cmp m n
unfolding date_bytes
dates_order m n hm hn =
    bytes_order 8 (top_inverted 63 m) (top_inverted 63 n)
    ∙ ap₂ nat_cmp (mod-eq_of_lt {n = top_inverted 63 m} {m = 256 ^ 8} (date_bound m hm)) (mod-eq_of_lt {n = top_inverted 63 n} {m = 256 ^ 8} (date_bound n hn))
    ∙ inverted_order 63 m n (date_size m hm) (date_size n hn)
  where
    date_size : (d : ℤ) → FitsSigned w64 d → nat_abs d ≤ 2 ^ 63
    date_size (pos d) h = omega (arith, ints)
    date_size (negsuc d) h = omega (arith, ints)

-- the order of key bytes is the order of ids
pub key_order : (x y : Tree) → IsId x → IsInRange x → IsId y → IsInRange y → slice_cmp nat_cmp (key_of x) (key_of y) ≡ id_cmp x y
key_order (list a) y i r j s = absurd (Prim.cc i)
key_order (object a) y i r j s = absurd (Prim.cc i)
key_order x (list b) i r j s = absurd (Prim.cc j)
key_order x (object b) i r j s = absurd (Prim.cc j)
key_order (text a) (text b) i r j s = then_equal (slice_cmp nat_cmp a b)
key_order (number a) (number b) i r j s = numbers_order a b r s
key_order (boolean true) (boolean true) i r j s = refl
key_order (boolean true) (boolean false) i r j s = refl
key_order (boolean false) (boolean true) i r j s = refl
key_order (boolean false) (boolean false) i r j s = refl
key_order (date a) (date b) i r j s = dates_order a b r s
key_order x y i r j s = refl

-- different ids have different key bytes
pub key_distinct : (x y : Tree) → IsId x → IsInRange x → IsId y → IsInRange y → key_of x ≡ key_of y → x ≡ y
key_distinct x y i r j s e = id_ties x y i j (sym (key_order x y i r j s) ∙ ap (slice_cmp nat_cmp (key_of x)) (sym e) ∙ tied_itself nat_list_cmp_total (key_of x))
