-- The rank falls as ids rise.
use Rattle.std.proofs.Common.{◌≡◌, ℕ, zero, suc, ◌-◌, ◌*◌, ◌+◌, ◌<◌, ◌≤◌, List, [], ◌∷◌, length, ap, arith, ⊎_elim, ◌⊎◌, inl, inr, true, false, cond, refl, sym, ◌∙◌, Less, Equal, Greater, Bool, ltb, subst, Option, Some, None, ◌/◌, ◌++◌}
use Rattle.std.specs.Prelude.{◌==◌, ◌&&◌, IsUtf8, IfSome}
use lib.Utf8.{scalar, scalars, encode, encodes, next, scalar_cases}
use Rattle.std.specs.Option.{option_map}
use Rattle.std.specs.List.{AllByRecursion as Each}
use Rattle.std.proofs.Math.Nat.{mul-le-mul_right}
use Rattle.std.proofs.lemmas.Bool.{ltb-true, eqb-true}
use Rattle.std.specs.Cmp.Lexicographic.{slice_cmp}
use Rattle.std.specs.Ordering.{nat_cmp, is_lt, ordering_then}
use Rattle.std.specs.Int.{byte_at, bytes_high_first}
use Rattle.json_tree.specs.Tree.{Tree, null, boolean, number, text, date, list, object}
use Rattle.json_tree.specs.Id.{IsId, IsInRange, id_cmp, key_of, number_bytes, date_bytes, top_inverted}
use Rattle.shred_cols.specs.Row.{Version, id_of}
use Rattle.shred_cols.specs.Rows.{is_after}
use Rattle.col_keeper.specs.Tables.{IsShort}
use Rattle.col_keeper.specs.Pages.{IsPage}
use Rattle.cmd_tasks.specs.Pages.{last_of, up_of}
use Rattle.cmd_tasks.specs.Looking.{GoesUp}
use Rattle.cmd_tasks.specs.Rank.{strings, rank, rank_of, AreBytes, IsKeyed}

-- one string comes before the other
abbrev IsBefore : List ℕ → List ℕ → Type 0
IsBefore [] [] = ⊥
IsBefore [] (y ∷ ys) = Unit {0}
IsBefore (x ∷ xs) [] = ⊥
IsBefore (x ∷ xs) (y ∷ ys) = (x < y) ⊎ ((x ≡ y) × IsBefore xs ys)

pub rank_below : (n : ℕ) (bs : List ℕ) → AreBytes bs → rank n bs < strings n
unfolding rank strings
rank_below zero bs h = omega arith
rank_below (suc n) [] h = omega arith
rank_below (suc n) (b ∷ bs) h = let r = rank_below n bs h.1 in let b₀ = h.0 in let m : (255 - b) * strings n ≤ 255 * strings n = mul-le-mul_right (strings n) (omega arith) in omega arith

rank_falls : (n : ℕ) (xs ys : List ℕ) → AreBytes xs → AreBytes ys → length ys ≤ n → IsBefore xs ys → rank n ys < rank n xs
unfolding rank strings
rank_falls n [] [] a b l h = absurd h
rank_falls zero [] (y ∷ ys) a b l h = absurd (omega arith)
rank_falls (suc n) [] (y ∷ ys) a b l h = let r = rank_below n ys b.1 in let m : (255 - y) * strings n ≤ 255 * strings n = mul-le-mul_right (strings n) (omega arith) in omega arith
rank_falls n (x ∷ xs) [] a b l h = absurd h
rank_falls zero (x ∷ xs) (y ∷ ys) a b l h = absurd (omega arith)
rank_falls (suc n) (x ∷ xs) (y ∷ ys) a b l h = ⊎_elim
    (λ (lt : x < y). let y₀ = b.0 in let r = rank_below n ys b.1 in let m : suc (255 - y) * strings n ≤ (255 - x) * strings n = mul-le-mul_right (strings n) (omega arith) in omega arith)
    (λ (e : (x ≡ y) × IsBefore xs ys). let r = rank_falls n xs ys a.1 b.1 (omega arith) e.1 in let s = ap (λ (z : ℕ). (255 - z) * strings n) e.0 in omega arith) h

before : (xs ys : List ℕ) → is_lt (slice_cmp nat_cmp xs ys) ≡ true → IsBefore xs ys
before [] [] h = cc
before [] (y ∷ ys) h = tt
before (x ∷ xs) [] h = cc
before (x ∷ xs) (y ∷ ys) h = elim (ltb x y) as (λ t. ltb x y ≡ t → is_lt (ordering_then (cond t Less (cond (x == y) Equal Greater)) (slice_cmp nat_cmp xs ys)) ≡ true → IsBefore (x ∷ xs) (y ∷ ys)) [
  | true ↦ λ e k. inl (ltb-true x y e)
  | false ↦ λ e k. elim (x == y) as (λ t. (x == y) ≡ t → is_lt (ordering_then (cond t Equal Greater) (slice_cmp nat_cmp xs ys)) ≡ true → IsBefore (x ∷ xs) (y ∷ ys)) [
    | true ↦ λ q j. inr (eqb-true x y q, before xs ys j)
    | false ↦ λ q j. cc
  ] refl k
] refl h

pub rank_drops : (n : ℕ) (xs ys : List ℕ) → AreBytes xs → AreBytes ys → length ys ≤ n → is_lt (slice_cmp nat_cmp xs ys) ≡ true → rank n ys < rank n xs
rank_drops n xs ys a b l h = rank_falls n xs ys a b l (before xs ys h)

-- ---- the bytes of a text

bytes_append : (xs ys : List ℕ) → AreBytes xs → AreBytes ys → AreBytes (xs ++ ys)
bytes_append [] ys p q = q
bytes_append (x ∷ xs) ys p q = (p.0, bytes_append xs ys p.1 q)

-- the bytes of one character
encode_bytes : (c : ℕ) → c < 1114112 → AreBytes (encode c)
unfolding encode
encode_bytes c h = elim (ltb c 128) as (λ t. ltb c 128 ≡ t → AreBytes (cond t one (cond (ltb c 2048) two (cond (ltb c 65536) three four)))) [
  | true ↦ λ e. let l = ltb-true c 128 e in (omega arith, tt)
  | false ↦ λ e. elim (ltb c 2048) as (λ t. ltb c 2048 ≡ t → AreBytes (cond t two (cond (ltb c 65536) three four))) [
    | true ↦ λ q. let l = ltb-true c 2048 q in (omega arith, (omega arith, tt))
    | false ↦ λ q. elim (ltb c 65536) as (λ t. ltb c 65536 ≡ t → AreBytes (cond t three four)) [
      | true ↦ λ r. let l = ltb-true c 65536 r in (omega arith, (omega arith, (omega arith, tt)))
      | false ↦ λ r. (omega arith, (omega arith, (omega arith, (omega arith, tt))))
    ] refl
  ] refl
] refl
  where
    one : List ℕ
    one = c ∷ []

    two : List ℕ
    two = (192 + c / 64) ∷ next c ∷ []

    three : List ℕ
    three = (224 + c / 4096) ∷ next (c / 64) ∷ next c ∷ []

    four : List ℕ
    four = (240 + c / 262144) ∷ next (c / 4096) ∷ next (c / 64) ∷ next c ∷ []

both_of : (a b : Bool) → a && b ≡ true → (a ≡ true) × (b ≡ true)
both_of true b h = (refl, h)
both_of false b h = cc

below_all : (c : ℕ) → scalar c ≡ true → c < 1114112
below_all c h = ⊎_elim (λ (l : c < 55296). omega arith) (λ (l : (57344 ≤ c) × (c < 1114112)). l.1) (scalar_cases c h)

encoded_bytes : (cs : List ℕ) → scalars cs ≡ true → AreBytes (encodes cs)
encoded_bytes [] h = tt
encoded_bytes (c ∷ cs) h = let p = both_of (scalar c) (scalars cs) h in bytes_append (encode c) (encodes cs) (encode_bytes c (below_all c p.0)) (encoded_bytes cs p.1)

text_bytes : (t : List ℕ) → IsUtf8 t → AreBytes t
text_bytes t h = subst (λ (bs : List ℕ). AreBytes bs) h.1.1 (encoded_bytes h.0 h.1.0)

-- ---- the bytes of a number

byte_small : (k n : ℕ) → byte_at k n < 256
byte_small zero n = omega arith
byte_small (suc k) n = omega arith

pub bytes_are : (k n : ℕ) → AreBytes (bytes_high_first k n)
bytes_are zero n = tt
bytes_are (suc k) n = (byte_small k n, bytes_are k n)

-- an id of the program
pub keyed_of : (id : Tree) → IsId id → IsInRange id → IsKeyed id
unfolding number_bytes date_bytes
keyed_of (text t) i r = record { is_id = i; in_range = r; bytes = (omega arith, text_bytes t r) }
keyed_of (number n) i r = record { is_id = i; in_range = r; bytes = (omega arith, bytes_are 16 (top_inverted 127 n)) }
keyed_of (boolean true) i r = record { is_id = i; in_range = r; bytes = (omega arith, (omega arith, tt)) }
keyed_of (boolean false) i r = record { is_id = i; in_range = r; bytes = (omega arith, (omega arith, tt)) }
keyed_of null i r = record { is_id = i; in_range = r; bytes = (omega arith, tt) }
keyed_of (date d) i r = record { is_id = i; in_range = r; bytes = (omega arith, bytes_are 8 (top_inverted 63 d)) }
keyed_of (list ts) i r = record { is_id = i; in_range = r; bytes = tt }
keyed_of (object ps) i r = record { is_id = i; in_range = r; bytes = tt }

-- the order of key bytes is that of ids
abbrev pub IsOrdered : Type 0
IsOrdered = (x y : Tree) → IsId x → IsInRange x → IsId y → IsInRange y → slice_cmp nat_cmp (key_of x) (key_of y) ≡ id_cmp x y

-- a page's end lies behind its start
rank_falls_by : (last : Option Tree) (u : Tree) → IfSome last IsKeyed → IsKeyed u → IsShort u → is_after last u ≡ true → IsOrdered → rank_of (Some u) < rank_of last
rank_falls_by None u k v s a order = rank_below 8001 (key_of u) v.bytes
rank_falls_by (Some x) u k v s a order = rank_drops 8001 (key_of x) (key_of u) k.bytes v.bytes s (ap is_lt (order x u k.is_id k.in_range v.is_id v.in_range) ∙ a)

same_some : {A : Type 0} (a b : A) → Some a ≡ Some b → a ≡ b
same_some a b q = cc

last_has : (P : Version → Type 0) (xs : List Version) (v : Version) → last_of xs ≡ Some v → Each P xs → P v
last_has P [] v e h = cc
last_has P (x ∷ []) v e h = subst P (same_some x v e) h.0
last_has P (x ∷ y ∷ xs) v e h = last_has P (y ∷ xs) v e h.1

pub page_rises : (after : Option Tree) (page : List Version) (end : Bool) (v : Version) → IfSome after IsKeyed → IsKeyed (id_of v.doc) → last_of page ≡ Some v → IsPage after 64 page end → IsOrdered → GoesUp after (up_of end page)
page_rises after page true v k w l p order = tt
page_rises after page false v k w l p order = subst (λ (o : Option Version). GoesUp after (option_map (λ (x : Version). id_of x.doc) o)) (sym l)
    (rank_falls_by after (id_of v.doc) k w (last_has (λ x. IsShort (id_of x.doc)) page v l p.short) (last_has (λ x. is_after after (id_of x.doc) ≡ true) page v l p.above) order)

pub none_rises : (after : Option Tree) (page : List Version) (end : Bool) → last_of page ≡ None → GoesUp after (up_of end page)
none_rises after page true l = tt
none_rises after page false l = subst (λ (o : Option Version). GoesUp after (option_map (λ (x : Version). id_of x.doc) o)) (sym l) tt
