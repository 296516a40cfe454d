-- Entries before and after what is asked for.
use Rattle.std.proofs.Common.{◌≡◌, ◌≢◌, ◌⊎◌, ◌<◌, ◌≤◌, ◌&&◌, ◌||◌, ◌==◌, not, ⊎_elim, inl, inr, ℕ, ℤ, pos, zero, suc, Bool, true, false, List, [], ◌∷◌, length, get_or, Option, Some, None, refl, sym, ◌∙◌, ap, ap₂, subst, arith, slice_get}
use Rattle.std.specs.declared.cmp.Ordering.{Ordering}
use Rattle.std.specs.declared.cmp.Ordering.TheVariants.{Less, Equal, Greater}
use Rattle.std.specs.Ordering.{nat_cmp, int_cmp, ordering_then, ordering_reverse, is_gt, is_eq, on, then_cmp}
use Rattle.std.specs.Option.{option_cmp}
use Rattle.std.specs.Cmp.{IsTotalOrder}
use Rattle.std.specs.Cmp.Lexicographic.{slice_cmp}
use Rattle.std.specs.Str.{bytes_eq}
use Rattle.std.specs.List.{Contains, AllByRecursion, list_any}
use Rattle.std.specs.List.Sorted.{IsStrictlySortedBy}
use Rattle.std.proofs.lemmas.Cmp.{then_total, on_total, lists_total, nat_cmp_total, int_cmp_total, upto, tied_itself, ranked, int_ranked}
use Rattle.std.proofs.lemmas.Slice.Eq.{bytes_eq-Decides}
use Rattle.std.proofs.lemmas.Bool.{eqb-true, eq-eqb, and_parts}
use Rattle.shred_cols.specs.Entry.{path_of, column_of}
use Rattle.shred_cols.specs.Order.{entry_cmp, number_of, bytes_of, digest_of, kept_number, kept_bytes}
use Rattle.shred_cols.specs.Probe.{inside, same_kept, ends, number_within, text_within}
use Rattle.shred_cols.specs.Search.{column_asked, path_asked, low_number, low_bytes, end_cmp, is_before, is_at}
use Rattle.shred_cols.specs.declared.entry.Entry.{Entry}
use Rattle.shred_cols.specs.declared.entry.Entry.TheVariants as v
use Rattle.shred_cols.specs.declared.forms.Kept.{Kept}
use Rattle.shred_cols.specs.declared.forms.Kept.TheVariants.{Whole, Digest}
use Rattle.shred_cols.specs.declared.probe.Probe.{Probe}
use Rattle.shred_cols.specs.declared.probe.Probe.TheVariants as p
use Rattle.std.proofs.lemmas.List.{get_or_default}
use Rattle.std.proofs.lemmas.Option.{slice_get_within, get_or_from_slice_get}
use Rattle.shred_cols.proofs.Apart.{bytes_equal, then_equal}

-- ---- the parts of the order

abbrev Key : Type 0
Key = ℕ × (List ℕ × (ℤ × List ℕ))

abbrev key : Entry → Key
key e = (column_of e, (path_of e, (number_of e, bytes_of e)))

-- by column and path
abbrev place_cmp : Key → Key → Ordering
place_cmp = then_cmp (on (λ k. k.0) nat_cmp) (on (λ k. k.1.0) (slice_cmp nat_cmp))

-- and by what is said
abbrev key_cmp : Key → Key → Ordering
key_cmp = then_cmp (on (λ k. k.0) nat_cmp) (then_cmp (on (λ k. k.1.0) (slice_cmp nat_cmp)) (then_cmp (on (λ k. k.1.1.0) int_cmp) (on (λ k. k.1.1.1) (slice_cmp nat_cmp))))

place_total : IsTotalOrder place_cmp
place_total = then_total (on_total (λ k. k.0) nat_cmp_total) (on_total (λ k. k.1.0) (lists_total nat_cmp_total))

key_total : IsTotalOrder key_cmp
key_total = then_total (on_total (λ k. k.0) nat_cmp_total) (then_total (on_total (λ k. k.1.0) (lists_total nat_cmp_total)) (then_total (on_total (λ k. k.1.1.0) int_cmp_total) (on_total (λ k. k.1.1.1) (lists_total nat_cmp_total))))

front_less : (a x y : Ordering) → ordering_then a x ≡ Less → (x ≡ Less → is_gt y ≡ false) → is_gt (ordering_then a y) ≡ false
front_less Less x y h f = refl
front_less Equal x y h f = f h
front_less Greater x y h f = absurd (Prim.cc h)

pub not_greater : (a x : Ordering) → ordering_then a x ≡ Less → is_gt a ≡ false
not_greater Less x h = refl
not_greater Equal x h = refl
not_greater Greater x h = absurd (Prim.cc h)

place_rises : (e f : Entry) → entry_cmp e f ≡ Less → is_gt (place_cmp (key e) (key f)) ≡ false
place_rises e f h = front_less (nat_cmp (column_of e) (column_of f)) _ (slice_cmp nat_cmp (path_of e) (path_of f)) h (λ q. not_greater (slice_cmp nat_cmp (path_of e) (path_of f)) _ q)

key_rises : (e f : Entry) → entry_cmp e f ≡ Less → is_gt (key_cmp (key e) (key f)) ≡ false
key_rises e f h =
    front_less (nat_cmp (column_of e) (column_of f)) _ _ h (λ q.
    front_less (slice_cmp nat_cmp (path_of e) (path_of f)) _ _ q (λ r.
    front_less (int_cmp (number_of e) (number_of f)) _ _ r (λ s.
    not_greater (slice_cmp nat_cmp (bytes_of e) (bytes_of f)) (option_cmp (slice_cmp nat_cmp) (digest_of e) (digest_of f)) s)))

then_none : (o : Ordering) → ordering_then o Equal ≡ o
then_none Less = refl
then_none Equal = refl
then_none Greater = refl

back : (b : Bool) → (b ≡ false → ⊥) → b ≡ true
back true h = refl
back false h = absurd (h refl)

pub no_both : (b : Bool) → b ≡ true → b ≡ false → ⊥
no_both b p q = let z : true ≡ false = sym p ∙ q in Prim.cc z

-- an entry before one that is before
before_none : (column : ℕ) (path bytes : List ℕ) (e f : Entry) → entry_cmp e f ≡ Less → is_before column path None bytes f ≡ true → is_before column path None bytes e ≡ true
before_none column path bytes e f less h =
    let m : Key = (column, (path, (pos 0, []))) in
    let at : (x : Entry) → is_before column path None bytes x ≡ is_gt (place_cmp m (key x)) = λ x. ap (λ o. is_gt (ordering_then (nat_cmp column (column_of x)) o)) (then_none (slice_cmp nat_cmp path (path_of x))) in
    at e ∙ back (is_gt (place_cmp m (key e))) (λ n. no_both (is_gt (place_cmp m (key f))) (sym (at f) ∙ h) (upto place_total m (key e) (key f) n (place_rises e f less)))

before_some : (column : ℕ) (path bytes : List ℕ) (n : ℤ) (e f : Entry) → entry_cmp e f ≡ Less → is_before column path (Some n) bytes f ≡ true → is_before column path (Some n) bytes e ≡ true
before_some column path bytes n e f less h =
    let m : Key = (column, (path, (n, bytes))) in
    back (is_gt (key_cmp m (key e))) (λ q. no_both (is_gt (key_cmp m (key f))) h (upto key_total m (key e) (key f) q (key_rises e f less)))

pub before_falls : (column : ℕ) (path bytes : List ℕ) (low : Option ℤ) (e f : Entry) → entry_cmp e f ≡ Less → is_before column path low bytes f ≡ true → is_before column path low bytes e ≡ true
before_falls column path bytes None e f = before_none column path bytes e f
before_falls column path bytes (Some n) e f = before_some column path bytes n e f

-- ---- what is past the high end

high_cmp : Option ℤ → List ℕ → Entry → Ordering
high_cmp None bytes e = Equal
high_cmp (Some n) bytes e = ordering_then (int_cmp (number_of e) n) (slice_cmp nat_cmp (bytes_of e) bytes)

abbrev is_after : ℕ → List ℕ → Option ℤ → List ℕ → Entry → Bool
is_after column path high bytes e = is_gt (ordering_then (nat_cmp (column_of e) column) (ordering_then (slice_cmp nat_cmp (path_of e) path) (high_cmp high bytes e)))

after_none : (column : ℕ) (path bytes : List ℕ) (e f : Entry) → entry_cmp e f ≡ Less → is_after column path None bytes f ≡ false → is_after column path None bytes e ≡ false
unfolding high_cmp
after_none column path bytes e f less h =
    let m : Key = (column, (path, (pos 0, []))) in
    let at : (x : Entry) → is_after column path None bytes x ≡ is_gt (place_cmp (key x) m) = λ x. ap (λ o. is_gt (ordering_then (nat_cmp (column_of x) column) o)) (then_none (slice_cmp nat_cmp (path_of x) path)) in
    at e ∙ upto place_total (key e) (key f) m (place_rises e f less) (sym (at f) ∙ h)

after_some : (column : ℕ) (path bytes : List ℕ) (n : ℤ) (e f : Entry) → entry_cmp e f ≡ Less → is_after column path (Some n) bytes f ≡ false → is_after column path (Some n) bytes e ≡ false
unfolding high_cmp
after_some column path bytes n e f less h = upto key_total (key e) (key f) (column, (path, (n, bytes))) (key_rises e f less) h

after_falls : (column : ℕ) (path bytes : List ℕ) (high : Option ℤ) (e f : Entry) → entry_cmp e f ≡ Less → is_after column path high bytes f ≡ false → is_after column path high bytes e ≡ false
after_falls column path bytes None e f = after_none column path bytes e f
after_falls column path bytes (Some n) e f = after_some column path bytes n e f

-- ---- what a probe asks for lies between its ends

abbrev last_column : Probe → ℕ
last_column p.All = 9
last_column (p.Exists a) = 1
last_column (p.Size a n) = 2
last_column (p.Has a k) = 3
last_column (p.NumRange a low high) = 5
last_column (p.TextRange a low high) = 6
last_column (p.DateRange a low high) = 7

abbrev high_number : Probe → Option ℤ
high_number p.All = None
high_number (p.Exists a) = None
high_number (p.Size a n) = Some (pos n)
high_number (p.Has a k) = Some (kept_number k)
high_number (p.NumRange a low high) = high
high_number (p.TextRange a low None) = None
high_number (p.TextRange a low (Some k)) = Some (pos 0)
high_number (p.DateRange a low high) = high

abbrev high_bytes : Probe → List ℕ
high_bytes p.All = []
high_bytes (p.Exists a) = []
high_bytes (p.Size a n) = []
high_bytes (p.Has a k) = kept_bytes k
high_bytes (p.NumRange a low high) = []
high_bytes (p.TextRange a low None) = []
high_bytes (p.TextRange a low (Some k)) = k.0
high_bytes (p.DateRange a low high) = []

abbrev pub asked_before : Probe → Entry → Bool
asked_before q e = is_before (column_asked q) (path_asked q) (low_number q) (low_bytes q) e

abbrev asked_after : Probe → Entry → Bool
asked_after q e = is_after (last_column q) (path_asked q) (high_number q) (high_bytes q) e

bytes_eq_cmp : (a b : List ℕ) → bytes_eq a b ≡ is_eq (slice_cmp nat_cmp a b)
bytes_eq_cmp a b = go (bytes_eq a b) (slice_cmp nat_cmp a b) refl refl
  where
    go : (r : Bool) (o : Ordering) → bytes_eq a b ≡ r → slice_cmp nat_cmp a b ≡ o → r ≡ is_eq o
    go true o p q = ap is_eq (sym (subst (λ c. slice_cmp nat_cmp a c ≡ Equal) ((bytes_eq-Decides a b).0 p) (tied_itself (lists_total nat_cmp_total) a))) ∙ ap is_eq q
    go false Less p q = refl
    go false Greater p q = refl
    go false Equal p q = absurd (no_both (bytes_eq a b) ((bytes_eq-Decides a b).1 (bytes_equal a b q)) p)

spanned_by : (o x y : Ordering) (r : Bool) → r ≡ (not (is_gt x) && not (is_gt y)) → (is_eq o && r) ≡ (not (is_gt (ordering_then o x)) && not (is_gt (ordering_then (ordering_reverse o) y)))
spanned_by Less x y r h = refl
spanned_by Equal x y r h = h
spanned_by Greater x y r h = refl

spanned : (a b : List ℕ) (x y : Ordering) (r : Bool) → r ≡ (not (is_gt x) && not (is_gt y)) → (bytes_eq a b && r) ≡ (not (is_gt (ordering_then (slice_cmp nat_cmp a b) x)) && not (is_gt (ordering_then (slice_cmp nat_cmp b a) y)))
spanned a b x y r h =
    ap (λ t. t && r) (bytes_eq_cmp a b) ∙ spanned_by (slice_cmp nat_cmp a b) x y r h
    ∙ ap (λ o. not (is_gt (ordering_then (slice_cmp nat_cmp a b) x)) && not (is_gt (ordering_then o y))) (sym ((lists_total nat_cmp_total).antisymm b a))

and_true : (b : Bool) → b ≡ (b && true)
and_true true = refl
and_true false = refl

both_eq : (o : Ordering) → is_eq o ≡ (not (is_gt o) && not (is_gt (ordering_reverse o)))
both_eq Less = refl
both_eq Equal = refl
both_eq Greater = refl

bytes_between : (a b : List ℕ) → bytes_eq a b ≡ (not (is_gt (slice_cmp nat_cmp a b)) && not (is_gt (slice_cmp nat_cmp b a)))
bytes_between a b = bytes_eq_cmp a b ∙ both_eq (slice_cmp nat_cmp a b) ∙ ap (λ o. not (is_gt (slice_cmp nat_cmp a b)) && not (is_gt o)) (sym ((lists_total nat_cmp_total).antisymm b a))

nat_eq_cmp : (n m : ℕ) → (n == m) ≡ is_eq (int_cmp (pos n) (pos m))
nat_eq_cmp n m = go (n == m) (int_cmp (pos n) (pos m)) refl refl
  where
    go : (r : Bool) (o : Ordering) → (n == m) ≡ r → int_cmp (pos n) (pos m) ≡ o → r ≡ is_eq o
    go true o p q = ap is_eq (sym (subst (λ c. int_cmp (pos n) (pos c) ≡ Equal) (eqb-true n m p) (tied_itself int_cmp_total (pos n)))) ∙ ap is_eq q
    go false Less p q = refl
    go false Greater p q = refl
    go false Equal p q = absurd (let z : pos n ≡ pos m = int_ranked (pos n) (pos m) Equal (sym q) in let y : n ≡ m = Prim.cc z in no_both (n == m) (eq-eqb n m y) p)

numbers_between : (n m : ℕ) → (n == m) ≡ (not (is_gt (ordering_then (int_cmp (pos n) (pos m)) Equal)) && not (is_gt (ordering_then (int_cmp (pos m) (pos n)) Equal)))
numbers_between n m =
    nat_eq_cmp n m ∙ both_eq (int_cmp (pos n) (pos m)) ∙ ap (λ o. not (is_gt (int_cmp (pos n) (pos m))) && not (is_gt o)) (sym (int_cmp_total.antisymm (pos m) (pos n)))
    ∙ ap₂ (λ a b. not (is_gt a) && not (is_gt b)) (sym (then_none (int_cmp (pos n) (pos m)))) (sym (then_none (int_cmp (pos m) (pos n))))

kept_between : (k l : Kept)
    → same_kept k l ≡ (not (is_gt (ordering_then (int_cmp (kept_number k) (kept_number l)) (slice_cmp nat_cmp (kept_bytes k) (kept_bytes l)))) && not (is_gt (ordering_then (int_cmp (kept_number l) (kept_number k)) (slice_cmp nat_cmp (kept_bytes l) (kept_bytes k)))))
kept_between (Whole s) (Whole t) = bytes_between s t
kept_between (Digest s) (Digest t) = bytes_between s t
kept_between (Whole s) (Digest t) = refl
kept_between (Digest s) (Whole t) = refl

low_half : (path : List ℕ) (low : Option ℤ) (n : ℤ) → ends (λ l. not (is_gt (int_cmp l n))) low ≡ not (is_gt (end_cmp low [] (v.Num path n)))
low_half path None n = refl
low_half path (Some l) n = ap (λ o. not (is_gt o)) (sym (then_none (int_cmp l n)))

high_half : (path : List ℕ) (high : Option ℤ) (n : ℤ) → ends (λ h. not (is_gt (int_cmp n h))) high ≡ not (is_gt (high_cmp high [] (v.Num path n)))
unfolding high_cmp
high_half path None n = refl
high_half path (Some h) n = ap (λ o. not (is_gt o)) (sym (then_none (int_cmp n h)))

low_date : (path : List ℕ) (low : Option ℤ) (n : ℤ) → ends (λ l. not (is_gt (int_cmp l n))) low ≡ not (is_gt (end_cmp low [] (v.Date path n)))
low_date path None n = refl
low_date path (Some l) n = ap (λ o. not (is_gt o)) (sym (then_none (int_cmp l n)))

high_date : (path : List ℕ) (high : Option ℤ) (n : ℤ) → ends (λ h. not (is_gt (int_cmp n h))) high ≡ not (is_gt (high_cmp high [] (v.Date path n)))
unfolding high_cmp
high_date path None n = refl
high_date path (Some h) n = ap (λ o. not (is_gt o)) (sym (then_none (int_cmp n h)))

inside_is : (q : Probe) (e : Entry) → inside q e ≡ (not (asked_before q e) && not (asked_after q e))
unfolding high_cmp
inside_is p.All (v.Exists b) = refl
inside_is p.All (v.Size b m) = refl
inside_is p.All (v.Has b k) = refl
inside_is p.All (v.Bool b x) = refl
inside_is p.All (v.Num b n) = refl
inside_is p.All (v.Text b k) = refl
inside_is p.All (v.Date b d) = refl
inside_is p.All (v.Null b) = refl
inside_is (p.Exists a) (v.Exists b) = and_true (bytes_eq a b) ∙ spanned a b Equal Equal true refl
inside_is (p.Size a n) (v.Size b m) = spanned a b (ordering_then (int_cmp (pos n) (pos m)) Equal) (ordering_then (int_cmp (pos m) (pos n)) Equal) (n == m) (numbers_between n m)
inside_is (p.Has a k) (v.Has b l) = spanned a b (ordering_then (int_cmp (kept_number k) (kept_number l)) (slice_cmp nat_cmp (kept_bytes k) (kept_bytes l))) (ordering_then (int_cmp (kept_number l) (kept_number k)) (slice_cmp nat_cmp (kept_bytes l) (kept_bytes k))) (same_kept k l) (kept_between k l)
inside_is (p.NumRange a low high) (v.Num b n) = spanned a b (end_cmp low [] (v.Num b n)) (high_cmp high [] (v.Num b n)) (number_within low high n) (ap₂ (λ x y. x && y) (low_half b low n) (high_half b high n))
inside_is (p.TextRange a None None) (v.Text b k) = spanned a b Equal Equal true refl
inside_is (p.TextRange a (Some l) None) (v.Text b k) = spanned a b (slice_cmp nat_cmp l.0 k.0) Equal (text_within (Some l) None k) refl
inside_is (p.TextRange a None (Some h)) (v.Text b k) = spanned a b Equal (slice_cmp nat_cmp k.0 h.0) (text_within None (Some h) k) refl
inside_is (p.TextRange a (Some l) (Some h)) (v.Text b k) = spanned a b (slice_cmp nat_cmp l.0 k.0) (slice_cmp nat_cmp k.0 h.0) (text_within (Some l) (Some h) k) refl
inside_is (p.DateRange a low high) (v.Date b n) = spanned a b (end_cmp low [] (v.Date b n)) (high_cmp high [] (v.Date b n)) (number_within low high n) (ap₂ (λ x y. x && y) (low_date b low n) (high_date b high n))
inside_is q e = cc

not_if : (a b : Bool) → a ≡ true → (not a && b) ≡ false
not_if true b h = refl
not_if false b h = absurd (Prim.cc h)

-- an entry before the ends isn't asked for
pub not_before : (q : Probe) (e : Entry) → asked_before q e ≡ true → inside q e ≡ false
not_before q e h = inside_is q e ∙ not_if (asked_before q e) (not (asked_after q e)) h

parts_false : (a b : Bool) → (not a && not b) ≡ true → b ≡ false
parts_false false false h = refl
parts_false false true h = absurd (Prim.cc h)
parts_false true b h = absurd (Prim.cc h)

-- where a later one is asked for, and this one isn't before the low end, it is asked for
earlier_inside : (q : Probe) (e f : Entry) → entry_cmp e f ≡ Less → asked_before q e ≡ false → inside q f ≡ true → inside q e ≡ true
earlier_inside q e f less here there =
    let past = after_falls (last_column q) (path_asked q) (high_bytes q) (high_number q) e f less (parts_false (asked_before q f) (asked_after q f) (sym (inside_is q f) ∙ there)) in
    inside_is q e ∙ ap₂ (λ a b. not a && not b) here past

-- ---- lists

all_at : (x : Entry) (xs : List Entry) (j : ℕ) (d : Entry) → AllByRecursion (λ y. entry_cmp x y ≡ Less) xs → j < length xs → entry_cmp x (get_or xs j d) ≡ Less
all_at x [] j d h l = absurd (omega arith)
all_at x (y ∷ ys) zero d h l = h.0
all_at x (y ∷ ys) (suc j) d h l = all_at x ys j d h.1 (omega arith)

pub rising : (xs : List Entry) (i j : ℕ) (d : Entry) → IsStrictlySortedBy entry_cmp xs → i < j → j < length xs → entry_cmp (get_or xs i d) (get_or xs j d) ≡ Less
unfolding IsStrictlySortedBy
rising [] i j d s l m = absurd (omega arith)
rising (x ∷ xs) i zero d s l m = absurd (omega arith)
rising (x ∷ xs) zero (suc j) d s l m = all_at x xs j d s.0 (omega arith)
rising (x ∷ xs) (suc i) (suc j) d s l m = rising xs i j d s.1 (omega arith) (omega arith)

pub parted : (es : List Entry) (column : ℕ) (path bytes : List ℕ) (low : Option ℤ) → IsStrictlySortedBy entry_cmp es → (i j : ℕ) (d : Entry) → i ≤ j → j < length es → is_before column path low bytes (get_or es j d) ≡ true → is_before column path low bytes (get_or es i d) ≡ true
parted es column path bytes low s i j d le within h =
    ⊎_elim (λ l. before_falls column path bytes low (get_or es i d) (get_or es j d) (rising es i j d s l within) h)
    (λ e. ap (λ n. is_before column path low bytes (get_or es n d)) e ∙ h)
    (less_or_same i j le)
  where
    less_or_same : (i j : ℕ) → i ≤ j → (i < j) ⊎ (i ≡ j)
    less_or_same zero zero h = inr refl
    less_or_same zero (suc j) h = inl (omega arith)
    less_or_same (suc i) zero h = absurd (omega arith)
    less_or_same (suc i) (suc j) h = ⊎_elim (λ l. inl (omega arith)) (λ e. inr (ap suc e)) (less_or_same i j (omega arith))

-- what a search found
pub record Found (es : List Entry) (r : ℕ) (test : Entry → Bool) : Type 0 where
  pub within : r ≤ length es
  pub before : (k : ℕ) (d : Entry) → k < r → test (get_or es k d) ≡ true
  pub after : (k : ℕ) (d : Entry) → r ≤ k → k < length es → test (get_or es k d) ≡ false

pub any_false : (t : Entry → Bool) (xs : List Entry) → ((k : ℕ) (d : Entry) → k < length xs → t (get_or xs k d) ≡ false) → list_any t xs ≡ false
any_false t [] h = refl
any_false t (x ∷ xs) h = or_false (t x) (list_any t xs) (h 0 x (omega arith)) (any_false t xs (λ k d l. h (suc k) d (omega arith)))
  where
    or_false : (a b : Bool) → a ≡ false → b ≡ false → (a || b) ≡ false
    or_false false b p q = q
    or_false true b p q = absurd (Prim.cc p)

any_true : (t : Entry → Bool) (xs : List Entry) (k : ℕ) (d : Entry) → k < length xs → t (get_or xs k d) ≡ true → list_any t xs ≡ true
any_true t [] k d l h = absurd (omega arith)
any_true t (x ∷ xs) zero d l h = ap (λ b. b || list_any t xs) h
any_true t (x ∷ xs) (suc k) d l h = or_right (t x) (list_any t xs) (any_true t xs k d (omega arith) h)
  where
    or_right : (a b : Bool) → b ≡ true → (a || b) ≡ true
    or_right true b p = refl
    or_right false b p = p

pub none_asked : (q : Probe) (es : List Entry) (r : ℕ) → Found es r (asked_before q) → length es ≤ r → false ≡ list_any (inside q) es
none_asked q es r f past = sym (any_false (inside q) es (λ k d l. not_before q (get_or es k d) (f.before k d (omega arith))))

pub three_ways : (i j : ℕ) → (i < j) ⊎ ((i ≡ j) ⊎ (j < i))
three_ways zero zero = inr (inl refl)
three_ways zero (suc j) = inl (omega arith)
three_ways (suc i) zero = inr (inr (omega arith))
three_ways (suc i) (suc j) = ⊎_elim (λ l. inl (omega arith)) (λ e. ⊎_elim (λ q. inr (inl (ap suc q))) (λ l. inr (inr (omega arith))) e) (three_ways i j)

not_true : (b : Bool) → (b ≡ true → ⊥) → b ≡ false
not_true true h = absurd (h refl)
not_true false h = refl

pub one_asked : (q : Probe) (es : List Entry) (r : ℕ) (x : Entry) → IsStrictlySortedBy entry_cmp es → Found es r (asked_before q) → r < length es → x ≡ get_or es r x → inside q x ≡ list_any (inside q) es
one_asked q es r x s f within at = go (inside q x) refl
  where
    go : (b : Bool) → inside q x ≡ b → b ≡ list_any (inside q) es
    go true e = sym (any_true (inside q) es r x within (ap (inside q) (sym at) ∙ e))
    go false e =
        sym (any_false (inside q) es (λ k d l.
        ⊎_elim (λ low. not_before q (get_or es k d) (f.before k d low))
        (λ o. ⊎_elim
        (λ same. ap (λ n. inside q (get_or es n d)) same ∙ ap (inside q) (get_or_default es r d x within ∙ sym at) ∙ e)
        (λ high. not_true (inside q (get_or es k d)) (λ there.
        no_both (inside q (get_or es r d)) (earlier_inside q (get_or es r d) (get_or es k d) (rising es r k d s high l) (f.after r d (omega arith) within) there)
        (ap (inside q) (get_or_default es r d x within ∙ sym at) ∙ e)))
        o)
        (three_ways k r)))

-- ---- an entry of a column and a path

tied : (column : ℕ) (path : List ℕ) (e : Entry) → column_of e ≡ column → path_of e ≡ path → is_before column path None [] e ≡ false
tied column path e c h =
    ap₂ (λ m w. is_gt (ordering_then (nat_cmp m (column_of e)) (ordering_then (slice_cmp nat_cmp w (path_of e)) Equal))) (sym c) (sym h)
    ∙ ap₂ (λ x y. is_gt (ordering_then x (ordering_then y Equal))) (tied_itself nat_cmp_total (column_of e)) (tied_itself (lists_total nat_cmp_total) (path_of e))

both_ways : (a b : Ordering) → a ≡ ordering_reverse b → is_gt a ≡ false → is_gt b ≡ false → a ≡ Equal
both_ways Equal b e p q = refl
both_ways Less Greater e p q = absurd (Prim.cc q)
both_ways Less Less e p q = absurd (Prim.cc e)
both_ways Less Equal e p q = absurd (Prim.cc e)
both_ways Greater b e p q = absurd (Prim.cc p)

-- between an entry and a later one of this column and path
squeezed : (column : ℕ) (path : List ℕ) (x e : Entry) → entry_cmp x e ≡ Less → is_before column path None [] x ≡ false → column_of e ≡ column → path_of e ≡ path → is_at x column path ≡ true
squeezed column path x e less here c h =
    let m : Key = (column, (path, (pos 0, []))) in
    let low : is_gt (place_cmp m (key x)) ≡ false = sym (ap (λ o. is_gt (ordering_then (nat_cmp column (column_of x)) o)) (then_none (slice_cmp nat_cmp path (path_of x)))) ∙ here in
    let high : is_gt (place_cmp (key x) m) ≡ false = ap₂ (λ a b. is_gt (ordering_then (nat_cmp (column_of x) a) (slice_cmp nat_cmp (path_of x) b))) (sym c) (sym h) ∙ place_rises x e less in
    let same = both_ways (place_cmp m (key x)) (place_cmp (key x) m) (place_total.antisymm m (key x)) low high in
    let both = then_equal (nat_cmp column (column_of x)) (slice_cmp nat_cmp path (path_of x)) same in
    let col : column ≡ column_of x = ranked column (column_of x) Equal (sym both.0) in
    let way : path ≡ path_of x = bytes_equal path (path_of x) both.1 in
    ap₂ (λ a b. a && b) (eq-eqb (column_of x) column (sym col)) ((bytes_eq-Decides (path_of x) path).1 (sym way))

pub no_entry : (es : List Entry) (r column : ℕ) (path : List ℕ) → Found es r (is_before column path None []) → length es ≤ r → (e : Entry) → Contains es e → path_of e ≡ path → column_of e ≢ column
no_entry es r column path f past e there h c =
    no_both (is_before column path None [] e) (ap (is_before column path None []) (sym there.2) ∙ f.before there.0 e (omega (arith, there.1))) (tied column path e c h)

pub other_entry : (es : List Entry) (r column : ℕ) (path : List ℕ) (x : Entry) → IsStrictlySortedBy entry_cmp es → Found es r (is_before column path None []) → r < length es → x ≡ get_or es r x → is_at x column path ≡ false
    → (e : Entry) → Contains es e → path_of e ≡ path → column_of e ≢ column
other_entry es r column path x s f within at other e there h c =
    ⊎_elim
    (λ low. no_both (is_before column path None [] e) (ap (is_before column path None []) (sym there.2) ∙ f.before there.0 e low) (tied column path e c h))
    (λ o. ⊎_elim
    (λ same. let z : x ≡ e = at ∙ get_or_default es r x e within ∙ ap (λ n. get_or es n e) (sym same) ∙ there.2 in
    no_both (is_at x column path) (ap₂ (λ a b. a && b) (eq-eqb (column_of x) column (ap column_of z ∙ c)) ((bytes_eq-Decides (path_of x) path).1 (ap path_of z ∙ h))) other)
    (λ high. no_both (is_at x column path)
    (squeezed column path x e
    (subst (λ y. entry_cmp y e ≡ Less) (get_or_default es r e x within ∙ sym at) (subst (λ y. entry_cmp (get_or es r e) y ≡ Less) there.2 (rising es r there.0 e s high there.1)))
    (ap (is_before column path None []) at ∙ f.after r x (omega arith) within) c h) other)
    o)
    (three_ways there.0 r)

pub entry_is : (es : List Entry) (r column : ℕ) (path : List ℕ) (x : Entry) → r < length es → x ≡ get_or es r x → is_at x column path ≡ true → Contains es x × (path_of x ≡ path) × (column_of x ≡ column)
entry_is es r column path x within at h =
    let both = and_parts (column_of x == column) (bytes_eq (path_of x) path) h in
    ((r, within, sym at), (bytes_eq-Decides (path_of x) path).0 both.1, eqb-true (column_of x) column both.0)

-- ---- from the calls

pub got : (es : List Entry) (r : ℕ) (x : Entry) → Some x ≡ slice_get es r → (r < length es) × (x ≡ get_or es r x)
got es r x h = (slice_get_within es r x (sym h), sym (get_or_from_slice_get es r x x (sym h)))

pub past_all : (es : List Entry) (r : ℕ) → None ≡ slice_get es r → length es ≤ r
past_all [] r h = omega arith
past_all (x ∷ xs) zero h = absurd (Prim.cc h)
past_all (x ∷ xs) (suc r) h = let z = past_all xs r h in omega arith

pub found_for : (q : Probe) (es : List Entry) (r column : ℕ) (path bytes : List ℕ) (low : Option ℤ) → column ≡ column_asked q → path ≡ path_asked q → low ≡ low_number q → bytes ≡ low_bytes q → r ≤ length es
    → ((k : ℕ) (d : Entry) → k < r → is_before column path low bytes (get_or es k d) ≡ true) → ((k : ℕ) (d : Entry) → r ≤ k → k < length es → is_before column path low bytes (get_or es k d) ≡ false)
    → Found es r (asked_before q)
found_for q es r column path bytes low c w l b within before after =
    let same : (e : Entry) → asked_before q e ≡ is_before column path low bytes e = λ e. λ i. is_before (sym c i) (sym w i) (sym l i) (sym b i) e in
    record { within = within; before = λ k d h. same (get_or es k d) ∙ before k d h; after = λ k d h m. same (get_or es k d) ∙ after k d h m }
