-- Where columns begin.
use Rattle.std.proofs.Common.{◌≡◌, ◌<◌, ◌≤◌, ◌+◌, ⊎_elim, inl, inr, ◌⊎◌, ℕ, ℤ, zero, suc, Bool, true, false, List, [], ◌∷◌, length, get_or, Option, refl, sym, ◌∙◌, ap, arith, nat_lt, lt-ltb, ltb-true, ltb-false}
use Rattle.std.specs.Ordering.{nat_cmp, ordering_then, is_gt}
use Rattle.std.specs.Cmp.Lexicographic.{slice_cmp}
use Rattle.std.specs.List.Sorted.{IsStrictlySortedBy, IsPartitionedBy, IsPartitionPoint}
use Rattle.std.specs.declared.cmp.Ordering.TheVariants.{Less, Equal, Greater}
use Rattle.std.proofs.lemmas.Map.Keys.{le_from_not_gt}
use Rattle.json_tree.specs.Bytes.{nat_less, nat_equal, nat_greater}
use Rattle.shred_cols.specs.Entry.{path_of, column_of}
use Rattle.shred_cols.specs.Order.{entry_cmp}
use Rattle.shred_cols.specs.Search.{is_before, is_short_of, end_cmp}
use Rattle.shred_cols.specs.Starts.{IsStart}
use Rattle.shred_cols.specs.declared.entry.Entry.{Entry}
use Rattle.shred_cols.specs.declared.entry.Entry.TheVariants as v
use Rattle.std.proofs.lemmas.List.{get_or_default}
use Rattle.shred_cols.proofs.Seeking.{rising, not_greater, parted, no_both}

column_rises : (e f : Entry) → entry_cmp e f ≡ Less → column_of e ≤ column_of f
column_rises e f h = le_from_not_gt (column_of e) (column_of f) (not_greater (nat_cmp (column_of e) (column_of f)) _ h)

-- the columns of entries in their order rise
pub columns_rise : (es : List Entry) → IsStrictlySortedBy entry_cmp es → (i j : ℕ) (d : Entry) → i ≤ j → j < length es → column_of (get_or es i d) ≤ column_of (get_or es j d)
columns_rise es s i j d le within =
    ⊎_elim (λ l. column_rises (get_or es i d) (get_or es j d) (rising es i j d s l within)) (λ e. let z : column_of (get_or es i d) ≡ column_of (get_or es j d) = ap (λ n. column_of (get_or es n d)) e in omega (arith, z)) (less_or_same i j le)
  where
    less_or_same : (i j : ℕ) → i ≤ j → (i < j) ⊎ (i ≡ j)
    less_or_same zero zero h = inr refl
    less_or_same zero (suc j) h = inl (omega arith)
    less_or_same (suc i) zero h = absurd (omega arith)
    less_or_same (suc i) (suc j) h = ⊎_elim (λ l. inl (omega arith)) (λ e. inr (ap suc e)) (less_or_same i j (omega arith))

pub at_least_one : (e : Entry) → 1 ≤ column_of e
at_least_one (v.Exists p) = omega arith
at_least_one (v.Size p n) = omega arith
at_least_one (v.Has p k) = omega arith
at_least_one (v.Bool p b) = omega arith
at_least_one (v.Num p n) = omega arith
at_least_one (v.Text p t) = omega arith
at_least_one (v.Date p d) = omega arith
at_least_one (v.Null p) = omega arith

pub at_most_eight : (e : Entry) → column_of e ≤ 8
at_most_eight (v.Exists p) = omega arith
at_most_eight (v.Size p n) = omega arith
at_most_eight (v.Has p k) = omega arith
at_most_eight (v.Bool p b) = omega arith
at_most_eight (v.Num p n) = omega arith
at_most_eight (v.Text p t) = omega arith
at_most_eight (v.Date p d) = omega arith
at_most_eight (v.Null p) = omega arith

-- the first columns begin at the front, and those past the last one at the end
pub first_start : (column : ℕ) (es : List Entry) → column ≤ 1 → IsStart column es 0
first_start column es le = record { within = omega arith; before = λ k d l. absurd (omega arith); after = λ k d l m. omega (arith, at_least_one (get_or es k d)) }

pub last_start : (column : ℕ) (es : List Entry) → 9 ≤ column → IsStart column es (length es)
last_start column es le = record { within = omega arith; before = λ k d l. omega (arith, at_most_eight (get_or es k d)); after = λ k d l m. absurd (omega arith) }

-- entries before a column are before all that it says, and those past it aren't
pub before_column : (column : ℕ) (path bytes : List ℕ) (low : Option ℤ) (e : Entry) → column_of e < column → is_before column path low bytes e ≡ true
before_column column path bytes low e l = ap (λ o. is_gt (ordering_then o (ordering_then (slice_cmp nat_cmp path (path_of e)) (end_cmp low bytes e)))) (nat_greater column (column_of e) l)

past_column : (column : ℕ) (path bytes : List ℕ) (low : Option ℤ) (e : Entry) → column < column_of e → is_before column path low bytes e ≡ false
past_column column path bytes low e l = ap (λ o. is_gt (ordering_then o (ordering_then (slice_cmp nat_cmp path (path_of e)) (end_cmp low bytes e)))) (nat_less column (column_of e) l)

pub start_before : (es : List Entry) (column place : ℕ) (path bytes : List ℕ) (low : Option ℤ) → IsStart column es place → (k : ℕ) (d : Entry) → k < place → is_before column path low bytes (get_or es k d) ≡ true
start_before es column place path bytes low s k d l = before_column column path bytes low (get_or es k d) (s.before k d l)

pub end_after : (es : List Entry) (column place : ℕ) (path bytes : List ℕ) (low : Option ℤ) → IsStart (column + 1) es place → (k : ℕ) (d : Entry) → place ≤ k → k < length es → is_before column path low bytes (get_or es k d) ≡ false
end_after es column place path bytes low s k d l m = past_column column path bytes low (get_or es k d) (omega (arith, s.after k d l m))

-- within the column
pub in_column : (es : List Entry) (column front back middle : ℕ) (path bytes : List ℕ) (low : Option ℤ) (x : Entry) → IsStart column es front → IsStart (column + 1) es back → front ≤ middle → middle < back → x ≡ get_or es middle x
    → is_before column path low bytes x ≡ is_short_of path low bytes x
in_column es column front back middle path bytes low x f b l m at =
    let same : column ≡ column_of x = omega (arith, f.after middle x l (omega (arith, b.within)), b.before middle x m, ap column_of at) in
    ap (λ o. is_gt (ordering_then o (ordering_then (slice_cmp nat_cmp path (path_of x)) (end_cmp low bytes x)))) (nat_equal column (column_of x) same)

not_true : (b : Bool) → (b ≡ true → ⊥) → b ≡ false
not_true false h = refl
not_true true h = absurd (h refl)

-- a step of the search
pub halved_before : (es : List Entry) (column middle : ℕ) (path bytes : List ℕ) (low : Option ℤ) (x : Entry) → IsStrictlySortedBy entry_cmp es → middle < length es → x ≡ get_or es middle x → is_before column path low bytes x ≡ true
    → (k : ℕ) (d : Entry) → k < middle + 1 → is_before column path low bytes (get_or es k d) ≡ true
halved_before es column middle path bytes low x s within at h k d l =
    parted es column path bytes low s k middle d (omega arith) within (ap (is_before column path low bytes) (sym (at ∙ get_or_default es middle x d within)) ∙ h)

pub halved_after : (es : List Entry) (column middle : ℕ) (path bytes : List ℕ) (low : Option ℤ) (x : Entry) → IsStrictlySortedBy entry_cmp es → middle < length es → x ≡ get_or es middle x → is_before column path low bytes x ≡ false
    → (k : ℕ) (d : Entry) → middle ≤ k → k < length es → is_before column path low bytes (get_or es k d) ≡ false
halved_after es column middle path bytes low x s within at h k d l m =
    not_true (is_before column path low bytes (get_or es k d)) (λ t.
    no_both (is_before column path low bytes x) (ap (is_before column path low bytes) (at ∙ get_or_default es middle x d within) ∙ parted es column path bytes low s middle k d l m t) h)

-- ---- a start that was found

pub columns_parted : (es : List Entry) (column : ℕ) → IsStrictlySortedBy entry_cmp es → IsPartitionedBy (λ e. nat_lt (column_of e) column) es
columns_parted es column s i j d le within h =
    lt-ltb (column_of (get_or es i d)) column (omega (arith, columns_rise es s i j d le within, ltb-true (column_of (get_or es j d)) column h))

pub start_from : (column : ℕ) (es : List Entry) (found place : ℕ) → found ≤ length es → IsPartitionPoint (λ y. nat_lt (column_of y) column ≡ true) (λ y. nat_lt (column_of y) column ≡ false) es found → found ≡ place → IsStart column es place
start_from column es found place bound point e =
    record {
      within = omega (arith, bound, e);
      before = λ k d l. ltb-true (column_of (get_or es k d)) column (point.0 k d (omega arith) (omega (arith, e)));
      after = λ k d l m. ltb-false (column_of (get_or es k d)) column (point.1 k d (omega (arith, e)) m);
    }
