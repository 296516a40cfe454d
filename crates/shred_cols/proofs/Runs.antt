-- The run of entries that say what is kept at a path.
use Rattle.std.proofs.Common.{◌≡◌, ◌<◌, ◌≤◌, ◌+◌, ◌-◌, ◌&&◌, ◌||◌, ⊎_elim, ℕ, ℤ, pos, zero, suc, Bool, true, false, List, [], ◌∷◌, length, get_or, take, drop, Option, Some, None, refl, sym, ◌∙◌, ap, arith}
use Rattle.std.specs.declared.cmp.Ordering.{Ordering}
use Rattle.std.specs.declared.cmp.Ordering.TheVariants.{Less, Equal, Greater}
use Rattle.std.specs.Ordering.{nat_cmp, int_cmp, ordering_then, is_gt}
use Rattle.std.specs.Cmp.Lexicographic.{slice_cmp}
use Rattle.std.specs.Str.{bytes_eq}
use Rattle.std.specs.List.{list_any, list_all}
use Rattle.std.proofs.lemmas.Cmp.{lists_total, nat_cmp_total, tied_itself}
use Rattle.std.proofs.lemmas.Slice.Eq.{bytes_eq-Decides}
use Rattle.shred_cols.specs.Entry.{path_of, column_of}
use Rattle.shred_cols.specs.Order.{kept_number, kept_bytes}
use Rattle.shred_cols.specs.Probe.{inside, same_kept, is_kept_at}
use Rattle.shred_cols.specs.Search.{is_before, end_cmp}
use Rattle.shred_cols.specs.declared.entry.Entry.{Entry}
use Rattle.shred_cols.specs.declared.entry.Entry.TheVariants as v
use Rattle.shred_cols.specs.declared.forms.Kept.{Kept}
use Rattle.shred_cols.specs.declared.forms.Kept.TheVariants.{Whole, Digest}
use Rattle.shred_cols.specs.declared.probe.Probe.TheVariants as p
use Rattle.shred_cols.proofs.Apart.{bytes_equal}
use Rattle.shred_cols.proofs.Seeking.{Found, no_both, not_before, any_false, three_ways}

widen : (a b x : Ordering) → is_gt (ordering_then a (ordering_then b Equal)) ≡ true → is_gt (ordering_then a (ordering_then b x)) ≡ true
widen Less b x h = absurd (Prim.cc h)
widen Greater b x h = refl
widen Equal Less x h = absurd (Prim.cc h)
widen Equal Equal x h = absurd (Prim.cc h)
widen Equal Greater x h = refl

before_wider : (column : ℕ) (path bytes : List ℕ) (low : Option ℤ) (e : Entry) → is_before column path None [] e ≡ true → is_before column path low bytes e ≡ true
before_wider column path bytes low e h = widen (nat_cmp column (column_of e)) (slice_cmp nat_cmp path (path_of e)) (end_cmp low bytes e) h

low_out : (path : List ℕ) (k : Kept) (e : Entry) → is_before 3 path None [] e ≡ true → inside (p.Has path k) e ≡ false
low_out path k e h = not_before (p.Has path k) e (before_wider 3 path (kept_bytes k) (Some (kept_number k)) e h)

over_two : (l : Kept) (x : Ordering) → is_gt (ordering_then (int_cmp (pos 2) (kept_number l)) x) ≡ true
over_two (Whole t) x = refl
over_two (Digest d) x = refl

has_before : (path b : List ℕ) (l : Kept) → path ≡ b → is_before 3 path (Some (pos 2)) [] (v.Has b l) ≡ true
has_before path b l e =
    ap (λ o. is_gt (ordering_then o (ordering_then (int_cmp (pos 2) (kept_number l)) (slice_cmp nat_cmp [] (kept_bytes l))))) (sym (ap (λ w. slice_cmp nat_cmp w b) (sym e)) ∙ tied_itself (lists_total nat_cmp_total) b)
    ∙ over_two l (slice_cmp nat_cmp [] (kept_bytes l))

high_has : (path b : List ℕ) (k l : Kept) (t : Bool) → bytes_eq path b ≡ t → is_before 3 path (Some (pos 2)) [] (v.Has b l) ≡ false → (t && same_kept k l) ≡ false
high_has path b k l false e h = refl
high_has path b k l true e h = absurd (no_both (is_before 3 path (Some (pos 2)) [] (v.Has b l)) (has_before path b l ((bytes_eq-Decides path b).0 e)) h)

high_out : (path : List ℕ) (k : Kept) (e : Entry) → is_before 3 path (Some (pos 2)) [] e ≡ false → inside (p.Has path k) e ≡ false
high_out path k (v.Has b l) h = high_has path b k l (bytes_eq path b) refl h
high_out path k (v.Exists b) h = refl
high_out path k (v.Size b n) h = refl
high_out path k (v.Bool b x) h = refl
high_out path k (v.Num b n) h = refl
high_out path k (v.Text b t) h = refl
high_out path k (v.Date b d) h = refl
high_out path k (v.Null b) h = refl

same_way : (o x : Ordering) → is_gt (ordering_then o Equal) ≡ false → is_gt (ordering_then o x) ≡ true → o ≡ Equal
same_way Equal x a b = refl
same_way Less x a b = absurd (Prim.cc b)
same_way Greater x a b = absurd (Prim.cc a)

between_is : (path : List ℕ) (e : Entry) → is_before 3 path None [] e ≡ false → is_before 3 path (Some (pos 2)) [] e ≡ true → is_kept_at path e ≡ true
between_is path (v.Has b l) h g = (bytes_eq-Decides path b).1 (bytes_equal path b (same_way (slice_cmp nat_cmp path b) (ordering_then (int_cmp (pos 2) (kept_number l)) (slice_cmp nat_cmp [] (kept_bytes l))) h g))
between_is path (v.Exists b) h g = absurd (Prim.cc h)
between_is path (v.Size b n) h g = absurd (Prim.cc h)
between_is path (v.Bool b x) h g = absurd (Prim.cc g)
between_is path (v.Num b n) h g = absurd (Prim.cc g)
between_is path (v.Text b t) h g = absurd (Prim.cc g)
between_is path (v.Date b d) h g = absurd (Prim.cc g)
between_is path (v.Null b) h g = absurd (Prim.cc g)

-- ---- a part of a list

or_false : (a b : Bool) → a ≡ false → (a || b) ≡ b
or_false false b h = refl
or_false true b h = absurd (Prim.cc h)

take_any : (t : Entry → Bool) (es : List Entry) (b : ℕ) → ((k : ℕ) (d : Entry) → b ≤ k → k < length es → t (get_or es k d) ≡ false) → list_any t (take b es) ≡ list_any t es
take_any t [] zero h = refl
take_any t [] (suc b) h = refl
take_any t (x ∷ xs) zero h = sym (any_false t (x ∷ xs) (λ k d l. h k d (omega arith) l))
take_any t (x ∷ xs) (suc b) h = ap (λ r. t x || r) (take_any t xs b (λ k d l m. h (suc k) d (omega arith) (omega arith)))

pub cut_any : (t : Entry → Bool) (es : List Entry) (a n : ℕ) → ((k : ℕ) (d : Entry) → k < a → t (get_or es k d) ≡ false) → ((k : ℕ) (d : Entry) → a + n ≤ k → k < length es → t (get_or es k d) ≡ false) → a ≤ length es
    → list_any t (take n (drop a es)) ≡ list_any t es
cut_any t es zero n low high within = take_any t es n (λ k d l m. high k d (omega arith) m)
cut_any t [] (suc a) n low high within = absurd (omega arith)
cut_any t (x ∷ xs) (suc a) n low high within =
    cut_any t xs a n (λ k d l. low (suc k) d (omega arith)) (λ k d l m. high (suc k) d (omega arith) (omega arith)) (omega arith) ∙ sym (or_false (t x) (list_any t xs) (low 0 x (omega arith)))

take_every : (t : Entry → Bool) (es : List Entry) (n : ℕ) → n ≤ length es → ((k : ℕ) (d : Entry) → k < n → t (get_or es k d) ≡ true) → list_all t (take n es) ≡ true
take_every t [] zero l h = refl
take_every t [] (suc n) l h = absurd (omega arith)
take_every t (x ∷ xs) zero l h = refl
take_every t (x ∷ xs) (suc n) l h = both (t x) (list_all t (take n xs)) (h 0 x (omega arith)) (take_every t xs n (omega arith) (λ k d m. h (suc k) d (omega arith)))
  where
    both : (a b : Bool) → a ≡ true → b ≡ true → (a && b) ≡ true
    both true b p q = q
    both false b p q = absurd (Prim.cc p)

cut_every : (t : Entry → Bool) (es : List Entry) (a n : ℕ) → a + n ≤ length es → ((k : ℕ) (d : Entry) → a ≤ k → k < a + n → t (get_or es k d) ≡ true) → list_all t (take n (drop a es)) ≡ true
cut_every t es zero n l h = take_every t es n (omega arith) (λ k d m. h k d (omega arith) (omega arith))
cut_every t [] (suc a) n l h = absurd (omega arith)
cut_every t (x ∷ xs) (suc a) n l h = cut_every t xs a n (omega arith) (λ k d m j. h (suc k) d (omega arith) (omega arith))

-- ---- the run

pub ends_in_order : (es : List Entry) (path : List ℕ) (low high : ℕ) → Found es low (is_before 3 path None []) → Found es high (is_before 3 path (Some (pos 2)) []) → low ≤ high
ends_in_order es path low high f g =
    ⊎_elim (λ l. omega arith) (λ o. ⊎_elim (λ e. omega (arith, e)) (λ l. absurd (first l)) o) (three_ways low high)
  where
    first : high < low → ⊥
    first l =
        let d : Entry = v.Null [] in
        no_both (is_before 3 path (Some (pos 2)) [] (get_or es high d)) (before_wider 3 path [] (Some (pos 2)) (get_or es high d) (f.before high d l)) (g.after high d (omega arith) (omega (arith, f.within, l)))

pub run_any : (es : List Entry) (path : List ℕ) (low high : ℕ) (k : Kept) → Found es low (is_before 3 path None []) → Found es high (is_before 3 path (Some (pos 2)) []) → low ≤ high
    → list_any (inside (p.Has path k)) (take (high - low) (drop low es)) ≡ list_any (inside (p.Has path k)) es
run_any es path low high k f g le =
    cut_any (inside (p.Has path k)) es low (high - low) (λ i d l. low_out path k (get_or es i d) (f.before i d l)) (λ i d l m. high_out path k (get_or es i d) (g.after i d (omega (arith, le)) m)) f.within

pub run_every : (es : List Entry) (path : List ℕ) (low high : ℕ) → Found es low (is_before 3 path None []) → Found es high (is_before 3 path (Some (pos 2)) []) → low ≤ high
    → list_all (is_kept_at path) (take (high - low) (drop low es)) ≡ true
run_every es path low high f g le =
    cut_every (is_kept_at path) es low (high - low) (omega (arith, g.within, le)) (λ i d l m. between_is path (get_or es i d) (f.after i d l (omega (arith, g.within, le))) (g.before i d (omega (arith, le))))
