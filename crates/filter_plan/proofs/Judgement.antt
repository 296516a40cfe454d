-- The verdict of a plan is a judgement of the filter.
use Rattle.std.proofs.Common.{◌≡◌, ◌<◌, ◌^◌, inl, inr, ℕ, Bool, true, false, ◌||◌, not, List, map, nat_lt, Option, Some, None, is_some, refl, sym, ◌∙◌, ap, ap₂, subst, arith}
use Rattle.std.specs.Ordering.{is_lt, is_le, is_gt, is_ge}
use Rattle.std.proofs.lemmas.Bool.{and_parts}
use Rattle.json_tree.specs.Tree.{Tree, null, boolean, number, text, date, list, object, Elements, Members}
use Rattle.doc_paths.specs.At.{at}
use Rattle.doc_paths.specs.Text.{parts}
use Rattle.filter_tree.specs.Paths.{is_path}
use Rattle.shred_cols.specs.Probe.{meets}
use Rattle.shred_cols.specs.Columns.{IsColumns}
use Rattle.shred_cols.specs.declared.entry.Entry.{Entry}
use Rattle.shred_cols.specs.declared.probe.Probe.TheVariants as p
use Rattle.filter_tree.specs.Filters.{TestTree, eq, ne, gt, gte, lt, lte, among, not_among, exists, every, size, FilterTree, FilterTrees, no_filters, filter}
use Rattle.filter_tree.specs.Filters as f
use Rattle.filter_tree.specs.Matches.{ordered, passes, holds, matches, all_match, any_matches}
use Rattle.filter_plan.specs.Steps.{steps_of, inverse, both, either, of_probe, verdict, all_verdict, any_verdict}
use Rattle.filter_plan.specs.Planned.{has, above, above_or_same, below, below_or_same, condition, planned, all_planned}
use Rattle.filter_plan.specs.Judging.{front_stands, is_open, CanBe, AllCanBe, AnyCanBe, Judged}
use Rattle.filter_tree.specs.Ready.{is_ready, are_ready, is_ready_test}
use Rattle.filter_plan.specs.declared.step.Verdict.{Verdict}
use Rattle.filter_plan.specs.declared.step.Verdict.TheVariants.{Yes, No, Look}
use Rattle.filter_plan.proofs.Found.{left_true, right_true, both_true, exists_meets, size_meets, num_meets, date_meets}
use Rattle.filter_plan.proofs.Tells.{Tells, tells_at, tells_not, tells_probe, has_tells, any_tells, all_tells, strict_tells, only, only_not, num_gt, num_lt, num_ge, num_le, date_gt, date_lt, date_ge, date_le, left_false, right_false}
use Rattle.json_tree.specs.Writable.{IsWritable}
use Rattle.filter_tree.specs.Ready.{TestIsWritable, FilterIsWritable, FiltersAreWritable}
use Rattle.filter_plan.proofs.Keeping.{Told}
use Rattle.filter_plan.proofs.Texts.{gt_tells, lt_tells, ge_tells, le_tells}

small : (n : ℕ) → nat_lt n (2 ^ 32) ≡ true → n < 2 ^ 32
small n h = grind (arith, h)

no_order_null : (v : Option Tree) → ordered v null ≡ None
no_order_null None = refl
no_order_null (Some null) = refl
no_order_null (Some (boolean x)) = refl
no_order_null (Some (number x)) = refl
no_order_null (Some (text x)) = refl
no_order_null (Some (date x)) = refl
no_order_null (Some (list x)) = refl
no_order_null (Some (object x)) = refl

no_order_boolean : (v : Option Tree) (b : Bool) → ordered v (boolean b) ≡ None
no_order_boolean None b = refl
no_order_boolean (Some null) b = refl
no_order_boolean (Some (boolean x)) b = refl
no_order_boolean (Some (number x)) b = refl
no_order_boolean (Some (text x)) b = refl
no_order_boolean (Some (date x)) b = refl
no_order_boolean (Some (list x)) b = refl
no_order_boolean (Some (object x)) b = refl

no_order_list : (v : Option Tree) (ts : Elements) → ordered v (list ts) ≡ None
no_order_list None ts = refl
no_order_list (Some null) ts = refl
no_order_list (Some (boolean x)) ts = refl
no_order_list (Some (number x)) ts = refl
no_order_list (Some (text x)) ts = refl
no_order_list (Some (date x)) ts = refl
no_order_list (Some (list x)) ts = refl
no_order_list (Some (object x)) ts = refl

no_order_object : (v : Option Tree) (ms : Members) → ordered v (object ms) ≡ None
no_order_object None ms = refl
no_order_object (Some null) ms = refl
no_order_object (Some (boolean x)) ms = refl
no_order_object (Some (number x)) ms = refl
no_order_object (Some (text x)) ms = refl
no_order_object (Some (date x)) ms = refl
no_order_object (Some (list x)) ms = refl
no_order_object (Some (object x)) ms = refl

above_tells : (d : Tree) (c : List Entry) (q : List ℕ) (x : Tree) → Told d → IsWritable x → IsColumns d c → is_path q ≡ true → Tells (verdict c (above q x)) (passes is_gt (ordered (at d (parts q)) x)) (front_stands c q x)
above_tells d c q (number n) wd wx are path =
    let v = at d (parts q) in
    tells_at _ _ _ false (num_gt v n)
    (strict_tells (meets (p.NumRange q (Some n) None) c) (meets (p.NumRange q (Some n) (Some n)) c) _ _ false (num_meets d c q (Some n) None are path) (num_meets d c q (Some n) (Some n) are path))
above_tells d c q (date n) wd wx are path =
    let v = at d (parts q) in
    tells_at _ _ _ false (date_gt v n)
    (strict_tells (meets (p.DateRange q (Some n) None) c) (meets (p.DateRange q (Some n) (Some n)) c) _ _ false (date_meets d c q (Some n) None are path) (date_meets d c q (Some n) (Some n) are path))
above_tells d c q (text t) wd wx are path = gt_tells d c q t wd wx are path
above_tells d c q null wd wx are path = ap (passes is_gt) (no_order_null (at d (parts q)))
above_tells d c q (boolean b) wd wx are path = ap (passes is_gt) (no_order_boolean (at d (parts q)) b)
above_tells d c q (list ts) wd wx are path = ap (passes is_gt) (no_order_list (at d (parts q)) ts)
above_tells d c q (object ms) wd wx are path = ap (passes is_gt) (no_order_object (at d (parts q)) ms)

below_tells : (d : Tree) (c : List Entry) (q : List ℕ) (x : Tree) → Told d → IsWritable x → IsColumns d c → is_path q ≡ true → Tells (verdict c (below q x)) (passes is_lt (ordered (at d (parts q)) x)) (front_stands c q x)
below_tells d c q (number n) wd wx are path =
    let v = at d (parts q) in
    tells_at _ _ _ false (num_lt v n)
    (strict_tells (meets (p.NumRange q None (Some n)) c) (meets (p.NumRange q (Some n) (Some n)) c) _ _ false (num_meets d c q None (Some n) are path) (num_meets d c q (Some n) (Some n) are path))
below_tells d c q (date n) wd wx are path =
    let v = at d (parts q) in
    tells_at _ _ _ false (date_lt v n)
    (strict_tells (meets (p.DateRange q None (Some n)) c) (meets (p.DateRange q (Some n) (Some n)) c) _ _ false (date_meets d c q None (Some n) are path) (date_meets d c q (Some n) (Some n) are path))
below_tells d c q (text t) wd wx are path = lt_tells d c q t wd wx are path
below_tells d c q null wd wx are path = ap (passes is_lt) (no_order_null (at d (parts q)))
below_tells d c q (boolean b) wd wx are path = ap (passes is_lt) (no_order_boolean (at d (parts q)) b)
below_tells d c q (list ts) wd wx are path = ap (passes is_lt) (no_order_list (at d (parts q)) ts)
below_tells d c q (object ms) wd wx are path = ap (passes is_lt) (no_order_object (at d (parts q)) ms)

above_or_same_tells : (d : Tree) (c : List Entry) (q : List ℕ) (x : Tree) → Told d → IsWritable x → IsColumns d c → is_path q ≡ true → Tells (verdict c (above_or_same q x)) (passes is_ge (ordered (at d (parts q)) x)) (front_stands c q x)
above_or_same_tells d c q (number n) wd wx are path = tells_probe (meets (p.NumRange q (Some n) None) c) _ false (num_meets d c q (Some n) None are path ∙ num_ge (at d (parts q)) n)
above_or_same_tells d c q (date n) wd wx are path = tells_probe (meets (p.DateRange q (Some n) None) c) _ false (date_meets d c q (Some n) None are path ∙ date_ge (at d (parts q)) n)
above_or_same_tells d c q (text t) wd wx are path = ge_tells d c q t wd wx are path
above_or_same_tells d c q null wd wx are path = ap (passes is_ge) (no_order_null (at d (parts q)))
above_or_same_tells d c q (boolean b) wd wx are path = ap (passes is_ge) (no_order_boolean (at d (parts q)) b)
above_or_same_tells d c q (list ts) wd wx are path = ap (passes is_ge) (no_order_list (at d (parts q)) ts)
above_or_same_tells d c q (object ms) wd wx are path = ap (passes is_ge) (no_order_object (at d (parts q)) ms)

below_or_same_tells : (d : Tree) (c : List Entry) (q : List ℕ) (x : Tree) → Told d → IsWritable x → IsColumns d c → is_path q ≡ true → Tells (verdict c (below_or_same q x)) (passes is_le (ordered (at d (parts q)) x)) (front_stands c q x)
below_or_same_tells d c q (number n) wd wx are path = tells_probe (meets (p.NumRange q None (Some n)) c) _ false (num_meets d c q None (Some n) are path ∙ num_le (at d (parts q)) n)
below_or_same_tells d c q (date n) wd wx are path = tells_probe (meets (p.DateRange q None (Some n)) c) _ false (date_meets d c q None (Some n) are path ∙ date_le (at d (parts q)) n)
below_or_same_tells d c q (text t) wd wx are path = le_tells d c q t wd wx are path
below_or_same_tells d c q null wd wx are path = ap (passes is_le) (no_order_null (at d (parts q)))
below_or_same_tells d c q (boolean b) wd wx are path = ap (passes is_le) (no_order_boolean (at d (parts q)) b)
below_or_same_tells d c q (list ts) wd wx are path = ap (passes is_le) (no_order_list (at d (parts q)) ts)
below_or_same_tells d c q (object ms) wd wx are path = ap (passes is_le) (no_order_object (at d (parts q)) ms)

-- ---- one condition

condition_tells : (d : Tree) (c : List Entry) (q : List ℕ) (test : TestTree) → Told d → TestIsWritable test → IsColumns d c → is_path q ≡ true → is_ready_test test ≡ true
    → Tells (verdict c (condition q test)) (holds test (at d (parts q))) (is_open c q test)
condition_tells d c q (eq x) wd wt are path fits = has_tells d c q x wd wt are path
condition_tells d c q (ne x) wd wt are path fits = tells_not (verdict c (has q x)) _ _ (has_tells d c q x wd wt are path)
condition_tells d c q (gt x) wd wt are path fits = above_tells d c q x wd wt are path
condition_tells d c q (gte x) wd wt are path fits = above_or_same_tells d c q x wd wt are path
condition_tells d c q (lt x) wd wt are path fits = below_tells d c q x wd wt are path
condition_tells d c q (lte x) wd wt are path fits = below_or_same_tells d c q x wd wt are path
condition_tells d c q (among xs) wd wt are path fits = any_tells d c q xs wd wt are path
condition_tells d c q (not_among xs) wd wt are path fits = tells_not (any_verdict c (steps_of (map (has q) xs))) _ _ (any_tells d c q xs wd wt are path)
condition_tells d c q (exists true) wd wt are path fits =
    tells_probe (meets (p.Exists q) c) _ false (exists_meets d c q are path ∙ sym (only (is_some (at d (parts q)))))
condition_tells d c q (exists false) wd wt are path fits =
    tells_at (inverse (of_probe (meets (p.Exists q) c) true)) _ _ false (sym (only_not (is_some (at d (parts q)))))
    (tells_not (of_probe (meets (p.Exists q) c) true) (is_some (at d (parts q))) false (tells_probe (meets (p.Exists q) c) (is_some (at d (parts q))) false (exists_meets d c q are path)))
condition_tells d c q (every xs) wd wt are path fits = all_tells d c q xs wd wt are path
condition_tells d c q (size n) wd wt are path fits = tells_probe (meets (p.Size q n) c) _ false (size_meets d c q n are path (small n fits))

-- ---- filters

twice : (b : Bool) → not (not b) ≡ b
twice true = refl
twice false = refl

-- the filter's value on the document is one that it can have
mutual
  pub actual : (d : Tree) (c : List Entry) (g : FilterTree) → CanBe d c g (matches g d)
  actual d c (f.all gs) = all_actual d c gs
  actual d c (f.any gs) = any_actual d c gs
  actual d c (f.negated g) = subst (CanBe d c g) (sym (twice (matches g d))) (actual d c g)
  actual d c (f.on q test) = inr refl

  all_actual : (d : Tree) (c : List Entry) (gs : FilterTrees) → AllCanBe d c gs (all_match gs d)
  all_actual d c no_filters = refl
  all_actual d c (filter g gs) = (matches g d, all_match gs d, actual d c g, all_actual d c gs, refl)

  any_actual : (d : Tree) (c : List Entry) (gs : FilterTrees) → AnyCanBe d c gs (any_matches gs d)
  any_actual d c no_filters = refl
  any_actual d c (filter g gs) = (matches g d, any_matches gs d, actual d c g, any_actual d c gs, refl)

-- what a verdict says of any value, and of the values that it can have
abbrev pub Says : Verdict → Bool → (Bool → Type 0) → Type 0
Says Yes b Can = b ≡ true
Says No b Can = b ≡ false
Says Look b Can = Can true × Can false

says_both : (d : Tree) (c : List Entry) (g : FilterTree) (gs : FilterTrees) (v w : Verdict)
    → Says v (matches g d) (CanBe d c g) → Says w (all_match gs d) (AllCanBe d c gs) → Says (both v w) (all_match (filter g gs) d) (AllCanBe d c (filter g gs))
says_both d c g gs No w h k = left_false (matches g d) (all_match gs d) h
says_both d c g gs Yes Yes h k = both_true (matches g d) (all_match gs d) h k
says_both d c g gs Yes No h k = right_false (matches g d) (all_match gs d) k
says_both d c g gs Yes Look h k =
    let one : CanBe d c g true = subst (CanBe d c g) h (actual d c g) in ((true, true, one, k.0, refl), (true, false, one, k.1, refl))
says_both d c g gs Look Yes h k =
    let rest : AllCanBe d c gs true = subst (AllCanBe d c gs) k (all_actual d c gs) in ((true, true, h.0, rest, refl), (false, true, h.1, rest, refl))
says_both d c g gs Look No h k = right_false (matches g d) (all_match gs d) k
says_both d c g gs Look Look h k = ((true, true, h.0, k.0, refl), (false, false, h.1, k.1, refl))

says_either : (d : Tree) (c : List Entry) (g : FilterTree) (gs : FilterTrees) (v w : Verdict)
    → Says v (matches g d) (CanBe d c g) → Says w (any_matches gs d) (AnyCanBe d c gs) → Says (either v w) (any_matches (filter g gs) d) (AnyCanBe d c (filter g gs))
says_either d c g gs Yes w h k = left_true (matches g d) (any_matches gs d) h
says_either d c g gs No Yes h k = right_true (matches g d) (any_matches gs d) k
says_either d c g gs No No h k = ap₂ (λ x y. x || y) h k
says_either d c g gs No Look h k =
    let one : CanBe d c g false = subst (CanBe d c g) h (actual d c g) in ((false, true, one, k.0, refl), (false, false, one, k.1, refl))
says_either d c g gs Look Yes h k = right_true (matches g d) (any_matches gs d) k
says_either d c g gs Look No h k =
    let rest : AnyCanBe d c gs false = subst (AnyCanBe d c gs) k (any_actual d c gs) in ((true, false, h.0, rest, refl), (false, false, h.1, rest, refl))
says_either d c g gs Look Look h k = ((true, true, h.0, k.0, refl), (false, false, h.1, k.1, refl))

says_not : (d : Tree) (c : List Entry) (g : FilterTree) (v : Verdict) → Says v (matches g d) (CanBe d c g) → Says (inverse v) (not (matches g d)) (λ b. CanBe d c g (not b))
says_not d c g Yes h = ap not h
says_not d c g No h = ap not h
says_not d c g Look h = (h.1, h.0)

says_on : (d : Tree) (c : List Entry) (q : List ℕ) (test : TestTree) (v : Verdict) → Tells v (holds test (at d (parts q))) (is_open c q test)
    → Says v (matches (f.on q test) d) (CanBe d c (f.on q test))
says_on d c q test Yes h = h
says_on d c q test No h = h
says_on d c q test Look h = (inl h, inl h)

mutual
  judges : (d : Tree) (c : List Entry) (g : FilterTree) → Told d → FilterIsWritable g → IsColumns d c → is_ready g ≡ true → Says (verdict c (planned g)) (matches g d) (CanBe d c g)
  judges d c (f.all gs) wd wg are ready = judges_all d c gs wd wg are ready
  judges d c (f.any gs) wd wg are ready = judges_any d c gs wd wg are ready
  judges d c (f.negated g) wd wg are ready = says_not d c g (verdict c (planned g)) (judges d c g wd wg are ready)
  judges d c (f.on q test) wd wg are ready =
      let t = and_parts (is_path q) (is_ready_test test) ready in says_on d c q test (verdict c (condition q test)) (condition_tells d c q test wd wg are t.0 t.1)

  judges_all : (d : Tree) (c : List Entry) (gs : FilterTrees) → Told d → FiltersAreWritable gs → IsColumns d c → are_ready gs ≡ true → Says (all_verdict c (all_planned gs)) (all_match gs d) (AllCanBe d c gs)
  judges_all d c no_filters wd wg are ready = refl
  judges_all d c (filter g gs) wd wg are ready =
      let t = and_parts (is_ready g) (are_ready gs) ready in
      says_both d c g gs (verdict c (planned g)) (all_verdict c (all_planned gs)) (judges d c g wd wg.0 are t.0) (judges_all d c gs wd wg.1 are t.1)

  judges_any : (d : Tree) (c : List Entry) (gs : FilterTrees) → Told d → FiltersAreWritable gs → IsColumns d c → are_ready gs ≡ true → Says (any_verdict c (all_planned gs)) (any_matches gs d) (AnyCanBe d c gs)
  judges_any d c no_filters wd wg are ready = refl
  judges_any d c (filter g gs) wd wg are ready =
      let t = and_parts (is_ready g) (are_ready gs) ready in
      says_either d c g gs (verdict c (planned g)) (any_verdict c (all_planned gs)) (judges d c g wd wg.0 are t.0) (judges_any d c gs wd wg.1 are t.1)

judged_at : (d : Tree) (c : List Entry) (g : FilterTree) (v : Verdict) → Says v (matches g d) (CanBe d c g) → Judged d c g v
judged_at d c g Yes h = h
judged_at d c g No h = h
judged_at d c g Look h = h

pub judgement : (d : Tree) (c : List Entry) (g : FilterTree) (v : Verdict) → v ≡ verdict c (planned g) → Told d → FilterIsWritable g → IsColumns d c → is_ready g ≡ true → Judged d c g v
judgement d c g v e wd wg are ready = subst (Judged d c g) (sym e) (judged_at d c g (verdict c (planned g)) (judges d c g wd wg are ready))
