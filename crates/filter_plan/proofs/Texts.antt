-- Orders of texts, by their fronts.
use Rattle.std.proofs.Common.{◌≡◌, inl, inr, ℕ, Bool, true, false, ◌&&◌, ◌||◌, not, List, Option, Some, None, is_some, refl, sym, ◌∙◌, ap, ap₂, subst}
use Rattle.std.specs.Str.{bytes_eq}
use Rattle.std.specs.Ordering.{nat_cmp, is_eq, is_lt, is_le, is_gt, is_ge}
use Rattle.std.specs.declared.cmp.Ordering.{Ordering}
use Rattle.std.specs.declared.cmp.Ordering.TheVariants.{Less, Equal, Greater}
use Rattle.std.specs.Cmp.Lexicographic.{slice_cmp}
use Rattle.std.proofs.lemmas.Map.Text.{is_eq-slice_cmp}
use Rattle.std.proofs.lemmas.Slice.Eq.{bytes_eq-Decides}
use Rattle.json_tree.specs.Tree.{Tree, null, boolean, number, text, date, list, object, elements_of}
use Rattle.doc_paths.specs.At.{at}
use Rattle.doc_paths.specs.Text.{parts}
use Rattle.filter_tree.specs.Paths.{is_path}
use Rattle.shred_cols.specs.Entry.{kept_of, key_of}
use Rattle.filter_plan.specs.Steps.{is_whole}
use Rattle.shred_cols.specs.Probe.{meets}
use Rattle.shred_cols.specs.Columns.{IsColumns}
use Rattle.shred_cols.specs.declared.entry.Entry.{Entry}
use Rattle.shred_cols.specs.declared.entry.Entry.TheVariants as e
use Rattle.shred_cols.specs.declared.probe.Probe.TheVariants as p
use Rattle.filter_tree.specs.Matches.{equals, ordered, passes}
use Rattle.filter_plan.specs.Steps.{inverse, both, either, of_probe, verdict}
use Rattle.filter_plan.specs.Planned.{has, texts, texts_or_same}
use Rattle.filter_plan.specs.Judging.{digest_stands, front_stands, is_like}
use Rattle.filter_plan.specs.declared.step.Verdict.{Verdict}
use Rattle.filter_plan.specs.declared.step.Verdict.TheVariants.{Yes, No, Look}
use Rattle.filter_plan.proofs.Keeping.{Told, whole_text, whole_front, front_order}
use Rattle.filter_plan.proofs.Found.{both_true, equals_at, at_has, text_meets, text_range, head_cmp, belongs_text, of_member}
use Rattle.json_tree.specs.Writable.{IsWritable}
use Rattle.filter_plan.proofs.Tells.{Tells, has_tells}

equal_texts : (s t : List ℕ) → slice_cmp nat_cmp s t ≡ Equal → s ≡ t
equal_texts s t e = (bytes_eq-Decides s t).0 (sym (is_eq-slice_cmp s t) ∙ ap is_eq e)

is_equal : (o : Ordering) → is_eq o ≡ true → o ≡ Equal
is_equal Equal h = refl
is_equal o h = cc

texts_equal : (s : List ℕ) → slice_cmp nat_cmp s s ≡ Equal
texts_equal s = is_equal (slice_cmp nat_cmp s s) (is_eq-slice_cmp s s ∙ (bytes_eq-Decides s s).1 refl)

ends_equal : (o : Ordering) → (is_ge o && is_le o) ≡ true → o ≡ Equal
ends_equal Equal h = refl
ends_equal o h = cc

-- ---- the verdict, from those of its parts

pub strict_verdict : (r s : Bool) (h : Verdict) (g o : Bool) → (s ≡ false → r ≡ g) → (s ≡ true → h ≡ Yes → g ≡ false) → (s ≡ true → (h ≡ Yes → ⊥) → o ≡ true)
    → Tells (either (both (of_probe r true) (both (inverse (of_probe s true)) Yes)) (either (both (of_probe s false) (both (inverse (both (of_probe s true) (both h Yes))) Yes)) No)) g o
strict_verdict true false h g o f1 f2 f3 = sym (f1 refl)
strict_verdict false false h g o f1 f2 f3 = sym (f1 refl)
strict_verdict true true Yes g o f1 f2 f3 = f2 refl refl
strict_verdict true true No g o f1 f2 f3 = f3 refl (λ e. Prim.cc e)
strict_verdict true true Look g o f1 f2 f3 = f3 refl (λ e. Prim.cc e)
strict_verdict false true Yes g o f1 f2 f3 = f2 refl refl
strict_verdict false true No g o f1 f2 f3 = f3 refl (λ e. Prim.cc e)
strict_verdict false true Look g o f1 f2 f3 = f3 refl (λ e. Prim.cc e)

pub same_verdict : (r s : Bool) (h : Verdict) (g o : Bool) → (s ≡ false → r ≡ g) → (s ≡ true → h ≡ Yes → g ≡ true) → (s ≡ true → (h ≡ Yes → ⊥) → o ≡ true)
    → Tells (either (both (of_probe r true) (both (inverse (of_probe s true)) Yes)) (either (both (of_probe s true) (both h Yes)) (either (of_probe s false) No))) g o
same_verdict true false h g o f1 f2 f3 = sym (f1 refl)
same_verdict false false h g o f1 f2 f3 = sym (f1 refl)
same_verdict true true Yes g o f1 f2 f3 = f2 refl refl
same_verdict true true No g o f1 f2 f3 = f3 refl (λ e. Prim.cc e)
same_verdict true true Look g o f1 f2 f3 = f3 refl (λ e. Prim.cc e)
same_verdict false true Yes g o f1 f2 f3 = f2 refl refl
same_verdict false true No g o f1 f2 f3 = f3 refl (λ e. Prim.cc e)
same_verdict false true Look g o f1 f2 f3 = f3 refl (λ e. Prim.cc e)

-- ---- the parts

-- the probe of the operand's own front
abbrev pub fronts : List ℕ → Option Tree → Bool
fronts t v = text_range (Some (key_of t)) (Some (key_of t)) v

-- where the fronts agree, the value is a text
like : (t : List ℕ) (v : Option Tree) → fronts t v ≡ true → (s : List ℕ) × (v ≡ Some (text s)) × (head_cmp (key_of s) (key_of t) ≡ Equal)
like t (Some (text s)) h = (s, refl, ends_equal (head_cmp (key_of s) (key_of t)) h)
like t v h = cc

-- where they agree and the operand stands there, it is the value
same_as : (d : Tree) (c : List Entry) (q t : List ℕ) → Told d → IsWritable (text t) → IsColumns d c → is_path q ≡ true → fronts t (at d (parts q)) ≡ true → verdict c (has q (text t)) ≡ Yes → at d (parts q) ≡ Some (text t)
same_as d c q t wd wt are path h sure =
    let l = like t (at d (parts q)) h in
    let e : equals (at d (parts q)) (text t) ≡ true = subst (λ w. Tells w (equals (at d (parts q)) (text t)) (digest_stands c q (text t))) sure (has_tells d c q (text t) wd wt are path) in
    elim (equals_at wd.alike (at d (parts q)) (text t) e) [ inl k ↦ k | inr (ts, i, k, at) ↦ (let clash : Some (text l.0) ≡ Some (list (elements_of ts)) = sym l.1 ∙ k in Prim.cc clash) ]

-- where they agree and the operand isn't known to stand there, the condition is open
opened : (d : Tree) (c : List Entry) (q t : List ℕ) → IsColumns d c → is_path q ≡ true → fronts t (at d (parts q)) ≡ true → (verdict c (has q (text t)) ≡ Yes → ⊥) → front_stands c q (text t) ≡ true
opened d c q t are path h unsure =
    let l = like t (at d (parts q)) h in
    let heads : (key_of l.0).0 ≡ (key_of t).0 = equal_texts (key_of l.0).0 (key_of t).0 l.2 in
    of_member (is_like q t) c (e.Text q (key_of l.0)) ((are.exact (e.Text q (key_of l.0))).1 (belongs_text d q l.0 path l.1))
    (both_true (bytes_eq q q) (bytes_eq (key_of l.0).0 (key_of t).0 && (is_some (key_of l.0).1 || is_some (key_of t).1)) ((bytes_eq-Decides q q).1 refl)
    (both_true (bytes_eq (key_of l.0).0 (key_of t).0) (is_some (key_of l.0).1 || is_some (key_of t).1) ((bytes_eq-Decides (key_of l.0).0 (key_of t).0).1 heads)
    (not_whole (is_some (key_of l.0).1) (is_some (key_of t).1) (λ a b. unsure (known l.0 l.1 heads a b)))))
  where
    not_whole : (a b : Bool) → (a ≡ false → b ≡ false → ⊥) → (a || b) ≡ true
    not_whole true b k = refl
    not_whole false true k = refl
    not_whole false false k = absurd (k refl refl)

    known : (s : List ℕ) → at d (parts q) ≡ Some (text s) → (key_of s).0 ≡ (key_of t).0 → is_some (key_of s).1 ≡ false → is_some (key_of t).1 ≡ false → verdict c (has q (text t)) ≡ Yes
    known s v heads a b =
        let st : s ≡ t = sym (whole_front s a) ∙ heads ∙ whole_front t b in
        let m : meets (p.Has q (kept_of (text t))) c ≡ true = at_has d c q (text t) are path (inl (v ∙ ap (λ x. Some (text x)) st)) in
        let w : is_whole (kept_of (text t)) ≡ true = whole_text t ∙ ap not b in
        ap₂ of_probe m w

-- where they differ, a range of fronts tells the order
apart_ge : (t : List ℕ) (v : Option Tree) → fronts t v ≡ false → text_range (Some (key_of t)) None v ≡ passes is_ge (ordered v (text t))
apart_ge t (Some (text s)) h = by (head_cmp (key_of s) (key_of t)) (slice_cmp nat_cmp s t) h (front_order s t)
  where
    by : (o w : Ordering) → (is_ge o && is_le o) ≡ false → ((o ≡ Equal → ⊥) → w ≡ o) → (is_ge o && true) ≡ is_ge w
    by Less w h k = ap is_ge (sym (k (λ e. Prim.cc e)))
    by Equal w h k = Prim.cc h
    by Greater w h k = ap is_ge (sym (k (λ e. Prim.cc e)))
apart_ge t None h = refl
apart_ge t (Some null) h = refl
apart_ge t (Some (boolean b)) h = refl
apart_ge t (Some (number n)) h = refl
apart_ge t (Some (date n)) h = refl
apart_ge t (Some (list ts)) h = refl
apart_ge t (Some (object ms)) h = refl

apart_gt : (t : List ℕ) (v : Option Tree) → fronts t v ≡ false → text_range (Some (key_of t)) None v ≡ passes is_gt (ordered v (text t))
apart_gt t (Some (text s)) h = by (head_cmp (key_of s) (key_of t)) (slice_cmp nat_cmp s t) h (front_order s t)
  where
    by : (o w : Ordering) → (is_ge o && is_le o) ≡ false → ((o ≡ Equal → ⊥) → w ≡ o) → (is_ge o && true) ≡ is_gt w
    by Less w h k = ap is_gt (sym (k (λ e. Prim.cc e)))
    by Equal w h k = Prim.cc h
    by Greater w h k = ap is_gt (sym (k (λ e. Prim.cc e)))
apart_gt t None h = refl
apart_gt t (Some null) h = refl
apart_gt t (Some (boolean b)) h = refl
apart_gt t (Some (number n)) h = refl
apart_gt t (Some (date n)) h = refl
apart_gt t (Some (list ts)) h = refl
apart_gt t (Some (object ms)) h = refl

apart_le : (t : List ℕ) (v : Option Tree) → fronts t v ≡ false → text_range None (Some (key_of t)) v ≡ passes is_le (ordered v (text t))
apart_le t (Some (text s)) h = by (head_cmp (key_of s) (key_of t)) (slice_cmp nat_cmp s t) h (front_order s t)
  where
    by : (o w : Ordering) → (is_ge o && is_le o) ≡ false → ((o ≡ Equal → ⊥) → w ≡ o) → is_le o ≡ is_le w
    by Less w h k = ap is_le (sym (k (λ e. Prim.cc e)))
    by Equal w h k = Prim.cc h
    by Greater w h k = ap is_le (sym (k (λ e. Prim.cc e)))
apart_le t None h = refl
apart_le t (Some null) h = refl
apart_le t (Some (boolean b)) h = refl
apart_le t (Some (number n)) h = refl
apart_le t (Some (date n)) h = refl
apart_le t (Some (list ts)) h = refl
apart_le t (Some (object ms)) h = refl

apart_lt : (t : List ℕ) (v : Option Tree) → fronts t v ≡ false → text_range None (Some (key_of t)) v ≡ passes is_lt (ordered v (text t))
apart_lt t (Some (text s)) h = by (head_cmp (key_of s) (key_of t)) (slice_cmp nat_cmp s t) h (front_order s t)
  where
    by : (o w : Ordering) → (is_ge o && is_le o) ≡ false → ((o ≡ Equal → ⊥) → w ≡ o) → is_le o ≡ is_lt w
    by Less w h k = ap is_lt (sym (k (λ e. Prim.cc e)))
    by Equal w h k = Prim.cc h
    by Greater w h k = ap is_lt (sym (k (λ e. Prim.cc e)))
apart_lt t None h = refl
apart_lt t (Some null) h = refl
apart_lt t (Some (boolean b)) h = refl
apart_lt t (Some (number n)) h = refl
apart_lt t (Some (date n)) h = refl
apart_lt t (Some (list ts)) h = refl
apart_lt t (Some (object ms)) h = refl

-- the order of the operand with itself
itself : (q : Ordering → Bool) (t : List ℕ) (v : Option Tree) → v ≡ Some (text t) → passes q (ordered v (text t)) ≡ q Equal
itself q t v e = ap (λ o. passes q (ordered o (text t))) e ∙ ap q (texts_equal t)

-- ---- the four orders

front_is : (d : Tree) (c : List Entry) (q t : List ℕ) → IsColumns d c → is_path q ≡ true → meets (p.TextRange q (Some (key_of t)) (Some (key_of t))) c ≡ fronts t (at d (parts q))
front_is d c q t are path = text_meets d c q (Some (key_of t)) (Some (key_of t)) are path

pub gt_tells : (d : Tree) (c : List Entry) (q t : List ℕ) → Told d → IsWritable (text t) → IsColumns d c → is_path q ≡ true
    → Tells (verdict c (texts q t (p.TextRange q (Some (key_of t)) None))) (passes is_gt (ordered (at d (parts q)) (text t))) (front_stands c q (text t))
gt_tells d c q t wd wt are path =
    let s = front_is d c q t are path in
    strict_verdict (meets (p.TextRange q (Some (key_of t)) None) c) (meets (p.TextRange q (Some (key_of t)) (Some (key_of t))) c) (verdict c (has q (text t))) _ _
    (λ h. text_meets d c q (Some (key_of t)) None are path ∙ apart_gt t (at d (parts q)) (sym s ∙ h))
    (λ h sure. itself is_gt t (at d (parts q)) (same_as d c q t wd wt are path (sym s ∙ h) sure))
    (λ h unsure. opened d c q t are path (sym s ∙ h) unsure)

pub lt_tells : (d : Tree) (c : List Entry) (q t : List ℕ) → Told d → IsWritable (text t) → IsColumns d c → is_path q ≡ true
    → Tells (verdict c (texts q t (p.TextRange q None (Some (key_of t))))) (passes is_lt (ordered (at d (parts q)) (text t))) (front_stands c q (text t))
lt_tells d c q t wd wt are path =
    let s = front_is d c q t are path in
    strict_verdict (meets (p.TextRange q None (Some (key_of t))) c) (meets (p.TextRange q (Some (key_of t)) (Some (key_of t))) c) (verdict c (has q (text t))) _ _
    (λ h. text_meets d c q None (Some (key_of t)) are path ∙ apart_lt t (at d (parts q)) (sym s ∙ h))
    (λ h sure. itself is_lt t (at d (parts q)) (same_as d c q t wd wt are path (sym s ∙ h) sure))
    (λ h unsure. opened d c q t are path (sym s ∙ h) unsure)

pub ge_tells : (d : Tree) (c : List Entry) (q t : List ℕ) → Told d → IsWritable (text t) → IsColumns d c → is_path q ≡ true
    → Tells (verdict c (texts_or_same q t (p.TextRange q (Some (key_of t)) None))) (passes is_ge (ordered (at d (parts q)) (text t))) (front_stands c q (text t))
ge_tells d c q t wd wt are path =
    let s = front_is d c q t are path in
    same_verdict (meets (p.TextRange q (Some (key_of t)) None) c) (meets (p.TextRange q (Some (key_of t)) (Some (key_of t))) c) (verdict c (has q (text t))) _ _
    (λ h. text_meets d c q (Some (key_of t)) None are path ∙ apart_ge t (at d (parts q)) (sym s ∙ h))
    (λ h sure. itself is_ge t (at d (parts q)) (same_as d c q t wd wt are path (sym s ∙ h) sure))
    (λ h unsure. opened d c q t are path (sym s ∙ h) unsure)

pub le_tells : (d : Tree) (c : List Entry) (q t : List ℕ) → Told d → IsWritable (text t) → IsColumns d c → is_path q ≡ true
    → Tells (verdict c (texts_or_same q t (p.TextRange q None (Some (key_of t))))) (passes is_le (ordered (at d (parts q)) (text t))) (front_stands c q (text t))
le_tells d c q t wd wt are path =
    let s = front_is d c q t are path in
    same_verdict (meets (p.TextRange q None (Some (key_of t))) c) (meets (p.TextRange q (Some (key_of t)) (Some (key_of t))) c) (verdict c (has q (text t))) _ _
    (λ h. text_meets d c q None (Some (key_of t)) are path ∙ apart_le t (at d (parts q)) (sym s ∙ h))
    (λ h sure. itself is_le t (at d (parts q)) (same_as d c q t wd wt are path (sym s ∙ h) sure))
    (λ h unsure. opened d c q t are path (sym s ∙ h) unsure)
