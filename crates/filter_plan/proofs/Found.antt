-- Probes, and the value at the path.
use Rattle.std.proofs.Common.{◌≡◌, ◌<◌, ◌^◌, ◌⊎◌, inl, inr, ℕ, zero, suc, ℤ, Bool, true, false, ◌&&◌, ◌||◌, ◌==◌, not, List, [], ◌∷◌, length, Option, Some, None, is_some, slice_get, IsTrue, ◌↔◌, refl, sym, ◌∙◌, ap, ap₂, subst, arith}
use Rattle.std.specs.List.{list_any, Contains}
use Rattle.std.specs.Str.{bytes_eq}
use Rattle.std.specs.Ordering.{nat_cmp, int_cmp, is_gt, is_ge, is_le, ordering_reverse}
use Rattle.std.specs.declared.cmp.Ordering.{Ordering}
use Rattle.std.specs.declared.cmp.Ordering.TheVariants.{Less, Equal, Greater}
use Rattle.std.specs.Cmp.{int_cmp_total}
use Rattle.std.specs.Cmp.Lexicographic.{slice_cmp}
use Rattle.std.proofs.lemmas.Cmp.{nat_list_cmp_total}
use Rattle.std.proofs.lemmas.Bool.{and_parts}
use Rattle.std.proofs.lemmas.Bool.Decides.{Decides-eqb}
use Rattle.std.proofs.lemmas.Option.{slice_get_within, get_or_from_slice_get, slice_get-get_or}
use Rattle.std.proofs.lemmas.Slice.Eq.{bytes_eq-Decides}
use Rattle.json_tree.specs.Tree.{Tree, null, boolean, number, text, date, list, object, elements_of, list_of_elements, element}
use Rattle.doc_paths.specs.At.{at}
use Rattle.doc_paths.specs.Text.{parts, IsPath, path_fault}
use Rattle.filter_tree.specs.Paths.{is_path}
use Rattle.json_tree.specs.Same.{same}
use Rattle.json_tree.specs.RoundTrips.{list_of_elements-elements_of, elements_of-list_of_elements}
use Rattle.shred_cols.specs.Entry.{kept_of, key_of, Says, IsSize}
use Rattle.shred_cols.specs.Probe.{inside, meets, same_kept, number_within, text_within, ends}
use Rattle.shred_cols.specs.Columns.{IsColumns, Belongs}
use Rattle.shred_cols.specs.declared.forms.Kept.{Kept}
use Rattle.shred_cols.specs.declared.entry.Entry.{Entry}
use Rattle.shred_cols.specs.declared.entry.Entry.TheVariants as e
use Rattle.shred_cols.specs.declared.probe.Probe.TheVariants as p
use Rattle.filter_tree.specs.Matches.{equals, elements_in, is_list_of}
use Rattle.filter_plan.proofs.Keeping.{kept_refl}

-- ---- tests

pub agree : (a b : Bool) → (a ≡ true → b ≡ true) → (b ≡ true → a ≡ true) → a ≡ b
agree true true f g = refl
agree true false f g = sym (f refl)
agree false true f g = g refl
agree false false f g = refl

pub either_true : (a b : Bool) → (a || b) ≡ true → (a ≡ true) ⊎ (b ≡ true)
either_true true b h = inl refl
either_true false b h = inr h

pub left_true : (a b : Bool) → a ≡ true → (a || b) ≡ true
left_true a b h = ap (λ x. x || b) h

pub right_true : (a b : Bool) → b ≡ true → (a || b) ≡ true
right_true true b h = refl
right_true false b h = h

pub both_true : (a b : Bool) → a ≡ true → b ≡ true → (a && b) ≡ true
both_true a b p q = ap₂ (λ x y. x && y) p q

pub not_true : (a : Bool) → (a ≡ true → ⊥) → a ≡ false
not_true true h = absurd (h refl)
not_true false h = refl

pub found : {X : Type 0} (p : X → Bool) (xs : List X) → list_any p xs ≡ true → (x : X) × (i : ℕ) × (slice_get xs i ≡ Some x) × (p x ≡ true)
found p [] h = Prim.cc h
found p (x ∷ xs) h =
    elim (either_true (p x) (list_any p xs) h) [ inl q ↦ (x, zero, refl, q) | inr q ↦ (let f = found p xs q in (f.0, suc f.1, f.2, f.3)) ]

pub passes : {X : Type 0} (p : X → Bool) (xs : List X) (i : ℕ) (x : X) → slice_get xs i ≡ Some x → p x ≡ true → list_any p xs ≡ true
passes p [] i x at h = Prim.cc at
passes p (y ∷ xs) zero x at h = left_true (p y) (list_any p xs) (ap p (Prim.cc at) ∙ h)
passes p (y ∷ xs) (suc i) x at h = right_true (p y) (list_any p xs) (passes p xs i x at h)

pub a_member : {X : Type 0} (p : X → Bool) (xs : List X) → list_any p xs ≡ true → (x : X) × Contains xs x × (p x ≡ true)
a_member p xs h = let f = found p xs h in (f.0, (f.1, slice_get_within xs f.1 f.0 f.2, get_or_from_slice_get xs f.1 f.0 f.0 f.2), f.3)

pub of_member : {X : Type 0} (p : X → Bool) (xs : List X) (x : X) → Contains xs x → p x ≡ true → list_any p xs ≡ true
of_member p xs x c h = passes p xs c.0 x (slice_get-get_or xs c.0 x c.1 ∙ ap Some c.2) h

-- ---- which entries meet a probe

bytes_refl : (s : List ℕ) → bytes_eq s s ≡ true
bytes_refl s = (bytes_eq-Decides s s).1 refl

named : (q r : List ℕ) → bytes_eq q r ≡ true → r ≡ q
named q r h = sym ((bytes_eq-Decides q r).0 h)

exists_entry : (q : List ℕ) (x : Entry) → inside (p.Exists q) x ≡ true → x ≡ e.Exists q
exists_entry q (e.Exists r) h = ap e.Exists (named q r h)
exists_entry q x h = cc

size_entry : (q : List ℕ) (n : ℕ) (x : Entry) → inside (p.Size q n) x ≡ true → x ≡ e.Size q n
size_entry q n (e.Size r m) h = let t = and_parts (bytes_eq q r) (n == m) h in ap₂ e.Size (named q r t.0) (sym ((Decides-eqb n m).0 t.1))
size_entry q n x h = cc

has_entry : (q : List ℕ) (k : Kept) (x : Entry) → inside (p.Has q k) x ≡ true → (l : Kept) × (x ≡ e.Has q l) × (same_kept k l ≡ true)
has_entry q k (e.Has r l) h = let t = and_parts (bytes_eq q r) (same_kept k l) h in (l, ap (λ s. e.Has s l) (named q r t.0), t.1)
has_entry q k x h = cc

num_entry : (q : List ℕ) (low high : Option ℤ) (x : Entry) → inside (p.NumRange q low high) x ≡ true → (n : ℤ) × (x ≡ e.Num q n) × (number_within low high n ≡ true)
num_entry q low high (e.Num r n) h = let t = and_parts (bytes_eq q r) (number_within low high n) h in (n, ap (λ s. e.Num s n) (named q r t.0), t.1)
num_entry q low high x h = cc

date_entry : (q : List ℕ) (low high : Option ℤ) (x : Entry) → inside (p.DateRange q low high) x ≡ true → (n : ℤ) × (x ≡ e.Date q n) × (number_within low high n ≡ true)
date_entry q low high (e.Date r n) h = let t = and_parts (bytes_eq q r) (number_within low high n) h in (n, ap (λ s. e.Date s n) (named q r t.0), t.1)
date_entry q low high x h = cc

text_entry : (q : List ℕ) (low high : Option (List ℕ × Option (List ℕ))) (x : Entry) → inside (p.TextRange q low high) x ≡ true
    → (k : List ℕ × Option (List ℕ)) × (x ≡ e.Text q k) × (text_within low high k ≡ true)
text_entry q low high (e.Text r k) h = let t = and_parts (bytes_eq q r) (text_within low high k) h in (k, ap (λ s. e.Text s k) (named q r t.0), t.1)
text_entry q low high x h = cc

-- ---- ranges, said by the order of the value and the end

abbrev pub head_cmp : List ℕ × Option (List ℕ) → List ℕ × Option (List ℕ) → Ordering
head_cmp a b = slice_cmp nat_cmp a.0 b.0

abbrev pub above : {X : Type 0} → (X → X → Ordering) → Option X → X → Bool
above cmp None x = true
above cmp (Some low) x = is_ge (cmp x low)

abbrev pub below : {X : Type 0} → (X → X → Ordering) → Option X → X → Bool
below cmp None x = true
below cmp (Some high) x = is_le (cmp x high)

turned : (o r : Ordering) → r ≡ ordering_reverse o → not (is_gt r) ≡ is_ge o
turned Less r h = ap (λ x. not (is_gt x)) h
turned Equal r h = ap (λ x. not (is_gt x)) h
turned Greater r h = ap (λ x. not (is_gt x)) h

at_most : (o : Ordering) → not (is_gt o) ≡ is_le o
at_most Less = refl
at_most Equal = refl
at_most Greater = refl

low_number : (low : Option ℤ) (n : ℤ) → ends (λ l. not (is_gt (int_cmp l n))) low ≡ above int_cmp low n
low_number None n = refl
low_number (Some l) n = turned (int_cmp n l) (int_cmp l n) (int_cmp_total.antisymm l n)

high_number : (high : Option ℤ) (n : ℤ) → ends (λ h. not (is_gt (int_cmp n h))) high ≡ below int_cmp high n
high_number None n = refl
high_number (Some h) n = at_most (int_cmp n h)

numbers_in : (low high : Option ℤ) (n : ℤ) → number_within low high n ≡ (above int_cmp low n && below int_cmp high n)
numbers_in low high n = ap₂ (λ x y. x && y) (low_number low n) (high_number high n)

low_text : (low : Option (List ℕ × Option (List ℕ))) (k : List ℕ × Option (List ℕ)) → ends (λ (l : List ℕ × Option (List ℕ)). not (is_gt (slice_cmp nat_cmp l.0 k.0))) low ≡ above head_cmp low k
low_text None k = refl
low_text (Some l) k = turned (head_cmp k l) (head_cmp l k) (nat_list_cmp_total.antisymm l.0 k.0)

high_text : (high : Option (List ℕ × Option (List ℕ))) (k : List ℕ × Option (List ℕ)) → ends (λ (h : List ℕ × Option (List ℕ)). not (is_gt (slice_cmp nat_cmp k.0 h.0))) high ≡ below head_cmp high k
high_text None k = refl
high_text (Some h) k = at_most (head_cmp k h)

texts_in : (low high : Option (List ℕ × Option (List ℕ))) (k : List ℕ × Option (List ℕ)) → text_within low high k ≡ (above head_cmp low k && below head_cmp high k)
texts_in low high k = ap₂ (λ x y. x && y) (low_text low k) (high_text high k)

-- ---- values at a place

-- x stands at a place: it is the value there, or an element of the list there
abbrev pub IsAt : Option Tree → Tree → Type 0
IsAt v x = (v ≡ Some x) ⊎ ((ts : List Tree) × (i : ℕ) × (v ≡ Some (list (elements_of ts))) × (slice_get ts i ≡ Some x))

is_some-None : {X : Type 0} (o : Option X) → not (is_some o) ≡ true → o ≡ None
is_some-None None h = refl
is_some-None (Some x) h = Prim.cc h

pub a_path : (q : List ℕ) → is_path q ≡ true → IsPath q
a_path q h = is_some-None (path_fault q) h

-- the test of sameness tells equal values
abbrev pub Alike : Type 0
Alike = (a b : Tree) → IsTrue (same a b) ↔ (a ≡ b)

pub at_equals : Alike → (v : Option Tree) (x : Tree) → IsAt v x → equals v x ≡ true
at_equals alike v x (inl h) = ap (λ o. equals o x) h ∙ left_true (same x x) (list_any (λ y. same y x) (elements_in x)) ((alike x x).1 refl)
at_equals alike v x (inr (ts, i, h, at)) =
    ap (λ o. equals o x) h
    ∙ right_true (same (list (elements_of ts)) x) (list_any (λ y. same y x) (elements_in (list (elements_of ts))))
    (ap (list_any (λ y. same y x)) (list_of_elements-elements_of ts) ∙ passes (λ y. same y x) ts i x at ((alike x x).1 refl))

pub equals_at : Alike → (v : Option Tree) (x : Tree) → equals v x ≡ true → IsAt v x
equals_at alike None x h = Prim.cc h
equals_at alike (Some u) x h = elim (either_true (same u x) (list_any (λ y. same y x) (elements_in u)) h) [ inl q ↦ inl (ap Some ((alike u x).0 q)) | inr q ↦ inr (within u x q) ]
  where
    within : (u x : Tree) → list_any (λ y. same y x) (elements_in u) ≡ true → (ts : List Tree) × (i : ℕ) × (Some u ≡ Some (list (elements_of ts))) × (slice_get ts i ≡ Some x)
    within (list es) x q =
        let f = found (λ y. same y x) (list_of_elements es) q in
        (list_of_elements es, f.1, ap (λ z. Some (list z)) (sym (elements_of-list_of_elements es)), f.2 ∙ ap Some ((alike f.0 x).0 f.3))
    within u x q = Prim.cc q

-- ---- probes of the columns of a document

from_elements : (v y : Tree) → Contains (elements_in v) y → IsAt (Some v) y
from_elements (list es) y c = inr (list_of_elements es, c.0, ap (λ z. Some (list z)) (sym (elements_of-list_of_elements es)), slice_get-get_or (list_of_elements es) c.0 y c.1 ∙ ap Some c.2)
from_elements null y c = absurd (omega (arith, c.1))
from_elements (boolean b) y c = absurd (omega (arith, c.1))
from_elements (number n) y c = absurd (omega (arith, c.1))
from_elements (text t) y c = absurd (omega (arith, c.1))
from_elements (date n) y c = absurd (omega (arith, c.1))
from_elements (object ms) y c = absurd (omega (arith, c.1))

said_at : (q : List ℕ) (l : Kept) (v : Tree) → Says (e.Has q l) v → (y : Tree) × IsAt (Some v) y × (l ≡ kept_of y)
said_at q l v (inl k) = (v, inl refl, k)
said_at q l v (inr (y, c, k)) = (y, from_elements v y c, k)

to_elements : (ts : List Tree) (i : ℕ) (x : Tree) → slice_get ts i ≡ Some x → Contains (elements_in (list (elements_of ts))) x
to_elements ts i x at = subst (λ l. Contains l x) (sym (list_of_elements-elements_of ts)) (i, slice_get_within ts i x at, get_or_from_slice_get ts i x x at)

pub has_at : (d : Tree) (c : List Entry) (q : List ℕ) (k : Kept) → IsColumns d c → meets (p.Has q k) c ≡ true
    → (y : Tree) × IsAt (at d (parts q)) y × (same_kept k (kept_of y) ≡ true)
has_at d c q k are h =
    let f = a_member (inside (p.Has q k)) c h in
    let s = has_entry q k f.0 f.2 in
    let b : Belongs d (e.Has q s.0) = subst (Belongs d) s.1 ((are.exact f.0).0 f.1) in
    let t = said_at q s.0 b.value b.says in
    (t.0, subst (λ o. IsAt o t.0) (sym b.there) t.1, ap (same_kept k) (sym t.2) ∙ s.2)

belongs_at : (d : Tree) (q : List ℕ) (x : Tree) → IsPath q → IsAt (at d (parts q)) x → Belongs d (e.Has q (kept_of x))
belongs_at d q x path (inl h) = record { path = path; value = x; there = h; says = inl refl }
belongs_at d q x path (inr (ts, i, h, it)) = record { path = path; value = list (elements_of ts); there = h; says = inr (x, to_elements ts i x it, refl) }

pub at_has : (d : Tree) (c : List Entry) (q : List ℕ) (x : Tree) → IsColumns d c → is_path q ≡ true → IsAt (at d (parts q)) x → meets (p.Has q (kept_of x)) c ≡ true
at_has d c q x are path it =
    of_member (inside (p.Has q (kept_of x))) c (e.Has q (kept_of x)) ((are.exact (e.Has q (kept_of x))).1 (belongs_at d q x (a_path q path) it))
    (both_true (bytes_eq q q) (same_kept (kept_of x) (kept_of x)) (bytes_refl q) (kept_refl (kept_of x)))

some_is : (o : Option Tree) (v : Tree) → o ≡ Some v → is_some o ≡ true
some_is o v h = ap is_some h

some_value : (o : Option Tree) → is_some o ≡ true → (v : Tree) × (o ≡ Some v)
some_value (Some v) h = (v, refl)
some_value None h = Prim.cc h

pub exists_meets : (d : Tree) (c : List Entry) (q : List ℕ) → IsColumns d c → is_path q ≡ true → meets (p.Exists q) c ≡ is_some (at d (parts q))
exists_meets d c q are path =
    agree (meets (p.Exists q) c) (is_some (at d (parts q)))
    (λ h. let f = a_member (inside (p.Exists q)) c h in
    let b : Belongs d (e.Exists q) = subst (Belongs d) (exists_entry q f.0 f.2) ((are.exact f.0).0 f.1) in some_is (at d (parts q)) b.value b.there)
    (λ h. let s = some_value (at d (parts q)) h in
    of_member (inside (p.Exists q)) c (e.Exists q) ((are.exact (e.Exists q)).1 (record { path = a_path q path; value = s.0; there = s.1; says = tt })) (bytes_refl q))

sized : (v : Tree) (n : ℕ) → IsSize n v → is_list_of n (Some v) ≡ true
sized v n s = ap (λ u. is_list_of n (Some u)) s.is ∙ (Decides-eqb (length (list_of_elements s.elements)) n).1 s.count

listed : (o : Option Tree) (n : ℕ) → is_list_of n o ≡ true → n < 2 ^ 32 → (v : Tree) × (o ≡ Some v) × IsSize n v
listed (Some (list es)) n h small = (list es, refl, record { elements = es; is = refl; count = (Decides-eqb (length (list_of_elements es)) n).0 h; small = small })
listed o n h small = cc

pub size_meets : (d : Tree) (c : List Entry) (q : List ℕ) (n : ℕ) → IsColumns d c → is_path q ≡ true → n < 2 ^ 32 → meets (p.Size q n) c ≡ is_list_of n (at d (parts q))
size_meets d c q n are path small =
    agree (meets (p.Size q n) c) (is_list_of n (at d (parts q)))
    (λ h. let f = a_member (inside (p.Size q n)) c h in
    let b : Belongs d (e.Size q n) = subst (Belongs d) (size_entry q n f.0 f.2) ((are.exact f.0).0 f.1) in
    ap (is_list_of n) b.there ∙ sized b.value n b.says)
    (λ h. let s = listed (at d (parts q)) n h small in
    of_member (inside (p.Size q n)) c (e.Size q n) ((are.exact (e.Size q n)).1 (record { path = a_path q path; value = s.0; there = s.1; says = s.2 }))
    (both_true (bytes_eq q q) (n == n) (bytes_refl q) ((Decides-eqb n n).1 refl)))

abbrev pub num_within : Option ℤ → Option ℤ → Option Tree → Bool
num_within low high (Some (number n)) = above int_cmp low n && below int_cmp high n
num_within low high v = false

abbrev pub date_within : Option ℤ → Option ℤ → Option Tree → Bool
date_within low high (Some (date n)) = above int_cmp low n && below int_cmp high n
date_within low high v = false

a_number : (low high : Option ℤ) (v : Option Tree) → num_within low high v ≡ true → (n : ℤ) × (v ≡ Some (number n)) × (number_within low high n ≡ true)
a_number low high (Some (number n)) h = (n, refl, numbers_in low high n ∙ h)
a_number low high v h = cc

a_date : (low high : Option ℤ) (v : Option Tree) → date_within low high v ≡ true → (n : ℤ) × (v ≡ Some (date n)) × (number_within low high n ≡ true)
a_date low high (Some (date n)) h = (n, refl, numbers_in low high n ∙ h)
a_date low high v h = cc

pub num_meets : (d : Tree) (c : List Entry) (q : List ℕ) (low high : Option ℤ) → IsColumns d c → is_path q ≡ true → meets (p.NumRange q low high) c ≡ num_within low high (at d (parts q))
num_meets d c q low high are path =
    agree (meets (p.NumRange q low high) c) (num_within low high (at d (parts q)))
    (λ h. let f = a_member (inside (p.NumRange q low high)) c h in
    let s = num_entry q low high f.0 f.2 in
    let b : Belongs d (e.Num q s.0) = subst (Belongs d) s.1 ((are.exact f.0).0 f.1) in
    ap (num_within low high) (b.there ∙ ap Some b.says) ∙ sym (numbers_in low high s.0) ∙ s.2)
    (λ h. let l = a_number low high (at d (parts q)) h in
    of_member (inside (p.NumRange q low high)) c (e.Num q l.0) ((are.exact (e.Num q l.0)).1 (record { path = a_path q path; value = number l.0; there = l.1; says = refl }))
    (both_true (bytes_eq q q) (number_within low high l.0) (bytes_refl q) l.2))

pub date_meets : (d : Tree) (c : List Entry) (q : List ℕ) (low high : Option ℤ) → IsColumns d c → is_path q ≡ true → meets (p.DateRange q low high) c ≡ date_within low high (at d (parts q))
date_meets d c q low high are path =
    agree (meets (p.DateRange q low high) c) (date_within low high (at d (parts q)))
    (λ h. let f = a_member (inside (p.DateRange q low high)) c h in
    let s = date_entry q low high f.0 f.2 in
    let b : Belongs d (e.Date q s.0) = subst (Belongs d) s.1 ((are.exact f.0).0 f.1) in
    ap (date_within low high) (b.there ∙ ap Some b.says) ∙ sym (numbers_in low high s.0) ∙ s.2)
    (λ h. let l = a_date low high (at d (parts q)) h in
    of_member (inside (p.DateRange q low high)) c (e.Date q l.0) ((are.exact (e.Date q l.0)).1 (record { path = a_path q path; value = date l.0; there = l.1; says = refl }))
    (both_true (bytes_eq q q) (number_within low high l.0) (bytes_refl q) l.2))

abbrev pub text_range : Option (List ℕ × Option (List ℕ)) → Option (List ℕ × Option (List ℕ)) → Option Tree → Bool
text_range low high (Some (text t)) = above head_cmp low (key_of t) && below head_cmp high (key_of t)
text_range low high v = false

a_text : (low high : Option (List ℕ × Option (List ℕ))) (v : Option Tree) → text_range low high v ≡ true → (t : List ℕ) × (v ≡ Some (text t)) × (text_within low high (key_of t) ≡ true)
a_text low high (Some (text t)) h = (t, refl, texts_in low high (key_of t) ∙ h)
a_text low high v h = cc

pub belongs_text : (d : Tree) (q t : List ℕ) → is_path q ≡ true → at d (parts q) ≡ Some (text t) → Belongs d (e.Text q (key_of t))
belongs_text d q t path h = record { path = a_path q path; value = text t; there = h; says = (t, refl, refl) }

pub text_meets : (d : Tree) (c : List Entry) (q : List ℕ) (low high : Option (List ℕ × Option (List ℕ))) → IsColumns d c → is_path q ≡ true
    → meets (p.TextRange q low high) c ≡ text_range low high (at d (parts q))
text_meets d c q low high are path =
    agree (meets (p.TextRange q low high) c) (text_range low high (at d (parts q)))
    (λ h. let f = a_member (inside (p.TextRange q low high)) c h in
    let s = text_entry q low high f.0 f.2 in
    let b : Belongs d (e.Text q s.0) = subst (Belongs d) s.1 ((are.exact f.0).0 f.1) in
    ap (text_range low high) (b.there ∙ ap Some b.says.1) ∙ sym (texts_in low high (key_of b.says.0)) ∙ ap (text_within low high) (sym b.says.2) ∙ s.2)
    (λ h. let l = a_text low high (at d (parts q)) h in
    of_member (inside (p.TextRange q low high)) c (e.Text q (key_of l.0)) ((are.exact (e.Text q (key_of l.0))).1 (belongs_text d q l.0 path l.1))
    (both_true (bytes_eq q q) (text_within low high (key_of l.0)) (bytes_refl q) l.2))
