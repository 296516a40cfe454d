-- What a document's columns say of a probe is what the document says of it.
use Rattle.std.proofs.Common.{◌≡◌, ℕ, ◌^◌, ◌<◌, ℤ, Bool, true, false, ◌&&◌, ◌||◌, ◌==◌, List, length, Option, Some, None, refl, sym, ap, ◌∙◌, subst, arith, inl, inr}
use Rattle.std.specs.Prelude.{nat_lt, ◌⊎◌}
use Rattle.std.specs.List.{Contains, list_any}
use Rattle.std.specs.Str.{bytes_eq}
use Rattle.std.proofs.lemmas.List.Folds.{Any-from_list_any, list_any_at}
use Rattle.std.proofs.lemmas.Slice.Eq.{bytes_eq-Decides}
use Rattle.std.proofs.lemmas.Bool.{and_parts}
use Rattle.std.proofs.lemmas.Bool.Decides.{nat_tests}
use Rattle.json_tree.specs.Tree.{Tree, null, boolean, number, text, date, list, object, list_of_elements}
use Rattle.doc_paths.specs.Text.{parts, path_fault, IsPath}
use Rattle.doc_paths.specs.At.{at}
use Rattle.doc_paths.specs.declared.fault.PathFault.{PathFault}
use Rattle.shred_cols.specs.Columns.{Belongs, IsColumns}
use Rattle.shred_cols.specs.Entry.{Says, path_of, kept_of, key_of, elements_in}
use Rattle.shred_cols.specs.Probe.{inside, meets, same_kept, text_within}
use Rattle.shred_cols.specs.declared.entry.Entry.{Entry}
use Rattle.shred_cols.specs.declared.entry.Entry.TheVariants as v
use Rattle.shred_cols.specs.declared.forms.Kept.{Kept}
use Rattle.shred_cols.specs.declared.probe.Probe.{Probe}
use Rattle.shred_cols.specs.declared.probe.Probe.TheVariants as p
use Rattle.col_keeper.specs.Asked.{value_at, passes, has_at, has_size, is_kept, is_number_within, is_text_within, is_date_within, meets_document}

both : (a b : Bool) → a ≡ true → b ≡ true → (a && b) ≡ true
both true b p q = q
both false b p q = p

same_path : (a b : List ℕ) → bytes_eq a b ≡ true → b ≡ a
same_path a b e = sym ((bytes_eq-Decides a b).0 e)

itself : (a : List ℕ) → bytes_eq a a ≡ true
itself a = (bytes_eq-Decides a a).1 refl

-- a value there, and what it passes
at_path : (f : Option PathFault) (path : List ℕ) (test : Tree → Bool) (d : Tree) → path_fault path ≡ f → passes test (value_at f path d) ≡ true → IsPath path × (x : Tree) × (at d (parts path) ≡ Some x) × (test x ≡ true)
at_path None path test d is e = let there = go (at d (parts path)) refl e in (is, there.0, there.1, there.2)
  where
    go : (o : Option Tree) → at d (parts path) ≡ o → passes test o ≡ true → (x : Tree) × (at d (parts path) ≡ Some x) × (test x ≡ true)
    go None q e = cc
    go (Some x) q e = (x, q, e)
at_path (Some f) path test d is e = cc

to_path : (path : List ℕ) (test : Tree → Bool) (d x : Tree) → IsPath path → at d (parts path) ≡ Some x → test x ≡ true → has_at path test d ≡ true
to_path path test d x is there e = ap (λ f. passes test (value_at f path d)) is ∙ ap (passes test) there ∙ e

-- a test of entries and a test of the value at a path that agree
agree : (path : List ℕ) (test : Tree → Bool) (t : Entry → Bool) (d : Tree) (es : List Entry) → IsColumns d es
    → ((x : Tree) → test x ≡ true → (e : Entry) × (path_of e ≡ path) × Says e x × (t e ≡ true))
    → ((e : Entry) (x : Tree) → Says e x → t e ≡ true → (path_of e ≡ path) × (test x ≡ true))
    → list_any t es ≡ has_at path test d
agree path test t d es columns to from = go (list_any t es) (has_at path test d) refl refl
  where
    no : true ≡ false → ⊥
    no e = cc

    found : list_any t es ≡ true → has_at path test d ≡ true
    found e =
        let one = Any-from_list_any t es e in
        let b : Belongs d one.1 = (columns.exact one.1).0 (one.0, one.2, one.3) in
        let says = from one.1 b.value b.says one.4 in
        to_path path test d b.value (subst IsPath says.0 b.path) (ap (λ p. at d (parts p)) (sym says.0) ∙ b.there) says.1

    listed : has_at path test d ≡ true → list_any t es ≡ true
    listed e =
        let there = at_path (path_fault path) path test d refl e in
        let one = to there.1 there.3 in
        let b : Belongs d one.0 = record {
          path = subst IsPath (sym one.1) there.0;
          value = there.1;
          there = ap (λ p. at d (parts p)) one.1 ∙ there.2;
          says = one.2;
        } in
        let among : Contains es one.0 = (columns.exact one.0).1 b in
        list_any_at t es among.0 one.0 among.1 (ap t among.2 ∙ one.3)

    go : (a b : Bool) → list_any t es ≡ a → has_at path test d ≡ b → a ≡ b
    go true true p q = refl
    go false false p q = refl
    go true false p q = absurd (no (sym (found p) ∙ q))
    go false true p q = absurd (no (sym (listed q) ∙ p))

to_size : (path : List ℕ) (n : ℕ) (x : Tree) → has_size n x ≡ true → (e : Entry) × (path_of e ≡ path) × Says e x × (inside (p.Size path n) e ≡ true)
to_size path n (list ts) h =
    let counted : (length (list_of_elements ts) == n) ≡ true = (and_parts _ _ h).0 in
    let within : nat_lt n (2 ^ 32) ≡ true = (and_parts (length (list_of_elements ts) == n) _ h).1 in
    let count : length (list_of_elements ts) ≡ n = grind (arith, nat_tests) in
    let small : n < 2 ^ 32 = grind (arith, nat_tests) in
    (v.Size path n, refl, record { elements = ts; is = refl; count = count; small = small }, both _ _ (itself path) (grind (arith, nat_tests)))
to_size path n null h = cc
to_size path n (boolean b) h = cc
to_size path n (number m) h = cc
to_size path n (text t) h = cc
to_size path n (date m) h = cc
to_size path n (object ms) h = cc

from_size : (path : List ℕ) (n : ℕ) (e : Entry) (x : Tree) → Says e x → inside (p.Size path n) e ≡ true → (path_of e ≡ path) × (has_size n x ≡ true)
from_size path n (v.Size b m) x s h =
    let equal : (n == m) ≡ true = (and_parts (bytes_eq path b) _ h).1 in
    let same : n ≡ m = grind (arith, nat_tests) in
    let count = s.count in
    let small = s.small in
    let counted : (length (list_of_elements s.elements) == n) ≡ true = grind (arith, nat_tests) in
    let within : nat_lt n (2 ^ 32) ≡ true = grind (arith, nat_tests) in
    let size : has_size n (list s.elements) ≡ true = both _ _ counted within in
    (same_path path b (and_parts _ _ h).0, ap (has_size n) s.is ∙ size)
from_size path n e x s h = cc

from_exists : (path : List ℕ) (e : Entry) (x : Tree) → Says e x → inside (p.Exists path) e ≡ true → (path_of e ≡ path) × (true ≡ true)
from_exists path (v.Exists b) x s h = (same_path path b h, refl)
from_exists path e x s h = cc

among_any : (t : Tree → Bool) (ts : List Tree) (y : Tree) → Contains ts y → t y ≡ true → list_any t ts ≡ true
among_any t ts y c h = list_any_at t ts c.0 y c.1 (ap t c.2 ∙ h)

or_left : (a b : Bool) → a ≡ true → (a || b) ≡ true
or_left true b e = refl
or_left false b e = cc

or_right : (a b : Bool) → b ≡ true → (a || b) ≡ true
or_right true b e = refl
or_right false b e = e

to_kept : (path : List ℕ) (k : Kept) (x : Tree) → is_kept k x ≡ true → (e : Entry) × (path_of e ≡ path) × Says e x × (inside (p.Has path k) e ≡ true)
to_kept path k x h =
    elim (same_kept k (kept_of x)) as (λ b. same_kept k (kept_of x) ≡ b → (b || list_any (λ y. same_kept k (kept_of y)) (elements_in x)) ≡ true → (e : Entry) × (path_of e ≡ path) × Says e x × (inside (p.Has path k) e ≡ true)) [
      | true ↦ λ q h. (v.Has path (kept_of x), refl, inl refl, both _ _ (itself path) q)
      | false ↦ λ q h. (let one = Any-from_list_any (λ y. same_kept k (kept_of y)) (elements_in x) h in
          (v.Has path (kept_of one.1), refl, inr (one.1, (one.0, one.2, one.3), refl), both _ _ (itself path) one.4))
    ] refl h

from_kept : (path : List ℕ) (k : Kept) (e : Entry) (x : Tree) → Says e x → inside (p.Has path k) e ≡ true → (path_of e ≡ path) × (is_kept k x ≡ true)
from_kept path k (v.Has b l) x s h = (same_path path b (and_parts _ _ h).0, go s)
  where
    alike : same_kept k l ≡ true
    alike = (and_parts (bytes_eq path b) (same_kept k l) h).1

    go : ((l ≡ kept_of x) ⊎ ((y : Tree) × Contains (elements_in x) y × (l ≡ kept_of y))) → is_kept k x ≡ true
    go (inl is) = or_left _ _ (ap (same_kept k) (sym is) ∙ alike)
    go (inr some) = or_right _ _ (among_any (λ y. same_kept k (kept_of y)) (elements_in x) some.0 some.1 (ap (same_kept k) (sym some.2) ∙ alike))
from_kept path k e x s h = cc

to_number : (path : List ℕ) (low high : Option ℤ) (x : Tree) → is_number_within low high x ≡ true → (e : Entry) × (path_of e ≡ path) × Says e x × (inside (p.NumRange path low high) e ≡ true)
to_number path low high (number n) h = (v.Num path n, refl, refl, both _ _ (itself path) h)
to_number path low high x h = cc

from_number : (path : List ℕ) (low high : Option ℤ) (e : Entry) (x : Tree) → Says e x → inside (p.NumRange path low high) e ≡ true → (path_of e ≡ path) × (is_number_within low high x ≡ true)
from_number path low high (v.Num b n) x s h = (same_path path b (and_parts _ _ h).0, ap (is_number_within low high) s ∙ (and_parts _ _ h).1)
from_number path low high e x s h = cc

to_text : (path : List ℕ) (low high : Option (List ℕ × Option (List ℕ))) (x : Tree) → is_text_within low high x ≡ true → (e : Entry) × (path_of e ≡ path) × Says e x × (inside (p.TextRange path low high) e ≡ true)
to_text path low high (text t) h = (v.Text path (key_of t), refl, (t, refl, refl), both _ _ (itself path) h)
to_text path low high x h = cc

from_text : (path : List ℕ) (low high : Option (List ℕ × Option (List ℕ))) (e : Entry) (x : Tree) → Says e x → inside (p.TextRange path low high) e ≡ true → (path_of e ≡ path) × (is_text_within low high x ≡ true)
from_text path low high (v.Text b k) x s h = (same_path path b (and_parts _ _ h).0, ap (is_text_within low high) s.1 ∙ ap (text_within low high) (sym s.2) ∙ (and_parts _ _ h).1)
from_text path low high e x s h = cc

to_date : (path : List ℕ) (low high : Option ℤ) (x : Tree) → is_date_within low high x ≡ true → (e : Entry) × (path_of e ≡ path) × Says e x × (inside (p.DateRange path low high) e ≡ true)
to_date path low high (date n) h = (v.Date path n, refl, refl, both _ _ (itself path) h)
to_date path low high x h = cc

from_date : (path : List ℕ) (low high : Option ℤ) (e : Entry) (x : Tree) → Says e x → inside (p.DateRange path low high) e ≡ true → (path_of e ≡ path) × (is_date_within low high x ≡ true)
from_date path low high (v.Date b n) x s h = (same_path path b (and_parts _ _ h).0, ap (is_date_within low high) s ∙ (and_parts _ _ h).1)
from_date path low high e x s h = cc

pub asks_document : (d : Tree) (es : List Entry) (q : Probe) → IsColumns d es → meets q es ≡ meets_document q d
unfolding meets_document
asks_document d es p.All c = refl
asks_document d es (p.Exists path) c = agree path (λ x. true) (inside (p.Exists path)) d es c (λ x h. (v.Exists path, refl, tt, itself path)) (from_exists path)
asks_document d es (p.Size path n) c = agree path (has_size n) (inside (p.Size path n)) d es c (to_size path n) (from_size path n)
asks_document d es (p.Has path k) c = agree path (is_kept k) (inside (p.Has path k)) d es c (to_kept path k) (from_kept path k)
asks_document d es (p.NumRange path low high) c = agree path (is_number_within low high) (inside (p.NumRange path low high)) d es c (to_number path low high) (from_number path low high)
asks_document d es (p.TextRange path low high) c = agree path (is_text_within low high) (inside (p.TextRange path low high)) d es c (to_text path low high) (from_text path low high)
asks_document d es (p.DateRange path low high) c = agree path (is_date_within low high) (inside (p.DateRange path low high)) d es c (to_date path low high) (from_date path low high)
