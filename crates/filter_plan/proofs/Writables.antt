-- What stands in a writable document is writable.
use Rattle.std.proofs.Common.{◌≡◌, inl, inr, ℕ, zero, suc, Bool, true, false, List, [], ◌∷◌, ◌++◌, Option, Some, None, slice_get, refl, ◌∙◌, ap, subst, if◌then◌else◌}
use Rattle.std.specs.Option.{option_and_then}
use Rattle.std.specs.Str.{bytes_eq}
use Rattle.json_tree.specs.Tree.{Tree, null, boolean, number, text, date, list, object, elements_of, list_of_elements, list_of_members, Elements, element, no_elements, Members, member, no_members}
use Rattle.json_tree.specs.Members.{member_at}
use Rattle.json_tree.specs.RoundTrips.{list_of_elements-elements_of}
use Rattle.json_tree.specs.Writable.{IsWritable, AreWritable, MembersAreWritable}
use Rattle.doc_paths.specs.At.{at}
use Rattle.doc_paths.specs.At as paths
use Rattle.doc_paths.specs.Text.{index_of}
use Rattle.filter_plan.proofs.Found.{IsAt}

this : (a b : Tree) → Some a ≡ Some b → IsWritable a → IsWritable b
this a b e w = let q : a ≡ b = Prim.cc e in subst IsWritable q w

member_writable : (names : List (List ℕ)) (ms : Members) (n : List ℕ) (v : Tree) → MembersAreWritable names ms → member_at n (list_of_members ms) ≡ Some v → IsWritable v
member_writable names no_members n v w e = Prim.cc e
member_writable names (member m t ms) n v w e = found (bytes_eq m n) e (member_writable (names ++ m ∷ []) ms n v w.3)
  where
    found : (b : Bool) → (if b then Some t else member_at n (list_of_members ms)) ≡ Some v → (member_at n (list_of_members ms) ≡ Some v → IsWritable v) → IsWritable v
    found true e k = this t v e w.2
    found false e k = k e

element_writable : (ts : Elements) (i : ℕ) (v : Tree) → AreWritable ts → slice_get (list_of_elements ts) i ≡ Some v → IsWritable v
element_writable no_elements i v w e = Prim.cc e
element_writable (element t ts) zero v w e = this t v e w.0
element_writable (element t ts) (suc i) v w e = element_writable ts i v w.1 e

inside_writable : (t : Tree) (part : List ℕ) (v : Tree) → IsWritable t → paths.inside t part ≡ Some v → IsWritable v
inside_writable (object ms) part v w e = member_writable [] ms part v w.0 e
inside_writable (list ts) part v w e = placed (index_of part) e
  where
    placed : (o : Option ℕ) → option_and_then (slice_get (list_of_elements ts)) o ≡ Some v → IsWritable v
    placed None e = Prim.cc e
    placed (Some i) e = element_writable ts i v w e
inside_writable null part v w e = Prim.cc e
inside_writable (boolean b) part v w e = Prim.cc e
inside_writable (number n) part v w e = Prim.cc e
inside_writable (text s) part v w e = Prim.cc e
inside_writable (date n) part v w e = Prim.cc e

at_writable : (ps : List (List ℕ)) (t v : Tree) → IsWritable t → at t ps ≡ Some v → IsWritable v
at_writable [] t v w e = this t v e w
at_writable (part ∷ more) t v w e = further (paths.inside t part) (λ c h. inside_writable t part c w h) (λ c h k. at_writable more c v h k) e
  where
    further : (o : Option Tree) → ((c : Tree) → o ≡ Some c → IsWritable c) → ((c : Tree) → IsWritable c → at c more ≡ Some v → IsWritable v) → option_and_then (λ c. at c more) o ≡ Some v → IsWritable v
    further None f g e = Prim.cc e
    further (Some c) f g e = g c (f c refl) e

pub writable_at : (d : Tree) (ps : List (List ℕ)) (y : Tree) → IsWritable d → IsAt (at d ps) y → IsWritable y
writable_at d ps y w (inl h) = at_writable ps d y w h
writable_at d ps y w (inr (ts, i, h, it)) = element_writable (elements_of ts) i y (at_writable ps d (list (elements_of ts)) w h) (ap (λ l. slice_get l i) (list_of_elements-elements_of ts) ∙ it)
