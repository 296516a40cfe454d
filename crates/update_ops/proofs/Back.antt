-- What stood at a path, put there again.
use Rattle.std.proofs.Common.{◌≡◌, ◌<◌, ◌-◌, ℕ, zero, suc, ℤ, neg_ℤ, ◌+ℤ◌, Bool, true, false, cond, nat_lt, nat_le, ◌||◌, List, [], ◌∷◌, ◌++◌, length, replicate, Option, Some, None, option_and_then, Result, Ok, Err, refl, sym, ◌∙◌, ap, arith, slice_get, slice_set}
use Rattle.std.specs.Str.{bytes_eq}
use Rattle.std.proofs.Math.IntN.{+ℤ_assoc, +ℤ_invr, +ℤ_idr}
use Rattle.std.proofs.lemmas.Bool.{lt-ltb}
use Rattle.std.proofs.lemmas.Slice.Eq.{bytes_eq-Decides}
use Rattle.json_tree.specs.Tree.{Tree, null, boolean, number, text, date, list, object, elements_of, members_of, list_of_elements, list_of_members}
use Rattle.json_tree.specs.Members.{member_at, put_member}
use Rattle.json_tree.specs.RoundTrips.{list_of_elements-elements_of, list_of_members-members_of, elements_of-list_of_elements, members_of-list_of_members}
use Rattle.doc_paths.specs.Text.{index_of}
use Rattle.doc_paths.specs.At.{at, inside}
use Rattle.doc_paths.specs.Change.{changed, or_object, put_element, into, into_list, put}
use Rattle.doc_paths.specs.declared.fault.PathFault.{PathFault}
use Rattle.doc_paths.specs.declared.fault.PathFault.TheVariants.{PadTooLong}
use Rattle.update_ops.proofs.Idle.{same_member, same_element, within}

-- ---- members

seen_step : (name : List ℕ) (u : Tree) (p : List ℕ × Tree) (ps : List (List ℕ × Tree)) (b : Bool) → bytes_eq p.0 name ≡ b → member_at name (put_member name u ps) ≡ Some u
    → member_at name (cond b ((p.0, u) ∷ ps) (p ∷ put_member name u ps)) ≡ Some u
seen_step name u p ps true e more = ap (λ c. cond c (Some u) (member_at name ps)) e
seen_step name u p ps false e more = ap (λ c. cond c (Some p.1) (member_at name (put_member name u ps))) e ∙ more

member_seen : (name : List ℕ) (u : Tree) (ps : List (List ℕ × Tree)) → member_at name (put_member name u ps) ≡ Some u
member_seen name u [] = ap (λ c. cond c (Some u) None) ((bytes_eq-Decides name name).1 refl)
member_seen name u (p ∷ ps) = seen_step name u p ps (bytes_eq p.0 name) refl (member_seen name u ps)

over_step : (name : List ℕ) (u c : Tree) (p : List ℕ × Tree) (ps : List (List ℕ × Tree)) (b : Bool) → bytes_eq p.0 name ≡ b → put_member name c (put_member name u ps) ≡ put_member name c ps
    → put_member name c (cond b ((p.0, u) ∷ ps) (p ∷ put_member name u ps)) ≡ cond b ((p.0, c) ∷ ps) (p ∷ put_member name c ps)
over_step name u c p ps true e more = ap (λ r. cond r ((p.0, c) ∷ ps) ((p.0, u) ∷ put_member name c ps)) e
over_step name u c p ps false e more = ap (λ r. cond r ((p.0, c) ∷ put_member name u ps) (p ∷ put_member name c (put_member name u ps))) e ∙ ap (λ l. p ∷ l) more

-- the later of two values put counts
member_over : (name : List ℕ) (u c : Tree) (ps : List (List ℕ × Tree)) → put_member name c (put_member name u ps) ≡ put_member name c ps
member_over name u c [] = ap (λ r. cond r ((name, c) ∷ []) ((name, u) ∷ put_member name c [])) ((bytes_eq-Decides name name).1 refl)
member_over name u c (p ∷ ps) = over_step name u c p ps (bytes_eq p.0 name) refl (member_over name u c ps)

-- ---- elements

element_seen : (ts : List Tree) (i : ℕ) (u : Tree) → i < length ts → slice_get (slice_set ts i u) i ≡ Some u
element_seen [] i u h = absurd (omega arith)
element_seen (t ∷ ts) zero u h = refl
element_seen (t ∷ ts) (suc i) u h = element_seen ts i u (omega arith)

element_over : (ts : List Tree) (i : ℕ) (u c : Tree) → slice_set (slice_set ts i u) i c ≡ slice_set ts i c
element_over [] i u c = refl
element_over (t ∷ ts) zero u c = refl
element_over (t ∷ ts) (suc i) u c = ap (λ l. t ∷ l) (element_over ts i u c)

set_length : (ts : List Tree) (i : ℕ) (u : Tree) → length (slice_set ts i u) ≡ length ts
set_length [] i u = refl
set_length (t ∷ ts) zero u = refl
set_length (t ∷ ts) (suc i) u = ap suc (set_length ts i u)

-- ---- one part

changed_ok : (f : Tree → Tree) (r : Result Tree PathFault) (new : Tree) → changed f r ≡ Ok new → (u : Tree) × (r ≡ Ok u) × (f u ≡ new)
changed_ok f (Ok u) new h = (u, refl, Prim.cc h)
changed_ok f (Err e) new h = Prim.cc h

-- a step in the place of an element that is there
element_step : (passed : ℕ) (ts : List Tree) (i : ℕ) (step : Tree → Result Tree PathFault) (c : Tree) → slice_get ts i ≡ Some c
    → into_list passed ts (Some i) step ≡ changed (λ u. list (elements_of (slice_set ts i u))) (step c)
element_step passed ts i step c e =
    let b : nat_lt i (length ts) ≡ true = lt-ltb i (length ts) (within ts i c e) in
    ap (λ r. cond (r || nat_le i 999) (changed (λ u. list (elements_of (put_element i u ts))) (step (or_object (slice_get ts i)))) (Err PadTooLong)) b
    ∙ ap (λ o. changed (λ u. list (elements_of (put_element i u ts))) (step (or_object o))) e
    ∙ ap (λ r. changed (λ u. list (elements_of (cond r (slice_set ts i u) (ts ++ (replicate (i - length ts) null ++ u ∷ []))))) (step c)) b

abbrev Back : Tree → List ℕ → Tree → Type 0
Back t part c = (passed again : ℕ) (new : Tree) (step other : Tree → Result Tree PathFault) → into passed t part step ≡ Ok new → ((u : Tree) → step c ≡ Ok u → other u ≡ Ok c) → into again new part other ≡ Ok t

back_object : (ps : List (List ℕ × Tree)) (part : List ℕ) (c : Tree) (again : ℕ) (u : Tree) (other : Tree → Result Tree PathFault) → member_at part ps ≡ Some c → other u ≡ Ok c
    → into again (object (members_of (put_member part u ps))) part other ≡ Ok (object (members_of ps))
back_object ps part c again u other e k =
    ap (λ l. changed (λ w. object (members_of (put_member part w l))) (other (or_object (member_at part l)))) (list_of_members-members_of (put_member part u ps))
    ∙ ap (λ o. changed (λ w. object (members_of (put_member part w (put_member part u ps)))) (other (or_object o))) (member_seen part u ps)
    ∙ ap (changed (λ w. object (members_of (put_member part w (put_member part u ps))))) k
    ∙ ap (λ l. Ok (object (members_of l))) (member_over part u c ps ∙ same_member part c ps e)

back_list : (ts : List Tree) (i : ℕ) (c : Tree) (again : ℕ) (u : Tree) (other : Tree → Result Tree PathFault) → slice_get ts i ≡ Some c → other u ≡ Ok c
    → into_list again (list_of_elements (elements_of (slice_set ts i u))) (Some i) other ≡ Ok (list (elements_of ts))
back_list ts i c again u other e k =
    ap (λ l. into_list again l (Some i) other) (list_of_elements-elements_of (slice_set ts i u))
    ∙ element_step again (slice_set ts i u) i other u (element_seen ts i u (within ts i c e))
    ∙ ap (changed (λ w. list (elements_of (slice_set (slice_set ts i u) i w)))) k
    ∙ ap (λ l. Ok (list (elements_of l))) (element_over ts i u c ∙ same_element ts i c e)

list_part : (ts : List Tree) (part : List ℕ) (o : Option ℕ) (c : Tree) → index_of part ≡ o → option_and_then (slice_get ts) o ≡ Some c → (passed again : ℕ) (new : Tree) (step other : Tree → Result Tree PathFault)
    → into_list passed ts o step ≡ Ok new → ((u : Tree) → step c ≡ Ok u → other u ≡ Ok c) → into again new part other ≡ Ok (list (elements_of ts))
list_part ts part None c q e passed again new step other h k = Prim.cc e
list_part ts part (Some i) c q e passed again new step other h k =
    let r = changed_ok (λ u. list (elements_of (slice_set ts i u))) (step c) new (sym (element_step passed ts i step c e) ∙ h) in
    ap (λ t. into again t part other) (sym r.2)
    ∙ ap (λ o. into_list again (list_of_elements (elements_of (slice_set ts i r.0))) o other) q
    ∙ back_list ts i c again r.0 other e (k r.0 r.1)

back_part : (t : Tree) (part : List ℕ) (c : Tree) → inside t part ≡ Some c → Back t part c
back_part (object ms) part c e passed again new step other h k =
    let ps = list_of_members ms in
    let r = changed_ok (λ u. object (members_of (put_member part u ps))) (step c) new (ap (λ o. changed (λ u. object (members_of (put_member part u ps))) (step (or_object o))) (sym e) ∙ h) in
    ap (λ t. into again t part other) (sym r.2) ∙ back_object ps part c again r.0 other e (k r.0 r.1) ∙ ap (λ l. Ok (object l)) (members_of-list_of_members ms)
back_part (list es) part c e passed again new step other h k =
    list_part (list_of_elements es) part (index_of part) c refl e passed again new step other h k ∙ ap (λ l. Ok (list l)) (elements_of-list_of_elements es)
back_part null part c e passed again new step other h k = Prim.cc e
back_part (boolean b) part c e passed again new step other h k = Prim.cc e
back_part (number n) part c e passed again new step other h k = Prim.cc e
back_part (text s) part c e passed again new step other h k = Prim.cc e
back_part (date n) part c e passed again new step other h k = Prim.cc e

back_through : (passed again : ℕ) (t new : Tree) (part : List ℕ) (more : List (List ℕ)) (x z : Tree) (o : Option Tree) → inside t part ≡ o → option_and_then (λ c. at c more) o ≡ Some z
    → into passed t part (λ c. put (suc passed) c more x) ≡ Ok new → ((c u : Tree) → at c more ≡ Some z → put (suc passed) c more x ≡ Ok u → put (suc again) u more z ≡ Ok c)
    → into again new part (λ c. put (suc again) c more z) ≡ Ok t
back_through passed again t new part more x z None q e h inner = Prim.cc e
back_through passed again t new part more x z (Some c) q e h inner =
    back_part t part c q passed again new (λ c. put (suc passed) c more x) (λ c. put (suc again) c more z) h (λ u k. inner c u e k)

pub put_back : (passed again : ℕ) (t new : Tree) (path : List (List ℕ)) (x z : Tree) → at t path ≡ Some z → put passed t path x ≡ Ok new → put again new path z ≡ Ok t
put_back passed again t new [] x z e h = let q : t ≡ z = Prim.cc e in ap Ok (sym q)
put_back passed again t new (part ∷ more) x z e h = back_through passed again t new part more x z (inside t part) refl e h (λ c u. put_back (suc passed) (suc again) c u more x z)

-- ---- numbers

pub back : (m n : ℤ) → (m +ℤ n) +ℤ neg_ℤ n ≡ m
back m n = +ℤ_assoc m n (neg_ℤ n) ∙ ap (λ k. m +ℤ k) (+ℤ_invr n) ∙ +ℤ_idr m
