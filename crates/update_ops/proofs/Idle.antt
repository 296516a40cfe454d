-- Where the same value is there, and where there is none to take, nothing changes.
use Rattle.std.proofs.Common.{◌≡◌, inl, inr, ◌<◌, ◌-◌, ℕ, zero, suc, Bool, true, false, cond, nat_lt, nat_le, ◌||◌, List, [], ◌∷◌, ◌++◌, length, replicate, Option, Some, None, option_and_then, option_map, Result, Ok, Err, refl, sym, ◌∙◌, ap, arith, slice_get, slice_set, subst}
use Rattle.std.specs.Str.{bytes_eq}
use Rattle.std.proofs.lemmas.Bool.{lt-ltb}
use Rattle.std.specs.Prelude.{is_some}
use denote.Ref.{Bor}
use Rattle.json_tree.specs.Tree.{Tree, null, boolean, number, text, date, list, object, elements_of, members_of, list_of_elements, list_of_members}
use Rattle.json_tree.specs.Members.{member_at, put_member, without_member}
use Rattle.json_tree.specs.RoundTrips.{elements_of-list_of_elements, members_of-list_of_members}
use Rattle.json_tree.specs.View.{tree}
use Rattle.json_tree.specs.declared.value.Value.{Value}
use Rattle.doc_paths.specs.Text.{parts, index_of}
use Rattle.doc_paths.specs.At.{at, inside}
use Rattle.doc_paths.specs.Change.{changed, or_object, put_element, into, into_list, put, set_at, replaced, cut, stepped, without}
use Rattle.doc_paths.specs.declared.fault.PathFault.{PathFault}
use Rattle.doc_paths.specs.declared.fault.PathFault.TheVariants.{PadTooLong}
use Rattle.update_ops.specs.Apply.{Gives, Puts, put_or, put_at, put_made, made}
use Rattle.update_ops.specs.Clauses.{Effect}
use Rattle.update_ops.specs.declared.fault.UpdateFault.{UpdateFault}

-- ---- members

same_member_step : (name : List ℕ) (x : Tree) (p : List ℕ × Tree) (ps : List (List ℕ × Tree)) (b : Bool) → cond b (Some p.1) (member_at name ps) ≡ Some x → (member_at name ps ≡ Some x → put_member name x ps ≡ ps)
    → cond b ((p.0, x) ∷ ps) (p ∷ put_member name x ps) ≡ p ∷ ps
same_member_step name x p ps true e more = let q : p.1 ≡ x = Prim.cc e in ap (λ t. (p.0, t) ∷ ps) (sym q)
same_member_step name x p ps false e more = ap (λ l. p ∷ l) (more e)

pub same_member : (name : List ℕ) (x : Tree) (ps : List (List ℕ × Tree)) → member_at name ps ≡ Some x → put_member name x ps ≡ ps
same_member name x [] e = Prim.cc e
same_member name x (p ∷ ps) e = same_member_step name x p ps (bytes_eq p.0 name) e (same_member name x ps)

no_member_step : (name : List ℕ) (p : List ℕ × Tree) (ps : List (List ℕ × Tree)) (b : Bool) → cond b (Some p.1) (member_at name ps) ≡ None → (member_at name ps ≡ None → without_member name ps ≡ ps)
    → cond b ps (p ∷ without_member name ps) ≡ p ∷ ps
no_member_step name p ps true e more = Prim.cc e
no_member_step name p ps false e more = ap (λ l. p ∷ l) (more e)

no_member : (name : List ℕ) (ps : List (List ℕ × Tree)) → member_at name ps ≡ None → without_member name ps ≡ ps
no_member name [] e = refl
no_member name (p ∷ ps) e = no_member_step name p ps (bytes_eq p.0 name) e (no_member name ps)

-- ---- elements

pub same_element : (ts : List Tree) (i : ℕ) (x : Tree) → slice_get ts i ≡ Some x → slice_set ts i x ≡ ts
same_element [] i x e = refl
same_element (t ∷ ts) zero x e = let q : t ≡ x = Prim.cc e in ap (λ u. u ∷ ts) (sym q)
same_element (t ∷ ts) (suc i) x e = ap (λ l. t ∷ l) (same_element ts i x e)

pub within : (ts : List Tree) (i : ℕ) (x : Tree) → slice_get ts i ≡ Some x → i < length ts
within [] i x e = Prim.cc e
within (t ∷ ts) zero x e = omega arith
within (t ∷ ts) (suc i) x e = omega (arith, within ts i x e)

no_element : (ts : List Tree) (i : ℕ) (x : Tree) → slice_get ts i ≡ None → slice_set ts i x ≡ ts
no_element [] i x e = refl
no_element (t ∷ ts) zero x e = Prim.cc e
no_element (t ∷ ts) (suc i) x e = ap (λ l. t ∷ l) (no_element ts i x e)

-- ---- put

into_list_same : (passed : ℕ) (ts : List Tree) (o : Option ℕ) (step : Tree → Result Tree PathFault) (c : Tree) → option_and_then (slice_get ts) o ≡ Some c → step c ≡ Ok c
    → into_list passed ts o step ≡ Ok (list (elements_of ts))
into_list_same passed ts None step c e h = Prim.cc e
into_list_same passed ts (Some i) step c e h =
    let b : nat_lt i (length ts) ≡ true = lt-ltb i (length ts) (within ts i c e) in
    ap (λ r. cond (r || nat_le i 999) (changed (λ u. list (elements_of (put_element i u ts))) (step (or_object (slice_get ts i)))) (Err PadTooLong)) b
    ∙ ap (λ o. changed (λ u. list (elements_of (put_element i u ts))) (step (or_object o))) e
    ∙ ap (changed (λ u. list (elements_of (put_element i u ts)))) h
    ∙ ap (λ r. Ok (list (elements_of (cond r (slice_set ts i c) (ts ++ (replicate (i - length ts) null ++ c ∷ [])))))) b
    ∙ ap (λ l. Ok (list (elements_of l))) (same_element ts i c e)

into_same : (passed : ℕ) (t : Tree) (part : List ℕ) (step : Tree → Result Tree PathFault) (c : Tree) → inside t part ≡ Some c → step c ≡ Ok c → into passed t part step ≡ Ok t
into_same passed (object ms) part step c e h =
    ap (λ o. changed (λ u. object (members_of (put_member part u (list_of_members ms)))) (step (or_object o))) e
    ∙ ap (changed (λ u. object (members_of (put_member part u (list_of_members ms))))) h
    ∙ ap (λ l. Ok (object (members_of l))) (same_member part c (list_of_members ms) e)
    ∙ ap (λ l. Ok (object l)) (members_of-list_of_members ms)
into_same passed (list ts) part step c e h = into_list_same passed (list_of_elements ts) (index_of part) step c e h ∙ ap (λ l. Ok (list l)) (elements_of-list_of_elements ts)
into_same passed null part step c e h = Prim.cc e
into_same passed (boolean b) part step c e h = Prim.cc e
into_same passed (number n) part step c e h = Prim.cc e
into_same passed (text s) part step c e h = Prim.cc e
into_same passed (date n) part step c e h = Prim.cc e

put_through : (passed : ℕ) (t : Tree) (part : List ℕ) (more : List (List ℕ)) (x : Tree) (o : Option Tree) → inside t part ≡ o → option_and_then (λ c. at c more) o ≡ Some x
    → ((c : Tree) → at c more ≡ Some x → put (suc passed) c more x ≡ Ok c) → into passed t part (λ c. put (suc passed) c more x) ≡ Ok t
put_through passed t part more x None q e inner = Prim.cc e
put_through passed t part more x (Some c) q e inner = into_same passed t part (λ d. put (suc passed) d more x) c q (inner c e)

-- the value that is there, put
pub put_same : (passed : ℕ) (t : Tree) (path : List (List ℕ)) (x : Tree) → at t path ≡ Some x → put passed t path x ≡ Ok t
put_same passed t [] x e = let q : t ≡ x = Prim.cc e in ap Ok (sym q)
put_same passed t (part ∷ more) x e = put_through passed t part more x (inside t part) refl e (λ c. put_same (suc passed) c more x)

-- ---- taken

set_same : (ts : List Tree) (o : Option ℕ) (c : Tree) → option_and_then (slice_get ts) o ≡ Some c → set_at ts o c ≡ ts
set_same ts None c e = refl
set_same ts (Some i) c e = same_element ts i c e

set_none : (ts : List Tree) (o : Option ℕ) (c : Tree) → option_and_then (slice_get ts) o ≡ None → set_at ts o c ≡ ts
set_none ts None c e = refl
set_none ts (Some i) c e = no_element ts i c e

replaced_same : (t : Tree) (part : List ℕ) (c : Tree) → inside t part ≡ Some c → replaced t part c ≡ t
replaced_same (object ms) part c e = ap (λ l. object (members_of l)) (same_member part c (list_of_members ms) e) ∙ ap object (members_of-list_of_members ms)
replaced_same (list ts) part c e = ap (λ l. list (elements_of l)) (set_same (list_of_elements ts) (index_of part) c e) ∙ ap list (elements_of-list_of_elements ts)
replaced_same null part c e = refl
replaced_same (boolean b) part c e = refl
replaced_same (number n) part c e = refl
replaced_same (text s) part c e = refl
replaced_same (date n) part c e = refl

cut_none : (t : Tree) (part : List ℕ) → inside t part ≡ None → cut t part ≡ t
cut_none (object ms) part e = ap (λ l. object (members_of l)) (no_member part (list_of_members ms) e) ∙ ap object (members_of-list_of_members ms)
cut_none (list ts) part e = ap (λ l. list (elements_of l)) (set_none (list_of_elements ts) (index_of part) null e) ∙ ap list (elements_of-list_of_elements ts)
cut_none null part e = refl
cut_none (boolean b) part e = refl
cut_none (number n) part e = refl
cut_none (text s) part e = refl
cut_none (date n) part e = refl

last_none : (o : Option Tree) → option_and_then (λ (c : Tree). Some c) o ≡ None → o ≡ None
last_none None e = refl
last_none (Some c) e = Prim.cc e

stepped_none : (t : Tree) (part : List ℕ) (more : List (List ℕ)) (o : Option Tree) → inside t part ≡ o → option_and_then (λ c. at c more) o ≡ None
    → ((c : Tree) → at c more ≡ None → without c more ≡ c) → stepped t part (λ c. without c more) o ≡ t
stepped_none t part more None q e inner = refl
stepped_none t part more (Some c) q e inner = ap (replaced t part) (inner c e) ∙ replaced_same t part c q

-- nothing where there is none
pub without_none : (t : Tree) (path : List (List ℕ)) → at t path ≡ None → without t path ≡ t
without_none t [] e = refl
without_none t (part ∷ []) e = cut_none t part (last_none (inside t part) e)
without_none t (part ∷ next ∷ more) e = stepped_none t part (next ∷ more) (inside t part) refl e (λ c. without_none c (next ∷ more))

-- ---- what clauses do

pub put_there : (path : List ℕ) (x d : Tree) → at d (parts path) ≡ Some x → put_at path x d ≡ Ok d
put_there path x d e = ap (put_or path) (put_same 0 d (parts path) x e)

put_back : (path : List ℕ) (d : Tree) (o : Option Tree) → at d (parts path) ≡ o → put_made path d (Ok o) ≡ Ok d
put_back path d None e = refl
put_back path d (Some x) e = put_there path x d e

pub put_made_as : (path : List ℕ) (d : Tree) (r : Option Value) (meant : Result (Option Tree) UpdateFault) → Puts (at d (parts path)) (Ok r) meant → put_made path d (Ok (option_map tree r)) ≡ put_made path d meant
put_made_as path d (Some v) meant h = ap (put_made path d) (sym h)
put_made_as path d None meant (inl h) = ap (put_made path d) (sym h)
put_made_as path d None meant (inr h) = sym (put_back path d (at d (parts path)) refl) ∙ ap (put_made path d) (sym h)

pub puts_of : (there : Option Tree) (r : Result (Option Value) UpdateFault) (meant : Result (Option Tree) UpdateFault) → Gives (option_map tree) r meant → Puts there r meant
puts_of there (Ok (Some v)) meant h = h
puts_of there (Ok None) meant h = inl h
puts_of there (Err e) meant h = h

pub gives_as : {X Y : Type 0} (view : X → Y) (r : Result X UpdateFault) (m n : Result Y UpdateFault) → m ≡ n → Gives view r m → Gives view r n
gives_as view (Ok x) m n e h = sym e ∙ h
gives_as view (Err f) m n e (inl h) = inl h
gives_as view (Err f) m n e (inr h) = inr (sym e ∙ h)

pub shows_none : (r : Option (Bor Value)) (o : Option Tree) → is_some r ≡ false → option_map (λ v. tree v.now) r ≡ o → o ≡ None
shows_none None o e h = sym h
shows_none (Some v) o e h = Prim.cc e

pub put_made_by : (path : List ℕ) (t d : Tree) (there : Option Tree) (r : Option Value) (w : Effect) → there ≡ at t (parts path) → t ≡ d → Puts there (Ok r) (made path w there)
    → put_made path d (Ok (option_map tree r)) ≡ put_made path d (made path w (at d (parts path)))
put_made_by path t d there r w e q h =
    let is : there ≡ at d (parts path) = e ∙ ap (λ u. at u (parts path)) q in
    put_made_as path d r (made path w (at d (parts path))) (subst (λ o. Puts o (Ok r) (made path w o)) is h)
