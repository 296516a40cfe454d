-- What paths show after a put or a take.
use Rattle.std.proofs.Common.{◌≡◌, ◌⊎◌, inl, inr, ⊎_elim, ◌<◌, ◌+◌, ◌-◌, ℕ, zero, suc, Bool, true, false, cond, not, nat_lt, nat_le, ◌||◌, List, [], ◌∷◌, ◌++◌, length, Option, Some, None, is_some, option_and_then, Result, Ok, Err, OnOk, refl, sym, ◌∙◌, ap, arith, slice_get, slice_set, replicate, subst}
use Rattle.std.specs.Str.{bytes_eq}
use Rattle.std.proofs.lemmas.Slice.Eq.{bytes_eq-Decides}
use Rattle.std.proofs.lemmas.Bool.{ltb-true, ltb-false, and_parts}
use Rattle.json_tree.specs.Tree.{Tree, null, boolean, number, text, date, list, object, elements_of, members_of, list_of_elements, list_of_members, Members, Elements}
use Rattle.json_tree.specs.Members.{member_at, put_member, without_member, all_distinct}
use Rattle.doc_paths.specs.Text.{index_of}
use Rattle.doc_paths.specs.At.{at, inside}
use Rattle.doc_paths.specs.Overlap.{Overlap}
use Rattle.doc_paths.specs.Shown.{StillShows}
use Rattle.doc_paths.specs.Change.{changed, or_object, put_element, into, into_list, put, replaced, set_at, cut, stepped, without, Changes}
use Rattle.doc_paths.specs.declared.fault.PathFault.{PathFault}
use Rattle.doc_paths.specs.declared.fault.PathFault.TheVariants.{PadTooLong}
use Rattle.doc_paths.proofs.Trees.{inside_object, inside_list}
use Rattle.doc_paths.proofs.Parts.{Some_parts}
use Rattle.doc_paths.proofs.Puts.{without_step}
use Rattle.doc_paths.proofs.Numerals.{one_part}

-- ---- names and members

name_is : (a b : List ℕ) → (a ≡ b) ⊎ (a ≡ b → ⊥)
name_is a b = go (bytes_eq a b) refl
  where
    go : (r : Bool) → bytes_eq a b ≡ r → (a ≡ b) ⊎ (a ≡ b → ⊥)
    go true e = inl ((bytes_eq-Decides a b).0 e)
    go false e = inr (λ q. let z : true ≡ false = sym ((bytes_eq-Decides a b).1 q) ∙ e in absurd (Prim.cc z))

same_name : (a : List ℕ) → bytes_eq a a ≡ true
same_name a = (bytes_eq-Decides a a).1 refl

other_name : (a b : List ℕ) → (a ≡ b → ⊥) → bytes_eq a b ≡ false
other_name a b h = go (bytes_eq a b) refl
  where
    go : (r : Bool) → bytes_eq a b ≡ r → bytes_eq a b ≡ false
    go false e = e
    go true e = absurd (h ((bytes_eq-Decides a b).0 e))

put_same_step : (name : List ℕ) (u : Tree) (p : List ℕ × Tree) (ps : List (List ℕ × Tree)) (b : Bool) → bytes_eq p.0 name ≡ b → member_at name (put_member name u ps) ≡ Some u
    → member_at name (cond b ((p.0, u) ∷ ps) (p ∷ put_member name u ps)) ≡ Some u
put_same_step name u p ps true e ih = ap (λ c. cond c (Some u) (member_at name ps)) e
put_same_step name u p ps false e ih = ap (λ c. cond c (Some p.1) (member_at name (put_member name u ps))) e ∙ ih

put_same : (name : List ℕ) (u : Tree) (ps : List (List ℕ × Tree)) → member_at name (put_member name u ps) ≡ Some u
put_same name u [] = ap (λ c. cond c (Some u) None) (same_name name)
put_same name u (p ∷ ps) = put_same_step name u p ps (bytes_eq p.0 name) refl (put_same name u ps)

not_this : (name other : List ℕ) (p : List ℕ) → (name ≡ other → ⊥) → bytes_eq p name ≡ true → bytes_eq p other ≡ false
not_this name other p h e = other_name p other (λ q. h (sym ((bytes_eq-Decides p name).0 e) ∙ q))

put_other_step : (name other : List ℕ) (u : Tree) (p : List ℕ × Tree) (ps : List (List ℕ × Tree)) (b : Bool) → (name ≡ other → ⊥) → bytes_eq p.0 name ≡ b → member_at other (put_member name u ps) ≡ member_at other ps
    → member_at other (cond b ((p.0, u) ∷ ps) (p ∷ put_member name u ps)) ≡ member_at other (p ∷ ps)
put_other_step name other u p ps true h e ih =
    let f = not_this name other p.0 h e in
    ap (λ c. cond c (Some u) (member_at other ps)) f ∙ sym (ap (λ c. cond c (Some p.1) (member_at other ps)) f)
put_other_step name other u p ps false h e ih = ap (λ m. cond (bytes_eq p.0 other) (Some p.1) m) ih

put_other : (name other : List ℕ) (u : Tree) (ps : List (List ℕ × Tree)) → (name ≡ other → ⊥) → member_at other (put_member name u ps) ≡ member_at other ps
put_other name other u [] h = ap (λ c. cond c (Some u) None) (other_name name other h)
put_other name other u (p ∷ ps) h = put_other_step name other u p ps (bytes_eq p.0 name) h refl (put_other name other u ps h)

without_other_step : (name other : List ℕ) (p : List ℕ × Tree) (ps : List (List ℕ × Tree)) (b : Bool) → (name ≡ other → ⊥) → bytes_eq p.0 name ≡ b → member_at other (without_member name ps) ≡ member_at other ps
    → member_at other (cond b ps (p ∷ without_member name ps)) ≡ member_at other (p ∷ ps)
without_other_step name other p ps true h e ih = sym (ap (λ c. cond c (Some p.1) (member_at other ps)) (not_this name other p.0 h e))
without_other_step name other p ps false h e ih = ap (λ m. cond (bytes_eq p.0 other) (Some p.1) m) ih

without_other : (name other : List ℕ) (ps : List (List ℕ × Tree)) → (name ≡ other → ⊥) → member_at other (without_member name ps) ≡ member_at other ps
without_other name other [] h = refl
without_other name other (p ∷ ps) h = without_other_step name other p ps (bytes_eq p.0 name) h refl (without_other name other ps h)

not_some : (o : Option Tree) → not (is_some o) ≡ true → o ≡ None
not_some None h = refl
not_some (Some x) h = absurd (Prim.cc h)

without_same_step : (name : List ℕ) (p : List ℕ × Tree) (ps : List (List ℕ × Tree)) (b : Bool) → bytes_eq p.0 name ≡ b → not (is_some (member_at p.0 ps)) ≡ true → member_at name (without_member name ps) ≡ None
    → member_at name (cond b ps (p ∷ without_member name ps)) ≡ None
without_same_step name p ps true e once ih = ap (λ n. member_at n ps) (sym ((bytes_eq-Decides p.0 name).0 e)) ∙ not_some (member_at p.0 ps) once
without_same_step name p ps false e once ih = ap (λ c. cond c (Some p.1) (member_at name (without_member name ps))) e ∙ ih

without_same : (name : List ℕ) (ps : List (List ℕ × Tree)) → all_distinct ps ≡ true → member_at name (without_member name ps) ≡ None
without_same name [] h = refl
without_same name (p ∷ ps) h = let both = and_parts (not (is_some (member_at p.0 ps))) (all_distinct ps) h in without_same_step name p ps (bytes_eq p.0 name) refl both.0 (without_same name ps both.1)

-- ---- elements

set_there : (ts : List Tree) (i : ℕ) (u : Tree) → i < length ts → slice_get (slice_set ts i u) i ≡ Some u
set_there [] i u h = absurd (omega arith)
set_there (t ∷ ts) zero u h = refl
set_there (t ∷ ts) (suc i) u h = set_there ts i u (omega arith)

set_elsewhere : (ts : List Tree) (i j : ℕ) (u : Tree) → (i ≡ j → ⊥) → slice_get (slice_set ts i u) j ≡ slice_get ts j
set_elsewhere [] i j u h = refl
set_elsewhere (t ∷ ts) zero zero u h = absurd (h refl)
set_elsewhere (t ∷ ts) zero (suc j) u h = refl
set_elsewhere (t ∷ ts) (suc i) zero u h = refl
set_elsewhere (t ∷ ts) (suc i) (suc j) u h = set_elsewhere ts i j u (λ e. h (ap suc e))

padded_there : (ts : List Tree) (k j : ℕ) (u : Tree) → j ≡ length ts + k → slice_get (ts ++ (replicate k null ++ u ∷ [])) j ≡ Some u
padded_there [] zero zero u h = refl
padded_there [] zero (suc j) u h = absurd (omega (arith, h))
padded_there [] (suc k) zero u h = absurd (omega (arith, h))
padded_there [] (suc k) (suc j) u h = padded_there [] k j u (omega (arith, h))
padded_there (t ∷ ts) k zero u h = absurd (omega (arith, h))
padded_there (t ∷ ts) k (suc j) u h = padded_there ts k j u (omega (arith, h))

padded_elsewhere : (ts : List Tree) (k j : ℕ) (u : Tree) → (length ts + k ≡ j → ⊥) → StillShows (slice_get ts j) (slice_get (ts ++ (replicate k null ++ u ∷ [])) j)
padded_elsewhere [] zero zero u h = absurd (h (omega arith))
padded_elsewhere [] zero (suc j) u h = inl refl
padded_elsewhere [] (suc k) zero u h = inr (refl, refl)
padded_elsewhere [] (suc k) (suc j) u h = padded_elsewhere [] k j u (λ e. h (omega (arith, e)))
padded_elsewhere (t ∷ ts) k zero u h = inl refl
padded_elsewhere (t ∷ ts) k (suc j) u h = padded_elsewhere ts k j u (λ e. h (omega (arith, e)))

element_there : (ts : List Tree) (i : ℕ) (u : Tree) → slice_get (put_element i u ts) i ≡ Some u
element_there ts i u = go (nat_lt i (length ts)) refl
  where
    go : (b : Bool) → nat_lt i (length ts) ≡ b → slice_get (cond b (slice_set ts i u) (ts ++ (replicate (i - length ts) null ++ u ∷ []))) i ≡ Some u
    go true e = set_there ts i u (ltb-true i (length ts) e)
    go false e = padded_there ts (i - length ts) i u (omega (arith, ltb-false i (length ts) e))

element_elsewhere : (ts : List Tree) (i j : ℕ) (u : Tree) → (i ≡ j → ⊥) → StillShows (slice_get ts j) (slice_get (put_element i u ts) j)
element_elsewhere ts i j u h = go (nat_lt i (length ts)) refl
  where
    go : (b : Bool) → nat_lt i (length ts) ≡ b → StillShows (slice_get ts j) (slice_get (cond b (slice_set ts i u) (ts ++ (replicate (i - length ts) null ++ u ∷ []))) j)
    go true e = inl (set_elsewhere ts i j u h)
    go false e = padded_elsewhere ts (i - length ts) j u (λ q. h (omega (arith, q, ltb-false i (length ts) e)))

-- ---- one part

-- what a put through one part makes
record Into (t : Tree) (part : List ℕ) (step : Tree → Result Tree PathFault) (new : Tree) : Type 0 where
  child : Tree
  made : step (or_object (inside t part)) ≡ Ok child
  here : inside new part ≡ Some child
  others : (b : List ℕ) → (part ≡ b → ⊥) → StillShows (inside t b) (inside new b)

record Was_ok (f : Tree → Tree) (r : Result Tree PathFault) (new : Tree) : Type 0 where
  from : Tree
  was : r ≡ Ok from
  is : new ≡ f from

changed_ok : (f : Tree → Tree) (r : Result Tree PathFault) (new : Tree) → changed f r ≡ Ok new → Was_ok f r new
changed_ok f (Ok u) new h = record { from = u; was = refl; is = sym (let z : f u ≡ new = Prim.cc h in z) }
changed_ok f (Err e) new h = absurd (Prim.cc h)

element_of : (o : Option ℕ) (ts us : List Tree) (i : ℕ) → (o ≡ Some i → ⊥) → ((j : ℕ) → (i ≡ j → ⊥) → StillShows (slice_get ts j) (slice_get us j)) → StillShows (option_and_then (slice_get ts) o) (option_and_then (slice_get us) o)
element_of None ts us i h all = inl refl
element_of (Some j) ts us i h all = all j (λ e. h (ap Some (sym e)))

into_object_is : (passed : ℕ) (t : Tree) (part : List ℕ) (step : Tree → Result Tree PathFault) (ps : List (List ℕ × Tree)) (new : Tree) → inside t part ≡ member_at part ps → ((b : List ℕ) → inside t b ≡ member_at b ps)
    → changed (λ u. object (members_of (put_member part u ps))) (step (or_object (member_at part ps))) ≡ Ok new → Into t part step new
into_object_is passed t part step ps new at all h =
    let w = changed_ok (λ u. object (members_of (put_member part u ps))) (step (or_object (member_at part ps))) new h in
    record {
      child = w.from;
      made = ap (λ o. step (or_object o)) at ∙ w.was;
      here = ap (λ n. inside n part) w.is ∙ inside_object (put_member part w.from ps) part ∙ put_same part w.from ps;
      others = λ b apart. inl (ap (λ n. inside n b) w.is ∙ inside_object (put_member part w.from ps) b ∙ put_other part b w.from ps apart ∙ sym (all b));
    }

into_list_is : (passed : ℕ) (t : Tree) (part : List ℕ) (step : Tree → Result Tree PathFault) (ts : List Tree) (i : ℕ) (new : Tree) (b : Bool) → index_of part ≡ Some i → ((b : List ℕ) → inside t b ≡ option_and_then (slice_get ts) (index_of b))
    → cond b (changed (λ u. list (elements_of (put_element i u ts))) (step (or_object (slice_get ts i)))) (Err PadTooLong) ≡ Ok new → Into t part step new
into_list_is passed t part step ts i new false at all h = absurd (Prim.cc h)
into_list_is passed t part step ts i new true at all h =
    let w = changed_ok (λ u. list (elements_of (put_element i u ts))) (step (or_object (slice_get ts i))) new h in
    let us = put_element i w.from ts in
    record {
      child = w.from;
      made = ap (λ o. step (or_object o)) (all part ∙ ap (option_and_then (slice_get ts)) at) ∙ w.was;
      here = ap (λ n. inside n part) w.is ∙ inside_list us part ∙ ap (option_and_then (slice_get us)) at ∙ element_there ts i w.from;
      others = λ b apart.
          subst (λ o. StillShows (inside t b) o) (sym (ap (λ n. inside n b) w.is ∙ inside_list us b))
          (subst (λ o. StillShows o (option_and_then (slice_get us) (index_of b))) (sym (all b))
          (element_of (index_of b) ts us i (λ e. apart (one_part part b i at e)) (λ j other. element_elsewhere ts i j w.from other)));
    }

into_place : (passed : ℕ) (t : Tree) (part : List ℕ) (step : Tree → Result Tree PathFault) (ts : List Tree) (o : Option ℕ) (new : Tree) → index_of part ≡ o → ((b : List ℕ) → inside t b ≡ option_and_then (slice_get ts) (index_of b))
    → into_list passed ts o step ≡ Ok new → Into t part step new
into_place passed t part step ts None new at all h = absurd (Prim.cc h)
into_place passed t part step ts (Some i) new at all h = into_list_is passed t part step ts i new (nat_lt i (length ts) || nat_le i 999) at all h

into_is : (passed : ℕ) (t : Tree) (part : List ℕ) (step : Tree → Result Tree PathFault) (new : Tree) → into passed t part step ≡ Ok new → Into t part step new
into_is passed (object ms) part step new h = into_object_is passed (object ms) part step (list_of_members ms) new refl (λ b. refl) h
into_is passed (list ts) part step new h = into_place passed (list ts) part step (list_of_elements ts) (index_of part) new refl (λ b. refl) h
into_is passed null part step new h = absurd (Prim.cc h)
into_is passed (boolean b) part step new h = absurd (Prim.cc h)
into_is passed (number n) part step new h = absurd (Prim.cc h)
into_is passed (text s) part step new h = absurd (Prim.cc h)
into_is passed (date d) part step new h = absurd (Prim.cc h)

-- ---- overlaps

further : (a : List ℕ) (p q : List (List ℕ)) → (Overlap (a ∷ p) (a ∷ q) → ⊥) → Overlap p q → ⊥
further a p q h o =
    h (⊎_elim (λ x. inl (record { rest = x.rest; is = ap (λ l. a ∷ l) x.is })) (λ x. inr (record { rest = x.rest; is = ap (λ l. a ∷ l) x.is })) o)

further_as : (a b : List ℕ) (p q : List (List ℕ)) → a ≡ b → (Overlap (a ∷ p) (b ∷ q) → ⊥) → Overlap p q → ⊥
further_as a b p q e h = further a p q (subst (λ c. Overlap (a ∷ p) (c ∷ q) → ⊥) (sym e) h)

none_apart : (p : List (List ℕ)) → Overlap [] p
none_apart p = inl (record { rest = p; is = refl })

apart_none : (p : List (List ℕ)) → Overlap p []
apart_none p = inr (record { rest = p; is = refl })

first_overlaps : (a b : List ℕ) (q : List (List ℕ)) → a ≡ b → Overlap (a ∷ []) (b ∷ q)
first_overlaps a b q e = inl (record { rest = q; is = ap (λ c. c ∷ q) (sym e) })

-- ---- putting

lifts : (o n : Option Tree) (qs : List (List ℕ)) → StillShows o n → StillShows (option_and_then (λ c. at c qs) o) (option_and_then (λ c. at c qs) n)
lifts o n qs (inl e) = inl (ap (option_and_then (λ c. at c qs)) e)
lifts o n [] (inr e) = inr (ap (option_and_then (λ c. at c [])) e.0, ap (option_and_then (λ c. at c [])) e.1)
lifts o n (q ∷ qs) (inr e) = inl (ap (option_and_then (λ c. at c (q ∷ qs))) e.1 ∙ sym (ap (option_and_then (λ c. at c (q ∷ qs))) e.0))

grown : (m : Option Tree) (u : Tree) (more qs : List (List ℕ)) → (Overlap more qs → ⊥) → StillShows (at (or_object m) qs) (at u qs) → StillShows (option_and_then (λ c. at c qs) m) (at u qs)
grown (Some c) u more qs apart h = h
grown None u more [] apart h = absurd (apart (apart_none more))
grown None u more (q ∷ qs) apart h = h

put_others_step : (t new : Tree) (part b : List ℕ) (more qs : List (List ℕ)) (step : Tree → Result Tree PathFault) → Into t part step new → (Overlap (part ∷ more) (b ∷ qs) → ⊥)
    → ((c u : Tree) → (Overlap more qs → ⊥) → step c ≡ Ok u → StillShows (at c qs) (at u qs)) → (part ≡ b) ⊎ (part ≡ b → ⊥) → StillShows (at t (b ∷ qs)) (at new (b ∷ qs))
put_others_step t new part b more qs step w apart ih (inr other) = lifts (inside t b) (inside new b) qs (w.others b other)
put_others_step t new part b more qs step w apart ih (inl same) =
    let below = further_as part b more qs same apart in
    let deep = grown (inside t part) w.child more qs below (ih (or_object (inside t part)) w.child below w.made) in
    subst (λ c. StillShows (at t (c ∷ qs)) (at new (c ∷ qs))) same
    (subst (λ o. StillShows (option_and_then (λ c. at c qs) (inside t part)) (option_and_then (λ c. at c qs) o)) (sym w.here) deep)

-- every other path shows what it showed
pub put_others : (path : List (List ℕ)) (passed : ℕ) (t new x : Tree) (q : List (List ℕ)) → (Overlap path q → ⊥) → put passed t path x ≡ Ok new → StillShows (at t q) (at new q)
put_others [] passed t new x q apart h = absurd (apart (none_apart q))
put_others (part ∷ more) passed t new x [] apart h = absurd (apart (apart_none (part ∷ more)))
put_others (part ∷ more) passed t new x (b ∷ qs) apart h =
    put_others_step t new part b more qs (λ c. put (suc passed) c more x) (into_is passed t part (λ c. put (suc passed) c more x) new h) apart (λ c u below e. put_others more (suc passed) c u x qs below e) (name_is part b)

-- what was put is there
pub put_there : (path : List (List ℕ)) (passed : ℕ) (t new x : Tree) → put passed t path x ≡ Ok new → at new path ≡ Some x
put_there [] passed t new x h = ap Some (sym (let z : x ≡ new = Prim.cc h in z))
put_there (part ∷ more) passed t new x h =
    let w = into_is passed t part (λ c. put (suc passed) c more x) new h in
    ap (option_and_then (λ c. at c more)) w.here ∙ put_there more (suc passed) (or_object (inside t part)) w.child x w.made

-- ---- taking

set_other : (o : Option ℕ) (ts : List Tree) (u : Tree) (p : Option ℕ) → ((i : ℕ) → o ≡ Some i → p ≡ Some i → ⊥) → option_and_then (slice_get (set_at ts o u)) p ≡ option_and_then (slice_get ts) p
set_other None ts u p h = refl
set_other (Some i) ts u None h = refl
set_other (Some i) ts u (Some j) h = set_elsewhere ts i j u (λ e. h i refl (ap Some (sym e)))

replaced_elsewhere : (t : Tree) (part b : List ℕ) (u : Tree) → (part ≡ b → ⊥) → inside (replaced t part u) b ≡ inside t b
replaced_elsewhere (object ms) part b u apart = inside_object (put_member part u (list_of_members ms)) b ∙ put_other part b u (list_of_members ms) apart
replaced_elsewhere (list ts) part b u apart =
    inside_list (set_at (list_of_elements ts) (index_of part) u) b ∙ set_other (index_of part) (list_of_elements ts) u (index_of b) (λ i p q. apart (one_part part b i p q))
replaced_elsewhere null part b u apart = refl
replaced_elsewhere (boolean x) part b u apart = refl
replaced_elsewhere (number n) part b u apart = refl
replaced_elsewhere (text s) part b u apart = refl
replaced_elsewhere (date d) part b u apart = refl

set_here : (o : Option ℕ) (ts : List Tree) (u c : Tree) → option_and_then (slice_get ts) o ≡ Some c → option_and_then (slice_get (set_at ts o u)) o ≡ Some u
set_here None ts u c h = absurd (Prim.cc h)
set_here (Some i) ts u c h = go ts i h
  where
    go : (ts : List Tree) (i : ℕ) → slice_get ts i ≡ Some c → slice_get (slice_set ts i u) i ≡ Some u
    go [] i h = absurd (Prim.cc h)
    go (t ∷ ts) zero h = refl
    go (t ∷ ts) (suc i) h = go ts i h

replaced_here : (t : Tree) (part : List ℕ) (u c : Tree) → inside t part ≡ Some c → inside (replaced t part u) part ≡ Some u
replaced_here (object ms) part u c h = inside_object (put_member part u (list_of_members ms)) part ∙ put_same part u (list_of_members ms)
replaced_here (list ts) part u c h = inside_list (set_at (list_of_elements ts) (index_of part) u) part ∙ set_here (index_of part) (list_of_elements ts) u c h
replaced_here null part u c h = absurd (Prim.cc h)
replaced_here (boolean x) part u c h = absurd (Prim.cc h)
replaced_here (number n) part u c h = absurd (Prim.cc h)
replaced_here (text s) part u c h = absurd (Prim.cc h)
replaced_here (date d) part u c h = absurd (Prim.cc h)

cut_elsewhere : (t : Tree) (part b : List ℕ) → (part ≡ b → ⊥) → inside (cut t part) b ≡ inside t b
cut_elsewhere (object ms) part b apart = inside_object (without_member part (list_of_members ms)) b ∙ without_other part b (list_of_members ms) apart
cut_elsewhere (list ts) part b apart = replaced_elsewhere (list ts) part b null apart
cut_elsewhere null part b apart = refl
cut_elsewhere (boolean x) part b apart = refl
cut_elsewhere (number n) part b apart = refl
cut_elsewhere (text s) part b apart = refl
cut_elsewhere (date d) part b apart = refl

stepped_others : (t : Tree) (part b : List ℕ) (more qs : List (List ℕ)) (step : Tree → Tree) (o : Option Tree) → inside t part ≡ o → (Overlap (part ∷ more) (b ∷ qs) → ⊥)
    → ((c : Tree) → (Overlap more qs → ⊥) → at (step c) qs ≡ at c qs) → (part ≡ b) ⊎ (part ≡ b → ⊥) → at (stepped t part step o) (b ∷ qs) ≡ at t (b ∷ qs)
stepped_others t part b more qs step None is apart ih d = refl
stepped_others t part b more qs step (Some c) is apart ih (inr other) = ap (option_and_then (λ c. at c qs)) (replaced_elsewhere t part b (step c) other)
stepped_others t part b more qs step (Some c) is apart ih (inl same) =
    subst (λ n. at (replaced t part (step c)) (n ∷ qs) ≡ at t (n ∷ qs)) same
    (ap (option_and_then (λ c. at c qs)) (replaced_here t part (step c) c is) ∙ ih c (further_as part b more qs same apart) ∙ sym (ap (option_and_then (λ c. at c qs)) is))

cut_others : (t : Tree) (part b : List ℕ) (qs : List (List ℕ)) → (Overlap (part ∷ []) (b ∷ qs) → ⊥) → at (cut t part) (b ∷ qs) ≡ at t (b ∷ qs)
cut_others t part b qs apart = ap (option_and_then (λ c. at c qs)) (cut_elsewhere t part b (λ e. apart (first_overlaps part b qs e)))

-- every other path shows what it showed
pub take_others : (path : List (List ℕ)) (t : Tree) (q : List (List ℕ)) → (Overlap path q → ⊥) → at (without t path) q ≡ at t q
take_others [] t q apart = absurd (apart (none_apart q))
take_others (part ∷ more) t [] apart = absurd (apart (apart_none (part ∷ more)))
take_others (part ∷ []) t (b ∷ qs) apart = cut_others t part b qs apart
take_others (part ∷ next ∷ more) t (b ∷ qs) apart =
    stepped_others t part b (next ∷ more) qs (λ c. without c (next ∷ more)) (inside t part) refl apart (λ c below. take_others (next ∷ more) c qs below) (name_is part b)

only : (o : Option Tree) → option_and_then (λ c. Some c) o ≡ o
only None = refl
only (Some x) = refl

some_more : (front : List (List ℕ)) (part : List ℕ) → Some_parts (front ++ part ∷ [])
some_more [] part = record { first = part; more = []; are = refl }
some_more (f ∷ fs) part = record { first = f; more = fs ++ part ∷ []; are = refl }

taken_step : (t : Tree) (f : List ℕ) (ps : List (List ℕ)) (step : Tree → Tree) (o : Option Tree) (fs : List (List ℕ)) (c : Tree) (r : Option Tree) → inside t f ≡ o → option_and_then (λ d. at d fs) o ≡ Some c
    → ((d : Tree) → at d fs ≡ Some c → at (step d) ps ≡ r) → at (stepped t f step o) (f ∷ ps) ≡ r
taken_step t f ps step None fs c r is h ih = absurd (Prim.cc h)
taken_step t f ps step (Some d) fs c r is h ih = ap (option_and_then (λ x. at x ps)) (replaced_here t f (step d) d is) ∙ ih d h

-- what is left at the path
taken : (front : List (List ℕ)) (t : Tree) (part : List ℕ) (c : Tree) → at t front ≡ Some c → at (without t (front ++ part ∷ [])) (front ++ part ∷ []) ≡ inside (cut c part) part
taken [] t part c h = only (inside (cut t part) part) ∙ ap (λ x. inside (cut x part) part) (let z : t ≡ c = Prim.cc h in z)
taken (f ∷ fs) t part c h =
    ap (λ x. at x (f ∷ (fs ++ part ∷ []))) (without_step t f (fs ++ part ∷ []) (some_more fs part))
    ∙ taken_step t f (fs ++ part ∷ []) (λ d. without d (fs ++ part ∷ [])) (inside t f) fs c (inside (cut c part) part) refl h (λ d e. taken fs d part c e)

-- a member is gone
pub member_gone : (front : List (List ℕ)) (t : Tree) (part : List ℕ) (ms : Members) → at t front ≡ Some (object ms) → all_distinct (list_of_members ms) ≡ true → at (without t (front ++ part ∷ [])) (front ++ part ∷ []) ≡ None
member_gone front t part ms h once =
    taken front t part (object ms) h ∙ inside_object (without_member part (list_of_members ms)) part ∙ without_same part (list_of_members ms) once

-- an element is null
pub element_null : (front : List (List ℕ)) (t : Tree) (part : List ℕ) (ts : Elements) (y : Tree) → at t front ≡ Some (list ts) → inside (list ts) part ≡ Some y → at (without t (front ++ part ∷ [])) (front ++ part ∷ []) ≡ Some null
element_null front t part ts y h there = taken front t part (list ts) h ∙ replaced_here (list ts) part null y there

-- ---- a call's answer

pub changes_there : {X : Type 0} (r : Result X PathFault) (path : List (List ℕ)) (old new x : Tree) → Changes r (put 0 old path x) old new → OnOk r (at new path ≡ Some x)
changes_there (Ok y) path old new x h = put_there path 0 old new x h
changes_there (Err e) path old new x h = tt

pub changes_others : {X : Type 0} (r : Result X PathFault) (path : List (List ℕ)) (old new x : Tree) → Changes r (put 0 old path x) old new
    → OnOk r ((other : List (List ℕ)) → (Overlap path other → ⊥) → StillShows (at old other) (at new other))
changes_others (Ok y) path old new x h = λ other apart. put_others path 0 old new x other apart h
changes_others (Err e) path old new x h = tt
