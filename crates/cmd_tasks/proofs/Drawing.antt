-- Documents under the ids that are drawn for them.
use Rattle.std.proofs.Common.{◌≡◌, ℕ, zero, suc, ◌+◌, ◌<◌, ◌≤◌, List, [], ◌∷◌, ◌++◌, map, reverse, length, drop, take, Bool, true, false, is_some, codes, Option, Some, None, Result, Ok, Err, refl, sym, ap, ◌∙◌, subst, arith, Vec, Global, slice_get, slice_set, add-one}
use Rattle.std.specs.Prelude.{IfSome, IfOk}
use Rattle.std.specs.Option.{option_map}
use Rattle.std.specs.List.{AllByRecursion as Each}
use Rattle.std.proofs.lemmas.List.{append-nil, append_assoc, map-append, length-map}
use Rattle.rand_core.specs.Stream.{Stream}
use Rattle.json_tree.specs.Tree.{Tree, null, boolean, number, text, date, list, object, Members, members_of}
use Rattle.json_tree.specs.Members.{member_at}
use Rattle.json_tree.specs.Doc.{id_in, IsDocument}
use Rattle.json_tree.specs.View.{tree}
use Rattle.json_tree.specs.declared.value.Value.{Value}
use Rattle.json_tree.specs.declared.fault.TreeFault.{TreeFault}
use Rattle.update_ops.specs.Upsert.{with_id}
use Rattle.cmd_grammar.specs.Ids.{IsIdText}
use Rattle.cmd_grammar.specs.Commands.{stand_in, under_own, IsInsertable, IsStorable}
use Rattle.cmd_tasks.specs.Jobs.{under_next, under_ids, one_if_none, without_id}
use Rattle.cmd_tasks.specs.Ids.{drawn, after_drawing, IsGenerated}
use Rattle.cmd_tasks.specs.First.{IsAdded}
use Rattle.cmd_tasks.proofs.Fronting.{id_of_pairs}
use Rattle.cmd_tasks.proofs.Places.{drop_at, drop_all, get_same, drop_same}

-- ---- the ids of the first document, and those of the others

-- the first document as it is inserted
abbrev pub first_under : Tree → Stream → Tree
first_under d s = (under_next (id_in d) (drawn (one_if_none (id_in d)) s) d).0

-- what is left behind its id
abbrev pub behind_first : Tree → Stream → Stream
behind_first d s = after_drawing (one_if_none (id_in d)) s

first_of : (o : Option Tree) (d : Tree) (ds : List Tree) (s : Stream)
    → (let next = under_next o (drawn (one_if_none o + without_id ds) s) d in next.0 ∷ under_ids next.1 ds) ≡ (under_next o (drawn (one_if_none o) s) d).0 ∷ under_ids (drawn (without_id ds) (after_drawing (one_if_none o) s)) ds
first_of None d ds s = ap (λ (n : ℕ). let next = under_next None (drawn n s) d in next.0 ∷ under_ids next.1 ds) (one_more (without_id ds))
  where
    one_more : (n : ℕ) → 1 + n ≡ suc n
    one_more n = omega arith
first_of (Some own) d ds s = ap (λ (n : ℕ). d ∷ under_ids (drawn n s) ds) (none_more (without_id ds))
  where
    none_more : (n : ℕ) → 0 + n ≡ n
    none_more n = omega arith

pub under_step : (d : Tree) (ds : List Tree) (s : Stream) → under_ids (drawn (without_id (d ∷ ds)) s) (d ∷ ds) ≡ first_under d s ∷ under_ids (drawn (without_id ds) (behind_first d s)) ds
under_step d ds s = first_of (id_in d) d ds s

after_first : (o : Option Tree) (ds : List Tree) (s : Stream) → after_drawing (one_if_none o + without_id ds) s ≡ after_drawing (without_id ds) (after_drawing (one_if_none o) s)
after_first None ds s = ap (λ (n : ℕ). after_drawing n s) (one_more (without_id ds))
  where
    one_more : (n : ℕ) → 1 + n ≡ suc n
    one_more n = omega arith
after_first (Some own) ds s = ap (λ (n : ℕ). after_drawing n s) (none_more (without_id ds))
  where
    none_more : (n : ℕ) → 0 + n ≡ n
    none_more n = omega arith

pub after_step : (d : Tree) (ds : List Tree) (s : Stream) → after_drawing (without_id (d ∷ ds)) s ≡ after_drawing (without_id ds) (behind_first d s)
after_step d ds s = after_first (id_in d) ds s

-- ---- one object

-- it has an id, and stays as it is
has_id : {X : Type 0} (f : X → Tree) (o : Option X) (ms : List (List ℕ × Tree)) → option_map f o ≡ member_at (codes "_id") ms → true ≡ is_some o → (own : Tree) × (id_in (object (members_of ms)) ≡ Some own)
has_id f None ms at e = cc
has_id f (Some x) ms at e = (f x, id_of_pairs ms ∙ sym at)

pub stays_told : {X : Type 0} (f : X → Tree) (o : Option X) (ms : List (List ℕ × Tree)) (s : Stream) → option_map f o ≡ member_at (codes "_id") ms → true ≡ is_some o → object (members_of ms) ≡ first_under (object (members_of ms)) s
stays_told f o ms s at e =
    let own = has_id f o ms at e in let d = object (members_of ms) in ap (λ (z : Option Tree). (under_next z (drawn (one_if_none z) s) d).0) (sym own.1)

pub stays_drawn : {X : Type 0} (f : X → Tree) (o : Option X) (ms : List (List ℕ × Tree)) (s : Stream) → option_map f o ≡ member_at (codes "_id") ms → true ≡ is_some o → s ≡ behind_first (object (members_of ms)) s
stays_drawn f o ms s at e = let own = has_id f o ms at e in ap (λ (z : Option Tree). after_drawing (one_if_none z) s) (sym own.1)

-- it has none
no_id : {X : Type 0} (f : X → Tree) (o : Option X) (ms : List (List ℕ × Tree)) → option_map f o ≡ member_at (codes "_id") ms → false ≡ is_some o → id_in (object (members_of ms)) ≡ None
no_id f None ms at e = id_of_pairs ms ∙ sym at
no_id f (Some x) ms at e = cc

pub gets_told : {X : Type 0} (f : X → Tree) (o : Option X) (ms : List (List ℕ × Tree)) (s : Stream) (id : Tree) (r : Result Value TreeFault) → option_map f o ≡ member_at (codes "_id") ms → false ≡ is_some o → id ∷ [] ≡ drawn 1 s
    → IfOk r (λ v. tree v ≡ with_id id (object (members_of ms))) → IfOk r (λ v. tree v ≡ first_under (object (members_of ms)) s)
gets_told f o ms s id (Ok v) at e drawn_is h =
    let d = object (members_of ms) in
    h ∙ (ap (λ (ids : List Tree). (under_next None ids d).0) drawn_is ∙ ap (λ (z : Option Tree). (under_next z (drawn (one_if_none z) s) d).0) (sym (no_id f o ms at e)))
gets_told f o ms s id (Err fault) at e drawn_is h = tt

pub gets_drawn : {X : Type 0} (f : X → Tree) (o : Option X) (ms : List (List ℕ × Tree)) (s s' : Stream) → option_map f o ≡ member_at (codes "_id") ms → false ≡ is_some o → s' ≡ after_drawing 1 s → s' ≡ behind_first (object (members_of ms)) s
gets_drawn f o ms s s' at e after = after ∙ ap (λ (z : Option Tree). after_drawing (one_if_none z) s) (sym (no_id f o ms at e))

-- what may be inserted is an object
pub only_objects : (t : Tree) → IsInsertable t → (ms : Members) × (t ≡ object ms)
only_objects (object ms) h = (ms, refl)
only_objects null h = absurd h.document.id
only_objects (boolean b) h = absurd h.document.id
only_objects (number n) h = absurd h.document.id
only_objects (text t) h = absurd h.document.id
only_objects (date d) h = absurd h.document.id
only_objects (list ts) h = absurd h.document.id

-- ---- each may be stored

-- a document that may be inserted and has no id may be stored under any text of such letters
abbrev pub TakesIds : Type 0
TakesIds = (t : Tree) (u : List ℕ) → IsInsertable t → id_in t ≡ None → IsIdText u → IsStorable (with_id (text u) t)

-- ids that are drawn are such texts
abbrev pub AreTexts : Type 0
AreTexts = (n : ℕ) (s : Stream) → Each IsGenerated (drawn n s)

first_stored : TakesIds → AreTexts → (o : Option Tree) (d : Tree) (s : Stream) → id_in d ≡ o → IsInsertable d → IsStorable (under_next o (drawn (one_if_none o) s) d).0
first_stored takes texts None d s is h =
    let g = (texts 1 s).0 in subst (λ (id : Tree). IsStorable (with_id id d)) (sym g.1) (takes d g.0 h is g.2)
first_stored takes texts (Some own) d s is h = subst (λ (o : Option Tree). IsStorable (under_own stand_in d o)) is h

pub each_stored : TakesIds → AreTexts → (ds : List Tree) (s : Stream) → Each IsInsertable ds → Each IsStorable (under_ids (drawn (without_id ds) s) ds)
each_stored takes texts [] s h = tt
each_stored takes texts (d ∷ ds) s h = subst (Each IsStorable) (sym (under_step d ds s)) (first_stored takes texts (id_in d) d s refl h.0, each_stored takes texts ds (behind_first d s) h.1)

-- ---- one after another: of the documents ds, those before place i are made ready, and the others stand in now

drop_set : {A : Type 0} (i : ℕ) (xs : List A) (a : A) → drop (suc i) (slice_set xs i a) ≡ drop (suc i) xs
drop_set i [] a = refl
drop_set zero (x ∷ xs) a = refl
drop_set (suc i) (x ∷ xs) a = drop_set i xs a

length_set : {A : Type 0} (i : ℕ) (xs : List A) (a : A) → length (slice_set xs i a) ≡ length xs
length_set i [] a = refl
length_set zero (x ∷ xs) a = refl
length_set (suc i) (x ∷ xs) a = ap (λ (n : ℕ). suc n) (length_set i xs a)

abbrev ReadyVec : Type 0
ReadyVec = Vec Value Global

pub record AreReady (ds : List Tree) (s₀ : Stream) (i : ℕ) (now : List Tree) (s : Stream) (all : Option (Vec Value Global)) : Type 0 where
  pub size : length now ≡ length ds
  pub rest : drop i now ≡ drop i ds
  pub stream : after_drawing (without_id (drop i ds)) s ≡ after_drawing (without_id ds) s₀
  pub told : IfSome all (λ v. map tree v.items ++ under_ids (drawn (without_id (drop i ds)) s) (drop i ds) ≡ under_ids (drawn (without_id ds) s₀) ds)

pub none_ready : (ds : List Tree) (s : Stream) (empty : Vec Value Global) → empty.items ≡ [] → AreReady ds s 0 ds s (Some empty)
none_ready ds s empty none = record { size = refl; rest = refl; stream = refl; told = ap (λ (l : List Value). map tree l ++ under_ids (drawn (without_id ds) s) ds) none }

told_more : (ds rest : List Tree) (d : Tree) (s₀ s s' : Stream) (all : Option (Vec Value Global)) (next : Result Value TreeFault) (more : Option (Vec Value Global)) → s' ≡ behind_first d s
    → IfOk next (λ v. tree v ≡ first_under d s) → IfSome more (λ v. IsAdded all next v.items)
    → IfSome all (λ v. map tree v.items ++ under_ids (drawn (without_id (d ∷ rest)) s) (d ∷ rest) ≡ under_ids (drawn (without_id ds) s₀) ds)
    → IfSome more (λ v. map tree v.items ++ under_ids (drawn (without_id rest) s') rest ≡ under_ids (drawn (without_id ds) s₀) ds)
told_more ds rest d s₀ s s' all next None s'_is first is told = tt
told_more ds rest d s₀ s s' all next (Some v) s'_is first is told =
    let first_is : tree is.value ≡ first_under d s = subst (λ (r : Result Value TreeFault). IfOk r (λ w. tree w ≡ first_under d s)) is.next_is first in
    let before : map tree is.before.items ++ under_ids (drawn (without_id (d ∷ rest)) s) (d ∷ rest) ≡ under_ids (drawn (without_id ds) s₀) ds =
    subst (λ (o : Option ReadyVec). IfSome o (λ w. map tree w.items ++ under_ids (drawn (without_id (d ∷ rest)) s) (d ∷ rest) ≡ under_ids (drawn (without_id ds) s₀) ds)) is.all_is told in
    let front : map tree v.items ≡ map tree is.before.items ++ first_under d s ∷ [] = ap (map tree) is.more_is ∙ (map-append tree is.before.items (is.value ∷ []) ∙ ap (λ (t : Tree). map tree is.before.items ++ t ∷ []) first_is) in
    let later : under_ids (drawn (without_id rest) s') rest ≡ under_ids (drawn (without_id rest) (behind_first d s)) rest = ap (λ (z : Stream). under_ids (drawn (without_id rest) z) rest) s'_is in
    (λ j. front j ++ later j)
    ∙ (append_assoc (map tree is.before.items) (first_under d s ∷ []) (under_ids (drawn (without_id rest) (behind_first d s)) rest)
    ∙ (ap (λ (l : List Tree). map tree is.before.items ++ l) (sym (under_step d rest s)) ∙ before))

pub one_ready : (ds : List Tree) (s₀ : Stream) (i : ℕ) (now now' : List Tree) (s s' : Stream) (all more : Option (Vec Value Global)) (d null_tree : Tree) (next : Result Value TreeFault)
    → slice_get now i ≡ Some d → now' ≡ slice_set now i null_tree → s' ≡ behind_first d s → IfOk next (λ v. tree v ≡ first_under d s) → IfSome more (λ v. IsAdded all next v.items)
    → AreReady ds s₀ i now s all → AreReady ds s₀ (i + 1) now' s' more
one_ready ds s₀ i now now' s s' all more d null_tree next at set s'_is first added h =
    subst (λ (n : ℕ). AreReady ds s₀ n now' s' more) (sym (add-one i)) (record {
      size = ap length set ∙ (length_set i now null_tree ∙ h.size);
      rest = ap (drop (suc i)) set ∙ (drop_set i now null_tree ∙ same_rest);
      stream = ap (after_drawing (without_id rest)) s'_is ∙ (sym (after_step d rest s) ∙ (ap (λ (l : List Tree). after_drawing (without_id l) s) (sym rest_is) ∙ h.stream));
      told = told_more ds rest d s₀ s s' all next more s'_is first added (subst (λ (l : List Tree). IfSome all (λ v. map tree v.items ++ under_ids (drawn (without_id l) s) l ≡ under_ids (drawn (without_id ds) s₀) ds)) rest_is h.told);
    })
  where
    rest : List Tree
    rest = drop (suc i) ds

    same_rest : drop (suc i) now ≡ drop (suc i) ds
    same_rest = drop_same i now ds h.rest

    rest_is : drop i ds ≡ d ∷ drop (suc i) ds
    rest_is = sym h.rest ∙ (drop_at i now d at ∙ ap (λ (l : List Tree). d ∷ l) same_rest)

each_at : {A : Type 0} (P : A → Type 0) (xs : List A) (i : ℕ) (x : A) → slice_get xs i ≡ Some x → Each P xs → P x
each_at P [] i x e h = cc
each_at P (y ∷ xs) zero x e h = let q : y ≡ x = cc in subst P q h.0
each_at P (y ∷ xs) (suc i) x e h = each_at P xs i x e h.1

-- the next one may be inserted
pub next_insertable : (ds : List Tree) (s₀ : Stream) (i : ℕ) (now : List Tree) (s : Stream) (all : Option (Vec Value Global)) (d : Tree) → Each IsInsertable ds → slice_get now i ≡ Some d → AreReady ds s₀ i now s all → IsInsertable d
next_insertable ds s₀ i now s all d each at h = each_at IsInsertable ds i d (sym (get_same i now ds h.rest) ∙ at) each

pub all_ready : (ds : List Tree) (s₀ : Stream) (i : ℕ) (now : List Tree) (s : Stream) (all : Option (Vec Value Global)) → length ds ≤ i → AreReady ds s₀ i now s all
    → (s ≡ after_drawing (without_id ds) s₀) × IfSome all (λ v. map tree v.items ≡ under_ids (drawn (without_id ds) s₀) ds)
all_ready ds s₀ i now s all over h =
    let none = drop_all i ds over in (
      sym (ap (λ (l : List Tree). after_drawing (without_id l) s) none) ∙ h.stream,
      whole all (subst (λ (l : List Tree). IfSome all (λ v. map tree v.items ++ under_ids (drawn (without_id l) s) l ≡ under_ids (drawn (without_id ds) s₀) ds)) none h.told),
    )
  where
    whole : (o : Option (Vec Value Global)) → IfSome o (λ v. map tree v.items ++ [] ≡ under_ids (drawn (without_id ds) s₀) ds) → IfSome o (λ v. map tree v.items ≡ under_ids (drawn (without_id ds) s₀) ds)
    whole None t = tt
    whole (Some v) t = sym (append-nil (map tree v.items)) ∙ t

-- ---- what is inserted

pub length_under : (ds ids : List Tree) → length (under_ids ids ds) ≡ length ds
length_under [] ids = refl
length_under (d ∷ ds) ids = ap (λ (n : ℕ). suc n) (length_under ds (under_next (id_in d) ids d).1)

stored_items : (vs : List Value) → Each IsStorable (map tree vs) → Each (λ d. IsStorable (tree d)) vs
stored_items [] h = tt
stored_items (v ∷ vs) h = (h.0, stored_items vs h.1)

pub all_stored : TakesIds → AreTexts → (ds : List Tree) (s : Stream) (vs : List Value) → Each IsInsertable ds → map tree vs ≡ under_ids (drawn (without_id ds) s) ds → Each (λ d. IsStorable (tree d)) vs
all_stored takes texts ds s vs each told = stored_items vs (subst (Each IsStorable) (sym told) (each_stored takes texts ds s each))

pub as_many : (ds : List Tree) (s : Stream) (vs : List Value) → map tree vs ≡ under_ids (drawn (without_id ds) s) ds → length vs ≡ length ds
as_many ds s vs told = sym (length-map vs tree) ∙ (ap length told ∙ length_under ds (drawn (without_id ds) s))

-- one document
pub one_told : (d : Tree) (s : Stream) (next : Result Value TreeFault) (empty : Vec Value Global) (vs : List Value) → empty.items ≡ [] → IfOk next (λ v. tree v ≡ first_under d s) → IsAdded (Some empty) next vs → map tree vs ≡ under_ids (drawn (without_id (d ∷ [])) s) (d ∷ [])
one_told d s next empty vs none first added =
    let first_is : tree added.value ≡ first_under d s = subst (λ (r : Result Value TreeFault). IfOk r (λ w. tree w ≡ first_under d s)) added.next_is first in
    ap (map tree) (added.more_is ∙ ap (λ (l : List Value). l ++ added.value ∷ []) (ap (λ (v : Vec Value Global). v.items) (sym (same empty added.before added.all_is)) ∙ none))
    ∙ (ap (λ (t : Tree). t ∷ []) first_is ∙ sym (under_step d [] s))
  where
    same : (a b : Vec Value Global) → ◌≡◌ {A = Option (Vec Value Global)} (Some a) (Some b) → a ≡ b
    same a b e = cc
