-- Objects under an id.
use Rattle.std.proofs.Common.{◌≡◌, ◌↔◌, ◌+◌, ℕ, zero, suc, Bool, true, false, not, ◌&&◌, ◌||◌, is_some, IsTrue, List, [], ◌∷◌, take, Option, Some, None, option_and_then, Result, Err, refl, sym, ◌∙◌, ap, codes, slice_get, add-one, cond, subst}
use Rattle.std.specs.Prelude.{MatchOption}
use Rattle.std.specs.Str.{bytes_eq}
use Rattle.std.proofs.lemmas.Bool.{and_parts}
use Rattle.std.proofs.lemmas.Slice.Eq.{bytes_eq-Decides}
use Rattle.json_tree.specs.Tree.{Tree, null, boolean, number, text, date, list, object, members_of}
use Rattle.json_tree.specs.RoundTrips.{list_of_members-members_of}
use Rattle.json_tree.specs.Members.{member_at, put_member, all_distinct}
use Rattle.json_tree.specs.Doc.{has_dollar_name, id_in, id_fault_in, IsDocument}
use Rattle.json_tree.specs.Id.{IsId, id_fault}
use Rattle.json_tree.specs.Same.{same}
use Rattle.update_ops.specs.Apply.{within_limits}
use Rattle.update_ops.specs.Upsert.{with_id, under_id, or_null, replaced, own_id}
use Rattle.update_ops.specs.declared.fault.UpdateFault.{UpdateFault}
use Rattle.update_ops.specs.declared.fault.UpdateFault.TheVariants.{TouchesId}
use Rattle.update_ops.proofs.Keeping.{Free}

abbrev no_tree : Option Tree
no_tree = None

-- a name that stands at a place is there
some_at : (k n : List ℕ) (t : Tree) (ps : List (List ℕ × Tree)) (i : ℕ) → slice_get ps i ≡ Some (n, t) → bytes_eq n k ≡ true → is_some (member_at k ps) ≡ true
some_at k n t [] i at e = Prim.cc at
some_at k n t (p ∷ ps) zero at e = let q : p ≡ (n, t) = Prim.cc at in ap (λ b. is_some (cond b (Some p.1) (member_at k ps))) (ap (λ r. bytes_eq r.0 k) q ∙ e)
some_at k n t (p ∷ ps) (suc i) at e =
    elim (bytes_eq p.0 k) as (λ b. is_some (cond b (Some p.1) (member_at k ps)) ≡ true) [ true ↦ refl | false ↦ some_at k n t ps i at e ]

turned : (a b : List ℕ) → bytes_eq a b ≡ true → bytes_eq b a ≡ true
turned a b e = (bytes_eq-Decides b a).1 (sym ((bytes_eq-Decides a b).0 e))

put_past : (p : List ℕ × Tree) (ps : List (List ℕ × Tree)) (i : ℕ) (n : List ℕ) (t : Tree) → not (is_some (member_at p.0 ps)) ≡ true → slice_get ps i ≡ Some (n, t)
    → put_member n t (take i ps) ≡ take (suc i) ps → put_member n t (p ∷ take i ps) ≡ p ∷ take (suc i) ps
put_past p ps i n t fresh at more = go (bytes_eq p.0 n) refl
  where
    go : (b : Bool) → bytes_eq p.0 n ≡ b → cond b ((p.0, t) ∷ take i ps) (p ∷ put_member n t (take i ps)) ≡ p ∷ take (suc i) ps
    go true q = Prim.cc (sym (ap not (some_at p.0 n t ps i at (turned p.0 n q))) ∙ fresh)
    go false q = ap (λ r. p ∷ r) more

-- the next of distinct pairs comes behind those before it
put_next : (ps : List (List ℕ × Tree)) (i : ℕ) (n : List ℕ) (t : Tree) → all_distinct ps ≡ true → slice_get ps i ≡ Some (n, t) → put_member n t (take i ps) ≡ take (suc i) ps
put_next [] i n t d at = Prim.cc at
put_next (p ∷ ps) zero n t d at = let q : p ≡ (n, t) = Prim.cc at in ap (λ r. r ∷ []) (sym q)
put_next (p ∷ ps) (suc i) n t d at =
    let s = and_parts (not (is_some (member_at p.0 ps))) (all_distinct ps) d in put_past p ps i n t s.0 at (put_next ps i n t s.1 at)

-- behind an id that isn't there
pub put_behind : (id : Tree) (ps os ns : List (List ℕ × Tree)) (i : ℕ) (n m : List ℕ) (t : Tree) → member_at (codes "_id") ps ≡ None → all_distinct ps ≡ true → Some (n, t) ≡ slice_get ps i
    → m ≡ n → os ≡ (codes "_id", id) ∷ take i ps → ns ≡ put_member m t os → ns ≡ (codes "_id", id) ∷ take (i + 1) ps
put_behind id ps os ns i n m t none d at name old new =
    new ∙ ap (λ k. put_member k t os) name ∙ ap (put_member n t) old
    ∙ put_next ((codes "_id", id) ∷ ps) (suc i) n t (λ j. not (is_some (none j)) && d j) (sym at) ∙ ap (λ k. (codes "_id", id) ∷ take k ps) (sym (add-one i))

-- ---- documents

pub id_free : (id : Tree) → IsId id → Free id
id_free null h = refl
id_free (boolean b) h = refl
id_free (number n) h = refl
id_free (text t) h = refl
id_free (date d) h = refl
id_free (list ts) h = Prim.cc h
id_free (object ms) h = Prim.cc h

pub under_document : (id : Tree) (ps : List (List ℕ × Tree)) → IsId id → Free (object (members_of ps)) → IsDocument (with_id id (object (members_of ps)))
under_document id ps h free = record { id = h; names = λ i. id_free id h i || free i }

pub same_document : (a b : Tree) → a ≡ b → IsDocument b → IsDocument a
same_document a b q d = rw (sym q) at d

-- an object with an id alone
pub alone_document : (id v : Tree) (ps : List (List ℕ × Tree)) → IsId id → ps ≡ [] → v ≡ with_id id (object (members_of ps)) → IsDocument v
alone_document id v ps h none e =
    same_document v (with_id id (object (members_of []))) (e ∙ ap (λ qs. with_id id (object (members_of qs))) none) (under_document id [] h refl)

-- ---- the id of an object

id_of_pairs : (ps : List (List ℕ × Tree)) → id_in (object (members_of ps)) ≡ member_at (codes "_id") ps
id_of_pairs ps = ap (member_at (codes "_id")) (list_of_members-members_of ps)

id_at : (ps : List (List ℕ × Tree)) (o : Option Tree) → o ≡ member_at (codes "_id") ps → id_in (object (members_of ps)) ≡ o
id_at ps o at = id_of_pairs ps ∙ sym at

is_id : (o : Option Tree) (x : Tree) → o ≡ Some x → IsId x → MatchOption o ⊥ IsId
is_id o x q h = subst (λ u. MatchOption u ⊥ IsId) (sym q) h

pub own_document : (ps : List (List ℕ × Tree)) (own : Tree) → Some own ≡ member_at (codes "_id") ps → IsId own → Free (object (members_of ps)) → IsDocument (object (members_of ps))
own_document ps own at h free = record { id = is_id (id_in (object (members_of ps))) own (id_at ps (Some own) at) h; names = free }

fault_at : (ps : List (List ℕ × Tree)) (o : Option Tree) → o ≡ member_at (codes "_id") ps → id_fault_in (object (members_of ps)) ≡ option_and_then id_fault o
fault_at ps o at = ap (option_and_then id_fault) (id_at ps o at)

pub right_some : (ps : List (List ℕ × Tree)) (x : Tree) (b : Bool) → Some x ≡ member_at (codes "_id") ps → (IsTrue b ↔ IsId x) → IsTrue b ↔ (id_fault_in (object (members_of ps)) ≡ None)
right_some ps x b at e = let q = fault_at ps (Some x) at in (λ h. q ∙ e.0 h, λ h. e.1 (sym q ∙ h))

pub right_none : (ps : List (List ℕ × Tree)) → no_tree ≡ member_at (codes "_id") ps → IsTrue true ↔ (id_fault_in (object (members_of ps)) ≡ None)
right_none ps at = (λ h. fault_at ps no_tree at, λ h. refl)

-- an id that isn't wrong
pub own_is_id : (ps : List (List ℕ × Tree)) (own : Tree) → Some own ≡ member_at (codes "_id") ps → id_fault_in (object (members_of ps)) ≡ None → IsId own
own_is_id ps own at h = sym (fault_at ps (Some own) at) ∙ h

-- an id that is the same as another one
pub same_id : (own v id : Tree) → own ≡ v → v ≡ id → IsId id → IsId own
same_id own v id e q h = ap id_fault (e ∙ q) ∙ h

-- ---- replacements

pub replaced_own : (ps : List (List ℕ × Tree)) (d own id v : Tree) (b : Bool) → Some own ≡ member_at (codes "_id") ps → id_in d ≡ Some id → v ≡ id → b ≡ same own v
    → replaced (object (members_of ps)) d ≡ cond b (within_limits (object (members_of ps))) (Err TouchesId)
replaced_own ps d own id v b at has is e =
    let q : id_in (object (members_of ps)) ≡ Some own = id_at ps (Some own) at in
    (λ j. under_id (or_null (has j)) (object (members_of ps)) (q j)) ∙ ap (λ c. cond c (within_limits (object (members_of ps))) (Err TouchesId)) (ap (same own) (sym is) ∙ sym e)

pub replaced_under : (ps : List (List ℕ × Tree)) (d id v : Tree) → no_tree ≡ member_at (codes "_id") ps → id_in d ≡ Some id → v ≡ id
    → replaced (object (members_of ps)) d ≡ within_limits (with_id v (object (members_of ps)))
replaced_under ps d id v at has is =
    let q : id_in (object (members_of ps)) ≡ no_tree = id_at ps no_tree at in
    (λ j. under_id (or_null (has j)) (object (members_of ps)) (q j)) ∙ ap (λ u. within_limits (with_id u (object (members_of ps)))) (sym is)

-- ---- replacements that insert

pub own_of : (ps : List (List ℕ × Tree)) (o given : Option Tree) (generated : Tree) → o ≡ member_at (codes "_id") ps
    → own_id (id_in (object (members_of ps))) given generated (object (members_of ps)) ≡ own_id o given generated (object (members_of ps))
own_of ps o given generated at = ap (λ i. own_id i given generated (object (members_of ps))) (id_at ps o at)
