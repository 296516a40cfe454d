-- An object whose members are moved behind an id that it doesn't have.
use Rattle.std.proofs.Common.{◌≡◌, ℕ, zero, suc, ◌+◌, ◌<◌, ◌≤◌, Bool, true, false, not, ◌&&◌, is_some, cond, List, [], ◌∷◌, length, take, drop, Option, Some, None, refl, sym, ap, ◌∙◌, subst, arith, codes, slice_get, add-one}
use Rattle.std.specs.Option.{option_map}
use Rattle.std.specs.Str.{bytes_eq}
use Rattle.std.proofs.lemmas.Bool.{and_parts}
use Rattle.std.proofs.lemmas.Slice.Eq.{bytes_eq-Decides}
use Rattle.json_tree.specs.Tree.{Tree, object, members_of}
use Rattle.json_tree.specs.Doc.{id_in}
use Rattle.json_tree.specs.RoundTrips.{list_of_members-members_of}
use Rattle.json_tree.specs.Members.{member_at, put_member, revalue, all_distinct}
use Rattle.cmd_tasks.proofs.Places.{get_same, drop_same}

abbrev Pairs : Type 0
Pairs = List (List ℕ × Tree)

-- ---- the next of distinct pairs comes behind those before it

-- a name that stands at a place is there
some_at : (k n : List ℕ) (t : Tree) (ps : Pairs) (i : ℕ) → slice_get ps i ≡ Some (n, t) → bytes_eq n k ≡ true → is_some (member_at k ps) ≡ true
some_at k n t [] i at e = cc
some_at k n t (p ∷ ps) zero at e = let q : p ≡ (n, t) = cc in ap (λ b. is_some (cond b (Some p.1) (member_at k ps))) (ap (λ (r : List ℕ × Tree). bytes_eq r.0 k) q ∙ e)
some_at k n t (p ∷ ps) (suc i) at e = elim (bytes_eq p.0 k) as (λ b. is_some (cond b (Some p.1) (member_at k ps)) ≡ true) [ true ↦ refl | false ↦ some_at k n t ps i at e ]

turned : (a b : List ℕ) → bytes_eq a b ≡ true → bytes_eq b a ≡ true
turned a b e = (bytes_eq-Decides b a).1 (sym ((bytes_eq-Decides a b).0 e))

put_past : (p : List ℕ × Tree) (ps : Pairs) (i : ℕ) (n : List ℕ) (t : Tree) → not (is_some (member_at p.0 ps)) ≡ true → slice_get ps i ≡ Some (n, t)
    → put_member n t (take i ps) ≡ take (suc i) ps → put_member n t (p ∷ take i ps) ≡ p ∷ take (suc i) ps
put_past p ps i n t fresh at more = go (bytes_eq p.0 n) refl
  where
    go : (b : Bool) → bytes_eq p.0 n ≡ b → cond b ((p.0, t) ∷ take i ps) (p ∷ put_member n t (take i ps)) ≡ p ∷ take (suc i) ps
    go true q = absurd (no (sym (ap not (some_at p.0 n t ps i at (turned p.0 n q))) ∙ fresh))
      where
        no : false ≡ true → ⊥
        no e = cc
    go false q = ap (λ (r : Pairs). p ∷ r) more

put_next : (ps : Pairs) (i : ℕ) (n : List ℕ) (t : Tree) → all_distinct ps ≡ true → slice_get ps i ≡ Some (n, t) → put_member n t (take i ps) ≡ take (suc i) ps
put_next [] i n t d at = cc
put_next (p ∷ ps) zero n t d at = let q : p ≡ (n, t) = cc in ap (λ (r : List ℕ × Tree). r ∷ []) (sym q)
put_next (p ∷ ps) (suc i) n t d at =
    let s = and_parts (not (is_some (member_at p.0 ps))) (all_distinct ps) d in put_past p ps i n t s.0 at (put_next ps i n t s.1 at)

-- ---- one after another: the members before place i stand behind the id

drop_revalue : (i : ℕ) (ps : Pairs) (t : Tree) → drop (suc i) (revalue ps i t) ≡ drop (suc i) ps
drop_revalue i [] t = refl
drop_revalue zero (p ∷ ps) t = refl
drop_revalue (suc i) (p ∷ ps) t = drop_revalue i ps t

length_revalue : (i : ℕ) (ps : Pairs) (t : Tree) → length (revalue ps i t) ≡ length ps
length_revalue i [] t = refl
length_revalue zero (p ∷ ps) t = refl
length_revalue (suc i) (p ∷ ps) t = ap (λ (n : ℕ). suc n) (length_revalue i ps t)

pub record IsFronting (id : Tree) (ms : List (List ℕ × Tree)) (i : ℕ) (now out : List (List ℕ × Tree)) : Type 0 where
  pub size : length now ≡ length ms
  pub rest : drop i now ≡ drop i ms
  pub out_is : out ≡ (codes "_id", id) ∷ take i ms

pub fronting_begins : (id v : Tree) (ms out : List (List ℕ × Tree)) (name : List ℕ) → name ≡ codes "_id" → v ≡ id → out ≡ put_member name v [] → IsFronting id ms 0 ms out
fronting_begins id v ms out name name_is v_is put = record { size = refl; rest = refl; out_is = put ∙ (λ j. (name_is j, v_is j) ∷ []) }

-- each place below the end has a member
pub fronting_has : (id : Tree) (ms now out : List (List ℕ × Tree)) (i : ℕ) → i < length ms → None ≡ slice_get now i → IsFronting id ms i now out → ⊥
fronting_has id ms now out i within none h = has now i (omega (arith, within, h.size)) (sym none)
  where
    has : (ps : List (List ℕ × Tree)) (i : ℕ) → i < length ps → slice_get ps i ≡ None → ⊥
    has [] i l e = absurd (omega arith)
    has (p ∷ ps) zero l e = cc
    has (p ∷ ps) (suc i) l e = has ps i (omega arith) e

-- all stand there at the end
pub fronting_ends : (id : Tree) (ms now out : List (List ℕ × Tree)) (i : ℕ) → length ms ≤ i → IsFronting id ms i now out → out ≡ (codes "_id", id) ∷ ms
fronting_ends id ms now out i over h = h.out_is ∙ ap (λ (l : List (List ℕ × Tree)). (codes "_id", id) ∷ l) (take_all i ms over)
  where
    take_all : (i : ℕ) (ps : List (List ℕ × Tree)) → length ps ≤ i → take i ps ≡ ps
    take_all zero [] l = refl
    take_all (suc i) [] l = refl
    take_all zero (p ∷ ps) l = absurd (omega arith)
    take_all (suc i) (p ∷ ps) l = ap (λ (r : List (List ℕ × Tree)). p ∷ r) (take_all i ps (omega arith))

pub fronting_more : (id : Tree) (ms now now' out out' : List (List ℕ × Tree)) (i : ℕ) (n m : List ℕ) (t v blank : Tree) → member_at (codes "_id") ms ≡ None → all_distinct ms ≡ true → Some (n, t) ≡ slice_get now i
    → option_map (λ p. p.1) (slice_get now i) ≡ Some v → m ≡ n → now' ≡ revalue now i blank → out' ≡ put_member m v out → IsFronting id ms i now out → IsFronting id ms (i + 1) now' out'
fronting_more id ms now now' out out' i n m t v blank none distinct at value name new put h =
    subst (λ (j : ℕ). IsFronting id ms j now' out') (sym (add-one i)) (record {
      size = ap length new ∙ (length_revalue i now blank ∙ h.size);
      rest = ap (drop (suc i)) new ∙ (drop_revalue i now blank ∙ drop_same i now ms h.rest);
      out_is =
          put ∙ ((λ j. put_member (name j) (same j) (h.out_is j))
          ∙ put_next ((codes "_id", id) ∷ ms) (suc i) n t (λ j. not (is_some (none j)) && distinct j) (sym (at ∙ get_same i now ms h.rest)));
    })
  where
    same : v ≡ t
    same = one v t (sym value ∙ ap (option_map (λ (p : List ℕ × Tree). p.1)) (sym at))
      where
        one : (a b : Tree) → ◌≡◌ {A = Option Tree} (Some a) (Some b) → a ≡ b
        one a b e = cc

-- ---- whether an object has an id

pub id_of_pairs : (ps : List (List ℕ × Tree)) → id_in (object (members_of ps)) ≡ member_at (codes "_id") ps
id_of_pairs ps = ap (member_at (codes "_id")) (list_of_members-members_of ps)
