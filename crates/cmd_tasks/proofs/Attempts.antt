-- An attempt on a document that a look showed: what stands there then, and who wrote between.
use Rattle.std.proofs.Common.{◌≡◌, ◌≢◌, ℕ, ◌+◌, ◌-◌, ◌<◌, ◌≤◌, List, [], ◌∷◌, ◌++◌, map, take, drop, length, Bool, true, false, cond, not, ◌&&◌, ◌||◌, Option, Some, refl, sym, ap, ◌∙◌, subst, arith, length-drop, append-nil, Less, Equal, Greater, Ordering}
use Rattle.std.specs.List.{filter, list_any, AllByRecursion as Each}
use Rattle.std.specs.Ordering.{is_lt, is_eq, ordering_reverse}
use Rattle.std.proofs.lemmas.Cmp.{tied_itself}
use Rattle.std.proofs.lemmas.List.{drop-drop, take-append-drop, length-take-le}
use Rattle.json_tree.specs.Tree.{Tree}
use Rattle.json_tree.specs.Id.{id_cmp}
use Rattle.shred_cols.specs.Row.{Version}
use Rattle.shred_cols.specs.Rows.{Rows, ascends, version_of, first}
use Rattle.col_keeper.specs.Tables.{Name, AreApart}
use Rattle.filter_tree.specs.Filters.{FilterTree}
use Rattle.store_core.specs.State.{State as Base, IsOld, version, number_at}
use Rattle.store_core.specs.Journal.{IsJournal, replay, state_at}
use Rattle.store_core.specs.Numbers.{touches}
use Rattle.store_core.specs.declared.entry.Entry.{Entry}
use Rattle.store_core.specs.declared.entry.Entry.TheVariants.{Opened, Created, Dropped, Changed, Failed}
use Rattle.cmd_tasks.specs.Trace.{point, writes, Found, found, found_in}
use Rattle.cmd_tasks.specs.Attempts.{comes_between}
use Rattle.cmd_tasks.specs.Session.{AreOrdered, behind, is_work, places, written, NoWork}
use Rattle.cmd_tasks.specs.Placed.{IsPlaced}
use Rattle.cmd_tasks.specs.declared.trace.Item.{Item}
use Rattle.cmd_tasks.proofs.Sessions.{places-append, written_snoc}
use Rattle.cmd_tasks.proofs.Listing.{Row, Rises, IsBelow, ids_total, rises}

pub same_some : {A : Type 0} (a b : A) → Some a ≡ Some b → a ≡ b
same_some a b e = cc

-- ---- what a look shows stands in the rows

first_has : (P : Tree → Type 0) (p : Row → Bool) (es : List Row) (x : Found) → first (map found (filter p es)) ≡ Some x → Each (λ e. P e.0) es → P x.id
first_has P p [] x e h = cc
first_has P p (r ∷ es) x e h = elim (p r) as (λ t. first (map found (cond t (r ∷ filter p es) (filter p es))) ≡ Some x → P x.id) [
  | true ↦ λ q. subst (λ (z : Found). P z.id) (same_some (found r) x q) h.0
  | false ↦ λ q. first_has P p es x q h.1
] e

lt_apart : (o p : Ordering) → p ≡ ordering_reverse o → is_lt o ≡ true → is_eq p ≡ false
lt_apart Less p r e = ap is_eq r
lt_apart Equal p r e = cc
lt_apart Greater p r e = cc

first_found : (p : Row → Bool) (es : List Row) (x : Found) → Rises es → first (map found (filter p es)) ≡ Some x → version_of x.id es ≡ Some (record { tx = x.tx; doc = x.doc })
first_found p [] x r e = cc
first_found p (z ∷ es) x r e = elim (p z) as (λ t. first (map found (cond t (z ∷ filter p es) (filter p es))) ≡ Some x → version_of x.id (z ∷ es) ≡ Some (record { tx = x.tx; doc = x.doc })) [
  | true ↦ λ q. subst (λ (y : Found). version_of y.id (z ∷ es) ≡ Some (record { tx = y.tx; doc = y.doc })) (same_some (found z) x q) (ap (λ (o : Ordering). cond (is_eq o) (Some z.1) (version_of z.0 es)) (tied_itself ids_total z.0))
  | false ↦ λ q. ap (λ (b : Bool). cond b (Some z.1) (version_of x.id es)) (lt_apart (id_cmp z.0 x.id) (id_cmp x.id z.0) (ids_total.antisymm x.id z.0) (first_has (λ i. IsBelow z.0 i) p es x q r.0)) ∙ first_found p es x r.1 q
] e

pub shown_stands : (r : Rows) (f : FilterTree) (from up : Option Tree) (x : Found) → ascends r ≡ true → first (found_in r f from up) ≡ Some x → version_of x.id r ≡ Some (record { tx = x.tx; doc = x.doc })
shown_stands r f from up x sorted e = first_found _ r x (rises r sorted) e

-- ---- no entry of the session lies behind a last item that wrote nothing

abbrev Below : ℕ → List ℕ → Type 0
Below n ps = Each (λ p. p < n) ps

written_below : (from n : ℕ) (is : List Item) (i : Item) → AreOrdered from (is ++ i ∷ []) → n ≡ point i → Below n (written is) × (from ≤ n)
written_below from n [] i o e = (tt, omega (arith, o.0))
written_below from n (j ∷ js) i o e = let r = written_below (behind j) n js i o.1 e in each (writes j) refl r
  where
    each : (b : Bool) → writes j ≡ b → Below n (written js) × (behind j ≤ n) → Below n (cond (writes j) (point j ∷ written js) (written js)) × (from ≤ n)
    each true w r = let l : point j + 1 ≤ n = subst (λ (b : Bool). cond b (point j + 1) (point j) ≤ n) w r.1 in (subst (λ (b : Bool). Below n (cond b (point j ∷ written js) (written js))) (sym w) (omega arith, r.0), omega (arith, o.0))
    each false w r = let l : point j ≤ n = subst (λ (b : Bool). cond b (point j + 1) (point j) ≤ n) w r.1 in (subst (λ (b : Bool). Below n (cond b (point j ∷ written js) (written js))) (sym w) r.0, omega (arith, o.0))

before_behind : (j : Item) (n : ℕ) → behind j ≤ n → point j ≤ n
before_behind j n h = elim (writes j) as (λ b. cond b (point j + 1) (point j) ≤ n → point j ≤ n) [ true ↦ λ l. omega arith | false ↦ λ l. l ] h

below_rest : (n : ℕ) (xs ys : List ℕ) → Below n (xs ++ ys) → Below n ys
below_rest n [] ys h = h
below_rest n (x ∷ xs) ys h = below_rest n xs ys h.1

none_there : (k m n : ℕ) (es : List Entry) → n ≤ m → Below n (places k m es) → NoWork k es
none_there k m n [] le h = tt
none_there k m n (e ∷ es) le h = elim (is_work k e) as (λ b. is_work k e ≡ b → Below n (cond b (m ∷ places k (m + 1) es) (places k (m + 1) es)) → NoWork k (e ∷ es)) [
  | true ↦ λ w b. absurd (let l = b.0 in omega arith)
  | false ↦ λ w b. (w, none_there k (m + 1) n es (omega arith) b)
] refl h

pub drop_drop : {A : Type 0} (p n : ℕ) (xs : List A) → p ≤ n → n ≤ length xs → (front : List A) × (drop p xs ≡ front ++ drop n xs) × (p + length front ≡ n)
drop_drop p n xs a b = (take (n - p) (drop p xs), sym (take-append-drop (n - p) (drop p xs)) ∙ ap (λ (z : List _). take (n - p) (drop p xs) ++ z) (again p n xs a), let l = length-take-le (n - p) (drop p xs) (let d = length-drop p xs in omega arith) in omega arith)
  where
    again : {A : Type 0} (p n : ℕ) (xs : List A) → p ≤ n → drop (n - p) (drop p xs) ≡ drop n xs
    again p n xs a = drop-drop (n - p) p xs ∙ ap (λ (m : ℕ). drop m xs) (omega arith)

pub no_work_since : (k : ℕ) (H : List Entry) (trace : List Item) (i : Item) → writes i ≡ false → point i ≤ length H → IsPlaced k H (trace ++ i ∷ []) → NoWork k (drop (point i) H)
no_work_since k H [] i w le p = none_there k (point i) (point i) (drop (point i) H) (omega arith) (subst (Below (point i)) (sym (p.own ∙ ap (λ (b : Bool). cond b (point i ∷ []) []) w)) tt)
no_work_since k H (j ∷ js) i w le p =
    let n = point i in
    let o = written_below 0 n (j ∷ js) i p.ordered refl in
    let q : point j ≤ n = before_behind j n (written_below (behind j) n js i p.ordered.1 refl).1 in
    let d = drop_drop (point j) n H q le in
    let is : places k (point j) d.0 ++ places k n (drop n H) ≡ written (j ∷ js) =
    (λ t. places k (point j) d.0 ++ places k (sym d.2 t) (drop n H)) ∙ (sym (places-append k (point j) d.0 (drop n H)) ∙ (ap (places k (point j)) (sym d.1) ∙ (p.own ∙ (written_snoc (j ∷ js) i ∙ (ap (λ (b : Bool). written (j ∷ js) ++ cond b (point i ∷ []) []) w ∙ append-nil (written (j ∷ js))))))) in
    none_there k n n (drop n H) (omega arith) (below_rest n (places k (point j) d.0) (places k n (drop n H)) (subst (Below n) (sym is) o.0))

-- ---- what an entry by another session touches

none_of : (b : Bool) → false ≡ b && false
none_of true = refl
none_of false = refl

touched_by_another : (k : ℕ) (coll : Name) (x : Tree) (e : Entry) → is_work k e ≡ false → touches coll x e ≡ comes_between coll k x e
touched_by_another k coll x (Opened j) h = none_of _
touched_by_another k coll x (Created by c) h = none_of _
touched_by_another k coll x (Dropped by c) h = ap (λ (b : Bool). not b && touches coll x (Dropped by c)) (sym h)
touched_by_another k coll x (Changed by c id change before tx) h = ap (λ (b : Bool). not b && touches coll x (Changed by c id change before tx)) (sym h)
touched_by_another k coll x (Failed by before count) h = none_of _

touched_all : (k : ℕ) (coll : Name) (x : Tree) (es : List Entry) → NoWork k es → list_any (touches coll x) es ≡ list_any (comes_between coll k x) es
touched_all k coll x [] h = refl
touched_all k coll x (e ∷ es) h = λ i. touched_by_another k coll x e h.0 i || touched_all k coll x es h.1 i

-- the store's laws: a number is given once, and an entry since a point touches what has another number now
abbrev pub GivenOnce : Type 0
GivenOnce = (start : Base) (journal : List Entry) (place : ℕ) → IsJournal start journal → AreApart start.collections → (coll : Name) (id : Tree) (v w : Version) → IsOld start
    → version (state_at start journal place) coll id ≡ Some v → version (replay start journal) coll id ≡ Some w → w.tx ≡ v.tx → w ≡ v

abbrev pub Touched : Type 0
Touched = (start : Base) (journal : List Entry) (place : ℕ) → IsJournal start journal → AreApart start.collections → (coll : Name) (id : Tree) (v : Version)
    → version (state_at start journal place) coll id ≡ Some v → number_at (replay start journal) coll id ≢ Some v.tx → list_any (touches coll id) (drop place journal) ≡ true

-- where another number stands, or none, another session wrote between
pub another_between : Touched → (base : Base) (coll : Name) (k : ℕ) (H : List Entry) (n : ℕ) (x : Found) → IsJournal base H → AreApart base.collections → NoWork k (drop n H) → version (replay base (take n H)) coll x.id ≡ Some (record { tx = x.tx; doc = x.doc })
    → number_at (replay base H) coll x.id ≢ Some x.tx → list_any (comes_between coll k x.id) (drop n H) ≡ true
another_between touched base coll k H n x lawful apart none seen other = sym (touched_all k coll x.id (drop n H) none) ∙ touched base H n lawful apart coll x.id (record { tx = x.tx; doc = x.doc }) seen other
