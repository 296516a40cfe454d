-- What waits was shown by a look, and since then the request wrote nothing to its id: so who did is another session.
use Rattle.std.proofs.Common.{◌≡◌, ◌≢◌, ℕ, zero, suc, ◌+◌, ◌≤◌, List, [], ◌∷◌, ◌++◌, map, take, drop, reverse, length, Bool, true, false, cond, not, Option, Some, None, refl, sym, ap, ◌∙◌, subst, arith}
use Rattle.std.specs.Prelude.{◌&&◌, ◌||◌, slice_get, ◌==◌}
use Rattle.std.specs.List.{list_any, AllByRecursion as Each}
use Rattle.std.proofs.lemmas.List.{length-take-le, reverse-append}
use Rattle.std.proofs.lemmas.List.Folds.{list_any-append}
use Rattle.json_tree.specs.Tree.{Tree}
use Rattle.shred_cols.specs.Row.{Version}
use Rattle.col_keeper.specs.Tables.{Name, AreApart}
use Rattle.store_core.specs.State.{State as Base, IsOld, version, number_at}
use Rattle.store_core.specs.Journal.{IsJournal, replay}
use Rattle.store_core.specs.Numbers.{touches}
use Rattle.store_core.specs.declared.entry.Entry.{Entry}
use Rattle.store_core.specs.declared.entry.Entry.TheVariants.{Opened, Created, Dropped, Changed, Failed}
use Rattle.cmd_tasks.specs.Trace.{Sight, sight, point, writes, entry_at, now, IsWithin}
use Rattle.cmd_tasks.specs.Attempts.{comes_between}
use Rattle.cmd_tasks.specs.Searches.{stored}
use Rattle.cmd_tasks.specs.Served.{sights}
use Rattle.cmd_tasks.specs.Session.{AreOrdered, AreWithin, behind, is_work, places, written}
use Rattle.cmd_tasks.specs.Placed.{IsPlaced}
use Rattle.cmd_tasks.specs.Taking.{Shown}
use Rattle.cmd_tasks.specs.Many.{is_written}
use Rattle.cmd_tasks.specs.declared.trace.Item.{Item}
use Rattle.cmd_tasks.specs.declared.trace.Item.TheVariants.{Looked, Wrote, Lost, Faulted}
use Rattle.cmd_tasks.proofs.Attempts.{GivenOnce, Touched, drop_drop}
use Rattle.cmd_tasks.proofs.Searching.{no, weaker}
use Rattle.cmd_tasks.proofs.Waiting.{IsStood}

-- ---- lists

none_of : (a b : Bool) → a || b ≡ false → (a ≡ false) × (b ≡ false)
none_of true b h = absurd (no (sym h))
none_of false b h = (refl, h)

turned : (a b : Bool) → a || (b || false) ≡ b || a
turned true true = refl
turned true false = refl
turned false true = refl
turned false false = refl

any_reverse : {A : Type 0} (p : A → Bool) (xs : List A) → list_any p (reverse xs) ≡ list_any p xs
any_reverse p [] = refl
any_reverse p (x ∷ xs) = ap (list_any p) (reverse-append (x ∷ []) xs) ∙ (list_any-append p (reverse xs) (x ∷ []) ∙ (ap (λ (b : Bool). b || (p x || false)) (any_reverse p xs) ∙ turned (list_any p xs) (p x)))

each_join : {A : Type 0} (P : A → Type 0) (xs ys : List A) → Each P xs → Each P ys → Each P (xs ++ ys)
each_join P [] ys a b = b
each_join P (x ∷ xs) ys a b = (a.0, each_join P xs ys a.1 b)

each_reverse : {A : Type 0} (P : A → Type 0) (xs : List A) → Each P xs → Each P (reverse xs)
each_reverse P [] h = tt
each_reverse P (x ∷ xs) h = subst (Each P) (sym (reverse-append (x ∷ []) xs)) (each_join P (reverse xs) (x ∷ []) (each_reverse P xs h.1) (h.0, tt))

each_place : {A : Type 0} (P : A → Type 0) (xs : List A) (place : ℕ) (x : A) → slice_get xs place ≡ Some x → Each P xs → P x
each_place P [] place x e h = cc
each_place P (y ∷ ys) zero x e h = subst P (same y x e) h.0
  where
    same : {B : Type 0} (a b : B) → Some a ≡ Some b → a ≡ b
    same a b q = cc
each_place P (y ∷ ys) (suc place) x e h = each_place P ys place x e h.1

at_drop : {A : Type 0} (m : ℕ) (xs : List A) (y : A) (ys : List A) → drop m xs ≡ y ∷ ys → (slice_get xs m ≡ Some y) × (drop (suc m) xs ≡ ys)
at_drop zero [] y ys e = cc
at_drop zero (x ∷ xs) y ys e = (first_is x xs e, rest_is x xs e)
  where
    first_is : {B : Type 0} {b : B} {bs : List B} (a : B) (more : List B) → a ∷ more ≡ b ∷ bs → Some a ≡ Some b
    first_is a more q = cc

    rest_is : {B : Type 0} {b : B} {bs : List B} (a : B) (more : List B) → a ∷ more ≡ b ∷ bs → more ≡ bs
    rest_is a more q = cc
at_drop (suc m) [] y ys e = cc
at_drop (suc m) (x ∷ xs) y ys e = at_drop m xs y ys e

-- ---- the entries of the session

-- the entry is the session's, and touches the document
abbrev is_own : Name → ℕ → Tree → Entry → Bool
is_own coll k id e = is_work k e && touches coll id e

abbrev touches_in : Name → Tree → Option Entry → Bool
touches_in coll id o = elim o as (λ _. Bool) [ None ↦ false | Some e ↦ touches coll id e ]

apart_of : (w t : Bool) → w && t ≡ false → t ≡ not w && t
apart_of true t h = h
apart_of false t h = refl

nothing : (w : Bool) → false ≡ w && false
nothing true = refl
nothing false = refl

touched_apart : (coll : Name) (k : ℕ) (id : Tree) (e : Entry) → is_own coll k id e ≡ false → touches coll id e ≡ comes_between coll k id e
touched_apart coll k id (Opened j) h = nothing _
touched_apart coll k id (Created by c) h = nothing _
touched_apart coll k id (Dropped by c) h = apart_of (by == k) (touches coll id (Dropped by c)) h
touched_apart coll k id (Changed by c i change before tx) h = apart_of (by == k) (touches coll id (Changed by c i change before tx)) h
touched_apart coll k id (Failed by before count) h = nothing _

-- where none of the entries is such, whatever touches the document is another session's
all_apart : (coll : Name) (k : ℕ) (id : Tree) (es : List Entry) → list_any (is_own coll k id) es ≡ false → list_any (touches coll id) es ≡ list_any (comes_between coll k id) es
all_apart coll k id [] h = refl
all_apart coll k id (e ∷ es) h = let z = none_of _ _ h in λ j. touched_apart coll k id e z.0 j || all_apart coll k id es z.1 j

-- the points at which the items wrote have no entry that touches the document
abbrev IsClear : Name → Tree → List Entry → ℕ → Type 0
IsClear coll id H p = touches_in coll id (slice_get H p) ≡ false

written_clear : (coll : Name) (id : Tree) (H : List Entry) (is : List Item) → list_any (λ s. touches_in coll id s.entry) (map (sight H) is) ≡ false → Each (IsClear coll id H) (written is)
written_clear coll id H [] h = tt
written_clear coll id H (i ∷ is) h =
    let z = none_of _ _ h in
    elim (writes i) as (λ b. touches_in coll id (entry_at H b (point i)) ≡ false → Each (IsClear coll id H) (cond b (point i ∷ written is) (written is))) [
      | true ↦ λ t. (t, written_clear coll id H is z.1)
      | false ↦ λ t. written_clear coll id H is z.1
    ] z.0

own_clear : (coll : Name) (k : ℕ) (id : Tree) (H : List Entry) (m : ℕ) (es : List Entry) → drop m H ≡ es → Each (IsClear coll id H) (places k m es) → list_any (is_own coll k id) es ≡ false
own_clear coll k id H m [] here h = refl
own_clear coll k id H m (e ∷ es) here h =
    let there = at_drop m H e es here in
    let one : m + 1 ≡ suc m = omega arith in
    let next : drop (m + 1) H ≡ es = ap (λ (n : ℕ). drop n H) one ∙ there.1 in
    elim (is_work k e) as (λ b. is_work k e ≡ b → Each (IsClear coll id H) (cond b (m ∷ places k (m + 1) es) (places k (m + 1) es)) → list_any (is_own coll k id) (e ∷ es) ≡ false) [
      | true ↦ λ w c. let t : touches coll id e ≡ false = sym (ap (touches_in coll id) there.0) ∙ c.0 in λ j. (w j && t j) || own_clear coll k id H (m + 1) es next c.1 j
      | false ↦ λ w c. λ j. (w j && touches coll id e) || own_clear coll k id H (m + 1) es next c j
    ] refl h

-- none since a later point either
none_later : {A : Type 0} (p : A → Bool) (m n : ℕ) (xs : List A) → m ≤ n → n ≤ length xs → list_any p (drop m xs) ≡ false → list_any p (drop n xs) ≡ false
none_later p m n xs a b h = let d = drop_drop m n xs a b in (none_of _ _ (sym (list_any-append p d.0 (drop n xs)) ∙ (sym (ap (list_any p) d.1) ∙ h))).1

-- ---- a look of the trace

point_in : (n : ℕ) (i : Item) → IsWithin n i → point i ≤ n
point_in n (Looked at after up shown) h = h
point_in n (Wrote at) h = omega arith
point_in n (Lost at read found) h = h
point_in n (Faulted at before count) h = omega arith

behind_over : (i : Item) → point i ≤ behind i
behind_over i = elim (writes i) as (λ b. point i ≤ cond b (point i + 1) (point i)) [ true ↦ omega arith | false ↦ omega arith ]

each_over : (m : ℕ) (is : List Item) → AreOrdered m is → Each (λ i. m ≤ point i) is
each_over m [] h = tt
each_over m (i ∷ is) h = (h.0, weaker (λ j. behind i ≤ point j) (λ j. m ≤ point j) is (λ j z. let a = h.0 in let b = behind_over i in omega arith) (each_over (behind i) is h.1))

each_within : (m n : ℕ) (is : List Item) → AreOrdered m is → AreWithin n is → Each (λ i. (m ≤ point i) × (point i ≤ n)) is
each_within m n is o w = both is (each_over m is o) w
  where
    both : (is : List Item) → Each (λ i. m ≤ point i) is → AreWithin n is → Each (λ i. (m ≤ point i) × (point i ≤ n)) is
    both [] a b = tt
    both (i ∷ is) a b = ((a.0, point_in n i b.0), both is a.1 b.1)

-- the sight has the history up to a point from m on
record IsAt (H : List Entry) (m : ℕ) (s : Sight) : Type 0 where
  pub at : ℕ
  pub past_is : s.past ≡ take at H
  pub from : m ≤ at
  pub up_to : at ≤ length H

sights_at : (H : List Entry) (m : ℕ) (is : List Item) → Each (λ i. (m ≤ point i) × (point i ≤ length H)) is → Each (IsAt H m) (map (sight H) is)
sights_at H m [] h = tt
sights_at H m (i ∷ is) h = (record { at = point i; past_is = refl; from = h.0.0; up_to = h.0.1 }, sights_at H m is h.1)

module _ (base : Base) (coll : Name) (k : ℕ) (H : List Entry) (lawful : IsJournal base H) (apart : AreApart base.collections) where
  -- the version of the look
  looked_at : (trace : List Item) → IsPlaced k H trace → (t : Shown) → IsStood base coll (sights H trace) t → IsAt H 0 t.look
  looked_at trace placed t stood = each_place (IsAt H 0) (sights H trace) stood.0.0 t.look stood.0.1 (each_reverse (IsAt H 0) (map (sight H) trace) (sights_at H 0 trace (each_within 0 (length H) trace placed.ordered placed.within)))

  stood_at : (t : Shown) (m : ℕ) (a : IsAt H m t.look) → version (now base coll t.look) coll t.x.id ≡ Some (stored t.x) → version (replay base (take a.at H)) coll t.x.id ≡ Some (stored t.x)
  stood_at t m a e = sym (ap (λ (l : List Entry). version (replay base l) coll t.x.id) a.past_is) ∙ e

  -- what has the number that was shown is the version that was shown
  pub still_shown : GivenOnce → IsOld base → (trace : List Item) → IsPlaced k H trace → (t : Shown) → IsStood base coll (sights H trace) t → (v : Version) → version (replay base H) coll t.x.id ≡ Some v → v.tx ≡ t.x.tx → v ≡ stored t.x
  still_shown once old trace placed t stood v there same = let a = looked_at trace placed t stood in once base H a.at lawful apart coll t.x.id (stored t.x) v old (stood_at t 0 a stood.1) there same

  -- where another number stands, or none, another session wrote since the look
  pub others_wrote : Touched → (trace : List Item) → IsPlaced k H trace → (t : Shown) → IsStood base coll (sights H trace) t → is_written coll t.x.id (sights H trace) ≡ false → number_at (replay base H) coll t.x.id ≢ Some t.x.tx
      → list_any (comes_between coll k t.x.id) (drop (length t.look.past) H) ≡ true
  others_wrote touched [] placed t stood clear other = absurd (none_there t.look stood.0.0 stood.0.1)
    where
      none_there : (s : Sight) (place : ℕ) → slice_get {X = Sight} [] place ≡ Some s → ⊥
      none_there s place e = cc
  others_wrote touched (i ∷ is) placed t stood clear other =
      let m = point i in
      let inside = each_within 0 (length H) (i ∷ is) placed.ordered placed.within in
      let later : Each (λ j. (m ≤ point j) × (point j ≤ length H)) (i ∷ is) = ((omega arith, inside.0.1), each_within m (length H) is (from_here i is placed.ordered.1) placed.within.1) in
      let a : IsAt H m t.look = each_place (IsAt H m) (sights H (i ∷ is)) stood.0.0 t.look stood.0.1 (each_reverse (IsAt H m) (map (sight H) (i ∷ is)) (sights_at H m (i ∷ is) later)) in
      let size : length t.look.past ≡ a.at = ap length a.past_is ∙ length-take-le a.at H a.up_to in
      let none : list_any (is_own coll k t.x.id) (drop m H) ≡ false = own_clear coll k t.x.id H m (drop m H) refl
      (subst (Each (IsClear coll t.x.id H)) (sym placed.own) (written_clear coll t.x.id H (i ∷ is) (sym (any_reverse (λ s. touches_in coll t.x.id s.entry) (map (sight H) (i ∷ is))) ∙ clear))) in
      ap (λ (n : ℕ). list_any (comes_between coll k t.x.id) (drop n H)) size
      ∙ (sym (all_apart coll k t.x.id (drop a.at H) (none_later (is_own coll k t.x.id) m a.at H a.from a.up_to none))
      ∙ touched base H a.at lawful apart coll t.x.id (stored t.x) (stood_at t m a stood.1) other)
    where
      lower : (m n : ℕ) (is : List Item) → m ≤ n → AreOrdered n is → AreOrdered m is
      lower m n [] l h = tt
      lower m n (j ∷ js) l h = (let z = h.0 in omega arith, h.1)

      from_here : (i : Item) (is : List Item) → AreOrdered (behind i) is → AreOrdered (point i) is
      from_here i is h = lower (point i) (behind i) is (behind_over i) h
