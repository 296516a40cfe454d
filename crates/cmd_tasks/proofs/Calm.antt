-- A session behind whose opening nobody else wrote, or no call failed: what its sights stand on.
use Rattle.std.proofs.Common.{◌≡◌, ℕ, zero, suc, ◌+◌, ◌-◌, ◌<◌, ◌≤◌, List, [], ◌∷◌, ◌++◌, map, take, drop, reverse, length, Bool, true, false, cond, not, ◌&&◌, ◌||◌, Some, refl, sym, ap, ◌∙◌, subst, arith, inl, inr, length-take}
use Rattle.std.specs.Prelude.{slice_get}
use Rattle.std.specs.List.{list_any, AllByRecursion as Each}
use Rattle.std.proofs.lemmas.Bool.{eq-eqb}
use Rattle.std.proofs.lemmas.List.{drop-drop, reverse-append, reverse-reverse}
use Rattle.std.proofs.Math.Seq.{drop-append-add}
use Rattle.json_tree.specs.Tree.{Tree}
use Rattle.outside_io.specs.Causes.{Rose}
use Rattle.col_keeper.specs.Tables.{Name}
use Rattle.store_core.specs.State.{State as Base}
use Rattle.store_core.specs.Journal.{after, Raised, IsJournal}
use Rattle.store_core.specs.Numbers.{touches}
use Rattle.store_core.specs.Counts.{by_of, AllBy}
use Rattle.store_core.specs.declared.entry.Entry.{Entry}
use Rattle.store_core.specs.declared.entry.Entry.TheVariants.{Opened, Created, Dropped, Changed, Failed}
use Rattle.cmd_tasks.specs.Trace.{Sight, sight, point, writes, entry_at, Found}
use Rattle.cmd_tasks.specs.Attempts.{comes_between, IsOneOf, IsLost}
use Rattle.cmd_tasks.specs.Served.{sights}
use Rattle.cmd_tasks.specs.Session.{AreOrdered, behind, AreCounted}
use Rattle.cmd_tasks.specs.declared.trace.Item.{Item}

-- ---- lists

pub each_append : {A : Type 0} (P : A → Type 0) (xs ys : List A) → Each P xs → Each P ys → Each P (xs ++ ys)
each_append P [] ys p q = q
each_append P (x ∷ xs) ys p q = (p.0, each_append P xs ys p.1 q)

pub each_front : {A : Type 0} (P : A → Type 0) (xs ys : List A) → Each P (xs ++ ys) → Each P xs
each_front P [] ys p = tt
each_front P (x ∷ xs) ys p = (p.0, each_front P xs ys p.1)

pub each_rest : {A : Type 0} (P : A → Type 0) (xs ys : List A) → Each P (xs ++ ys) → Each P ys
each_rest P [] ys p = p
each_rest P (x ∷ xs) ys p = each_rest P xs ys p.1

pub each_reverse : {A : Type 0} (P : A → Type 0) (xs : List A) → Each P xs → Each P (reverse xs)
each_reverse P [] p = tt
each_reverse P (x ∷ xs) p = subst (Each P) (sym (reverse-append (x ∷ []) xs)) (each_append P (reverse xs) (x ∷ []) (each_reverse P xs p.1) (p.0, tt))

pub each_at : {A : Type 0} (P : A → Type 0) (x : A) (xs : List A) → Each P xs → IsOneOf x xs → P x
each_at P x [] p (place, e) = cc
each_at P x (y ∷ xs) p (zero, e) = subst P (same y x e) p.0
  where
    same : {A : Type 0} (a b : A) → Some a ≡ Some b → a ≡ b
    same a b e = cc
each_at P x (y ∷ xs) p (suc place, e) = each_at P x xs p.1 (place, e)

pub each_map : {A B : Type 0} (f : A → B) (P : B → Type 0) (xs : List A) → Each P (map f xs) → Each (λ x. P (f x)) xs
each_map f P [] p = tt
each_map f P (x ∷ xs) p = (p.0, each_map f P xs p.1)

pub each_turned : {A : Type 0} (P : A → Type 0) (xs : List A) → Each P (reverse xs) → Each P xs
each_turned P xs p = subst (Each P) (reverse-reverse xs) (each_reverse P (reverse xs) p)

-- ---- entries

-- the entry is no failed call
abbrev pub IsNoFault : Entry → Type 0
IsNoFault (Opened j) = Unit {0}
IsNoFault (Created by coll) = Unit {0}
IsNoFault (Dropped by coll) = Unit {0}
IsNoFault (Changed by coll id change before tx) = Unit {0}
IsNoFault (Failed by before count) = ⊥

-- a count that rose within others has risen over them
count_rose : (low high before count : ℕ) → low ≤ before → count ≤ high → Raised before count → Rose low high
count_rose low high before count l h (inl r) = omega arith
count_rose low high before count l h (inr r) = omega (arith, r.0, r.1)

-- where the keeper's count didn't rise, none of these entries is a failed call
pub faultless : (s : Base) (low high : ℕ) (es : List Entry) → IsJournal s es → AreCounted low high es → (Rose low high → ⊥) → Each IsNoFault es
faultless s low high [] j c r = tt
faultless s low high (Opened k ∷ es) j c r = (tt, faultless (after s (Opened k)) low high es j.1 c r)
faultless s low high (Created by coll ∷ es) j c r = (tt, faultless (after s (Created by coll)) low high es j.1 c r)
faultless s low high (Dropped by coll ∷ es) j c r = (tt, faultless (after s (Dropped by coll)) low high es j.1 c r)
faultless s low high (Changed by coll id change before tx ∷ es) j c r = (tt, faultless (after s (Changed by coll id change before tx)) low high es j.1 c r)
faultless s low high (Failed by before count ∷ es) j c r = absurd (r (count_rose low high before count c.0 c.1 j.0.2))

-- ---- the session's opening stands once

not_again : (s : Base) (before more : List Entry) (k : ℕ) → IsJournal s (before ++ Opened k ∷ more) → k < s.sessions → ⊥
not_again s [] more k j l = let is : k ≡ s.sessions = j.0 in omega (arith, is, l)
not_again s (Opened n ∷ before) more k j l = not_again (after s (Opened n)) before more k j.1 (omega arith)
not_again s (Created by coll ∷ before) more k j l = not_again (after s (Created by coll)) before more k j.1 l
not_again s (Dropped by coll ∷ before) more k j l = not_again (after s (Dropped by coll)) before more k j.1 l
not_again s (Changed by coll id change b tx ∷ before) more k j l = not_again (after s (Changed by coll id change b tx)) before more k j.1 l
not_again s (Failed by b count ∷ before) more k j l = not_again (after s (Failed by b count)) before more k j.1 l

first_opens : (s : Base) (e : Entry) (before more : List Entry) (k : ℕ) → IsJournal s (e ∷ (before ++ Opened k ∷ more)) → e ≡ Opened k → ⊥
first_opens s e before more k j is =
    let j' : IsJournal s (Opened k ∷ (before ++ Opened k ∷ more)) = subst (λ (d : Entry). IsJournal s (d ∷ (before ++ Opened k ∷ more))) is j in
    let at : k ≡ s.sessions = j'.0 in
    not_again (after s (Opened k)) before more k j'.1 (omega (arith, at))

pub opened_late : (s : Base) (before more : List Entry) (k place : ℕ) → IsJournal s (before ++ Opened k ∷ more) → slice_get (before ++ Opened k ∷ more) place ≡ Some (Opened k) → length before ≤ place
opened_late s [] more k place j e = omega arith
opened_late s (d ∷ before) more k zero j e = absurd (first_opens s d before more k j (same d (Opened k) e))
  where
    same : (a b : Entry) → Some a ≡ Some b → a ≡ b
    same a b e = cc
opened_late s (d ∷ before) more k (suc place) j e = let l = opened_late (after s d) before more k place j.1 e in omega (arith, l)

pub journal_rest : (s : Base) (before more : List Entry) (k : ℕ) → IsJournal s (before ++ Opened k ∷ more) → (t : Base) × IsJournal t more
journal_rest s [] more k j = (after s (Opened k), j.1)
journal_rest s (e ∷ before) more k j = journal_rest (after s e) before more k j.1

-- ---- sights

-- at least n entries stood there, and those behind the first n are by the session
pub record IsCalm (k n : ℕ) (s : Sight) : Type 0 where
  pub enough : n ≤ length s.past
  pub alone : AllBy k (drop n s.past)

-- its entry is no failed call
abbrev pub HasNoFault : Sight → Type 0
HasNoFault s = (by before count : ℕ) → s.entry ≡ Some (Failed by before count) → ⊥

by_taken : (k p : ℕ) (es : List Entry) → AllBy k es → AllBy k (take p es)
by_taken k zero es h = tt
by_taken k (suc p) [] h = tt
by_taken k (suc p) (e ∷ es) h = (h.0, by_taken k p es h.1)

by_taken_behind : (k n p : ℕ) (es : List Entry) → AllBy k (drop n es) → AllBy k (drop n (take p es))
by_taken_behind k zero p es h = by_taken k p es h
by_taken_behind k (suc n) zero es h = tt
by_taken_behind k (suc n) (suc p) [] h = tt
by_taken_behind k (suc n) (suc p) (e ∷ es) h = by_taken_behind k n p es h

no_fault_at : (p : ℕ) (es : List Entry) (by before count : ℕ) → Each IsNoFault es → slice_get es p ≡ Some (Failed by before count) → ⊥
no_fault_at p [] by before count h e = cc
no_fault_at zero (d ∷ es) by before count h e = subst IsNoFault (same d (Failed by before count) e) h.0
  where
    same : (a b : Entry) → Some a ≡ Some b → a ≡ b
    same a b e = cc
no_fault_at (suc p) (d ∷ es) by before count h e = no_fault_at p es by before count h.1 e

no_fault_behind : (n p : ℕ) (es : List Entry) (by before count : ℕ) → n ≤ p → Each IsNoFault (drop n es) → slice_get es p ≡ Some (Failed by before count) → ⊥
no_fault_behind zero p es by before count l h e = no_fault_at p es by before count h e
no_fault_behind (suc n) p [] by before count l h e = cc
no_fault_behind (suc n) zero (d ∷ es) by before count l h e = omega arith
no_fault_behind (suc n) (suc p) (d ∷ es) by before count l h e = no_fault_behind n p es by before count (omega arith) h e

point_behind : (i : Item) → point i ≤ behind i
point_behind i = each (writes i)
  where
    each : (b : Bool) → point i ≤ cond b (point i + 1) (point i)
    each true = omega arith
    each false = omega arith

pub points_late : (n from : ℕ) (is : List Item) → n ≤ from → AreOrdered from is → Each (λ i. n ≤ point i) is
points_late n from [] l o = tt
points_late n from (i ∷ is) l o = (omega (arith, o.0), points_late n (behind i) is (let b = point_behind i in omega (arith, o.0, b)) o.1)

-- what holds of each item's sight
seen_each : (H : List Entry) (n : ℕ) (P : Sight → Type 0) → ((i : Item) → n ≤ point i → P (sight H i)) → (trace : List Item) → Each (λ i. n ≤ point i) trace → Each P (map (sight H) trace)
seen_each H n P one [] h = tt
seen_each H n P one (i ∷ is) h = (one i h.0, seen_each H n P one is h.1)

pub calm_sights : (H : List Entry) (k n : ℕ) → n ≤ length H → AllBy k (drop n H) → (trace : List Item) → Each (λ i. n ≤ point i) trace → Each (IsCalm k n) (sights H trace)
calm_sights H k n enough by trace h = each_reverse (IsCalm k n) (map (sight H) trace) (seen_each H n (IsCalm k n) one trace h)
  where
    one : (i : Item) → n ≤ point i → IsCalm k n (sight H i)
    one i l = record { enough = let t = length-take (point i) H in omega (arith, t, l, enough); alone = by_taken_behind k n (point i) H by }

pub faultless_sights : (H : List Entry) (n : ℕ) → Each IsNoFault (drop n H) → (trace : List Item) → Each (λ i. n ≤ point i) trace → Each HasNoFault (sights H trace)
faultless_sights H n none trace h = each_reverse HasNoFault (map (sight H) trace) (seen_each H n HasNoFault (λ i l by before count e. entry (writes i) (point i) by before count l e) trace h)
  where
    entry : (b : Bool) (p by before count : ℕ) → n ≤ p → entry_at H b p ≡ Some (Failed by before count) → ⊥
    entry false p by before count l e = cc
    entry true p by before count l e = no_fault_behind n p H by before count l none e

-- ---- no write is lost to another

none_between : (coll : Name) (k : ℕ) (id : Tree) (es : List Entry) → AllBy k es → list_any (comes_between coll k id) es ≡ false
none_between coll k id [] h = refl
none_between coll k id (e ∷ es) h = ap (λ (b : Bool). (not b && touches coll id e) || list_any (comes_between coll k id) es) (eq-eqb (by_of e) k h.0) ∙ none_between coll k id es h.1

by_drop : (k m : ℕ) (es : List Entry) → AllBy k es → AllBy k (drop m es)
by_drop k zero es h = h
by_drop k (suc m) [] h = tt
by_drop k (suc m) (e ∷ es) h = by_drop k m es h.1

pub lost_none : (base : Base) (coll : Name) (k n : ℕ) (look : Sight) (x : Found) (s : Sight) → IsCalm k n s → n ≤ length look.past → IsLost base coll k look x s → ⊥
lost_none base coll k n look x s calm l lost =
    let m = length look.past in
    let same : drop (m - n) (drop n s.past) ≡ drop m s.past = drop-drop (m - n) n s.past ∙ ap (λ (z : ℕ). drop z s.past) (omega (arith, l)) in
    let none = none_between coll k x.id (drop m s.past) (subst (AllBy k) same (by_drop k (m - n) (drop n s.past) calm.alone)) in
    apart (sym none ∙ lost.between)
  where
    apart : false ≡ true → ⊥
    apart e = cc

-- ---- the whole history

pub behind_opening : (before more : List Entry) (k : ℕ) → drop (length before + 1) (before ++ Opened k ∷ more) ≡ more
behind_opening before more k = drop-append-add before (Opened k ∷ more) 1
