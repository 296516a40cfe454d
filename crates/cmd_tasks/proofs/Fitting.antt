-- A change that is attempted in the place of a document that waits fits what stands there under the number that was read.
use Rattle.std.proofs.Common.{◌≡◌, ℕ, zero, suc, List, [], ◌∷◌, map, reverse, true, false, Option, Some, None, Result, Ok, Err, refl, sym, ap, ◌∙◌, subst}
use Rattle.std.specs.Prelude.{⊤, slice_get, if◌then◌else◌}
use Rattle.std.specs.List.{AllByRecursion}
use Rattle.json_tree.specs.Tree.{Tree}
use Rattle.json_tree.specs.Same.{same}
use Rattle.shred_cols.specs.Row.{Version}
use Rattle.col_keeper.specs.Tables.{Name, AreApart}
use Rattle.update_ops.specs.Apply.{apply}
use Rattle.update_ops.specs.declared.fault.UpdateFault.{UpdateFault}
use Rattle.store_core.specs.State.{State as Base, IsOld, version}
use Rattle.store_core.specs.Journal.{IsJournal, IsMadeOfRead, replay}
use Rattle.store_core.specs.declared.entry.Entry.{Entry}
use Rattle.store_core.specs.declared.entry.Change.{Change}
use Rattle.store_core.specs.declared.entry.Change.TheVariants.{Insert, Replace, Update, Delete}
use Rattle.cmd_tasks.specs.Trace.{Sight, sight, point, Found, now}
use Rattle.cmd_tasks.specs.Searches.{stored}
use Rattle.cmd_tasks.specs.Attempts.{IsOneOf}
use Rattle.cmd_tasks.specs.Served.{sights}
use Rattle.cmd_tasks.specs.Doing.{Making, updates, replaces, made, written, Doing, makes, deletes, change_to, change_of}
use Rattle.cmd_tasks.specs.Taking.{Shown, Standing}
use Rattle.cmd_tasks.specs.Many.{IsWaiting, IsAttempted}
use Rattle.cmd_tasks.specs.declared.work.Stand.{Stand}
use Rattle.cmd_tasks.specs.declared.work.Attempt.{Attempt}
use Rattle.cmd_tasks.specs.declared.trace.Item.{Item}
use Rattle.cmd_tasks.proofs.Attempts.{same_some, GivenOnce}
use Rattle.cmd_tasks.proofs.Lookback.{same_sight, reverse_map}

-- ---- what a sight of the trace showed stands as it was, if its number stands

item_of : (H : List Entry) (is : List Item) (look : Sight) (place : ℕ) → slice_get (map (sight H) is) place ≡ Some look → (i : Item) × (look ≡ sight H i)
item_of H [] look place e = cc
item_of H (i ∷ is) look zero e = (i, sym (same_sight (sight H i) look e))
item_of H (i ∷ is) look (suc place) e = item_of H is look place e

pub seen_at : (H : List Entry) (trace : List Item) (look : Sight) → IsOneOf look (sights H trace) → (i : Item) × (look ≡ sight H i)
seen_at H trace look h = item_of H (reverse trace) look h.0 (subst (λ (z : List Sight). slice_get z h.0 ≡ Some look) (reverse_map H trace) h.1)

pub stands_still : (base : Base) (coll : Name) (H : List Entry) (trace : List Item) (x : Found) (look : Sight) → IsOneOf look (sights H trace) → version (now base coll look) coll x.id ≡ Some (stored x)
    → GivenOnce → IsJournal base H → AreApart base.collections → IsOld base → (v : Version) → version (replay base H) coll x.id ≡ Some v → v.tx ≡ x.tx → v ≡ stored x
stands_still base coll H trace x look among stood once lawful apart old v there same =
    let at = seen_at H trace look among in
    once base H (point at.0) lawful apart coll x.id (stored x) v old (ap (λ (s : Sight). version (now base coll s) coll x.id) (sym at.1) ∙ stood) there same

-- ---- what is made of it

-- the change makes its document of this one
abbrev pub Makes : Change → Tree → Type 0
Makes (Insert new) d = ⊤
Makes (Replace new) d = ⊤
Makes (Update u moment new) d = apply u d moment false ≡ Ok new
Makes Delete d = ⊤

same_change : (a b : Change) → ◌≡◌ {A = Result (Option Change) UpdateFault} (Ok (Some a)) (Ok (Some b)) → a ≡ b
same_change a b e = cc

not_none : (a : Change) → ◌≡◌ {A = Result (Option Change) UpdateFault} (Ok None) (Ok (Some a)) → ⊥
not_none a e = cc

not_refused : (a : Change) (fault : UpdateFault) → ◌≡◌ {A = Result (Option Change) UpdateFault} (Err fault) (Ok (Some a)) → ⊥
not_refused a fault e = cc

-- what is written makes the document that was to be made
written_makes : (making : Making) (d new : Tree) → made making d ≡ Ok new → Makes (written making new) d
written_makes (updates u moment) d new is = is
written_makes (replaces r) d new is = tt

pub makes_so : (doing : Doing) (d : Tree) (change : Change) → change_of doing d ≡ Ok (Some change) → Makes change d
makes_so (makes making up) d change e = go (made making d) refl e
  where
    go : (r : Result Tree UpdateFault) → made making d ≡ r → change_to making d r ≡ Ok (Some change) → Makes change d
    go (Ok new) is q = elim (same d new) as (λ b. ◌≡◌ {A = Result (Option Change) UpdateFault} (Ok (if b then None else Some (written making new))) (Ok (Some change)) → Makes change d) [
      | true ↦ λ q. absurd (not_none change q)
      | false ↦ λ q. subst (λ (c : Change). Makes c d) (same_change (written making new) change q) (written_makes making d new is)
    ] q
    go (Err fault) is q = absurd (not_refused change fault q)
makes_so deletes d change e = subst (λ (c : Change). Makes c d) (same_change Delete change e) tt

module _ (base : Base) (coll : Name) (doing : Doing) (stand : Stand) (attempt : Attempt) (st : Standing) (H : List Entry) (trace : List Item) (waiting : IsWaiting base coll st (sights H trace)) (h : IsAttempted doing stand attempt st) where
  abbrev IsSeenOne : Shown → Type 0
  IsSeenOne s = IsOneOf s.look (sights H trace) × (version (now base coll s.look) coll s.x.id ≡ Some (stored s.x))

  -- the first that waits was shown as it stood
  first_stood : IsSeenOne h.first
  first_stood = let all : AllByRecursion IsSeenOne (h.first ∷ h.rest) = subst (AllByRecursion IsSeenOne) h.queue waiting.stood in all.0

  fits_made : GivenOnce → IsJournal base H → AreApart base.collections → IsOld base → (o : Option Version) → version (replay base H) coll attempt.id ≡ o → (change : Change) → Makes change h.first.x.doc → IsMadeOfRead change (Some attempt.read) o
  fits_made once lawful apart old o there (Insert new) it = tt
  fits_made once lawful apart old o there (Replace new) it = tt
  fits_made once lawful apart old None there (Update u moment new) it = tt
  fits_made once lawful apart old (Some v) there (Update u moment new) it = λ is.
      let x = h.first.x in
      let still = stands_still base coll H trace x h.first.look first_stood.0 first_stood.1 once lawful apart old v (ap (λ (i : Tree). version (replay base H) coll i) h.id ∙ there) (sym (same_some attempt.read v.tx is) ∙ sym h.read) in
      ap (λ (z : Version). apply u z.doc moment false) still ∙ it
  fits_made once lawful apart old o there Delete it = tt

  pub fits_attempt : GivenOnce → IsJournal base H → AreApart base.collections → IsOld base → (o : Option Version) → version (replay base H) coll attempt.id ≡ o → IsMadeOfRead attempt.change (Some attempt.read) o
  fits_attempt once lawful apart old o there = fits_made once lawful apart old o there attempt.change (makes_so doing h.first.x.doc attempt.change h.change)
