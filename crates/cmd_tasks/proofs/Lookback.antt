-- A look of the present round: where its item stands in the trace, and what happened since.
use Rattle.std.proofs.Common.{◌≡◌, ◌≢◌, ℕ, zero, suc, ◌≤◌, List, [], ◌∷◌, ◌++◌, map, take, drop, reverse, length, true, false, cond, Option, Some, refl, sym, ap, ◌∙◌, subst, append_assoc, append-nil}
use Rattle.std.specs.Prelude.{slice_get}
use Rattle.std.specs.List.{list_any}
use Rattle.std.proofs.lemmas.List.{length-take-le, map-append, reverse-append, reverse-reverse}
use Rattle.shred_cols.specs.Row.{Version}
use Rattle.col_keeper.specs.Tables.{Name, AreApart}
use Rattle.filter_tree.specs.Filters.{FilterTree}
use Rattle.store_core.specs.State.{State as Base, IsOld, version, number_at}
use Rattle.store_core.specs.Journal.{IsJournal, replay}
use Rattle.store_core.specs.declared.entry.Entry.{Entry}
use Rattle.cmd_tasks.specs.Trace.{Sight, sight, point, writes, Found, now}
use Rattle.cmd_tasks.specs.Searches.{stored}
use Rattle.cmd_tasks.specs.Attempts.{IsOneOf, comes_between}
use Rattle.cmd_tasks.specs.Served.{round, sights}
use Rattle.cmd_tasks.specs.Session.{AreOrdered, AreWithin, behind, written}
use Rattle.cmd_tasks.specs.Placed.{OwnFrom, IsPlaced}
use Rattle.cmd_tasks.specs.Searching.{IsSeen}
use Rattle.cmd_tasks.specs.declared.trace.Item.{Item}
use Rattle.cmd_tasks.specs.declared.trace.Item.TheVariants.{Looked, Wrote, Lost, Faulted}
use Rattle.cmd_tasks.proofs.Sessions.{written_snoc}
use Rattle.cmd_tasks.proofs.Standing.{point_within}
use Rattle.cmd_tasks.proofs.Attempts.{GivenOnce, Touched, no_work_since, another_between}

-- the trace has this look, and behind it nothing that wrote
pub record LooksBack (H : List Entry) (trace : List Item) (look : Sight) : Type 0 where
  pub front : List Item
  pub item : Item
  pub later : List Item
  pub are : trace ≡ (front ++ item ∷ []) ++ later
  pub is : look ≡ sight H item
  pub quiet : writes item ≡ false
  pub none_wrote : written later ≡ []

pub same_sight : (a b : Sight) → ◌≡◌ {A = Option Sight} (Some a) (Some b) → a ≡ b
same_sight a b e = cc

abbrev no_sights : List Sight
no_sights = []

not_there : (place : ℕ) (look : Sight) → slice_get no_sights place ≡ Some look → ⊥
not_there place look e = cc

-- a further look
look_more : (H : List Entry) (trace : List Item) (look : Sight) (i : Item) → writes i ≡ false → LooksBack H trace look → LooksBack H (trace ++ i ∷ []) look
look_more H trace look i quiet h = record {
  front = h.front;
  item = h.item;
  later = h.later ++ i ∷ [];
  are = ap (λ (z : List Item). z ++ i ∷ []) h.are ∙ append_assoc (h.front ++ h.item ∷ []) h.later (i ∷ []);
  is = h.is;
  quiet = h.quiet;
  none_wrote = written_snoc h.later i ∙ (λ j. h.none_wrote j ++ cond (quiet j) (point i ∷ []) []);
}

-- by the trace, with its last item first
looks_back : (H : List Entry) (rs : List Item) (look : Sight) → IsOneOf look (round (map (sight H) rs)) → LooksBack H (reverse rs) look
looks_back H [] look h = absurd (not_there h.0 look h.1)
looks_back H (Looked at after up page ∷ rs) look (zero, e) = subst (λ (z : List Item). LooksBack H z look) (sym (reverse-append (Looked at after up page ∷ []) rs)) (record {
  front = reverse rs;
  item = Looked at after up page;
  later = [];
  are = sym (append-nil (reverse rs ++ Looked at after up page ∷ []));
  is = sym (same_sight (sight H (Looked at after up page)) look e);
  quiet = refl;
  none_wrote = refl;
})
looks_back H (Looked at after up page ∷ rs) look (suc place, e) = subst (λ (z : List Item). LooksBack H z look) (sym (reverse-append (Looked at after up page ∷ []) rs)) (look_more H (reverse rs) look (Looked at after up page) refl (looks_back H rs look (place, e)))
looks_back H (Wrote at ∷ rs) look h = absurd (not_there h.0 look h.1)
looks_back H (Lost at read found ∷ rs) look h = absurd (not_there h.0 look h.1)
looks_back H (Faulted at before count ∷ rs) look h = absurd (not_there h.0 look h.1)

pub reverse_map : (H : List Entry) (xs : List Item) → reverse (map (sight H) xs) ≡ map (sight H) (reverse xs)
reverse_map H [] = refl
reverse_map H (x ∷ xs) = reverse-append (sight H x ∷ []) (map (sight H) xs) ∙ (ap (λ (z : List Sight). z ++ sight H x ∷ []) (reverse_map H xs) ∙ (sym (map-append (sight H) (reverse xs) (x ∷ [])) ∙ ap (map (sight H)) (sym (reverse-append (x ∷ []) xs))))

pub in_round : (H : List Entry) (trace : List Item) (look : Sight) → IsOneOf look (round (sights H trace)) → LooksBack H trace look
in_round H trace look h = subst (λ (z : List Item). LooksBack H z look) (reverse-reverse trace) (looks_back H (reverse trace) look (subst (λ (z : List Sight). IsOneOf look (round z)) (reverse_map H trace) h))

-- ---- the trace as far as the look

ordered_front : (n : ℕ) (xs ys : List Item) → AreOrdered n (xs ++ ys) → AreOrdered n xs
ordered_front n [] ys h = tt
ordered_front n (x ∷ xs) ys h = (h.0, ordered_front (behind x) xs ys h.1)

within_front : (n : ℕ) (xs ys : List Item) → AreWithin n (xs ++ ys) → AreWithin n xs
within_front n [] ys h = tt
within_front n (x ∷ xs) ys h = (h.0, within_front n xs ys h.1)

written_front : (xs ys : List Item) → written ys ≡ [] → written (xs ++ ys) ≡ written xs
written_front [] ys none = none
written_front (x ∷ xs) ys none = ap (λ (z : List ℕ). cond (writes x) (point x ∷ z) z) (written_front xs ys none)

own_front : (k : ℕ) (H : List Entry) (xs ys : List Item) → written ys ≡ [] → OwnFrom k H (xs ++ ys) → OwnFrom k H xs
own_front k H [] ys none h = tt
own_front k H (x ∷ xs) ys none h = h ∙ written_front (x ∷ xs) ys none

placed_front : (k : ℕ) (H : List Entry) (xs ys : List Item) → written ys ≡ [] → IsPlaced k H (xs ++ ys) → IsPlaced k H xs
placed_front k H xs ys none p = record {
  ordered = ordered_front 0 xs ys p.ordered;
  within = within_front (length H) xs ys p.within;
  own = own_front k H xs ys none p.own;
}

last_low : (n : ℕ) (front : List Item) (i : Item) → AreWithin n (front ++ i ∷ []) → point i ≤ n
last_low n [] i w = point_within n i w.0
last_low n (j ∷ js) i w = last_low n js i w.1

-- ---- what stands under the id of a document that such a look showed, and who wrote since

module _ (base : Base) (coll : Name) (k : ℕ) (f : FilterTree) (H : List Entry) (trace : List Item) (placed : IsPlaced k H trace) (x : Found) (seen : IsSeen base coll f x (round (sights H trace))) where
  back : LooksBack H trace seen.look
  back = in_round H trace seen.look seen.among

  up_to_it : IsPlaced k H (back.front ++ back.item ∷ [])
  up_to_it = placed_front k H (back.front ++ back.item ∷ []) back.later back.none_wrote (subst (IsPlaced k H) back.are placed)

  stood_there : version (replay base (take (point back.item) H)) coll x.id ≡ Some (stored x)
  stood_there = ap (λ (s : Sight). version (now base coll s) coll x.id) (sym back.is) ∙ seen.stood

  pub still_same : GivenOnce → IsJournal base H → AreApart base.collections → IsOld base → (v : Version) → version (replay base H) coll x.id ≡ Some v → v.tx ≡ x.tx → v ≡ stored x
  still_same once lawful apart old v there same = once base H (point back.item) lawful apart coll x.id (stored x) v old stood_there there same

  pub came_between : Touched → IsJournal base H → AreApart base.collections → number_at (replay base H) coll x.id ≢ Some x.tx → list_any (comes_between coll k x.id) (drop (length seen.look.past) H) ≡ true
  came_between touched lawful apart other =
      let low = last_low (length H) back.front back.item up_to_it.within in
      let size : length seen.look.past ≡ point back.item = ap (λ (s : Sight). length s.past) back.is ∙ length-take-le (point back.item) H low in
      ap (λ (n : ℕ). list_any (comes_between coll k x.id) (drop n H)) size
      ∙ another_between touched base coll k H (point back.item) x lawful apart (no_work_since k H back.front back.item back.quiet low up_to_it) stood_there other
