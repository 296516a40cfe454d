-- How far the pages of a command came that takes many documents: they show documents in order of id, and come by each id.
use Rattle.std.proofs.Common.{◌≡◌, ℕ, zero, suc, List, [], ◌∷◌, ◌++◌, map, Bool, true, false, Option, Some, None, Result, refl, sym, ap, ◌∙◌, subst, ⊎_elim, ◌⊎◌, inl, inr}
use Rattle.std.specs.Prelude.{◌&&◌, IfSome, is_none}
use Rattle.std.specs.List.{AllByRecursion as Each}
use Rattle.std.proofs.lemmas.List.{append-nil, map-append}
use Rattle.json_tree.specs.Tree.{Tree}
use Rattle.json_tree.specs.Id.{id_cmp}
use Rattle.shred_cols.specs.Row.{Version}
use Rattle.shred_cols.specs.Rows.{Rows, is_after, ascends}
use Rattle.col_keeper.specs.Tables.{Name}
use Rattle.filter_tree.specs.Filters.{FilterTree}
use Rattle.filter_tree.specs.Matches.{matches}
use Rattle.update_ops.specs.declared.fault.UpdateFault.{UpdateFault}
use Rattle.store_core.specs.State.{State}
use Rattle.cmd_tasks.specs.Trace.{Sight, Found, found, up_to, end_of, rows_now, seen_by, shown_by, Looks, FullPage}
use Rattle.cmd_tasks.specs.Attempts.{IsOneOf}
use Rattle.cmd_tasks.specs.Joined.{Rise}
use Rattle.cmd_tasks.specs.Doing.{Doing}
use Rattle.cmd_tasks.specs.Taking.{Shown, Standing, settle, shown_with, win, shown_alone, list_on, replace, standing}
use Rattle.cmd_tasks.specs.Tally.{comes_by, listed, CameBy}
use Rattle.cmd_tasks.specs.declared.trace.Item.{Item}
use Rattle.cmd_tasks.specs.declared.trace.Item.TheVariants.{Looked, Wrote, Lost, Faulted}
use Rattle.cmd_tasks.proofs.Ascent.{each_append}
use Rattle.cmd_tasks.proofs.Covering.{and_parts, beyond, one_left, one_right, each_weaker, IsPast, rise_append, is_found, look_behind, look_rises}
use Rattle.cmd_tasks.proofs.Listing.{ids_total}
use Rattle.cmd_tasks.proofs.Stepping.{IsPaged, IsRelooked, IsWritten, IsBeaten, IsPutting, steps}
use Rattle.cmd_tasks.proofs.Accepted.{AreSteps}
use Rattle.cmd_tasks.proofs.Kept.{settled_from, settled_whole}
use Rattle.cmd_tasks.proofs.Tallying.{one_more}

-- ---- one page

found_are : (s : Sight) (xs : List Found) → map (λ z. z.x) (shown_with s xs) ≡ xs
found_are s [] = refl
found_are s (x ∷ xs) = ap (λ ys. x ∷ ys) (found_are s xs)

shown_one : (s : Sight) (x : Found) (xs : List Found) → IsOneOf x xs → IsOneOf (record { x = x; look = s }) (shown_with s xs)
shown_one s x [] h = cc
shown_one s x (y ∷ xs) (zero, e) = (zero, ap (λ o. elim o as (λ _. Option Shown) [ None ↦ None | Some z ↦ Some (record { x = z; look = s }) ]) e)
shown_one s x (y ∷ xs) (suc n, e) = let more = shown_one s x xs (n, e) in (suc more.0, more.1)

none_or_some : (o : Option Tree) → is_none o ≡ false → (u : Tree) × (o ≡ Some u)
none_or_some None e = cc
none_or_some (Some u) e = (u, refl)

both : (a b : Bool) → a ≡ true → b ≡ true → a && b ≡ true
both a b e q = ap (λ t. t && b) e ∙ q

module _ (base : State) (coll : Name) (f : FilterTree) (r : Rows) where
  -- a page comes by each id behind its start, or the id comes behind its end
  comes : (i : Item) (from : Option Tree) (id : Tree) → Looks base coll f r from i → is_after from id ≡ true → (comes_by id i ≡ true) ⊎ ((u : Tree) × (end_of i ≡ Some u) × (is_after (Some u) id ≡ true))
  comes (Looked at after up page) from id is h = go up
    where
      begun : is_after after id ≡ true
      begun = subst (λ o. is_after o id ≡ true) (sym is.0) h

      go : (up : Option Tree) → (is_after after id && up_to up id ≡ true) ⊎ ((u : Tree) × (up ≡ Some u) × (is_after (Some u) id ≡ true))
      go None = inl (both _ _ begun refl)
      go (Some u) = elim (up_to (Some u) id) as (λ t. up_to (Some u) id ≡ t → (is_after after id && up_to (Some u) id ≡ true) ⊎ ((w : Tree) × (Some u ≡ Some w) × (is_after (Some w) id ≡ true))) [
        | true ↦ λ q. inl (both _ _ begun q)
        | false ↦ λ q. inr (u, refl, beyond id u (id_cmp id u) (id_cmp u id) (ids_total.antisymm u id) q)
      ] refl
  comes (Wrote at) from id is h = absurd is
  comes (Lost at read old) from id is h = absurd is
  comes (Faulted at before count) from id is h = absurd is

  -- it shows what matches there
  shows_there : (i : Item) (id : Tree) (v : Version) → comes_by id i ≡ true → IsOneOf (id, v) r → matches f v.doc ≡ true → IsOneOf (found (id, v)) (seen_by base coll f r i)
  shows_there (Looked at after up page) id v h one m =
      let parts = and_parts _ _ h in
      is_found f after up (id, v) r (both _ _ parts.0 (both _ _ parts.1 m)) one
  shows_there (Wrote at) id v h one m = cc
  shows_there (Lost at read old) id v h one m = cc
  shows_there (Faulted at before count) id v h one m = cc

-- ---- all pages

module _ (base : State) (coll : Name) (k : ℕ) (f : FilterTree) (doing : Doing) where
  -- documents that need no write leave the listing where it is
  settle_listing : (st : Standing) → ((settle doing st).from ≡ st.from) × ((settle doing st).is_whole ≡ st.is_whole)
  settle_listing st = (settled_from doing st.queue st, settled_whole doing st.queue st)

  abbrev shows : List Sight → List Found
  shows sights = map (λ s. s.x) (listed base coll f sights)

  shows_more : (s : Sight) (earlier : List Sight) → shows (s ∷ earlier) ≡ shows earlier ++ shown_by base coll f s
  shows_more s earlier = map-append (λ (z : Shown). z.x) (listed base coll f earlier) (shown_with s (shown_by base coll f s)) ∙ ap (λ xs. shows earlier ++ xs) (found_are s (shown_by base coll f s))

  listed_more : (s : Sight) (earlier : List Sight) (id : Tree) → CameBy base coll f earlier id → CameBy base coll f (s ∷ earlier) id
  listed_more s earlier id h =
      (h.0, one_more h.0 s earlier h.1, h.2, λ v m. one_left _ (listed base coll f earlier) (shown_with s (shown_by base coll f s)) (h.3 v m))

  module _ (from : Option Tree) where
    pub record IsReached (sights : List Sight) (st : Standing) : Type 0 where
      pub rise : Rise (shows sights)
      pub behind : st.is_whole ≡ false → (y : Tree) → is_after st.from y ≡ true → (is_after from y ≡ true) × IsPast y (shows sights)
      pub reach : (id : Tree) → is_after from id ≡ true → CameBy base coll f sights id ⊎ ((st.is_whole ≡ false) × (is_after st.from id ≡ true))

    -- a sight that is no page
    pub still : (s : Sight) (earlier : List Sight) (st new : Standing) → ◌≡◌ {A = List Found} (shown_by base coll f s) [] → new.from ≡ st.from → new.is_whole ≡ st.is_whole → IsReached earlier st → IsReached (s ∷ earlier) new
    still s earlier st new none from_is whole_is r =
        let same : shows (s ∷ earlier) ≡ shows earlier = shows_more s earlier ∙ (ap (λ xs. shows earlier ++ xs) none ∙ append-nil (shows earlier)) in
        record {
          rise = subst Rise (sym same) r.rise;
          behind = λ un y h. let b = r.behind (sym whole_is ∙ un) y (subst (λ o. is_after o y ≡ true) from_is h) in (b.0, subst (IsPast y) (sym same) b.1);
          reach = λ id h. ⊎_elim
              (λ (z : CameBy base coll f earlier id). inl (listed_more s earlier id z))
              (λ (z : (st.is_whole ≡ false) × (is_after st.from id ≡ true)). inr (whole_is ∙ z.0, subst (λ o. is_after o id ≡ true) (sym from_is) z.1))
              (r.reach id h);
        }

    paged : (s : Sight) (earlier : List Sight) (st new : Standing) → ascends (rows_now base coll s) ≡ true → IsPaged base coll k f doing s st new → IsReached earlier st → IsReached (s ∷ earlier) new
    paged s earlier st new sorted p r =
        record {
          rise = subst Rise (sym (shows_more s earlier))
              (rise_append (shows earlier) shown (r.rise) rises.1 (each_weaker _ _ (λ x h. (r.behind p.unended x.id h).1) shown rises.0));
          behind = λ un y h.
              let u = none_or_some (end_of s.item) (sym whole_is ∙ un) in
              let full : FullPage base coll f rows s.item = subst (λ o. IfSome o (λ (_ : Tree). FullPage base coll f rows s.item)) u.1 p.page.1 in
              let back = look_behind base coll f rows s.item st.from y p.page.0.1 full (subst (λ o. is_after o y ≡ true) from_is h) in
              let more = r.behind p.unended y back.0 in
              (more.0, subst (IsPast y) (sym (shows_more s earlier)) (each_append _ (shows earlier) shown more.1 back.1));
          reach = λ id h. ⊎_elim
              (λ (z : CameBy base coll f earlier id). inl (listed_more s earlier id z))
              (λ (z : (st.is_whole ≡ false) × (is_after st.from id ≡ true)). ⊎_elim
              (λ (c : comes_by id s.item ≡ true). inl (s, (zero, refl), c, λ v m. one_right _ (listed base coll f earlier) (shown_with s shown) (shown_one s (found (id, v)) shown (shows_there base coll f rows s.item id v c m.0 m.1))))
              (λ (far : (u : Tree) × (end_of s.item ≡ Some u) × (is_after (Some u) id ≡ true)). inr (whole_is ∙ ap is_none far.1, subst (λ o. is_after o id ≡ true) (sym (from_is ∙ far.1)) far.2))
              (comes base coll f rows s.item st.from id p.page.0.1 z.1))
              (r.reach id h);
        }
      where
        rows : Rows
        rows = rows_now base coll s

        shown : List Found
        shown = shown_by base coll f s

        from_is : new.from ≡ end_of s.item
        from_is = ap (λ z. z.from) p.new_is ∙ (settle_listing (list_on base coll f s st)).0

        whole_is : new.is_whole ≡ is_none (end_of s.item)
        whole_is = ap (λ z. z.is_whole) p.new_is ∙ (settle_listing (list_on base coll f s st)).1

        rises : Each (λ x. is_after st.from x.id ≡ true) shown × Rise shown
        rises = look_rises base coll f rows s.item st.from sorted p.page.0.1

    relooked : (s : Sight) (earlier : List Sight) (st new : Standing) → IsRelooked base coll k f doing s st new → IsReached earlier st → IsReached (s ∷ earlier) new
    relooked s earlier st new p r =
        let next : Standing = replace base coll f s (shown_alone base coll f p.first.x.id s) p.rest st in
        let there = listing (shown_alone base coll f p.first.x.id s) in
        still s earlier st new p.lists (ap (λ z. z.from) p.new_is ∙ ((settle_listing next).0 ∙ there.0)) (ap (λ z. z.is_whole) p.new_is ∙ ((settle_listing next).1 ∙ there.1)) r
      where
        listing : (xs : List Found) → ((replace base coll f s xs p.rest st).from ≡ st.from) × ((replace base coll f s xs p.rest st).is_whole ≡ st.is_whole)
        listing [] = (refl, refl)
        listing (x ∷ xs) = (refl, refl)

    written : (s : Sight) (earlier : List Sight) (st new : Standing) → IsWritten base coll k f doing s st new → IsReached earlier st → IsReached (s ∷ earlier) new
    written s earlier st new p r =
        let next : Standing = win (p.first ∷ p.rest) st in
        still s earlier st new p.lists (ap (λ z. z.from) p.new_is ∙ (settle_listing next).0) (ap (λ z. z.is_whole) p.new_is ∙ (settle_listing next).1) r

    -- how far the pages have come
    pub reached : (up : Option (Result Tree UpdateFault)) (sights : List Sight) → Each (λ s. ascends (rows_now base coll s) ≡ true) sights → AreSteps base coll k f doing up from sights → IsReached sights (standing base coll f doing from sights)
    reached up [] sorted h = record { rise = tt; behind = λ un y a. (a, tt); reach = λ id a. inr (refl, a) }
    reached up (s ∷ earlier) sorted h =
        let st = standing base coll f doing from earlier in
        let new = standing base coll f doing from (s ∷ earlier) in
        let r = reached up earlier sorted.1 h.0 in
        ⊎_elim
        (λ p. paged s earlier st new sorted.0 p r)
        (λ more. ⊎_elim
        (λ p. relooked s earlier st new p r)
        (λ more. ⊎_elim
        (λ p. written s earlier st new p r)
        (λ more. ⊎_elim
        (λ (p : IsBeaten base coll k f doing s st new). still s earlier st new p.lists (ap (λ z. z.from) p.new_is) (ap (λ z. z.is_whole) p.new_is) r)
        (λ (p : IsPutting base coll k f doing up s st new). still s earlier st new p.lists (ap (λ z. z.from) p.new_is) (ap (λ z. z.is_whole) p.new_is) r)
        more)
        more)
        more)
        (steps base coll k f doing up s st h.1)
