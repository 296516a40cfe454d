-- How many writes of a command that takes many documents were accepted: as many as it counts as changed, and one of an insertion.
use Rattle.std.proofs.Common.{◌≡◌, ℕ, ◌+◌, List, [], ◌∷◌, Option, refl, ap, ◌∙◌, arith, ⊎_elim, Result}
use Rattle.std.specs.Prelude.{⊤}
use Rattle.std.specs.Option.{option_map}
use Rattle.json_tree.specs.Tree.{Tree}
use Rattle.col_keeper.specs.Tables.{Name}
use Rattle.filter_tree.specs.Filters.{FilterTree}
use Rattle.update_ops.specs.declared.fault.UpdateFault.{UpdateFault}
use Rattle.view_sort.specs.declared.page.PageState.{PageState}
use Rattle.store_core.specs.State.{State as Base}
use Rattle.cmd_tasks.specs.Trace.{Sight, Found}
use Rattle.cmd_tasks.specs.Doing.{Doing}
use Rattle.cmd_tasks.specs.Jobs.{changes_many}
use Rattle.cmd_tasks.specs.Taking.{Shown, Standing, Put, not_put, win, shown_alone, list_on, replace, standing, turn}
use Rattle.cmd_tasks.specs.Turns.{Follows, upsert_for}
use Rattle.cmd_tasks.specs.Served.{IsPartOf, accepted, many_standing}
use Rattle.cmd_tasks.proofs.Kept.{settled_modified}
use Rattle.cmd_tasks.proofs.Stepping.{put_writes, IsPaged, IsRelooked, IsWritten, IsBeaten, IsPutting, steps}

module _ (base : Base) (coll : Name) (k : ℕ) (f : FilterTree) (doing : Doing) where
  replaced_modified : (s : Sight) (xs : List Found) (rest : List Shown) (st : Standing) → (replace base coll f s xs rest st).modified ≡ st.modified
  replaced_modified s [] rest st = refl
  replaced_modified s (x ∷ xs) rest st = refl

  module _ (up : Option (Result Tree UpdateFault)) (from : Option Tree) where
    abbrev at : List Sight → Standing
    at sights = standing base coll f doing from sights

    -- the sights so far follow one another
    abbrev pub AreSteps : List Sight → Type 0
    AreSteps [] = ⊤
    AreSteps (s ∷ earlier) = AreSteps earlier × Follows base coll k f (turn up doing (at earlier)) s

    abbrev Accepts : List Sight → Type 0
    Accepts sights = accepted sights ≡ (at sights).modified + put_writes (at sights).put

    pub steps_accept : (sights : List Sight) → AreSteps sights → Accepts sights
    steps_accept [] h = refl
    steps_accept (s ∷ earlier) h =
        let st : Standing = at earlier in
        let new : Standing = at (s ∷ earlier) in
        let r = steps_accept earlier h.0 in
        ⊎_elim
        (λ (p : IsPaged base coll k f doing s st new).
        let next : Standing = list_on base coll f s st in
        let m = ap (λ (z : Standing). z.modified) p.new_is ∙ settled_modified doing next.queue next in
        let q = ap put_writes p.put_is in
        let w = p.wrote in omega (arith, r, m, q, w))
        (λ more. ⊎_elim
        (λ (p : IsRelooked base coll k f doing s st new).
        let next : Standing = replace base coll f s (shown_alone base coll f p.first.x.id s) p.rest st in
        let m = ap (λ (z : Standing). z.modified) p.new_is ∙ (settled_modified doing next.queue next ∙ replaced_modified s (shown_alone base coll f p.first.x.id s) p.rest st) in
        let q = ap put_writes p.put_is in
        let w = p.wrote in omega (arith, r, m, q, w))
        (λ more. ⊎_elim
        (λ (p : IsWritten base coll k f doing s st new).
        let m = ap (λ (z : Standing). z.modified) p.new_is ∙ settled_modified doing p.rest (win (p.first ∷ p.rest) st) in
        let q = ap put_writes p.put_is in
        let w = p.wrote in omega (arith, r, m, q, w))
        (λ more. ⊎_elim
        (λ (p : IsBeaten base coll k f doing s st new).
        let m = ap (λ (z : Standing). z.modified) p.new_is in
        let q = ap put_writes p.put_is in
        let w = p.wrote in omega (arith, r, m, q, w))
        (λ (p : IsPutting base coll k f doing up s st new).
        let m = ap (λ (z : Standing). z.modified) p.new_is in
        let q = ap (λ (z : Standing). put_writes z.put) p.new_is in
        let none = ap put_writes p.to_put.unput in
        let w = p.wrote in omega (arith, r, m, q, none, w))
        more)
        more)
        more)
        (steps base coll k f doing up s st h.1)

  module _ (page : Option PageState) where
    pub part_steps : (sights : List Sight) → IsPartOf base coll k (changes_many f doing page) sights → AreSteps (upsert_for f doing page) (option_map (λ p. p.last) page) sights
    part_steps [] h = tt
    part_steps (s ∷ earlier) h = (part_steps earlier h.0, h.2)

    pub many_accepts : (sights : List Sight) → IsPartOf base coll k (changes_many f doing page) sights
        → accepted sights ≡ (many_standing base coll k f doing page sights).modified + put_writes (many_standing base coll k f doing page sights).put
    many_accepts sights h = steps_accept (upsert_for f doing page) (option_map (λ p. p.last) page) sights (part_steps sights h)

    -- as long as nothing was inserted
    pub unput_accepts : (sights : List Sight) → IsPartOf base coll k (changes_many f doing page) sights → (many_standing base coll k f doing page sights).put ≡ not_put
        → accepted sights ≡ (many_standing base coll k f doing page sights).modified
    unput_accepts sights h unput = let a = many_accepts sights h in let b = ap put_writes unput in omega (arith, a, b)
