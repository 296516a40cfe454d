use Rattle.std.proofs.Common.{◌≡◌, ◌∙◌, ◌+◌, ◌≤◌, ℕ, List, length, refl, sym, ap, arith}
use Rattle.std.proofs.lemmas.List.{length-map}
use Rattle.col_keeper.specs.Tables.{Name}
use Rattle.store_core.specs.Opening.{with_names, opened_with}
use Rattle.store_core.proofs.Histories.{map_told}
use Rattle.store_core.proofs.Openings.{same_missed, so_many}
use Rattle.store_core.proofs.open.prepare_listed.Goals as goal

pub returns-in-Made-clause-prepares : goal.returns-in-Made-clause-prepares
returns-in-Made-clause-prepares g c = (
  c.in-Made.ensures.made refl ∙ map_told _ (with_names c.as_slice.result.now) (opened_with c.args.names.now) (λ t e. ap (λ (f : List Name). with_names f t) (c.as_slice.ensures.value ∙ same_missed c.args.names.now c.args.listed.now _ t c.in-Ok.ensures (c.requires.listed t e).0)),
  omega arith,
  (let b = c.requires.bound in omega arith),
  λ t e. (ap (λ (n : ℕ). n + 1) (c.requires.listed t e).1, let m = so_many c.args.names.now c.args.listed.now _ t c.in-Ok.ensures (c.requires.listed t e).0 in omega arith),
)

pub returns-in-Full-clause-prepares : goal.returns-in-Full-clause-prepares
returns-in-Full-clause-prepares g c = λ t e.
    let f = c.in-Full.ensures.full refl t e in
    let l = ap length c.as_slice.ensures.value in
    let n = ap length (c.requires.listed t e).0 in
    let m = so_many c.args.names.now c.args.listed.now _ t c.in-Ok.ensures (c.requires.listed t e).0 in
    let k = length-map t.collections (λ c. c.name) in
    absurd (omega arith)
