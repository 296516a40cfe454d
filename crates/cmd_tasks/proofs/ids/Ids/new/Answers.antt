use Rattle.std.proofs.Common.{◌++◌, ap, ap₂, ◌∙◌, length, refl}
use Rattle.cmd_tasks.specs.Ids.{given_by}
use Rattle.cmd_tasks.proofs.Keys.{joined, begins_so}
use Rattle.cmd_tasks.proofs.ids.Ids.new.Goals as goal

pub returns : goal.returns
returns c =
    let low = c.copy_from_slice-2.ensures.after ∙ c.to_be_bytes-low.ensures in
    ap given_by (begins_so c.args.seed.now _ _ c.args.base_tx c.from_seed-rng.result _ c.set_stream.ensures c.from_seed-rng.ensures
    (joined _ _ _ (c.copy_from_slice.ensures.len) refl (ap length low) ∙ ap₂ (λ a b. a ++ b) c.copy_from_slice.ensures.after low))
