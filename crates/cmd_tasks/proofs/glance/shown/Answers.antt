use Rattle.std.proofs.Common.{refl, ap, ◌∙◌, map}
use Rattle.cmd_tasks.specs.Pages.{pair_of, up_of}
use Rattle.cmd_tasks.proofs.glance.shown.Goals as goal

pub matching-rows-requires : goal.matching-rows-requires
matching-rows-requires c = c.requires

pub returns-in-Ok-pairs : goal.returns-in-Ok-pairs
returns-in-Ok-pairs c = (
  c.matching-rows.ensures,
  c.in-Ok-last_id.ensures ∙ ap (up_of c.args.end) c.deref-2.ensures.value,
  (refl, refl, c.in-Ok.ensures ∙ ap (up_of c.args.end) c.deref.ensures.value, c.in-Ok-pairs.ensures ∙ ap (map pair_of) (c.deref-3.ensures.value ∙ c.matching-rows.ensures)),
)
