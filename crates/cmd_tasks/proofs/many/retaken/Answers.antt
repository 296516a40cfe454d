use Rattle.std.proofs.Common.{Option, Some, refl, ap, ◌∙◌, subst, inl}
use Rattle.shred_cols.specs.Row.{Version}
use Rattle.cmd_tasks.specs.ManySteps.{pairs_of, HasFirst}
use Rattle.cmd_tasks.specs.declared.trace.Item.TheVariants.{Looked}
use Rattle.cmd_tasks.proofs.many.retaken.Goals as goal

pub returns : goal.returns
returns c = inl (record {
  item = Looked c.args.at (Some c.args.ends.after) (Some c.args.ends.up_to) c.in-Ok.shown;
  looks = (refl, refl, refl, c.in-Ok.ensures ∙ ap pairs_of c.matching-row.ensures);
  new = c.in-Ok-put_first.stand;
  has = subst (λ (r : Option Version). HasFirst c.args.stand r c.in-Ok-put_first.stand) c.matching-row.ensures c.in-Ok-put_first.ensures;
  ready = c.go_on.ensures.ready;
  goes = c.go_on.ensures.told;
})
