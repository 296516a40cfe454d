use Rattle.std.proofs.Common.{sym, subst, ◌∙◌}
use Rattle.json_tree.specs.Tree.{Tree}
use Rattle.cmd_tasks.specs.Rank.{IsKeyed}
use Rattle.cmd_tasks.proofs.Lasts.{last_is}
use Rattle.cmd_tasks.proofs.Ranks.{page_rises, none_rises}
use Rattle.cmd_tasks.proofs.glance.rises.Goals as goal

pub returns-in-Some : goal.returns-in-Some
returns-in-Some c = page_rises c.args.after.now c.args.page.now c.args.end c.in-Some.row.now c.are_keyed.ensures (subst (λ (i : Tree). IsKeyed i) c.id.ensures.value c.is_keyed.ensures)
    (sym (last_is c.args.page.now) ∙ sym c.in-Some.ensures.value) c.requires c.key_bytes_are_ordered.ensures.order

pub returns-in-None : goal.returns-in-None
returns-in-None c = none_rises c.args.after.now c.args.page.now c.args.end (sym (last_is c.args.page.now) ∙ sym c.in-None.ensures.value)
