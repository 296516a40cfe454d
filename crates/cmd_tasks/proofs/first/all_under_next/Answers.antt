use Rattle.std.proofs.Common.{subst, ◌≤◌, ℕ}
use Rattle.json_tree.specs.Tree.{null}
use Rattle.json_tree.specs.View.{tree}
use Rattle.cmd_tasks.specs.Ids.{stream_of_ids}
use Rattle.cmd_tasks.proofs.Drawing.{none_ready, one_ready, all_ready, next_insertable}
use Rattle.cmd_tasks.proofs.first.all_under_next.Goals as goal

pub loop-i-init : goal.loop-i-init
loop-i-init c = none_ready c.args.documents (stream_of_ids c.args.ids.now) c.new.result c.new.ensures.items

pub loop-i-preserved : goal.loop-i-preserved
loop-i-preserved c =
    one_ready c.args.documents (stream_of_ids c.args.ids.now) c.loop-i.i c.loop-i.documents c.swap_in-document.new.self (stream_of_ids c.loop-i.ids) (stream_of_ids c.under_next-next.new.ids) c.loop-i.all c.added-all.result
    (tree c.swap_in-document.result) null c.under_next-next.result c.swap_in-document.ensures.old c.swap_in-document.ensures.new c.under_next-next.ensures.after c.under_next-next.ensures.told c.added-all.ensures c.loop-i.invariant

pub under_next-next-requires : goal.under_next-next-requires
under_next-next-requires c = next_insertable c.args.documents (stream_of_ids c.args.ids.now) c.loop-i.i c.loop-i.documents (stream_of_ids c.loop-i.ids) c.loop-i.all (tree c.swap_in-document.result) c.requires c.swap_in-document.ensures.old c.loop-i.invariant

pub returns-clause-told : goal.returns-clause-told
returns-clause-told c = (all_ready c.args.documents (stream_of_ids c.args.ids.now) c.loop-i.i c.loop-i.documents (stream_of_ids c.loop-i.ids) c.loop-i.all (subst (λ (n : ℕ). n ≤ c.loop-i.i) c.len-i-end.ensures c.loop-i-test.false) c.loop-i.invariant).1

pub returns-clause-after : goal.returns-clause-after
returns-clause-after c = (all_ready c.args.documents (stream_of_ids c.args.ids.now) c.loop-i.i c.loop-i.documents (stream_of_ids c.loop-i.ids) c.loop-i.all (subst (λ (n : ℕ). n ≤ c.loop-i.i) c.len-i-end.ensures c.loop-i-test.false) c.loop-i.invariant).0
