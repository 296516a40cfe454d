use Rattle.std.proofs.Common.{arith}
use Rattle.json_tree.proofs.Docs.{element_has, element_lacks, member_has, member_lacks}
use Rattle.json_tree.proofs.value.+dollar.Goals as goal

pub Items::have_dollar_name-returns-then-has_dollar_name : goal.Items::have_dollar_name-returns-then-has_dollar_name
Items::have_dollar_name-returns-then-has_dollar_name t c =
    element_has c.self.inside.items.items c.loop-i.i c.index.result.now c.args.self.now (omega arith) c.index.ensures c.if-has_dollar_name.ensures c.loop-i.invariant c.self.view_is

pub Items::have_dollar_name-loop-i-preserved : goal.Items::have_dollar_name-loop-i-preserved
Items::have_dollar_name-loop-i-preserved t c =
    element_lacks c.self.inside.items.items c.loop-i.i c.index.result.now (omega arith) c.index.ensures c.if-has_dollar_name.ensures c.loop-i.invariant

pub Members::have_dollar_name-returns-then-pair_has_dollar_name : goal.Members::have_dollar_name-returns-then-pair_has_dollar_name
Members::have_dollar_name-returns-then-pair_has_dollar_name t c =
    member_has c.self.inside.pairs.items c.loop-i.i c.index.result.now c.args.self.now (omega arith) c.index.ensures c.if-pair_has_dollar_name.ensures c.loop-i.invariant c.self.view_is

pub Members::have_dollar_name-loop-i-preserved : goal.Members::have_dollar_name-loop-i-preserved
Members::have_dollar_name-loop-i-preserved t c =
    member_lacks c.self.inside.pairs.items c.loop-i.i c.index.result.now (omega arith) c.index.ensures c.if-pair_has_dollar_name.ensures c.loop-i.invariant
