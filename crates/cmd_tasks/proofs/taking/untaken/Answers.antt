use Rattle.std.proofs.Common.{rules, ◌≡◌, ◌<◌, length, sym, ◌∙◌}
use Rattle.cmd_tasks.proofs.Goings.{more_ends, empty_waiting, emptied, lists_on}
use Rattle.cmd_tasks.proofs.taking.untaken.Goals as goal

pub returns-then-not-is_empty-clause-told : goal.returns-then-not-is_empty-clause-told
returns-then-not-is_empty-clause-told c =
    let some : 0 < length c.args.stand.queue.items = search rules in
    more_ends c.args.many c.args.item c.args.stand c.done-reply.result some c.done-reply.ensures

pub returns-then-stand-clause-told : goal.returns-then-stand-clause-told
returns-then-stand-clause-told c = λ st h.
    let none : length c.args.stand.queue.items ≡ 0 = search rules in
    let empty = empty_waiting c.args.stand st none h.0 in
    c.ended.ensures.told st (emptied c.args.stand st empty h.0) empty h.1 (sym h.0.is_whole ∙ c.if-stand.true)

pub returns-clause-told : goal.returns-clause-told
returns-clause-told c =
    let none : length c.args.stand.queue.items ≡ 0 = search rules in
    lists_on c.args.many c.args.item c.args.stand none c.if-stand.false

pub returns-then-stand-clause-ready : goal.returns-then-stand-clause-ready
returns-then-stand-clause-ready c = c.ended.ensures.ready c.args.stand
