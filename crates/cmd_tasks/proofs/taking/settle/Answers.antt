use Rattle.std.proofs.Common.{rules, ◌≡◌, []}
use Rattle.cmd_tasks.specs.Many.{doing_of}
use Rattle.cmd_tasks.proofs.Settling.{first_short, takes, takes_ready, refuses, settling_counts, ends_empty, ends_full}
use Rattle.cmd_tasks.proofs.taking.settle.Goals as goal

pub returns-in_default-clause-told : goal.returns-in_default-clause-told
returns-in_default-clause-told c =
    let none : c.rows.stand.queue.items ≡ [] = search rules in
    let still : c.pop.new.self.items ≡ [] = search rules in
    ends_empty (doing_of c.args.doing.now) c.args.begun c.rows.stand c.rows.invariant c.pop.new.self none still

pub meet-requires : goal.meet-requires
meet-requires c = first_short c.rows.stand c.pop.new.self c.in-Some.row c.rows.invariant.ready c.in-Some.ensures.items

pub returns-in-Changed-clause-told : goal.returns-in-Changed-clause-told
returns-in-Changed-clause-told c = λ st stands first.
    takes (doing_of c.args.doing.now) c.args.begun c.rows.stand c.rows.invariant c.pop.new.self c.in-Some.row c.in-Some.ensures.items st stands first c.in-Changed.attempt c.rows-test.true c.in-Changed.ensures

pub returns-in-Changed-clause-ready : goal.returns-in-Changed-clause-ready
returns-in-Changed-clause-ready c = takes_ready (doing_of c.args.doing.now) c.args.begun c.rows.stand c.rows.invariant c.pop.new.self c.in-Some.row c.in-Some.ensures.items c.in-Changed.attempt c.rows-test.true c.in-Changed.ensures

pub returns-in-Refused-clause-told : goal.returns-in-Refused-clause-told
returns-in-Refused-clause-told c = λ st stands first.
    refuses (doing_of c.args.doing.now) c.args.begun c.rows.stand c.rows.invariant c.pop.new.self c.in-Some.row c.in-Some.ensures.items st stands first c.in-Refused.fault c.rows-test.true c.in-Refused.ensures

pub rows-preserved : goal.rows-preserved
rows-preserved c = settling_counts (doing_of c.args.doing.now) c.args.begun c.rows.stand c.rows.invariant c.pop.new.self c.in-Some.row c.in-Some.ensures.items c.in-Unchanged.id c.counted-stand.result c.rows-test.true c.in-Unchanged.ensures c.counted-stand.ensures

pub returns-clause-told : goal.returns-clause-told
returns-clause-told c = ends_full (doing_of c.args.doing.now) c.args.begun c.rows.stand c.rows.invariant c.rows-test.false
