use Rattle.std.proofs.Common.{arith}
use Rattle.std.proofs.lemmas.Grind.{common_steps}
use Rattle.outside_io.proofs.Pieces.{given_front, given_so_far}
use Rattle.outside_io.proofs.mem_source.give.Goals as goal

pub returns-clause-given : goal.returns-clause-given
returns-clause-given c =
    given_front c.args.bytes.now c.args.into.now _ c.args.at c.args.count c.requires.there (grind (arith, common_steps))

pub returns-clause-gave : goal.returns-clause-gave
returns-clause-gave c =
    given_so_far c.args.bytes.now c.args.into.now _ c.args.at c.args.count c.requires.there (grind (arith, common_steps))
