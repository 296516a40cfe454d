use Rattle.std.proofs.Common.{◌≡◌, ◌∷◌, take, codes}
use Rattle.cmd_grammar.specs.Commands.{stand_in}
use Rattle.cmd_grammar.proofs.stand_in.under_stand_in.Given as goal

abbrev pub invariant-loop-i : goal.invariant-loop-i
invariant-loop-i l = l.object ≡ (codes "_id", stand_in) ∷ take l.i l.members
