use Rattle.std.proofs.Common.{◌≡◌, ◌++◌, take, codes}
use Rattle.std.specs.Prelude.{string_bytes}
use Rattle.std.specs.List.{flat_map}
use Rattle.reply_env.specs.Messages.{loss_text}
use Rattle.reply_env.proofs.update_errors.add_further.Given as goal

abbrev pub invariant-loop-loss : goal.invariant-loop-loss
invariant-loop-loss l = string_bytes l.message ≡ string_bytes l.fn.message ++ flat_map (λ x. codes ", " ++ loss_text x) (take l.loss-index l.losses)
