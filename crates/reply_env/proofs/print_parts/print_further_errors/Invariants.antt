use Rattle.std.proofs.Common.{◌≡◌, ◌++◌, ◌∷◌, take}
use Rattle.std.specs.List.{flat_map}
use Rattle.reply_env.specs.Reply.{error_text}
use Rattle.reply_env.proofs.print_parts.print_further_errors.Given as goal

abbrev pub invariant-loop-error : goal.invariant-loop-error
invariant-loop-error l = l.out.items ≡ l.fn.out.items ++ flat_map (λ error. 44 ∷ error_text error) (take l.error-index l.errors)
