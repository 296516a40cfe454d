use Rattle.std.proofs.Common.{◌≡◌, ◌++◌, ◌∷◌, take}
use Rattle.std.specs.List.{flat_map}
use Rattle.json_text.specs.Print.{string_text}
use Rattle.reply_env.proofs.print_parts.print_further_names.Given as goal

abbrev pub invariant-loop-name : goal.invariant-loop-name
invariant-loop-name l = l.out.items ≡ l.fn.out.items ++ flat_map (λ name. 44 ∷ string_text name) (take l.name-index l.names)
