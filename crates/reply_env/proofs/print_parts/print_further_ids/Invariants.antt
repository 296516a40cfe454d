use Rattle.std.proofs.Common.{◌≡◌, ◌++◌, ◌∷◌, take}
use Rattle.std.specs.List.{flat_map}
use Rattle.json_text.specs.Print.{text_of}
use Rattle.reply_env.proofs.print_parts.print_further_ids.Given as goal

abbrev pub invariant-loop-id : goal.invariant-loop-id
invariant-loop-id l = l.out.items ≡ l.fn.out.items ++ flat_map (λ id. 44 ∷ text_of id) (take l.id-index l.ids)
