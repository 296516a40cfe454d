use Rattle.std.proofs.Common.{◌≡◌, ◌++◌, ◌∷◌, take}
use Rattle.std.specs.List.{flat_map}
use Rattle.json_tree.specs.View.{tree}
use Rattle.json_text.specs.Print.{text_of}
use Rattle.reply_env.proofs.print_parts.print_further_views.Given as goal

abbrev pub invariant-loop-view : goal.invariant-loop-view
invariant-loop-view l = l.out.items ≡ l.fn.out.items ++ flat_map (λ view. 44 ∷ text_of (tree view)) (take l.view-index l.views)
