use Rattle.std.proofs.Common.{ap, sym, ◌∙◌}
use Rattle.std.specs.Option.{option_map}
use Rattle.json_tree.specs.View.{tree}
use Rattle.cmd_grammar.proofs.Inside.{sort_length}
use Rattle.cmd_grammar.proofs.paging.sort_len.Goals as goal

pub returns-in-Some-Object : goal.returns-in-Some-Object
returns-in-Some-Object c =
    c.len.ensures.value
    ∙ sort_length (tree c.args.command.now) (tree c.in-Some-Object.field-0.now) c.in-Some-Object.paths (ap (option_map (λ v. tree v.now)) (sym c.in-Some-Object.is) ∙ c.member.ensures) (ap tree c.in-Some-Object.field-0-is)
