use Rattle.std.proofs.Common.{ap, sym, ◌∙◌}
use Rattle.std.specs.Option.{option_map}
use Rattle.json_tree.specs.View.{tree}
use Rattle.cmd_grammar.proofs.Inside.{documents_length}
use Rattle.cmd_grammar.proofs.paging.documents_len.Goals as goal

pub returns-in-Some-List : goal.returns-in-Some-List
returns-in-Some-List c =
    c.len.ensures
    ∙ documents_length (tree c.args.command.now) (tree c.in-Some-List.field-0.now) c.in-Some-List.documents (ap (option_map (λ v. tree v.now)) (sym c.in-Some-List.is) ∙ c.member.ensures) (ap tree c.in-Some-List.field-0-is)
