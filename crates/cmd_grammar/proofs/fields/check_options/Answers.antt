use Rattle.std.proofs.Common.{map, ap, subst}
use Rattle.std.specs.Bool.{⊤}
use Rattle.std.specs.Option.{option_map}
use Rattle.json_tree.specs.View.{tree}
use Rattle.cmd_grammar.specs.Rows.{field_of}
use Rattle.cmd_grammar.specs.Answers.{Passes}
use Rattle.cmd_grammar.proofs.Inside.{options_are}
use Rattle.cmd_grammar.proofs.fields.check_options.Goals as goal

pub returns-in-Some-Object : goal.returns-in-Some-Object
returns-in-Some-Object c =
    subst (λ r. Passes r (λ _. ⊤) c.check_each_option.result)
    (options_are _ _ (map field_of c.in-Some-Object.fields.now) c.in-Some-Object.options (ap (option_map (λ o. map field_of o.now)) c.in-Some-Object.is-0) (ap tree c.in-Some-Object.is-1))
    c.check_each_option.ensures
