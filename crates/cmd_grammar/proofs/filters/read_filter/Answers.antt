use Rattle.std.proofs.Common.{◌≡◌, ap, sym, refl}
use Rattle.json_tree.specs.Tree.{object, members_of}
use Rattle.json_tree.specs.View.{tree}
use Rattle.filter_tree.specs.Faults.{first_fault}
use Rattle.filter_tree.specs.Reads.{filter_in}
use Rattle.filter_tree.specs.View.{filter_tree}
use Rattle.cmd_grammar.specs.Refused.{filter_error}
use Rattle.cmd_grammar.proofs.Part.{absent, present, empty_writable}
use Rattle.cmd_grammar.proofs.Inside.{member_writable}
use Rattle.cmd_grammar.proofs.filters.read_filter.Goals as goal

pub returns-in-Some-clause-answers : goal.returns-in-Some-clause-answers
returns-in-Some-clause-answers c = present filter_error first_fault (λ t f. filter_tree f ≡ filter_in t) _ (tree c.in-Some.value.now) c.read_value.result c.in-Some.ensures c.read_value.ensures.answers

pub returns-in-Some-clause-ready : goal.returns-in-Some-clause-ready
returns-in-Some-clause-ready c = λ w. c.read_value.ensures.ready (member_writable _ (tree c.args.command.now) (tree c.in-Some.value.now) w (sym c.in-Some.ensures))

pub returns-in-None-clause-answers : goal.returns-in-None-clause-answers
returns-in-None-clause-answers c =
    absent filter_error first_fault (λ t f. filter_tree f ≡ filter_in t) _ _ c.read_value-in-None.result refl c.in-None.ensures (ap (λ ms. object (members_of ms)) c.new.ensures) c.read_value-in-None.ensures.answers

pub returns-in-None-clause-ready : goal.returns-in-None-clause-ready
returns-in-None-clause-ready c = λ w. c.read_value-in-None.ensures.ready (empty_writable _ (ap (λ ms. object (members_of ms)) c.new.ensures))
