use Rattle.json_tree.specs.Writables.{writable, writable_value, holds_no_date_object, no_date_object}
use Rattle.json_tree.proofs.laws.values_are_writable.Goals as goal

pub returns-clause-exact : goal.returns-clause-exact
returns-clause-exact c = λ t. (λ w. (writable_value t w, holds_no_date_object t w), λ p. writable t p.0 p.1)

pub returns-clause-names : goal.returns-clause-names
returns-clause-names c = λ t v h. writable t v (no_date_object t h)
