use Rattle.std.proofs.Common.{ap, ◌∙◌, sym, subst}
use Rattle.json_tree.specs.Members.{all_distinct}
use Rattle.json_tree.specs.RoundTrips.{list_of_members-members_of}
use Rattle.json_tree.specs.View.{tree}
use Rattle.json_tree.specs.Writable.{IsValue}
use Rattle.json_tree.proofs.value.Value.by_type.Goals as goal

pub returns-in-Object : goal.returns-in-Object
returns-in-Object c =
    subst (λ v. IsValue (tree v)) (sym c.in-Object.is) (ap all_distinct (list_of_members-members_of c.in-Object.members) ∙ c.by_type-in-Object.ensures.distinct, c.by_type-in-Object.ensures.values)
