use Rattle.std.proofs.Common.{◌≡◌, ap, refl}
use Rattle.json_tree.specs.Tree.{object, members_of}
use Rattle.json_tree.specs.View.{tree}
use Rattle.view_sort.specs.Projection.{projection_fault, projection_in}
use Rattle.cmd_grammar.specs.Refused.{view_error}
use Rattle.cmd_grammar.proofs.Part.{absent, present}
use Rattle.cmd_grammar.proofs.views.read_projection.Goals as goal

pub returns-in-Some : goal.returns-in-Some
returns-in-Some c = present view_error projection_fault (λ t x. x ≡ projection_in t) _ (tree c.in-Some.value.now) c.projection_in.result c.in-Some.ensures c.projection_in.ensures

pub returns-in-None : goal.returns-in-None
returns-in-None c = absent view_error projection_fault (λ t x. x ≡ projection_in t) _ _ c.projection_in-in-None.result refl c.in-None.ensures (ap (λ ms. object (members_of ms)) c.new.ensures) c.projection_in-in-None.ensures
