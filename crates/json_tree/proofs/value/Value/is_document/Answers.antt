use Rattle.json_tree.specs.View.{tree}
use Rattle.json_tree.proofs.Docs.{tested, wrong_id, no_id, faultless, faulty}
use Rattle.json_tree.proofs.value.Value.is_document.Goals as goal

pub returns-then-is_none : goal.returns-then-is_none
returns-then-is_none c =
    let i = tree c.in-Some.id.now in
    tested c.args.self.now c.in-Object.members i c.have_dollar_name.result c.in-Object.is c.in-Some.ensures (faultless c.id_fault.result i c.id_fault.ensures c.if-is_none.ensures) c.have_dollar_name.ensures

pub returns-else-is_none : goal.returns-else-is_none
returns-else-is_none c =
    let i = tree c.in-Some.id.now in
    let wrong = wrong_id c.args.self.now c.in-Object.members i c.in-Object.is c.in-Some.ensures (faulty c.id_fault.result i c.id_fault.ensures c.if-is_none.ensures) in
    (λ h. absurd (Prim.cc (h, c.if-is_none.false)), λ d. absurd (wrong d))

pub returns-in-None : goal.returns-in-None
returns-in-None c = (λ h. absurd (Prim.cc h), λ d. absurd (no_id c.args.self.now c.in-Object.members c.in-Object.is c.in-None.ensures d))
