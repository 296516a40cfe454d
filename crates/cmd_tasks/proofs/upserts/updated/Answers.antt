use Rattle.std.proofs.Common.{rules, ◌≡◌, true, false, ℤ, Some, Ok, sym, ◌∙◌, subst, SFits, w64, to_z-of_z}
use Rattle.std.specs.Prelude.{IfOk}
use Rattle.std.proofs.lemmas.Bool.{not-true, not-false}
use Rattle.update_ops.specs.Apply.{apply}
use Rattle.store_core.specs.declared.entry.Change.TheVariants.{Update}
use Rattle.cmd_tasks.proofs.Written.{writes_another, writes_nothing}
use Rattle.cmd_tasks.proofs.upserts.updated.Goals as goal

pub returns-in-Ok-true-clause-told : goal.returns-in-Ok-true-clause-told
returns-in-Ok-true-clause-told c =
    let fits : SFits w64 c.args.moment = search rules in
    let makes : apply c.args.updates.now c.args.doc.now c.args.moment false ≡ Ok c.in-Ok-true.field-0.doc = search rules in
    let changed : c.in-Ok-true.field-0.changed ≡ true = search rules in
    writes_another c.args.updates.now c.args.moment c.args.doc.now c.in-Ok-true.field-0.doc c.update_of.result makes (not-true _ (sym c.in-Ok-true.ensures.changed ∙ changed))
    (subst (λ (n : ℤ). IfOk c.update_of.result (λ written. written ≡ Some (Update c.args.updates.now n c.in-Ok-true.field-0.doc))) (to_z-of_z fits) c.update_of.ensures.ok)
    c.update_of.ensures.err

pub returns-in-Ok-false-clause-told : goal.returns-in-Ok-false-clause-told
returns-in-Ok-false-clause-told c =
    let makes : apply c.args.updates.now c.args.doc.now c.args.moment false ≡ Ok c.in-Ok-false.field-0.doc = search rules in
    let unchanged : c.in-Ok-false.field-0.changed ≡ false = search rules in
    writes_nothing c.args.updates.now c.args.moment c.args.doc.now c.in-Ok-false.field-0.doc makes (not-false _ (sym c.in-Ok-false.ensures.changed ∙ unchanged))
