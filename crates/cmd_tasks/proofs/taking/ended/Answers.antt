use Rattle.std.proofs.Common.{rules, ◌≡◌, Option, Ok, arith, sym, ◌∙◌, subst}
use Rattle.json_tree.specs.Tree.{Tree}
use Rattle.cmd_tasks.specs.Many.{put_for}
use Rattle.cmd_tasks.specs.Going.{MakesPut}
use Rattle.cmd_tasks.proofs.Goings.{puts_next, turns_down}
use Rattle.cmd_tasks.proofs.taking.ended.Goals as goal

pub returns-in-Ok-Some-clause-told : goal.returns-in-Ok-Some-clause-told
returns-in-Ok-Some-clause-told c = λ st h queue first whole.
    let none : c.args.stand.matched ≡ 0 = search rules in
    let changed = c.requires.1.changed in
    let stands : c.args.stand.modified ≡ 0 = omega (arith, none, changed) in
    c.putting.ensures.told st (puts_next c.args.many c.args.stand st h queue first whole none c.in-Ok-Some.doc (subst (λ (z : Option Tree). MakesPut (put_for c.args.many) (Ok z)) c.in-Ok-Some.field-0-is c.in-Ok-Some.ensures.told)) stands (sym h.modified ∙ stands)

pub returns-in-Err-clause-told : goal.returns-in-Err-clause-told
returns-in-Err-clause-told c = λ st h queue first whole.
    let none : c.args.stand.matched ≡ 0 = search rules in
    c.refused.ensures.told st (turns_down c.args.many c.args.stand st h queue first whole none c.in-Err.fault c.in-Err.ensures.told)
