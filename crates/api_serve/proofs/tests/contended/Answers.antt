use Rattle.std.proofs.Common.{refl}
use Rattle.api_serve.proofs.Contests.{Contends, goes_on, yields}
use Rattle.api_serve.proofs.tests.contended.Goals as goal

pub steps-init : goal.steps-init
steps-init c = record { mine = refl; known = c.requires.known; stands = c.requires.stands }

pub rewritten_if-requires : goal.rewritten_if-requires
rewritten_if-requires c =
    let told = c.in-More.ensures in
    let on = goes_on c.args.task.session c.args.other _ _ _ _ c.steps.task c.step.new.self c.steps.invariant told.same told.grows (told.more refl).0 in
    record { known = on.known.1 }

pub steps-preserved : goal.steps-preserved
steps-preserved c =
    let told = c.in-More.ensures in
    let on = goes_on c.args.task.session c.args.other _ _ _ _ c.steps.task c.step.new.self c.steps.invariant told.same told.grows (told.more refl).0 in
    yields c.args.task.session c.args.other _ _ _ _ c.step.new.self c.others_may_append.ensures c.requires.apart on c.rewritten_if.ensures.base.1 c.rewritten_if.ensures.grown
