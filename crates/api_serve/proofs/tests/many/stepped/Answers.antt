use Rattle.std.proofs.Common.{refl}
use Rattle.api_serve.proofs.Contests.{Contends, goes_on, yields}
use Rattle.api_serve.proofs.tests.many.stepped.Goals as goal

pub steps-init : goal.steps-init
steps-init c = record { mine = refl; known = c.requires.known; stands = c.requires.stands }

pub between-requires : goal.between-requires
between-requires c =
    let told = c.in-More.ensures in
    let on = goes_on c.args.task.session c.args.other _ _ _ _ c.steps.task c.step.new.self c.steps.invariant told.same told.grows (told.more refl).0 in
    record { known = on.known.1 }

pub steps-preserved : goal.steps-preserved
steps-preserved c =
    let told = c.in-More.ensures in
    let on = goes_on c.args.task.session c.args.other _ _ _ _ c.steps.task c.step.new.self c.steps.invariant told.same told.grows (told.more refl).0 in
    yields c.args.task.session c.args.other _ _ _ _ c.step.new.self c.others_may_append.ensures c.requires.apart on c.between.ensures.base.1 c.between.ensures.grown
