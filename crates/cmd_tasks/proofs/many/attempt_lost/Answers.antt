use Rattle.std.proofs.Common.{rules, ◌<◌, ◌≤◌, ◌∙◌, List, length, refl, subst, inl}
use Rattle.reply_env.specs.Messages as errors
use Rattle.reply_env.specs.declared.update_errors.Loss.{Loss}
use Rattle.cmd_tasks.specs.Looking.{Refuses}
use Rattle.cmd_tasks.specs.ManySteps.{lost_with}
use Rattle.cmd_tasks.proofs.many.attempt_lost.Goals as goal

pub returns-then-len-ge-MOST : goal.returns-then-len-ge-MOST
returns-then-len-ge-MOST c =
    let most : 4 ≤ length c.in-Some.lost.items = search rules in
    let refuses : Refuses (errors.lost_writes (lost_with c.args.stand c.args.loss)) c.conflict-reply.result = subst (λ (l : List Loss). Refuses (errors.lost_writes l) c.conflict-reply.result) (c.deref.ensures.value ∙ c.in-Some.ensures) c.conflict-reply.ensures in
    (refl, inl (subst (λ (l : List Loss). 4 ≤ length l) c.in-Some.ensures most, λ st m n. c.told_after.ensures.refuses st (errors.lost_writes (lost_with c.args.stand c.args.loss)) m n refuses))

pub returns : goal.returns
returns c =
    let few : length c.in-Some.lost.items < 4 = search rules in
    (c.in-Some.lost, c.in-Some.ensures, few, refl, refl)
