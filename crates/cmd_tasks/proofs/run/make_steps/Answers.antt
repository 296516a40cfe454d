use Rattle.std.proofs.Common.{refl}
use Rattle.cmd_tasks.proofs.Running.{serving_begins, serving_goes_on, session_after, known_after, grown_after, faults_after, base_after, same_after, done_more}
use Rattle.cmd_tasks.proofs.run.make_steps.Goals as goal

pub steps-init : goal.steps-init
steps-init g c = serving_begins g.K.Keeper.failed c.args.store.now c.args.task c.requires.known c.requires.begun.0 c.requires.begun.1 c.journal_len.ensures.lawful

pub steps-preserved : goal.steps-preserved
steps-preserved g c = let told = c.in-More.ensures in
    serving_goes_on g.K.Keeper.failed c.args.store.now c.steps.store c.step.new.store c.args.task c.steps.task c.step.new.self c.steps.invariant told.same told.adds told.base told.faults told.lawful (told.more refl).0

pub returns-in-Done-clause-same : goal.returns-in-Done-clause-same
returns-in-Done-clause-same g c = let told = c.in-Done.ensures in
    same_after g.K.Keeper.failed c.args.store.now c.steps.store c.step.new.store c.args.task c.steps.task c.step.new.self c.steps.invariant told.same told.adds told.base told.faults told.lawful

pub returns-in-Done-clause-served : goal.returns-in-Done-clause-served
returns-in-Done-clause-served g c = let told = c.in-Done.ensures in
    done_more c.step.new.self.state _ _ (λ reply serves. session_after g.K.Keeper.failed c.args.store.now c.steps.store c.step.new.store c.args.task c.steps.task c.step.new.self c.steps.invariant told.same told.adds told.base told.faults told.lawful reply serves) (told.done refl)

pub returns-in-Done-clause-grown : goal.returns-in-Done-clause-grown
returns-in-Done-clause-grown g c = let told = c.in-Done.ensures in
    grown_after g.K.Keeper.failed c.args.store.now c.steps.store c.step.new.store c.args.task c.steps.task c.step.new.self c.steps.invariant told.same told.adds told.base told.faults told.lawful

pub returns-in-Done-clause-faults : goal.returns-in-Done-clause-faults
returns-in-Done-clause-faults g c = let told = c.in-Done.ensures in
    faults_after g.K.Keeper.failed c.args.store.now c.steps.store c.step.new.store c.args.task c.steps.task c.step.new.self c.steps.invariant told.same told.adds told.base told.faults told.lawful

pub returns-in-Done-clause-known : goal.returns-in-Done-clause-known
returns-in-Done-clause-known g c = let told = c.in-Done.ensures in
    known_after g.K.Keeper.failed c.args.store.now c.steps.store c.step.new.store c.args.task c.steps.task c.step.new.self c.steps.invariant told.same told.adds told.base told.faults told.lawful

pub returns-in-Done-clause-base : goal.returns-in-Done-clause-base
returns-in-Done-clause-base g c = let told = c.in-Done.ensures in
    base_after g.K.Keeper.failed c.args.store.now c.steps.store c.step.new.store c.args.task c.steps.task c.step.new.self c.steps.invariant told.same told.adds told.base told.faults told.lawful
