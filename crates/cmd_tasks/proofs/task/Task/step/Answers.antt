use Rattle.std.proofs.Common.{rules, refl, sym, ap, ◌∙◌, subst, ◌≡◌, ◌+◌, ◌<◌, ◌≤◌, ℕ, true, Option, Result, Ok, Err, arith}
use Rattle.std.specs.Prelude.{OnOk, IfSome, is_ok}
use Rattle.reply_env.specs.declared.reply.Reply.TheVariants.{NoMemory}
use Rattle.cmd_tasks.specs.Jobs.{Job}
use Rattle.cmd_tasks.specs.Moves.{asked, IsUnderWay}
use Rattle.cmd_tasks.specs.Session.{name_of}
use Rattle.cmd_tasks.specs.Served.{sights}
use Rattle.cmd_tasks.specs.Stands.{HasCollection, StandsOn}
use Rattle.cmd_tasks.specs.declared.work.State.{State}
use Rattle.cmd_tasks.proofs.Standing.{stands_on, served_so, cut_so, done_so}
use Rattle.cmd_tasks.proofs.Tries.{fits_so}
use Rattle.cmd_tasks.proofs.task.Task.step.Goals as goal

room : {X E : Type 0} (r : Result X E) (n cap : ℕ) → is_ok r ≡ true → OnOk r (n + 1 ≤ cap) → n < cap
room (Ok x) n cap e h = omega (arith, h)
room (Err z) n cap e h = cc

pub push_reserved-requires : goal.push_reserved-requires
push_reserved-requires g c = room c.reserve.result _ _ c.if-is_err.ensures.negation c.reserve.ensures.ok

pub push_reserved-requires-in-Ends : goal.push_reserved-requires-in-Ends
push_reserved-requires-in-Ends g c = room c.reserve.result _ _ c.if-is_err.ensures.negation c.reserve.ensures.ok

pub returns-then-is_err-clause-done : goal.returns-then-is_err-clause-done
returns-then-is_err-clause-done g c = λ d. done_so c.replace-state.new.dest _ (NoMemory c.accepted_by.result) c.replace-state.ensures.after
    (cut_so _ _ _ c.args.self.now c.reserve.new.self.items c.accepted_by.result c.requires.stands refl c.reserve.ensures.items c.accepted_by.ensures)

pub returns-in-Goes-clause-more : goal.returns-in-Goes-clause-more
returns-in-Goes-clause-more g c = λ m. (
  subst (λ b. StandsOn b c.advance.new.store.journal (record c.args.self.now { trace = record c.args.self.now.trace { items = c.push_reserved.new.self }; state = c.in-Goes.state })) (sym c.in-Goes.ensures.base.1)
      (stands_on _ _ _ _ _ c.args.self.now c.replace-state.result c.in-Goes.state c.in-Goes.item c.push_reserved.new.self c.requires.stands (search rules) (search rules) c.in-Goes.ensures.steps c.in-Goes.ensures.leads),
  search rules,
)

pub returns-in-Ends-clause-done : goal.returns-in-Ends-clause-done
returns-in-Ends-clause-done g c = λ d. served_so _ _ _ _ _ c.args.self.now c.replace-state.result c.in-Ends.item c.in-Ends.reply c.push_reserved-in-Ends.new.self.items c.requires.stands (search rules) (search rules) c.in-Ends.ensures.steps c.in-Ends.ensures.leads

pub returns-in-NoMemory-clause-done : goal.returns-in-NoMemory-clause-done
returns-in-NoMemory-clause-done g c = λ d. done_so c.replace-state.new.dest _ (NoMemory c.accepted_by.result) c.replace-state.ensures.after
    (cut_so _ _ _ c.args.self.now c.reserve.new.self.items c.accepted_by.result c.requires.stands c.in-NoMemory.ensures.steps c.reserve.ensures.items c.accepted_by.ensures)

pub advance-requires-clause-collection : goal.advance-requires-clause-collection
advance-requires-clause-collection g c =
    let task = c.args.self.now in
    subst (λ (o : Option Job). IfSome o (HasCollection task.coll)) (sym (ap asked (search rules) ∙ c.requires.stands.asks)) c.requires.stands.has_collection

pub advance-requires-clause-fits : goal.advance-requires-clause-fits
advance-requires-clause-fits g c = λ base told.
    let lawful = c.journal_len.ensures.lawful base told in
    let task = c.args.self.now in
    fits_so c.numbers_are_given_once.ensures base (name_of task.coll) task.session c.replace-state.result c.args.store.now.journal task.trace.items.items c.requires.stands.placed lawful.0 (c.journal_len.ensures.apart base told) lawful.1
    (subst (λ (w : State). IsUnderWay base (name_of task.coll) task.session w (sights c.args.store.now.journal task.trace.items.items)) (search rules) (c.requires.stands.under_way base told))
