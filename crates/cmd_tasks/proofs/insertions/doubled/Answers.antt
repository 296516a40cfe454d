use Rattle.std.proofs.Common.{◌≡◌, ◌++◌, ◌∷◌, [], ℕ, Some, refl, sym, ◌∙◌, subst, inr, append-nil}
use Rattle.reply_env.specs.Messages as errors
use Rattle.cmd_tasks.specs.Inserting.{HasMore, InsertsMore}
use Rattle.cmd_tasks.specs.declared.work.Insertions.{Insertions}
use Rattle.cmd_tasks.specs.declared.trace.Item.TheVariants.{Lost}
use Rattle.cmd_tasks.proofs.insertions.doubled.Goals as goal

same_some : (a b : ℕ) → Some a ≡ Some b → a ≡ b
same_some a b e = cc

pub returns : goal.returns
returns c = λ tx e.
    let more : Insertions = record c.args.insertions { errors = c.in-Some-with_error.errors } in
    let has : HasMore c.args.insertions [] (errors.already_exists c.args.id.now c.in-Some.tx ∷ []) more = record {
      all = refl;
      left = refl;
      ordered = refl;
      ids_are = sym (append-nil c.args.insertions.ids.items);
      errors_are = c.in-Some-with_error.ensures (errors.already_exists c.args.id.now c.in-Some.tx) c.already_exists.ensures;
    } in
    inr (subst (λ (n : ℕ). InsertsMore c.args.insertions [] (errors.already_exists c.args.id.now n ∷ []) (Lost c.args.at 0 (Some n)) c.go_on.result) (same_some _ _ (sym c.in-Some.is ∙ e))
    (more, has, c.go_on.ensures))
