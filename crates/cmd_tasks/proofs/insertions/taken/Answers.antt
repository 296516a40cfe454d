use Rattle.std.proofs.Common.{rules, ◌≡◌, ℕ, Some, sym, ap, ◌∙◌, subst}
use Rattle.reply_env.specs.Messages as errors
use Rattle.cmd_tasks.specs.Looking.{Refuses}
use Rattle.cmd_tasks.specs.declared.trace.Item.TheVariants.{Lost}
use Rattle.cmd_tasks.proofs.insertions.taken.Goals as goal

same_some : (a b : ℕ) → Some a ≡ Some b → a ≡ b
same_some a b e = cc

pub returns : goal.returns
returns c = λ tx e. let s : c.in-Some.tx ≡ tx = same_some _ _ (sym c.in-Some.is ∙ e) in
    (ap (λ n. Lost c.args.at 0 (Some n)) s, subst (λ n. Refuses (errors.already_exists c.args.id.now n) c.refuse.result) s (c.refuse.ensures _ (search rules)))
