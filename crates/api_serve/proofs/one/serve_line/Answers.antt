use Rattle.std.proofs.Common.{[], ◌∷◌, ◌++◌, Option, sym, subst, inr, IfSome}
use Rattle.reply_env.specs.declared.request.Request.{Request}
use Rattle.api_serve.specs.Request.{Asks}
use Rattle.std.proofs.lemmas.List.{append-nil}
use Rattle.reply_env.specs.Reply.{reply_text}
use Rattle.api_serve.proofs.Served.{Serves-skipped, Serves-request}
use Rattle.api_serve.proofs.one.serve_line.Goals as goal

pub returns-then-is_skipped-clause-served : goal.returns-then-is_skipped-clause-served
returns-then-is_skipped-clause-served g c = ([], sym (append-nil c.args.out.now.items), Serves-skipped _ _ c.args.line.now (sym c.if-is_skipped.ensures))

pub returns-in-Ok-add_line-clause-served : goal.returns-in-Ok-add_line-clause-served
returns-in-Ok-add_line-clause-served g c = let made = c.in-Ok.ensures.made in let asks = subst (λ (o : Option Request). IfSome o (Asks c.args.line.now)) c.in-Ok-Some.field-0-is c.in-Ok-Some.ensures.some in (
  reply_text c.in-Ok.reply ++ 10 ∷ [],
  c.in-Ok-add_line.ensures.added,
  Serves-request _ _ c.args.line.now c.in-Ok-Some.request made.0 c.in-Ok.reply _ asks made.1 made.2 made.3,
)

pub returns-in-Ok-clause-short : goal.returns-in-Ok-clause-short
returns-in-Ok-clause-short g c = λ none. let made = c.in-Ok.ensures.made in let asks = subst (λ (o : Option Request). IfSome o (Asks c.args.line.now)) c.in-Ok-Some.field-0-is c.in-Ok-Some.ensures.some in
    inr (reply_text c.in-Ok.reply ++ 10 ∷ [], Serves-request _ _ c.args.line.now c.in-Ok-Some.request made.0 c.in-Ok.reply _ asks made.1 made.2 made.3)
