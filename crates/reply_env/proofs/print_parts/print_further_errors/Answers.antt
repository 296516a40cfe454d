use Rattle.std.proofs.Common.{rules, ap, ◌∙◌, ◌++◌, ◌∷◌}
use Rattle.json_text.specs.Print.{Extends}
use Rattle.reply_env.specs.Reply.{error_text}
use Rattle.reply_env.proofs.Pieces.{part_more, with_comma}
use Rattle.reply_env.proofs.Kept.{kept-past}
use Rattle.reply_env.proofs.print_parts.print_further_errors.Goals as goal

pub loop-error-preserved : goal.loop-error-preserved
loop-error-preserved c =
    part_more (λ error. 44 ∷ error_text error) c.args.errors.now c.loop-error.error-index c.error-item.result
    c.args.out.now.items c.loop-error.out.items c.print_error.new.out.items c.loop-error-test.true c.loop-error.invariant
    (with_comma c.loop-error.out.items c.push.new.self.items c.print_error.new.out.items (error_text c.error-item.result) c.in_ok-push.ensures.items c.in_ok-print_error.ensures.ok
    ∙ ap (λ e. c.loop-error.out.items ++ 44 ∷ error_text e) c.error-item.is)

pub returns-in_err-print_error-clause-kept : goal.returns-in_err-print_error-clause-kept
returns-in_err-print_error-clause-kept c =
    let kept : Extends c.args.out.now.items c.print_error.new.out.items = kept-past _ _ _ _ c.loop-error.invariant (kept-past _ _ _ _ c.in_ok-push.ensures.items c.in_err-print_error.ensures.kept) in
    search (rules, kept)
