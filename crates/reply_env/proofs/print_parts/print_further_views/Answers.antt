use Rattle.std.proofs.Common.{rules}
use Rattle.json_text.specs.Print.{Extends}
use Rattle.reply_env.proofs.Kept.{kept-past}
use Rattle.reply_env.proofs.print_parts.print_further_views.Goals as goal

pub returns-in_err-print_tree-clause-kept : goal.returns-in_err-print_tree-clause-kept
returns-in_err-print_tree-clause-kept c =
    let kept : Extends c.args.out.now.items c.print_tree.new.out.items = kept-past _ _ _ _ c.loop-view.invariant (kept-past _ _ _ _ c.in_ok-push.ensures.items c.in_err-print_tree.ensures.kept) in
    search (rules, kept)
