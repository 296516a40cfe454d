use Rattle.std.proofs.Common.{rules}
use Rattle.json_text.specs.Print.{Extends}
use Rattle.reply_env.proofs.Kept.{kept-past}
use Rattle.reply_env.proofs.print.print_count.Goals as goal

pub returns-in_err-print_more-clause-kept : goal.returns-in_err-print_more-clause-kept
returns-in_err-print_more-clause-kept c =
    let kept : Extends c.args.out.now.items c.print_more.new.out.items = kept-past _ _ _ _ c.in_ok-extend_from_slice.ensures.items (kept-past _ _ _ _ c.in_ok-print_decimal.ensures.ok c.in_err-print_more.ensures.kept) in
    search (rules, kept)
