use Rattle.std.proofs.Common.{rules, codes, decimal}
use Rattle.json_text.specs.Print.{Extends}
use Rattle.reply_env.specs.Reply.{more_text}
use Rattle.reply_env.proofs.Pieces.{four_pieces}
use Rattle.reply_env.proofs.Kept.{kept-past}
use Rattle.reply_env.proofs.print_parts.print_deleted.Goals as goal

pub returns-clause-ok : goal.returns-clause-ok
returns-clause-ok c =
    four_pieces c.args.out.now.items c.extend_from_slice.new.self.items c.print_decimal.new.out.items c.print_more.new.out.items c.push.new.self.items
    (codes "{\"deletedCount\":") (decimal c.args.deleted) (more_text c.args.more) (codes "}")
    c.in_ok-extend_from_slice.ensures.items c.in_ok-print_decimal.ensures.ok c.in_ok-print_more.ensures.ok c.in_ok-push.ensures.items

pub returns-in_err-print_more-clause-kept : goal.returns-in_err-print_more-clause-kept
returns-in_err-print_more-clause-kept c =
    let kept : Extends c.args.out.now.items c.print_more.new.out.items = kept-past _ _ _ _ c.in_ok-extend_from_slice.ensures.items (kept-past _ _ _ _ c.in_ok-print_decimal.ensures.ok c.in_err-print_more.ensures.kept) in
    search (rules, kept)
