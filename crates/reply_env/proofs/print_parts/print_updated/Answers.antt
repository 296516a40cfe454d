use Rattle.std.proofs.Common.{rules, codes, decimal}
use Rattle.json_text.specs.Print.{Extends}
use Rattle.reply_env.specs.Reply.{next_text, upserted_text}
use Rattle.reply_env.proofs.Pieces.{seven_pieces}
use Rattle.reply_env.proofs.Kept.{kept-past}
use Rattle.reply_env.proofs.print_parts.print_updated.Goals as goal

pub returns-clause-ok : goal.returns-clause-ok
returns-clause-ok c =
    seven_pieces c.args.out.now.items c.extend_from_slice.new.self.items c.print_decimal.new.out.items c.extend_from_slice-2.new.self.items c.print_decimal-2.new.out.items c.print_upserted.new.out.items c.print_next.new.out.items c.push.new.self.items
    (codes "{\"matchedCount\":") (decimal c.args.matched) (codes ",\"modifiedCount\":") (decimal c.args.modified) (upserted_text c.args.upserted.now) (next_text c.args.state.now) (codes "}")
    c.in_ok-extend_from_slice.ensures.items c.in_ok-print_decimal.ensures.ok c.in_ok-extend_from_slice-2.ensures.items c.in_ok-print_decimal-2.ensures.ok c.in_ok-print_upserted.ensures.ok c.in_ok-print_next.ensures.ok c.in_ok-push.ensures.items

pub returns-in_err-print_decimal-2-clause-kept : goal.returns-in_err-print_decimal-2-clause-kept
returns-in_err-print_decimal-2-clause-kept c =
    let kept : Extends c.args.out.now.items c.print_decimal-2.new.out.items = kept-past _ _ _ _ c.in_ok-extend_from_slice.ensures.items (kept-past _ _ _ _ c.in_ok-print_decimal.ensures.ok (kept-past _ _ _ _ c.in_ok-extend_from_slice-2.ensures.items c.in_err-print_decimal-2.ensures.kept)) in
    search (rules, kept)

pub returns-in_err-print_upserted-clause-kept : goal.returns-in_err-print_upserted-clause-kept
returns-in_err-print_upserted-clause-kept c =
    let kept : Extends c.args.out.now.items c.print_upserted.new.out.items = kept-past _ _ _ _ c.in_ok-extend_from_slice.ensures.items (kept-past _ _ _ _ c.in_ok-print_decimal.ensures.ok (kept-past _ _ _ _ c.in_ok-extend_from_slice-2.ensures.items (kept-past _ _ _ _ c.in_ok-print_decimal-2.ensures.ok c.in_err-print_upserted.ensures.kept))) in
    search (rules, kept)

pub returns-in_err-print_next-clause-kept : goal.returns-in_err-print_next-clause-kept
returns-in_err-print_next-clause-kept c =
    let kept : Extends c.args.out.now.items c.print_next.new.out.items = kept-past _ _ _ _ c.in_ok-extend_from_slice.ensures.items (kept-past _ _ _ _ c.in_ok-print_decimal.ensures.ok (kept-past _ _ _ _ c.in_ok-extend_from_slice-2.ensures.items (kept-past _ _ _ _ c.in_ok-print_decimal-2.ensures.ok (kept-past _ _ _ _ c.in_ok-print_upserted.ensures.ok c.in_err-print_next.ensures.kept)))) in
    search (rules, kept)
