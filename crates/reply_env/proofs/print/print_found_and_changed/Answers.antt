use Rattle.std.proofs.Common.{rules, codes, None}
use Rattle.json_text.specs.Print.{Extends}
use Rattle.reply_env.specs.Reply.{view_text, updated_text}
use Rattle.reply_env.proofs.Pieces.{five_pieces}
use Rattle.reply_env.proofs.Kept.{kept-past}
use Rattle.reply_env.proofs.print.print_found_and_changed.Goals as goal

pub returns-clause-ok : goal.returns-clause-ok
returns-clause-ok c =
    five_pieces c.args.out.now.items c.extend_from_slice.new.self.items c.print_view.new.out.items c.extend_from_slice-2.new.self.items c.print_updated.new.out.items c.push.new.self.items
    (codes "{\"data\":{\"document\":") (view_text c.args.view.now) (codes "},\"status\":") (updated_text c.args.matched c.args.modified c.args.upserted.now None) (codes "}")
    c.in_ok-extend_from_slice.ensures.items c.in_ok-print_view.ensures.ok c.in_ok-extend_from_slice-2.ensures.items c.in_ok-print_updated.ensures.ok c.in_ok-push.ensures.items

pub returns-in_err-print_updated-clause-kept : goal.returns-in_err-print_updated-clause-kept
returns-in_err-print_updated-clause-kept c =
    let kept : Extends c.args.out.now.items c.print_updated.new.out.items = kept-past _ _ _ _ c.in_ok-extend_from_slice.ensures.items (kept-past _ _ _ _ c.in_ok-print_view.ensures.ok (kept-past _ _ _ _ c.in_ok-extend_from_slice-2.ensures.items c.in_err-print_updated.ensures.kept)) in
    search (rules, kept)
