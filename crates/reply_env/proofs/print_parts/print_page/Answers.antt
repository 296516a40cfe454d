use Rattle.std.proofs.Common.{rules, codes}
use Rattle.json_tree.specs.View.{tree}
use Rattle.json_text.specs.Print.{text_of, Extends}
use Rattle.reply_env.specs.Reply.{with_commas, state_text}
use Rattle.reply_env.proofs.Pieces.{five_pieces}
use Rattle.reply_env.proofs.Kept.{kept-past}
use Rattle.reply_env.proofs.print_parts.print_page.Goals as goal

pub returns-clause-ok : goal.returns-clause-ok
returns-clause-ok c =
    five_pieces c.args.out.now.items c.extend_from_slice.new.self.items c.print_views.new.out.items c.extend_from_slice-2.new.self.items c.print_state.new.out.items c.push.new.self.items
    (codes "{\"documents\":[") (with_commas (λ view. text_of (tree view)) c.args.views.now) (codes "],\"nextPageState\":") (state_text c.args.state.now) (codes "}")
    c.in_ok-extend_from_slice.ensures.items c.in_ok-print_views.ensures.ok c.in_ok-extend_from_slice-2.ensures.items c.in_ok-print_state.ensures.ok c.in_ok-push.ensures.items

pub returns-in_err-print_state-clause-kept : goal.returns-in_err-print_state-clause-kept
returns-in_err-print_state-clause-kept c =
    let kept : Extends c.args.out.now.items c.print_state.new.out.items = kept-past _ _ _ _ c.in_ok-extend_from_slice.ensures.items (kept-past _ _ _ _ c.in_ok-print_views.ensures.ok (kept-past _ _ _ _ c.in_ok-extend_from_slice-2.ensures.items c.in_err-print_state.ensures.kept)) in
    search (rules, kept)
