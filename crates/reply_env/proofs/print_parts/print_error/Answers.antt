use Rattle.std.proofs.Common.{rules, codes, ap, ◌∙◌, ◌++◌}
use Rattle.json_text.specs.Print.{string_text, Extends}
use Rattle.name_tables.specs.Code.{code_text}
use Rattle.reply_env.proofs.Pieces.{five_pieces}
use Rattle.reply_env.proofs.Kept.{kept-past}
use Rattle.reply_env.proofs.print_parts.print_error.Goals as goal

pub returns-clause-ok : goal.returns-clause-ok
returns-clause-ok c =
    five_pieces c.args.out.now.items c.extend_from_slice.new.self.items c.print_string.new.out.items c.extend_from_slice-2.new.self.items c.print_string-2.new.out.items c.push.new.self.items
    (codes "{\"message\":") (string_text c.args.error.now.message) (codes ",\"errorCode\":") (string_text (code_text c.args.error.now.code)) (codes "}")
    c.in_ok-extend_from_slice.ensures.items
    (c.in_ok-print_string.ensures.ok ∙ ap (λ s. c.extend_from_slice.new.self.items ++ string_text s) c.as_str.ensures)
    c.in_ok-extend_from_slice-2.ensures.items
    (c.in_ok-print_string-2.ensures.ok ∙ ap (λ s. c.extend_from_slice-2.new.self.items ++ string_text s) c.text.ensures.text)
    c.in_ok-push.ensures.items

pub returns-in_err-print_string-2-clause-kept : goal.returns-in_err-print_string-2-clause-kept
returns-in_err-print_string-2-clause-kept c =
    let kept : Extends c.args.out.now.items c.print_string-2.new.out.items = kept-past _ _ _ _ c.in_ok-extend_from_slice.ensures.items (kept-past _ _ _ _ c.in_ok-print_string.ensures.ok (kept-past _ _ _ _ c.in_ok-extend_from_slice-2.ensures.items c.in_err-print_string-2.ensures.kept)) in
    search (rules, kept)
