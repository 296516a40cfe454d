use Rattle.std.proofs.Common.{rules, ap, ◌∙◌, ◌++◌, ◌∷◌}
use Rattle.json_text.specs.Print.{string_text, Extends}
use Rattle.reply_env.proofs.Pieces.{part_more, with_comma}
use Rattle.reply_env.proofs.Kept.{kept-past}
use Rattle.reply_env.proofs.print_parts.print_further_names.Goals as goal

pub loop-name-preserved : goal.loop-name-preserved
loop-name-preserved c =
    part_more (λ name. 44 ∷ string_text name) c.args.names.now c.loop-name.name-index c.name-item.result
    c.args.out.now.items c.loop-name.out.items c.print_string.new.out.items c.loop-name-test.true c.loop-name.invariant
    (with_comma c.loop-name.out.items c.push.new.self.items c.print_string.new.out.items (string_text c.name-item.result) c.in_ok-push.ensures.items
    (c.in_ok-print_string.ensures.ok ∙ ap (λ s. c.push.new.self.items ++ string_text s) c.as_str.ensures)
    ∙ ap (λ e. c.loop-name.out.items ++ 44 ∷ string_text e) c.name-item.is)

pub returns-in_err-print_string-clause-kept : goal.returns-in_err-print_string-clause-kept
returns-in_err-print_string-clause-kept c =
    let kept : Extends c.args.out.now.items c.print_string.new.out.items = kept-past _ _ _ _ c.loop-name.invariant (kept-past _ _ _ _ c.in_ok-push.ensures.items c.in_err-print_string.ensures.kept) in
    search (rules, kept)
