use Rattle.std.proofs.Common.{codes, sym, ap, ◌∙◌, ◌++◌}
use Rattle.json_text.specs.Print.{text_of}
use Rattle.reply_env.specs.Reply.{upserted_text}
use Rattle.reply_env.proofs.Pieces.{two_pieces}
use Rattle.reply_env.proofs.print_parts.print_upserted.Goals as goal

pub returns-in_ok-print_id-in-Some-clause-ok : goal.returns-in_ok-print_id-in-Some-clause-ok
returns-in_ok-print_id-in-Some-clause-ok c =
    two_pieces c.args.out.now.items c.extend_from_slice.new.self.items c.print_id.new.out.items
    (codes ",\"upsertedId\":") (text_of c.in-Some.id)
    c.in_ok-extend_from_slice-in-Some.ensures.items c.in_ok-print_id-in-Some.ensures.ok
    ∙ ap (λ u. c.args.out.now.items ++ upserted_text u) (sym c.in-Some.is)
