use Rattle.std.proofs.Common.{codes}
use Rattle.reply_env.specs.Reply.{inserted_text}
use Rattle.reply_env.proofs.Pieces.{three_pieces}
use Rattle.reply_env.proofs.print.print_insertion.Goals as goal

pub returns-clause-ok : goal.returns-clause-ok
returns-clause-ok c =
    three_pieces c.args.out.now.items c.extend_from_slice.new.self.items c.print_inserted.new.out.items c.push.new.self.items
    (codes "{\"status\":") (inserted_text c.args.ids.now) (codes "}")
    c.in_ok-extend_from_slice.ensures.items c.in_ok-print_inserted.ensures.ok c.in_ok-push.ensures.items
