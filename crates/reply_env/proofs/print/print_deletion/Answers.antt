use Rattle.std.proofs.Common.{codes}
use Rattle.reply_env.specs.Reply.{deleted_text}
use Rattle.reply_env.proofs.Pieces.{three_pieces}
use Rattle.reply_env.proofs.print.print_deletion.Goals as goal

pub returns-clause-ok : goal.returns-clause-ok
returns-clause-ok c =
    three_pieces c.args.out.now.items c.extend_from_slice.new.self.items c.print_deleted.new.out.items c.push.new.self.items
    (codes "{\"status\":") (deleted_text c.args.deleted c.args.more) (codes "}")
    c.in_ok-extend_from_slice.ensures.items c.in_ok-print_deleted.ensures.ok c.in_ok-push.ensures.items
