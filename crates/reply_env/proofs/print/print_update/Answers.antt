use Rattle.std.proofs.Common.{codes}
use Rattle.reply_env.specs.Reply.{updated_text}
use Rattle.reply_env.proofs.Pieces.{three_pieces}
use Rattle.reply_env.proofs.print.print_update.Goals as goal

pub returns-clause-ok : goal.returns-clause-ok
returns-clause-ok c =
    three_pieces c.args.out.now.items c.extend_from_slice.new.self.items c.print_updated.new.out.items c.push.new.self.items
    (codes "{\"status\":") (updated_text c.args.matched c.args.modified c.args.upserted.now c.args.state.now) (codes "}")
    c.in_ok-extend_from_slice.ensures.items c.in_ok-print_updated.ensures.ok c.in_ok-push.ensures.items
