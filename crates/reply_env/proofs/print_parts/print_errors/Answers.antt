use Rattle.std.proofs.Common.{codes}
use Rattle.reply_env.specs.Reply.{with_commas, error_text}
use Rattle.reply_env.proofs.Pieces.{three_pieces}
use Rattle.reply_env.proofs.print_parts.print_errors.Goals as goal

pub returns-clause-ok : goal.returns-clause-ok
returns-clause-ok c =
    three_pieces c.args.out.now.items c.extend_from_slice.new.self.items c.print_error_list.new.out.items c.extend_from_slice-2.new.self.items
    (codes "\"errors\":[") (with_commas error_text c.args.errors.now) (codes "]}")
    c.in_ok-extend_from_slice.ensures.items c.in_ok-print_error_list.ensures.ok c.in_ok-extend_from_slice-2.ensures.items
