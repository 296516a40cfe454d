use Rattle.std.proofs.Common.{codes}
use Rattle.json_text.specs.Print.{string_text}
use Rattle.reply_env.specs.Reply.{with_commas}
use Rattle.reply_env.proofs.Pieces.{three_pieces}
use Rattle.reply_env.proofs.print.print_collections.Goals as goal

pub returns-clause-ok : goal.returns-clause-ok
returns-clause-ok c =
    three_pieces c.args.out.now.items c.extend_from_slice.new.self.items c.print_names.new.out.items c.extend_from_slice-2.new.self.items
    (codes "{\"status\":{\"collections\":[") (with_commas string_text c.args.names.now) (codes "]}}")
    c.in_ok-extend_from_slice.ensures.items c.in_ok-print_names.ensures.ok c.in_ok-extend_from_slice-2.ensures.items
