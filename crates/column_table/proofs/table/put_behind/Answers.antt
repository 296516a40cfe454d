use Rattle.std.proofs.Common.{ap, ◌∙◌, [], Some, ◌≡◌}
use Rattle.shred_cols.specs.Row.{id_of}
use Rattle.shred_cols.specs.Rows.{Rows, with_version}
use Rattle.column_table.proofs.Nexts.{behind_all}
use Rattle.column_table.proofs.table.put_behind.Goals as goal

empty : (a b : Rows) → Some a ≡ Some b → a ≡ b
empty a b e = cc

pub returns-clause-rows : goal.returns-clause-rows
returns-clause-rows g c =
    let none : c.in-Some.chunk ≡ [] = empty _ _ (c.in-Some.ensures.value ∙ c.requires.spare) in
    behind_all c.args.row c.args.chunks.now.items c.push_reserved.new.self.items c.insert.new.self c.requires.past (c.insert.ensures.rows ∙ ap (with_version (id_of c.args.row.doc) c.args.row) none) c.push_reserved.ensures.items
