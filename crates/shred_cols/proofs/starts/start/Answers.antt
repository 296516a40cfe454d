use Rattle.std.proofs.Common.{rules, nat_lt, sym}
use Rattle.std.proofs.lemmas.List.Sorted.{IsPartitionPoint-from_clause}
use Rattle.shred_cols.specs.Entry.{column_of}
use Rattle.shred_cols.proofs.Started.{columns_parted, start_from}
use Rattle.shred_cols.proofs.starts.start.Goals as goal

pub returns-in-Ok : goal.returns-in-Ok
returns-in-Ok c =
    let point = IsPartitionPoint-from_clause (λ e. nat_lt (column_of e) c.args.column) _ _ c.partition_point-place.ensures.partitioned (columns_parted c.args.entries.now c.args.column c.requires) (λ a r q k. search rules) in
    start_from c.args.column c.args.entries.now c.partition_point-place.result c.in-Ok.place c.partition_point-place.ensures.bound point (sym c.in-Ok.ensures.1)
