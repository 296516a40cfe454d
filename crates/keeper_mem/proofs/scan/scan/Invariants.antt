use Rattle.std.proofs.Common.{◌≡◌, ◌≤◌, ◌++◌, length, map}
use Rattle.std.specs.Option.{option_copied}
use Rattle.shred_cols.specs.Rows.{keyed}
use Rattle.col_keeper.specs.Pages.{met_after}
use Rattle.keeper_mem.specs.Scans.{meeting}
use Rattle.keeper_mem.proofs.scan.scan.Given as goal

abbrev pub invariant-rows : goal.invariant-rows
invariant-rows l = record {
  found : map keyed l.rows.items ++ meeting l.probe l.next ≡ met_after l.probe (option_copied l.after) l.table.rows;
  most : length l.rows.items ≤ l.up_to;
}

abbrev pub decreases-rows : goal.decreases-rows
decreases-rows l = length l.next
