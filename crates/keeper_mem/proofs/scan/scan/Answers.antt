use Rattle.std.proofs.Common.{length, ap, arith}
use Rattle.std.specs.Option.{option_copied}
use Rattle.keeper_mem.proofs.Scans.{scan_starts}
use Rattle.keeper_mem.proofs.scan.scan.Goals as goal

pub rows-init : goal.rows-init
rows-init c = record {
  found = rw c.new-rows.ensures.items (scan_starts c.args.probe.now c.args.table.now.rows c.rows_after-next.result (option_copied c.args.after) c.rows_after-next.ensures.rows);
  most = let e = ap length c.new-rows.ensures.items in omega arith;
}
