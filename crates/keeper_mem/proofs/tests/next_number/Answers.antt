use Rattle.std.proofs.Common.{arith, ap, refl, ◌≡◌, ℕ, Option, Some, None}
use Rattle.col_keeper.specs.Tables.{Tables}
use Rattle.keeper_mem.proofs.tests.next_number.Goals as goal

-- the number of the last write, where the tables are told
abbrev last_in : Option Tables → ℕ
last_in None = 0
last_in (Some t) = t.last

pub returns-then-last-lt9223372036854775806 : goal.returns-then-last-lt9223372036854775806
returns-then-last-lt9223372036854775806 c =
    let same : c.list.new.self.tables.last ≡ c.args.keeper.now.tables.last = ap last_in c.in-Ok.ensures.kept in
    let listed = (c.in-Ok.ensures.listed c.args.keeper.now.tables refl).1 in
    (omega (arith, same, listed), omega (arith, c.if-last-lt9223372036854775806.true))
