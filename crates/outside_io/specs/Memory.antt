-- A source and a sink in memory, as contracts see them.
use Rattle.std.specs.Prelude.{ℕ, List, Result, Ok, Err}
use Rattle.outside_io.specs.declared.fault.IoFault.{IoFault}
use Rattle.outside_io.specs.declared.fault.IoFault.TheVariants.{Failed, Ended}
use Rattle.outside_io.specs.Calls.{CallsMade, one_more}

-- a source: the bytes given so far and those left, the most that one read gives, and the calls of `read`
pub record MemReads : Type 0 where
  pub given : List ℕ
  pub left : List ℕ
  pub piece : ℕ
  pub calls : CallsMade

-- a sink: the bytes taken, the most that it takes in all, the calls of `write`, and how many answered Ended
pub record MemWrites : Type 0 where
  pub taken : List ℕ
  pub room : ℕ
  pub calls : CallsMade
  pub ended : ℕ

-- the count of the answers Ended after this one
abbrev pub ended_after : Result ℕ IoFault → ℕ → ℕ
ended_after (Ok n) before = before
ended_after (Err Failed) before = before
ended_after (Err Ended) before = one_more before
