-- Filters with their plans.
use Rattle.std.specs.Prelude.{IfSome}
use Rattle.filter_tree.specs.View.{filter_tree}
use Rattle.filter_plan.specs.View.{IsPlanOf}
use Rattle.cmd_grammar.specs.Commands.{IsAskableFilter}
use Rattle.cmd_tasks.specs.declared.work.Wanted.{Wanted}

-- the plan is the filter's
abbrev pub IsWanted : Wanted → Type 0
IsWanted w = IsAskableFilter (filter_tree w.filter) × IfSome w.plan (IsPlanOf (filter_tree w.filter))
