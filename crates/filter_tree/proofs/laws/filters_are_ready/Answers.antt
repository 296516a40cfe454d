use Rattle.filter_tree.proofs.Readiness.{ready_filter, writable_in}
use Rattle.filter_tree.proofs.laws.filters_are_ready.Goals as goal

pub returns-clause-ready : goal.returns-clause-ready
returns-clause-ready c = ready_filter

pub returns-clause-writable : goal.returns-clause-writable
returns-clause-writable c = writable_in
