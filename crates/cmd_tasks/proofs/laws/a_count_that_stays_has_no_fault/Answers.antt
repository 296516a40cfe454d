use Rattle.cmd_tasks.proofs.Undisturbing.{still_unfailed}
use Rattle.cmd_tasks.proofs.laws.a_count_that_stays_has_no_fault.Goals as goal

pub returns : goal.returns
returns c base before more k low high exchanges counted still own session = still_unfailed base before more k exchanges session low high counted still own
