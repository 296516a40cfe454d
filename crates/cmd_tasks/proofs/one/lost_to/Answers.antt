use Rattle.std.proofs.Common.{rules, ◌<◌, length, refl}
use Rattle.cmd_tasks.proofs.one.lost_to.Goals as goal

pub returns : goal.returns
returns c =
    let few : length c.in-Some.lost.items < 4 = search rules in
    (c.in-Some.lost, c.in-Some.ensures, few, refl, (c.begin-progress.result, c.begin-progress.ensures, refl))
