use Rattle.std.proofs.Common.{Ok, option_map}
use Rattle.json_tree.specs.View.{tree}
use Rattle.doc_paths.specs.Text.{parts}
use Rattle.doc_paths.specs.At.{at}
use Rattle.update_ops.specs.View.{standing, done_by}
use Rattle.update_ops.specs.Apply.{made, put_made}
use Rattle.update_ops.proofs.Idle.{gives_as, put_made_by}
use Rattle.update_ops.proofs.applying.make.Goals as goal

pub returns-in-Ok : goal.returns-in-Ok
returns-in-Ok c =
    let d = standing (tree c.args.given.now) c.args.changed in
    gives_as (standing (tree c.args.given.now)) c.put_some.result (put_made c.args.path.now d (Ok (option_map tree c.in-Ok.made))) (put_made c.args.path.now d (made c.args.path.now (done_by c.args.what.now) (at d (parts c.args.path.now))))
    (put_made_by c.args.path.now (tree c.standing.result.now) d _ c.in-Ok.made (done_by c.args.what.now) c.at.ensures c.standing.ensures c.in-Ok.ensures) c.put_some.ensures
