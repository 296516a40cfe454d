use Rattle.std.proofs.Common.{refl}
use Rattle.api_serve.specs.Piece.{fed}
use Rattle.api_serve.proofs.Waits.{unfed}
use Rattle.api_serve.proofs.run.take_piece.Goals as goal

pub returns-in-Err-clause-stopped : goal.returns-in-Err-clause-stopped
returns-in-Err-clause-stopped g c = unfed _ _ (fed c.args.run.now c.args.piece.now) _ refl
