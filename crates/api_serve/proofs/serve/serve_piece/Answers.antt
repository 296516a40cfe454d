use Rattle.api_serve.specs.Piece.{fed}
use Rattle.api_serve.proofs.Sent.{first_of, sent_fault}
use Rattle.api_serve.proofs.serve.serve_piece.Goals as goal

pub returns-in-Err-clause-stopped : goal.returns-in-Err-clause-stopped
returns-in-Err-clause-stopped g c =
    sent_fault _ _ (fed c.args.run.now c.args.piece.now) _ c.requires.sent c.take_piece-served.new.run _ _ c.in-Err.how
    (first_of _ _ (fed c.args.run.now c.args.piece.now) _ c.take_piece-served.new.run c.take_piece-served.result c.take_piece-served.ensures.taken c.take_piece-served.ensures.stopped)
    c.in-Err.ensures.cut c.in-Err.ensures.fault
