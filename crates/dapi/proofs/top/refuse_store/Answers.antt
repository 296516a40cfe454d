use Rattle.dapi.specs.Note.{IsNoted}
use Rattle.dapi.proofs.Ending.{note_at_fault}
use Rattle.dapi.proofs.top.refuse_store.Goals as goal

pub returns-in-KeeperFault-clause-noted : goal.returns-in-KeeperFault-clause-noted
returns-in-KeeperFault-clause-noted g c = note_at_fault (IsNoted (g.E.Sink.writing c.args.notes.now) (g.E.Sink.writing c.write_note.new.notes)) _ c.args.fault c.in-KeeperFault.is c.write_note.ensures

pub returns-in-TooMany-clause-noted : goal.returns-in-TooMany-clause-noted
returns-in-TooMany-clause-noted g c = note_at_fault (IsNoted (g.E.Sink.writing c.args.notes.now) (g.E.Sink.writing c.write_note-in-TooMany.new.notes)) _ c.args.fault c.in-TooMany.is c.write_note-in-TooMany.ensures
