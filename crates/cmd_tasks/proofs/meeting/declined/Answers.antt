use Rattle.cmd_grammar.specs.Refused.{update_error as error_of}
use Rattle.cmd_tasks.proofs.meeting.declined.Goals as goal

pub returns : goal.returns
returns c = record {
  cut = λ e. absurd (c.in_default.not-NoMemory e);
  told = λ n. c.refuse.ensures (error_of c.args.fault) (c.update_error.ensures n);
}
