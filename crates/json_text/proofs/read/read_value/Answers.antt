use Rattle.std.proofs.Common.{subst}
use Rattle.json_text.specs.Lex.{tokens}
use Rattle.json_text.specs.Outcome.{Builds}
use Rattle.json_text.specs.Machine.{run, trees, start}
use Rattle.json_text.proofs.AnswerSays.{reads, writable, low, refuses}
use Rattle.json_text.proofs.read.read_value.Goals as goal

pub returns-in-Ok-clause-reads : goal.returns-in-Ok-clause-reads
returns-in-Ok-clause-reads c = reads c.args.bytes.now c.read_text.result c.in-Ok.ensures.cases.1 (subst (λ b. Builds c.read_text.result (run trees start (tokens b))) c.in-Ok.ensures.cases.0 c.read_text.ensures)

pub returns-in-Ok-clause-refuses : goal.returns-in-Ok-clause-refuses
returns-in-Ok-clause-refuses c = refuses c.args.bytes.now c.read_text.result c.in-Ok.ensures.cases.1 (subst (λ b. Builds c.read_text.result (run trees start (tokens b))) c.in-Ok.ensures.cases.0 c.read_text.ensures)

pub returns-in-Ok-clause-writable : goal.returns-in-Ok-clause-writable
returns-in-Ok-clause-writable c = writable c.args.bytes.now c.read_text.result c.in-Ok.ensures.cases.1 (subst (λ b. Builds c.read_text.result (run trees start (tokens b))) c.in-Ok.ensures.cases.0 c.read_text.ensures)

pub returns-in-Ok-clause-levels : goal.returns-in-Ok-clause-levels
returns-in-Ok-clause-levels c = low c.args.bytes.now c.read_text.result c.in-Ok.ensures.cases.1 (subst (λ b. Builds c.read_text.result (run trees start (tokens b))) c.in-Ok.ensures.cases.0 c.read_text.ensures)
