use Rattle.api_serve.proofs.Cuts.{line_ends, no_line_ends, whole_rest}
use Rattle.api_serve.proofs.lines.line_end.Goals as goal

pub returns-in-Some-clause-some : goal.returns-in-Some-clause-some
returns-in-Some-clause-some c =
    line_ends c.args.bytes.now _ c.args.searched c.in-Some.place (whole_rest c.args.searched c.args.bytes.now) c.requires.within c.requires.free
    c.in-Some.ensures.0.high c.in-Some.ensures.0.before c.in-Some.ensures.1

pub returns-in-None-clause-none : goal.returns-in-None-clause-none
returns-in-None-clause-none c = λ none. no_line_ends c.args.bytes.now _ c.args.searched (whole_rest c.args.searched c.args.bytes.now) c.requires.free c.in-None.ensures
