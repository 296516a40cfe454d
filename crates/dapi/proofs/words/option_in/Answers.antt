use Rattle.dapi.proofs.Choosing.{no_option}
use Rattle.dapi.proofs.words.option_in.Goals as goal

pub returns-in-None : goal.returns-in-None
returns-in-None c = no_option c.args.word.now c.in_default.ensures.cases c.in-None.ensures.cases
