use Rattle.doc_paths.proofs.Shows.{put_there, put_others}
use Rattle.doc_paths.proofs.laws.puts_are_seen.Goals as goal

pub returns-clause-there : goal.returns-clause-there
returns-clause-there c = λ passed t new x path. put_there path passed t new x

pub returns-clause-others : goal.returns-clause-others
returns-clause-others c = λ passed t new x path other. put_others path passed t new x other
