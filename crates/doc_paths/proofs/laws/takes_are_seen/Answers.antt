use Rattle.doc_paths.proofs.Shows.{take_others, member_gone, element_null}
use Rattle.doc_paths.proofs.laws.takes_are_seen.Goals as goal

pub returns-clause-member : goal.returns-clause-member
returns-clause-member c = λ t front part ms. member_gone front t part ms

pub returns-clause-element : goal.returns-clause-element
returns-clause-element c = λ t front part ts y. element_null front t part ts y

pub returns-clause-others : goal.returns-clause-others
returns-clause-others c = λ t path other. take_others path t other
