use Rattle.cmd_tasks.proofs.Texts.{drawn_long, drawn_are, drawn_more, after_more, generated_is}
use Rattle.cmd_tasks.proofs.ids.drawn_ids_are_texts.Goals as goal

pub returns-clause-many : goal.returns-clause-many
returns-clause-many c = drawn_long

pub returns-clause-texts : goal.returns-clause-texts
returns-clause-texts c = drawn_are

pub returns-clause-ids : goal.returns-clause-ids
returns-clause-ids c = generated_is

pub returns-clause-more : goal.returns-clause-more
returns-clause-more c = drawn_more

pub returns-clause-after : goal.returns-clause-after
returns-clause-after c = after_more
