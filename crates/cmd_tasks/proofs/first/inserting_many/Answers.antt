use Rattle.std.proofs.Common.{arith}
use Rattle.cmd_tasks.specs.Ids.{stream_of_ids}
use Rattle.cmd_tasks.proofs.Drawing.{all_stored, as_many}
use Rattle.cmd_tasks.proofs.first.inserting_many.Goals as goal

pub inserting-requires-clause-storable : goal.inserting-requires-clause-storable
inserting-requires-clause-storable c = all_stored c.documents_take_ids.ensures.made c.drawn_ids_are_texts.ensures.texts c.args.documents (stream_of_ids c.args.ids.now) c.in-Some.all.items c.requires.insertable c.in-Some.ensures.told

pub inserting-requires-clause-some : goal.inserting-requires-clause-some
inserting-requires-clause-some c = omega (arith, c.requires.some, as_many c.args.documents (stream_of_ids c.args.ids.now) c.in-Some.all.items c.in-Some.ensures.told)

pub inserting-requires-clause-few : goal.inserting-requires-clause-few
inserting-requires-clause-few c = omega (arith, c.requires.few, as_many c.args.documents (stream_of_ids c.args.ids.now) c.in-Some.all.items c.in-Some.ensures.told)
