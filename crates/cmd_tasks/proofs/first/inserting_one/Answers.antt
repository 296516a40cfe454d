use Rattle.std.proofs.Common.{◌≡◌, ◌∷◌, [], List, true, map, arith, ap, subst}
use Rattle.json_tree.specs.Tree.{Tree}
use Rattle.json_tree.specs.View.{tree}
use Rattle.cmd_tasks.specs.Ids.{stream_of_ids}
use Rattle.cmd_tasks.specs.Jobs.{inserts}
use Rattle.cmd_tasks.specs.Moves.{Begins}
use Rattle.cmd_tasks.proofs.Drawing.{one_told, all_stored, as_many}
use Rattle.cmd_tasks.proofs.first.inserting_one.Goals as goal

pub inserting-requires-clause-storable : goal.inserting-requires-clause-storable
inserting-requires-clause-storable c =
    let s = stream_of_ids c.args.ids.now in
    let d = tree c.args.document in
    all_stored c.documents_take_ids.ensures.made c.drawn_ids_are_texts.ensures.texts (d ∷ []) s c.in-Some.all.items (c.requires, tt)
    (one_told d s c.under_next-next.result c.new.result c.in-Some.all.items c.new.ensures.items c.under_next-next.ensures.told c.in-Some.ensures)

pub returns-in-Some-clause-begins : goal.returns-in-Some-clause-begins
returns-in-Some-clause-begins c =
    subst (λ (ds : List Tree). Begins (inserts ds true) c.inserting.result)
    (one_told (tree c.args.document) (stream_of_ids c.args.ids.now) c.under_next-next.result c.new.result c.in-Some.all.items c.new.ensures.items c.under_next-next.ensures.told c.in-Some.ensures) c.inserting.ensures
