use Rattle.std.proofs.Common.{Some, string_bytes}
use Rattle.std.specs.BTreeMap.{get_by_text}
use Rattle.std.proofs.lemmas.Map.Text.{btree_map_updates_text}
use Rattle.update_ops.proofs.Texts.{seen_more}
use Rattle.update_ops.proofs.fresh.note.Goals as goal

pub returns-clause-all : goal.returns-clause-all
returns-clause-all c =
    seen_more (get_by_text c.args.seen.now) (get_by_text c.insert.new.self) (string_bytes c.args.text) c.args.place
    (λ cs. btree_map_updates_text (string_bytes c.args.text) c.args.seen.now c.insert.new.self (Some c.args.place) c.in_ok-insert.ensures.updates cs)
