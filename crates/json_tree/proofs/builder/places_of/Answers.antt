use Rattle.std.proofs.Common.{Some, cond, sym, ◌∙◌, string_bytes}
use Rattle.std.specs.Str.{bytes_eq}
use Rattle.std.proofs.lemmas.Map.Text.{btree_map_updates_text}
use Rattle.json_tree.proofs.Names.{place_in-more}
use Rattle.json_tree.proofs.builder.places_of.Goals as goal

pub loop-i-preserved : goal.loop-i-preserved
loop-i-preserved c =
    record {
      at = λ q. btree_map_updates_text (string_bytes c.in_ok-key.key) c.loop-i.places c.insert.new.self (Some c.loop-i.i) c.in_ok-insert.ensures.updates q
          ∙ (λ j. cond (bytes_eq (c.in_ok-key.ensures.ok j) q) (Some c.loop-i.i) (c.loop-i.invariant.at q j))
          ∙ sym (place_in-more c.name.result.now q c.args.members.now c.loop-i.i c.len-i-end.ensures.distinct c.name.ensures);
    }
