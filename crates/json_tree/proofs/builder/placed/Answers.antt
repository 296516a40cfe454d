use Rattle.std.proofs.Common.{Some, cond, ap, sym, subst, ◌∙◌, string_bytes}
use Rattle.std.specs.Str.{bytes_eq}
use Rattle.std.proofs.lemmas.Map.Text.{btree_map_updates_text}
use Rattle.json_tree.specs.View.{tree}
use Rattle.json_tree.specs.Places.{place_in, IsPlaces}
use Rattle.json_tree.proofs.Names.{place_in-last}
use Rattle.json_tree.proofs.builder.placed.Goals as goal

pub returns-clause-places : goal.returns-clause-places
returns-clause-places c =
    let key = c.in_ok-key.ensures.ok ∙ c.as_str.ensures in
    let before = subst (λ m. IsPlaces m c.args.members.now) (sym c.deref_mut.ensures.value) c.requires.places in record {
      at = λ q. btree_map_updates_text (string_bytes c.in_ok-key.key) c.deref_mut.result.now c.insert.new.self (Some c.len.result) c.in_ok-insert.ensures.updates q
          ∙ (λ i. cond (bytes_eq (key i) q) (Some (c.len.ensures.value i)) (before.at q i))
          ∙ sym (place_in-last c.args.name q (tree c.args.value) c.args.members.now c.requires.absent) ∙ ap (place_in q) (sym c.in_ok-add.ensures.ok);
    }
