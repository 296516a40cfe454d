use Rattle.std.proofs.Common.{◌++◌, ◌∷◌, [], option_map, sym, subst, ◌∙◌, ap, rules}
use Rattle.std.proofs.lemmas.Map.Text.{btree_map_updates_str}
use Rattle.std.specs.BTreeMap.{get_by}
use Rattle.std.specs.Cmp.Lexicographic.{slice_cmp}
use Rattle.std.specs.Ordering.{nat_cmp}
use Rattle.doc_paths.specs.Text.{base_parts}
use Rattle.view_sort.specs.Walk.{IsGrouped}
use Rattle.view_sort.proofs.ByName.{added, added_none, added_here, left_none, left_some}
use Rattle.view_sort.proofs.groups.add.Goals as goal
use Rattle.view_sort.proofs.groups.add.Goals.{in-Some-get_mut+in_ok-push, in_default-get_mut}

pub returns-in_default-clause-ok : goal.returns-in_default-clause-ok
returns-in_default-clause-ok c = λ rs g.
    subst (λ r. IsGrouped (λ v. v.items) c.args.groups.now (rs ++ r ∷ [])) (left_none c.rest.inside.left c.rest.inside.show c.args.rest.now c.in_default.is c.rest.view_is)
    (added_here (λ v. v.items) c.args.groups.now rs c.rest.inside.show g)

pub returns-clause-ok : goal.returns-clause-ok
returns-clause-ok c = λ rs g.
    let more = base_parts (option_map (λ m. m.now) c.first_part.result.1) in
    subst (λ r. IsGrouped (λ v. v.items) c.match-get_mut.groups (rs ++ r ∷ [])) (left_some c.rest.inside.left c.in-Some.text c.rest.inside.show (c.first_part.result.0.now ∷ more) c.args.rest.now c.in-Some.is c.first_part.ensures.parts c.rest.view_is)
    (elim c.match-get_mut.branch [
      | in-Some-get_mut+in_ok-push w ↦
          added (λ v. v.items) c.args.groups.now c.match-get_mut.groups rs c.first_part.result.0.now more c.rest.inside.show w.in-Some-get_mut.group.now w.push.new.self w.in-Some-get_mut.ensures.value w.in_ok-push.ensures.items
          (λ q. ap (λ m. get_by (λ k. slice_cmp nat_cmp q k.now) m) w.groups-is ∙ btree_map_updates_str c.first_part.result.0.now c.args.groups.now (c.get_mut.follows.lender w.push.new.self) _ ((c.get_mut.follows.holds w.push.new.self).3 (search rules)) q) g
      | in_default-get_mut w ↦
          subst (λ m. IsGrouped (λ v. v.items) m (rs ++ (c.first_part.result.0.now ∷ more, c.rest.inside.show) ∷ [])) (sym (w.groups-is ∙ c.get_mut.follows.holds-at-none))
          (added_none (λ v. v.items) c.args.groups.now rs c.first_part.result.0.now more c.rest.inside.show w.in_default-get_mut.ensures.value g)
    ])
