use Rattle.std.proofs.Common.{rules, ◌≡◌, ◌≢◌, [], true, false, length, refl, sym, ◌∙◌}
use Rattle.cmd_tasks.specs.Part.{has_next}
use Rattle.cmd_tasks.specs.Moves.{paging}
use Rattle.cmd_tasks.proofs.PageStates.{none_sorted, none_behind, state_is, if_ok}
use Rattle.cmd_tasks.proofs.finds.state_after_rows.Goals as goal

pub returns-then-not-is_empty : goal.returns-then-not-is_empty
returns-then-not-is_empty c = let sorts : c.args.sort.now ≢ [] = search rules in sym (none_sorted c.args.sort.now _ _ sorts)

pub returns-then-not-goes_on : goal.returns-then-not-goes_on
returns-then-not-goes_on c =
    let told = c.goes_on.ensures (paging c.args.part.now) refl (sym c.requires.part.given) in
    let ends : has_next (paging c.args.part.now) (length c.args.rows.now) ≡ false = search rules in
    sym (none_behind c.args.sort.now (paging c.args.part.now) c.args.rows.now ends)

pub returns-in-Some : goal.returns-in-Some
returns-in-Some c =
    let told = c.goes_on.ensures (paging c.args.part.now) refl (sym c.requires.part.given) in
    let full : has_next (paging c.args.part.now) (length c.args.rows.now) ≡ true = search rules in
    let none : c.args.sort.now ≡ [] = search rules in
    if_ok c.state_behind.result _ _
    (λ s is. is ∙ state_is c.args.sort.now (paging c.args.part.now) c.args.rows.now c.in-Some.row.now c.args.part.now.given none full (sym c.requires.part.given) (sym c.in-Some.ensures.value)) c.state_behind.ensures
