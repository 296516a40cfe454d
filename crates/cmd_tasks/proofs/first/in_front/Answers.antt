use Rattle.std.proofs.Common.{◌∙◌, ap, subst, ◌<◌, ℕ}
use Rattle.json_tree.specs.Tree.{null}
use Rattle.json_tree.specs.View.{tree}
use Rattle.json_tree.specs.Members.{put_member}
use Rattle.cmd_tasks.proofs.Fronting.{fronting_begins, fronting_more, fronting_has}
use Rattle.cmd_tasks.proofs.first.in_front.Goals as goal

pub loop-i-preserved : goal.loop-i-preserved
loop-i-preserved c =
    fronting_more c.args.id.now c.args.members c.loop-i.members c.swap_in.new.self c.loop-i.object c.put-in-loop-i.new.self c.loop-i.i _ c.in_ok-name-2.name _ _ null c.requires c.by_type.ensures.distinct c.in-Some.ensures c.swap_in.ensures.old
    c.in_ok-name-2.ensures.ok c.swap_in.ensures.new c.in_ok-put-2.ensures.ok c.loop-i.invariant

pub loop-i-init : goal.loop-i-init
loop-i-init c = fronting_begins c.args.id.now _ c.args.members c.put.new.self c.in_ok-name.name c.in_ok-name.ensures.ok (ap tree c.in_ok-try_copy.ensures.ok ∙ c.value.ensures.value) (c.in_ok-put.ensures.ok ∙ ap (put_member c.in_ok-name.name (tree c.in_ok-try_copy.field-0)) c.new-object.ensures)

pub unreachable-requires : goal.unreachable-requires
unreachable-requires c = fronting_has c.args.id.now c.args.members c.loop-i.members c.loop-i.object c.loop-i.i (subst (λ (n : ℕ). c.loop-i.i < n) c.len-i-end.ensures.value c.loop-i-test.true) c.in_default.ensures c.loop-i.invariant
