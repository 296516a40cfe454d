use Rattle.std.proofs.Common.{ap, arith, sym, ◌∙◌, Some, None}
use Rattle.json_tree.specs.View.{tree}
use Rattle.cmd_grammar.proofs.Inside.{several, none_at, one_named}
use Rattle.cmd_grammar.proofs.reading.named.Goals as goal

pub returns-then-len-ne1 : goal.returns-then-len-ne1
returns-then-len-ne1 c = several c.args.place.now.collection (tree c.args.value.now) c.in-Object.members (ap tree c.in-Object.is) (λ one. omega arith)

pub returns-in-None : goal.returns-in-None
returns-in-None c = absurd (none_at c.in-Object.members (sym c.len.ensures.value ∙ c.if-len-ne1.false) c.in-None.ensures)

pub returns-in-Some-named_at : goal.returns-in-Some-named_at
returns-in-Some-named_at c =
    one_named c.args.place.now.collection c.in-Some.name.now (tree c.in-Some.inner.now) (tree c.args.value.now) c.in-Object.members (Some c.in-Some-named_at.name)
    (ap tree c.in-Object.is) (sym c.len.ensures.value ∙ c.if-len-ne1.false) c.in-Some.ensures (rw c.as_str.ensures at c.in-Some-named_at.ensures)

pub returns-in-None-named_at : goal.returns-in-None-named_at
returns-in-None-named_at c =
    one_named c.args.place.now.collection c.in-Some.name.now (tree c.in-Some.inner.now) (tree c.args.value.now) c.in-Object.members None
    (ap tree c.in-Object.is) (sym c.len.ensures.value ∙ c.if-len-ne1.false) c.in-Some.ensures (rw c.as_str.ensures at c.in-None-named_at.ensures)
