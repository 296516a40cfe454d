use Rattle.std.proofs.Common.{sym, ◌∙◌, ap}
use Rattle.json_tree.specs.View.{tree}
use Rattle.shred_cols.proofs.Columned.{exists_added, rest_added, none_added}
use Rattle.shred_cols.proofs.spread.add_column.Goals as goal

pub returns-then-column-eq1 : goal.returns-then-column-eq1
returns-then-column-eq1 c =
    exists_added c.add.result c.args.entries.now.items c.add.new.entries.items c.args.column c.args.place.now c.in_ok-try_copy.field-0 c.path.result.now c.if-column-eq1.true c.in_ok-try_copy.ensures.ok c.path.ensures c.add.ensures

pub returns-then-kind-column : goal.returns-then-kind-column
returns-then-kind-column c =
    rest_added c.add_rest.result c.args.entries.now.items c.add_rest.new.entries.items c.args.column c.kind.result c.args.place.now c.path-then-kind-column.result.now (tree c.value.result.now) (tree c.value-then-kind-column.result.now)
    c.path-then-kind-column.ensures c.value.ensures c.value-then-kind-column.ensures c.kind.ensures c.if-kind-column.true c.if-column-eq1.false c.if-column-eq3.false c.add_rest.ensures

pub returns : goal.returns
returns c = none_added c.args.entries.now.items c.args.column c.kind.result c.args.place.now (tree c.value.result.now) c.value.ensures c.kind.ensures c.if-kind-column.false c.if-column-eq1.false c.if-column-eq3.false
