use Rattle.std.proofs.Common.{ap, refl, length}
use Rattle.json_tree.specs.Tree.{null, boolean, number, text, date, list, object, elements_of}
use Rattle.json_tree.specs.View.{tree}
use Rattle.shred_cols.specs.Entry.{key_of}
use Rattle.shred_cols.specs.declared.entry.Entry.TheVariants as v
use Rattle.shred_cols.proofs.Columned.{arm, list_rest, object_rest}
use Rattle.shred_cols.proofs.spread.add_rest.Goals as goal

pub returns-in_ok-try_copy-in-Null : goal.returns-in_ok-try_copy-in-Null
returns-in_ok-try_copy-in-Null c =
    arm c.add.result c.args.entries.now.items c.add.new.entries.items c.args.path.now null (tree c.args.value.now) (v.Null c.in_ok-try_copy-in-Null.field-0) (v.Null c.args.path.now) (ap v.Null c.in_ok-try_copy-in-Null.ensures.ok)
    (ap tree c.in-Null.is) (λ e h. h) (λ e h. h) c.add.ensures

pub returns-in_ok-try_copy-in-Bool : goal.returns-in_ok-try_copy-in-Bool
returns-in_ok-try_copy-in-Bool c =
    arm c.add-in-Bool.result c.args.entries.now.items c.add-in-Bool.new.entries.items c.args.path.now (boolean c.in-Bool.b) (tree c.args.value.now) (v.Bool c.in_ok-try_copy-in-Bool.field-0 c.in-Bool.b) (v.Bool c.args.path.now c.in-Bool.b)
    (ap (λ p. v.Bool p c.in-Bool.b) c.in_ok-try_copy-in-Bool.ensures.ok) (ap tree c.in-Bool.is) (λ e h. h) (λ e h. h) c.add-in-Bool.ensures

pub returns-in_ok-try_copy-in-Num : goal.returns-in_ok-try_copy-in-Num
returns-in_ok-try_copy-in-Num c =
    arm c.add-in-Num.result c.args.entries.now.items c.add-in-Num.new.entries.items c.args.path.now (number c.in-Num.n) (tree c.args.value.now) (v.Num c.in_ok-try_copy-in-Num.field-0 c.in-Num.n) (v.Num c.args.path.now c.in-Num.n)
    (ap (λ p. v.Num p c.in-Num.n) c.in_ok-try_copy-in-Num.ensures.ok) (ap tree c.in-Num.is) (λ e h. h) (λ e h. h) c.add-in-Num.ensures

pub returns-in-Text : goal.returns-in-Text
returns-in-Text c =
    arm c.add_text.result c.args.entries.now.items c.add_text.new.entries.items c.args.path.now (text c.in-Text.text) (tree c.args.value.now) (v.Text c.args.path.now (key_of c.in-Text.text)) (v.Text c.args.path.now (key_of c.in-Text.text))
    refl (ap tree c.in-Text.is) (λ e h. h) (λ e h. h) c.add_text.ensures

pub returns-in_ok-dated-in-Date : goal.returns-in_ok-dated-in-Date
returns-in_ok-dated-in-Date c =
    arm c.add-in-Date.result c.args.entries.now.items c.add-in-Date.new.entries.items c.args.path.now (date c.in-Date.date) (tree c.args.value.now) c.in_ok-dated-in-Date.field-0 (v.Date c.args.path.now c.in-Date.date)
    c.in_ok-dated-in-Date.ensures (ap tree c.in-Date.is) (λ e h. h) (λ e h. h) c.add-in-Date.ensures

pub returns-in-List : goal.returns-in-List
returns-in-List c = list_rest c.add_size.result c.args.entries.now.items c.add_size.new.entries.items c.args.path.now c.in-List.items (tree c.args.value.now) c.len.result c.len.ensures (ap tree c.in-List.is) c.add_size.ensures

pub returns-in-Object : goal.returns-in-Object
returns-in-Object c = object_rest c.args.entries.now.items c.args.path.now c.in-Object.field-0 (tree c.args.value.now) (ap tree c.in-Object.is)
