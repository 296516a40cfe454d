use Rattle.std.proofs.Common.{◌≡◌, drop, map}
use Rattle.json_tree.specs.Tree.{elements_of, members_of}
use Rattle.json_tree.specs.View.{tree, pair_of}
use Rattle.json_tree.specs.Doc.{elements_dollar_name, members_dollar_name}
use Rattle.json_tree.proofs.value.+dollar.Given as goal

abbrev pub invariant-Items::have_dollar_name-loop-i : goal.invariant-Items::have_dollar_name-loop-i
invariant-Items::have_dollar_name-loop-i l =
    let ts = map tree l.self-inside.items.items in elements_dollar_name (elements_of (drop l.i ts)) ≡ elements_dollar_name (elements_of ts)

abbrev pub invariant-Members::have_dollar_name-loop-i : goal.invariant-Members::have_dollar_name-loop-i
invariant-Members::have_dollar_name-loop-i l =
    let ps = map pair_of l.self-inside.pairs.items in members_dollar_name (members_of (drop l.i ps)) ≡ members_dollar_name (members_of ps)
