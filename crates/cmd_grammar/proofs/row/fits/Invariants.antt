use Rattle.std.proofs.Common.{◌≡◌, map, drop}
use Rattle.json_tree.specs.View.{tree}
use Rattle.cmd_grammar.specs.Rows.{field_of, fits}
use Rattle.cmd_grammar.proofs.row.fits.Given as goal

abbrev pub invariant-loop-field : goal.invariant-loop-field
invariant-loop-field l = fits (map field_of (drop l.field-index l.fields)) l.name (tree l.value) ≡ fits (map field_of l.fields) l.name (tree l.value)
