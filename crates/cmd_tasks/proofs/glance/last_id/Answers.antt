use Rattle.std.proofs.Common.{◌≡◌, Some, sym, ap, ◌∙◌, Bool, true, false, List}
use Rattle.std.specs.Option.{option_map}
use Rattle.json_tree.specs.Tree.{Tree}
use Rattle.shred_cols.specs.Row.{Version, id_of}
use Rattle.cmd_tasks.specs.Pages.{last_of, up_of}
use Rattle.cmd_tasks.proofs.Lasts.{last_is}
use Rattle.cmd_tasks.proofs.glance.last_id.Goals as goal

ends_with : (end : Bool) (page : List Version) (v : Version) (id : Tree) → end ≡ false → last_of page ≡ Some v → id ≡ id_of v.doc → Some id ≡ up_of end page
ends_with true page v id e l i = cc
ends_with false page v id e l i = ap (λ x. Some x) i ∙ sym (ap (option_map (λ x. id_of x.doc)) l)

pub returns-in-Ok : goal.returns-in-Ok
returns-in-Ok c = ends_with c.args.end c.args.rows.now c.in-Some.row.now c.in-Ok.id c.if-end.false (sym (last_is c.args.rows.now) ∙ sym c.in-Some.ensures.value) (c.in-Ok.ensures.ok ∙ c.id.ensures.value)
