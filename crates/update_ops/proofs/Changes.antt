-- Whether a document differs.
use Rattle.std.proofs.Common.{◌≡◌, ◌↔◌, false, not, IsTrue, sym, ap}
use Rattle.json_tree.specs.Tree.{Tree}
use Rattle.json_tree.specs.Same.{same}
use Rattle.update_ops.specs.Apply.{is_changed}

pub not_changed : (old new : Tree) → ((a b : Tree) → IsTrue (same a b) ↔ (a ≡ b)) → new ≡ old → false ≡ is_changed old new
not_changed old new decides e = sym (ap not ((decides old new).1 (sym e)))
