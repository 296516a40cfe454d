-- What an upsert puts keeps documents.
use Rattle.std.proofs.Common.{◌≡◌, ℕ, true, false, not, is_some, List, Option, Result, Ok, Err, refl, sym, ◌∙◌, ap}
use Rattle.std.specs.Prelude.{MatchOption, OnOk}
use Rattle.json_tree.specs.Tree.{Tree}
use Rattle.json_tree.specs.Doc.{id_in, has_dollar_name, IsDocument}
use Rattle.json_tree.specs.Id.{IsId}
use Rattle.doc_paths.specs.Text.{IsPath}
use Rattle.update_ops.specs.Forms.{is_path, is_storable}
use Rattle.update_ops.specs.Faults.{of_id}
use Rattle.update_ops.specs.Apply.{Gives, put_at}
use Rattle.update_ops.specs.declared.fault.UpdateFault.{UpdateFault}
use Rattle.update_ops.proofs.Documents.{Kept, put_kept, not_true}
use Rattle.update_ops.proofs.Safety.{aside, storable_free}

has_id : (a b : Option Tree) → b ≡ a → MatchOption a ⊥ IsId → MatchOption b ⊥ IsId
has_id a b q h = rw (sym q) at h

kept_document : (d r : Tree) → Kept d r → IsDocument d → IsDocument r
kept_document d r k doc = record { id = has_id (id_in d) (id_in r) k.id doc.id; names = k.free }

put_document : (path : List ℕ) (x d r : Tree) → is_path path ≡ true → of_id path ≡ false → is_storable x ≡ true → put_at path x d ≡ Ok r → IsDocument d → IsDocument r
put_document path x d r is other storable e doc =
    kept_document d r (put_kept path x d r (aside path is other) (not_true (has_dollar_name x) (storable_free x storable)) doc.names e) doc

-- a value that is like a storable one, put at a path that isn't of the id
pub put_gives : (path : List ℕ) (x y d n : Tree) (r : Result (Unit {0}) UpdateFault) → IsPath path → of_id path ≡ false → is_storable x ≡ true → y ≡ x
    → Gives (λ (u : Unit {0}). n) r (put_at path y d) → OnOk r (IsDocument d → IsDocument n)
put_gives path x y d n (Ok u) is other storable like h =
    put_document path x d n (ap (λ o. not (is_some o)) is) other storable (ap (λ v. put_at path v d) (sym like) ∙ h)
put_gives path x y d n (Err e) is other storable like h = tt
