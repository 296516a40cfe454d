-- What the proofs rest on of the values and texts that entries keep.
use Rattle.std.specs.Ordering.{nat_cmp}
use Rattle.std.specs.declared.cmp.Ordering.TheVariants.{Equal}
use Rattle.std.specs.Cmp.Lexicographic.{slice_cmp}
use Rattle.std.proofs.Common.{◌≡◌, ℕ, true, false, not, List, is_some, IsTrue, ◌↔◌, refl, sym}
use Rattle.std.proofs.lemmas.Slice.Eq.{bytes_eq-Decides}
use Rattle.json_tree.specs.Same.{same}
use Rattle.json_tree.specs.Tree.{Tree, text}
use Rattle.json_tree.specs.Writable.{IsWritable}
use Rattle.json_text.specs.Print.{text_of}
use Rattle.shred_cols.specs.Entry.{kept_of, key_of}
use Rattle.shred_cols.specs.Probe.{same_kept}
use Rattle.shred_cols.specs.declared.forms.Kept.{Kept}
use Rattle.shred_cols.specs.declared.forms.Kept.TheVariants.{Whole, Digest}
use Rattle.filter_plan.specs.Steps.{is_whole}

pub kept_refl : (k : Kept) → same_kept k k ≡ true
kept_refl (Whole s) = (bytes_eq-Decides s s).1 refl
kept_refl (Digest s) = (bytes_eq-Decides s s).1 refl

-- what a judgement rests on beside the columns: the document is writable, the test of sameness tells equal
-- values, and values with one text are one
pub record Told (d : Tree) : Type 0 where
  pub writable : IsWritable d
  pub alike : (a b : Tree) → IsTrue (same a b) ↔ (a ≡ b)
  pub apart : (a b : Tree) → IsWritable a → IsWritable b → text_of a ≡ text_of b → a ≡ b

-- what is kept whole is kept of one value alone
pub kept_whole : (d : Tree) → Told d → (y x : Tree) → IsWritable y → IsWritable x → is_whole (kept_of x) ≡ true → same_kept (kept_of x) (kept_of y) ≡ true → y ≡ x
kept_whole d told y x wy wx w h = sym (told.apart x y wx wy ((bytes_eq-Decides _ _).0 h))

-- a text is kept whole exactly where its key is
pub whole_text : (t : List ℕ) → is_whole (kept_of (text t)) ≡ not (is_some (key_of t).1)
whole_text t = refl

-- and then its front is all of it
pub whole_front : (t : List ℕ) → is_some (key_of t).1 ≡ false → (key_of t).0 ≡ t
whole_front t e = refl

-- where fronts differ, they have the order of the texts
pub front_order : (s t : List ℕ) → (slice_cmp nat_cmp (key_of s).0 (key_of t).0 ≡ Equal → ⊥) → slice_cmp nat_cmp s t ≡ slice_cmp nat_cmp (key_of s).0 (key_of t).0
front_order s t h = refl
