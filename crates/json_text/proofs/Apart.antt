-- Values whose texts are the same are the same.
use Rattle.std.proofs.Common.{◌≡◌, ◌≤◌, ℕ, max, sym, ◌∙◌, ap, arith, None}
use Rattle.json_tree.specs.Tree.{Tree}
use Rattle.json_text.specs.Print.{text_of}
use Rattle.json_tree.specs.Writable.{IsWritable}
use Rattle.json_text.specs.Grammar.{tree_of, levels, text_tokens}
use Rattle.json_text.specs.Machine.{start, texts_with}
use Rattle.json_text.proofs.Written.{json_of, all_numbers, tree_again}
use Rattle.json_text.proofs.Accepts.{gone, go, accepts_text}
use Rattle.json_text.proofs.ReadsBack.{text_spells, spelled}

spelled_at : (a : Tree) (n : ℕ) → levels (json_of a) ≤ n → go (texts_with None n) start (text_tokens (json_of a)) ≡ gone (json_of a)
spelled_at a n h = accepts_text None n (json_of a) h (all_numbers a)

pub texts_apart : (a b : Tree) → IsWritable a → IsWritable b → text_of a ≡ text_of b → a ≡ b
texts_apart a b wa wb e =
    let n : ℕ = max (levels (json_of a)) (levels (json_of b)) in
    let t : text_tokens (json_of a) ≡ text_tokens (json_of b) = sym (text_spells a wa) ∙ ap spelled e ∙ text_spells b wb in
    let g : gone (json_of a) ≡ gone (json_of b) = sym (spelled_at a n (omega arith)) ∙ ap (go (texts_with None n) start) t ∙ spelled_at b n (omega arith) in
    let j : json_of a ≡ json_of b = Prim.cc g in
    sym (tree_again a wa) ∙ ap tree_of j ∙ tree_again b wb
