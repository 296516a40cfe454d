-- What stands in front while more is printed.
use Rattle.std.proofs.Common.{◌≡◌, ℕ, List, ◌++◌, length, take, drop, sym, ap, ◌∙◌, arith, append_assoc}
use Rattle.std.proofs.lemmas.List.{take_all, take-append-drop}
use Rattle.std.proofs.Math.Seq.{take-append_seam}
use Rattle.json_text.specs.Print.{Extends}

-- nothing was printed
pub kept-same : (a b : List ℕ) → b ≡ a → Extends a b
kept-same a b e = ap (take (length a)) e ∙ take_all (length a) a (omega arith)

pub kept-more : (a b d : List ℕ) → b ≡ a ++ d → Extends a b
kept-more a b d e = ap (take (length a)) e ∙ take-append_seam a d

-- what stands behind
behind : (a b : List ℕ) → Extends a b → b ≡ a ++ drop (length a) b
behind a b e = sym (take-append-drop (length a) b) ∙ ap (λ l. l ++ drop (length a) b) e

-- what stood in front of that stands in front
pub kept-on : (a b c : List ℕ) → Extends a b → Extends b c → Extends a c
kept-on a b c e f =
    kept-more a c (drop (length a) b ++ drop (length b) c)
    (behind b c f ∙ ap (λ l. l ++ drop (length b) c) (behind a b e) ∙ append_assoc a (drop (length a) b) (drop (length b) c))

-- a part was printed, and what stood in front of it and it stand in front
pub kept-past : (a b c d : List ℕ) → b ≡ a ++ d → Extends b c → Extends a c
kept-past a b c d e f = kept-on a b c (kept-more a b d e) f

pub ruleset kept = (kept-same, kept-more, kept-on)
