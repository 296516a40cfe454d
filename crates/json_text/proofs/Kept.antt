-- What stands in front while more is written.
use Rattle.std.proofs.Common.{◌≡◌, ◌≤◌, ℕ, zero, suc, List, [], ◌∷◌, ◌++◌, length, take, refl, sym, ap, ◌∙◌, arith}
use Rattle.std.proofs.lemmas.List.{take_all, length-take}
use Rattle.std.proofs.Math.Seq.{take-append_seam}
use Rattle.json_text.specs.Print.{Extends}

-- nothing was written
pub extends-same : (a b : List ℕ) → b ≡ a → Extends a b
extends-same a b e = ap (take (length a)) e ∙ take_all (length a) a (omega arith)

pub extends-more : (a b d : List ℕ) → b ≡ a ++ d → Extends a b
extends-more a b d e = ap (take (length a)) e ∙ take-append_seam a d

take_less : (n m : ℕ) (l : List ℕ) → n ≤ m → take n (take m l) ≡ take n l
take_less zero m l h = refl
take_less (suc n) zero l h = absurd (omega arith)
take_less (suc n) (suc m) [] h = refl
take_less (suc n) (suc m) (x ∷ xs) h = ap (λ l. x ∷ l) (take_less n m xs (omega arith))

longer : (a b : List ℕ) → Extends a b → length a ≤ length b
longer a b e = omega (arith, length-take (length a) b, ap length e)

-- and what stood in front of that stands in front
pub extends-on : (a b c : List ℕ) → Extends a b → Extends b c → Extends a c
extends-on a b c e f = sym (take_less (length a) (length b) c (longer a b e)) ∙ ap (take (length a)) f ∙ e

pub extends-two : (a b mid c d e : List ℕ) → Extends a b → mid ≡ b ++ d → c ≡ mid ++ e → Extends a c
extends-two a b mid c d e h p q = extends-on a mid c (extends-on a b mid h (extends-more b mid d p)) (extends-more mid c e q)

pub extends-four : (a b x y z c d e f g : List ℕ) → Extends a b → x ≡ b ++ d → y ≡ x ++ e → z ≡ y ++ f → c ≡ z ++ g → Extends a c
extends-four a b x y z c d e f g h p q r s = extends-two a y z c f g (extends-two a b x y d e h p q) r s

pub ruleset kept = (extends-same, extends-more, extends-on)
