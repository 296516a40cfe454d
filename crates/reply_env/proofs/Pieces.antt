-- Texts printed part by part.
use Rattle.std.proofs.Common.{◌≡◌, ◌++◌, ◌∷◌, [], ◌<◌, ◌+◌, ℕ, List, length, take, get_or, sym, ◌∙◌, ap, append_assoc}
use Rattle.std.specs.List.{flat_map}
use Rattle.std.proofs.lemmas.List.{take_more, flat_map_more}

-- one part more of a list is printed
pub part_more : {X : Type 0} (f : X → List ℕ) (xs : List X) (i : ℕ) (d : X) (before here after : List ℕ) → i < length xs
    → here ≡ before ++ flat_map f (take i xs) → after ≡ here ++ f (get_or xs i d) → after ≡ before ++ flat_map f (take (i + 1) xs)
part_more f xs i d before here after within so_far now =
    now ∙ ap (λ bytes. bytes ++ f (get_or xs i d)) so_far ∙ flat_map_more f before (take i xs) (get_or xs i d)
    ∙ ap (λ ys. before ++ flat_map f ys) (sym (take_more xs i d within))

-- a part is printed with a comma before it
pub with_comma : (here comma after part : List ℕ) → comma ≡ here ++ 44 ∷ [] → after ≡ comma ++ part → after ≡ here ++ 44 ∷ part
with_comma here comma after part p q = q ∙ ap (λ bytes. bytes ++ part) p ∙ append_assoc here (44 ∷ []) part

pub two_pieces : (before one two a b : List ℕ) → one ≡ before ++ a → two ≡ one ++ b → two ≡ before ++ (a ++ b)
two_pieces before one two a b p q = q ∙ ap (λ xs. xs ++ b) p ∙ append_assoc before a b

pub three_pieces : (before one two three a b c : List ℕ) → one ≡ before ++ a → two ≡ one ++ b → three ≡ two ++ c → three ≡ before ++ (a ++ b ++ c)
three_pieces before one two three a b c p q r = two_pieces before two three (a ++ b) c (two_pieces before one two a b p q) r

pub four_pieces : (before one two three four a b c d : List ℕ) → one ≡ before ++ a → two ≡ one ++ b → three ≡ two ++ c → four ≡ three ++ d → four ≡ before ++ (a ++ b ++ c ++ d)
four_pieces before one two three four a b c d p q r s = two_pieces before three four (a ++ b ++ c) d (three_pieces before one two three a b c p q r) s

pub five_pieces : (before one two three four five a b c d e : List ℕ) → one ≡ before ++ a → two ≡ one ++ b → three ≡ two ++ c → four ≡ three ++ d → five ≡ four ++ e
    → five ≡ before ++ (a ++ b ++ c ++ d ++ e)
five_pieces before one two three four five a b c d e p q r s t = two_pieces before four five (a ++ b ++ c ++ d) e (four_pieces before one two three four a b c d p q r s) t

pub six_pieces : (before one two three four five six a b c d e f : List ℕ) → one ≡ before ++ a → two ≡ one ++ b → three ≡ two ++ c → four ≡ three ++ d → five ≡ four ++ e → six ≡ five ++ f
    → six ≡ before ++ (a ++ b ++ c ++ d ++ e ++ f)
six_pieces before one two three four five six a b c d e f p q r s t u =
    two_pieces before five six (a ++ b ++ c ++ d ++ e) f (five_pieces before one two three four five a b c d e p q r s t) u

pub seven_pieces : (before one two three four five six seven a b c d e f g : List ℕ) → one ≡ before ++ a → two ≡ one ++ b → three ≡ two ++ c → four ≡ three ++ d → five ≡ four ++ e → six ≡ five ++ f → seven ≡ six ++ g
    → seven ≡ before ++ (a ++ b ++ c ++ d ++ e ++ f ++ g)
seven_pieces before one two three four five six seven a b c d e f g p q r s t u v =
    two_pieces before six seven (a ++ b ++ c ++ d ++ e ++ f) g (six_pieces before one two three four five six a b c d e f p q r s t u) v
