-- Pieces of a list that are read or written one after another.
use Rattle.std.proofs.Common.{◌≡◌, ◌≤◌, ◌++◌, ◌+◌, ℕ, List, take, drop, length, ap, sym, ◌∙◌, arith, length-drop}
use Rattle.std.proofs.Math.Seq.{take-add}
use Rattle.std.proofs.lemmas.List.{take-append-drop, length-take-le, drop-drop, take_at}

-- what stands in front of a buffer that was filled from a place on
pub front_piece : (bytes old new : List ℕ) (at n : ℕ) → at + n ≤ length bytes → new ≡ take n (drop at bytes) ++ drop n old → take n new ≡ take n (drop at bytes)
front_piece bytes old new at n fits is =
    let piece : List ℕ = take n (drop at bytes) in
    let len : length piece ≡ n = length-take-le n (drop at bytes) (omega (arith, length-drop at bytes)) in
    ap (take n) is ∙ take_at piece (drop n old) n len

-- what stands in front of a buffer that was filled from a place on, and what is left after it
pub given_front : (bytes old new : List ℕ) (at n : ℕ) → at + n ≤ length bytes → new ≡ take n (drop at bytes) ++ drop n old → take n new ++ drop (at + n) bytes ≡ drop at bytes
given_front bytes old new at n fits is =
    ap (λ a. a ++ drop (at + n) bytes) (front_piece bytes old new at n fits is)
    ∙ ap (λ b. take n (drop at bytes) ++ b) (sym (drop-drop n at bytes)) ∙ take-append-drop n (drop at bytes)

-- what stands in front of the place and what was filled are one piece
pub given_so_far : (bytes old new : List ℕ) (at n : ℕ) → at + n ≤ length bytes → new ≡ take n (drop at bytes) ++ drop n old → take at bytes ++ take n new ≡ take (at + n) bytes
given_so_far bytes old new at n fits is = ap (λ b. take at bytes ++ b) (front_piece bytes old new at n fits is) ∙ sym (take-add at n bytes)
