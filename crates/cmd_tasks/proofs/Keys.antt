-- The key of a generator, put together of two parts.
use Rattle.std.proofs.Common.{◌≡◌, ◌+◌, ℕ, List, ◌++◌, take, drop, length, arith, ap, ap₂, sym, ◌∙◌}
use Rattle.std.proofs.Math.Seq.{take-append_seam, drop-append_seam, take-length}
use Rattle.std.proofs.lemmas.List.{length-append}
use Rattle.std.proofs.lemmas.Slice.{take-put_mid}
use Rattle.rand_chacha.specs.ChaCha.{ChaCha, key_of, of_seed}
use borrow.Rule.Slice.PartMut.{put_mid, mid_of, same_len_mid}

pub joined : (seed zeros low : List ℕ) → length seed ≡ 28 → length zeros ≡ 4 → length low ≡ 4 → put_mid 28 4 (seed ++ zeros) low ≡ seed ++ low
joined seed zeros low s z l =
    let long : length (seed ++ zeros) ≡ 32 = length-append seed zeros ∙ ap₂ (λ a b. a + b) s z in
    let mid : mid_of 28 4 (seed ++ zeros) ≡ zeros = ap (λ n. take 4 (drop n (seed ++ zeros))) (sym s) ∙ ap (take 4) (drop-append_seam seed zeros) ∙ (ap (λ n. take n zeros) (sym z) ∙ take-length zeros) in
    let whole : length (put_mid 28 4 (seed ++ zeros) low) ≡ 32 = same_len_mid 28 4 (seed ++ zeros) low (l ∙ sym (ap length mid ∙ z)) ∙ long in
    sym (take-length (put_mid 28 4 (seed ++ zeros) low)) ∙ ap (λ n. take n (put_mid 28 4 (seed ++ zeros) low)) whole
    ∙ take-put_mid 28 4 (seed ++ zeros) low 32 (omega (arith, l)) (omega (arith, long))
    ∙ ap (λ xs. xs ++ low) (ap (λ n. take n (seed ++ zeros)) (sym s) ∙ take-append_seam seed zeros)

abbrev at_stream : ℕ → ChaCha → ChaCha
at_stream stream g = record { key = g.key; stream = stream; word_pos = g.word_pos }

pub begins_so : (seed key low : List ℕ) (stream : ℕ) (g rng : ChaCha) → rng ≡ record { key = g.key; stream = stream; word_pos = g.word_pos } → g ≡ of_seed key → key ≡ seed ++ low
    → rng ≡ record { key = key_of (seed ++ low); stream = stream; word_pos = 0 }
begins_so seed key low stream g rng p q r = p ∙ ap (at_stream stream) q ∙ ap (λ k. at_stream stream (of_seed k)) r
