-- The texts of generated ids.
use Rattle.std.proofs.Common.{◌≡◌, ℕ, zero, suc, ◌+◌, ◌<◌, Bool, true, false, if◌then◌else◌, List, [], ◌∷◌, ◌++◌, length, arith, refl, sym, ap, ◌∙◌, subst, zero-add}
use Rattle.std.specs.Prelude.{◌&&◌}
use Rattle.std.specs.List.{AllByRecursion as Each, list_all}
use Rattle.std.proofs.lemmas.Bool.{and_parts}
use Rattle.std.specs.Str.{IsAscii}
use Rattle.std.proofs.lemmas.Bool.Decides.{nat_tests}
use Rattle.std.proofs.lemmas.Str.{IsUtf8-from_ascii}
use Rattle.std.proofs.Math.Nat.{suc-add}
use Rattle.uuid.specs.Text.{by_index, hex_digit, nibble, lower, is_hyphen_place, digit_place, hyphenated_text}
use Rattle.uuid.specs.Parts.{v4_of_fill}
use Rattle.uuid.proofs.TextLemmas.{by_index_length, nibble_small}
use Rattle.rand_core.specs.Stream.{Stream, fill_bytes}
use Rattle.json_tree.specs.Tree.{Tree, text}
use Rattle.json_tree.specs.Id.{IsId, IsInRange}
use Rattle.cmd_grammar.specs.Ids.{is_id_byte, IsIdText}
use Rattle.cmd_tasks.specs.Ids.{id_text, next_id, after_id, drawn, after_drawing, IsGenerated}

abbrev IsLetter : ℕ → Type 0
IsLetter b = is_id_byte b ≡ true

-- each is one, by the test of all
all_letters : (u : List ℕ) → Each IsLetter u → list_all is_id_byte u ≡ true
all_letters [] h = refl
all_letters (b ∷ u) h = λ i. h.0 i && all_letters u h.1 i

each_letter : (u : List ℕ) → list_all is_id_byte u ≡ true → Each IsLetter u
each_letter [] h = tt
each_letter (b ∷ u) h = let both = and_parts (is_id_byte b) (list_all is_id_byte u) h in (both.0, each_letter u both.1)

-- ---- a UUID's text

digit_is : (d : ℕ) → d < 16 → IsLetter (hex_digit lower d)
digit_is d small = grind (arith, nat_tests)

either_is : (b : Bool) (x y : ℕ) → IsLetter x → IsLetter y → IsLetter (if b then x else y)
either_is true x y h k = h
either_is false x y h k = k

each_more : (xs : List ℕ) (y : ℕ) → Each IsLetter xs → IsLetter y → Each IsLetter (xs ++ y ∷ [])
each_more [] y h k = (k, tt)
each_more (x ∷ xs) y h k = (h.0, each_more xs y h.1 k)

each_place : (n : ℕ) (f : ℕ → ℕ) → ((k : ℕ) → IsLetter (f k)) → Each IsLetter (by_index n f)
unfolding by_index
each_place zero f h = tt
each_place (suc n) f h = each_more (by_index n f) (f n) (each_place n f h) (h n)

pub hyphenated_long : (xs : List ℕ) → length (hyphenated_text lower xs) ≡ 36
hyphenated_long xs = by_index_length 36 _

hyphenated_is : (xs : List ℕ) → IsIdText (hyphenated_text lower xs)
hyphenated_is xs = record {
  long = hyphenated_long xs;
  bytes = all_letters (hyphenated_text lower xs) (each_place 36 _ (λ k. either_is (is_hyphen_place k) 45 _ refl (digit_is (nibble xs (digit_place k)) (nibble_small xs (digit_place k)))));
}

-- ---- the ids that are drawn

pub drawn_long : (n : ℕ) (s : Stream) → length (drawn n s) ≡ n
drawn_long zero s = refl
drawn_long (suc n) s = ap suc (drawn_long n (after_id s))

pub drawn_are : (n : ℕ) (s : Stream) → Each IsGenerated (drawn n s)
drawn_are zero s = tt
drawn_are (suc n) s = ((id_text s, refl, hyphenated_is (v4_of_fill (fill_bytes 16 s)).0), drawn_are n (after_id s))

pub drawn_more : (m n : ℕ) (s : Stream) → drawn (m + n) s ≡ drawn m s ++ drawn n (after_drawing m s)
drawn_more zero n s = ap (λ k. drawn k s) (zero-add n)
drawn_more (suc m) n s = ap (λ k. drawn k s) (suc-add m n) ∙ ap (λ ids. next_id s ∷ ids) (drawn_more m n (after_id s))

pub after_more : (m n : ℕ) (s : Stream) → after_drawing (m + n) s ≡ after_drawing n (after_drawing m s)
after_more zero n s = ap (λ k. after_drawing k s) (zero-add n)
after_more (suc m) n s = ap (λ k. after_drawing k s) (suc-add m n) ∙ after_more m n (after_id s)

-- ---- such texts are ids

letter_small : (b : ℕ) → IsLetter b → b < 128
letter_small b h = grind (arith, nat_tests)

letters_ascii : (u : List ℕ) → Each IsLetter u → IsAscii u
letters_ascii [] h i = omega arith
letters_ascii (b ∷ u) h zero = letter_small b h.0
letters_ascii (b ∷ u) h (suc i) = letters_ascii u h.1 i

long_is_id : (u : List ℕ) → length u ≡ 36 → IsId (text u)
long_is_id [] h = absurd (omega arith)
long_is_id (b ∷ u) h = refl

pub generated_is : (t : Tree) → IsGenerated t → IsId t × IsInRange t
generated_is t g =
    subst (λ (x : Tree). IsId x × IsInRange x) (sym g.1)
    (long_is_id g.0 g.2.long, IsUtf8-from_ascii g.0 (letters_ascii g.0 (each_letter g.0 g.2.bytes)))
