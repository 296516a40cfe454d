-- The limits that the counts of a whole value break.
use Rattle.std.proofs.Common.{◌≡◌, ◌<◌, ◌+◌, ◌-◌, ℕ, max, Bool, List, [], ◌∷◌, length, map, Some, None, if◌then◌else◌, nat_lt, ◌^◌, refl, sym, ◌∙◌, ap, ap₂, arith, subst}
use Rattle.std.proofs.lemmas.List.{length-append}
use Rattle.std.proofs.lemmas.Bool.Decides.{nat_tests}
use Rattle.json_tree.specs.Tree.{Tree}
use Rattle.json_text.specs.Print.{capped, text_of}
use Rattle.doc_limits.specs.declared.limits.Broken.{Broken}
use Rattle.doc_limits.specs.declared.counts.Counts.{Counts}
use Rattle.doc_limits.specs.Paths.{path_text, paths_in}
use Rattle.doc_limits.specs.Limits.{greatest, longest_path, at_most, has_empty_name, at_least_one, first_of, broken}
use Rattle.doc_limits.specs.Names.{names_in}
use Rattle.doc_limits.specs.Values.{values_in, levels, elements_count, members_count, text_bytes}
use Rattle.std.specs.Prelude.{MatchResult, Result}
use Rattle.doc_limits.specs.Counts.{dotted, joined, place_counts, tree_counts, of_counts}

joined_text : (p : List (List ℕ)) → length (path_text p) ≡ dotted p - 1
joined_text [] = refl
joined_text (n ∷ []) = omega arith
joined_text (n ∷ m ∷ ps) = omega (arith, joined_text (m ∷ ps), length-append n (46 ∷ path_text (m ∷ ps)))

longest : (ps : List (List (List ℕ))) → greatest (map (λ p. length (path_text p)) ps) ≡ greatest (map dotted ps) - 1
longest [] = refl
longest (p ∷ ps) = omega (arith, longest ps, joined_text p)

-- a count that is capped is over the same bounds
over_capped : (b n : ℕ) → b < 2 ^ 64 - 1 → nat_lt b (capped n) ≡ nat_lt b n
over_capped b n h = grind (arith, nat_tests)

at_most_capped : (limit b n m : ℕ) → b < 2 ^ 64 - 1 → m ≡ capped n → at_most limit b m ≡ at_most limit b n
at_most_capped limit b n m h e =
    ap (at_most limit b) e
    ∙ ap₂ (λ (t : Bool) (k : ℕ). if t then Some (record { limit = limit; bound = b; found = k }) else None) (over_capped b n h) (omega arith)

-- what one count of the walk is
from_none : (n : ℕ) → capped (max 0 (0 + n)) ≡ capped n
from_none n = omega arith

counted : (limit b n : ℕ) → b < 2 ^ 64 - 1 → at_most limit b (capped (max 0 n)) ≡ at_most limit b n
counted limit b n h = at_most_capped limit b n (capped (max 0 n)) h (omega arith)

-- the counts of the walk break what the whole value breaks
broken_counts : (t : Tree) → of_counts (capped (length (text_of t))) (joined (place_counts 0 None) (tree_counts 0 None t)) ≡ broken t
broken_counts t =
    let text : at_most 1 1000000 (capped (length (text_of t))) ≡ at_most 1 1000000 (length (text_of t)) = at_most_capped 1 1000000 (length (text_of t)) _ (omega arith) refl in
    let deep : at_most 2 16 (capped (max 0 (0 + levels t))) ≡ at_most 2 16 (levels t) = at_most_capped 2 16 (levels t) _ (omega arith) (from_none (levels t)) in
    let path : at_most 5 1000 (capped (max 0 (greatest (map dotted (paths_in t)) - 1))) ≡ at_most 5 1000 (longest_path t) =
    counted 5 1000 (greatest (map dotted (paths_in t)) - 1) (omega arith) ∙ ap (at_most 5 1000) (sym (longest (paths_in t))) in
    let members : at_most 7 2000 (capped (0 + length (names_in t))) ≡ at_most 7 2000 (length (names_in t)) = at_most_capped 7 2000 (length (names_in t)) _ (omega arith) (omega arith) in
    let name = counted 4 100 (greatest (map length (names_in t))) (omega arith) in
    let object = counted 6 1000 (greatest (map members_count (values_in t))) (omega arith) in
    let list = counted 8 1000 (greatest (map elements_count (values_in t))) (omega arith) in
    let content = counted 9 8000 (greatest (map text_bytes (values_in t))) (omega arith) in
    λ i. first_of (text i ∷ deep i ∷ at_least_one 3 (has_empty_name t) ∷ name i ∷ path i ∷ object i ∷ members i ∷ list i ∷ content i ∷ [])

pub answers : (r : Result Unit Broken) (n : ℕ) (c : Counts) (t : Tree) → n ≡ capped (length (text_of t)) → c ≡ joined (place_counts 0 None) (tree_counts 0 None t)
    → MatchResult r (λ _. of_counts n c ≡ None) (λ e. of_counts n c ≡ Some e) → MatchResult r (λ _. broken t ≡ None) (λ e. broken t ≡ Some e)
answers r n c t e f h = subst (λ o. MatchResult r (λ _. o ≡ None) (λ e. o ≡ Some e)) (ap₂ of_counts e f ∙ broken_counts t) h
