-- A document without an id breaks no limit under one text of an id where it breaks none under another.
use Rattle.std.proofs.Common.{◌≡◌, ◌+◌, ℕ, true, false, ◌==◌, max, List, [], ◌∷◌, ◌++◌, length, map, Option, Some, None, refl, sym, ◌∙◌, ap, ap₂, subst, codes, arith, length-append}
use Rattle.std.specs.Prelude.{nat_lt}
use Rattle.std.specs.List.{list_all, flat_map}
use Rattle.std.proofs.lemmas.Bool.{ne_eqb, and_parts}
use Rattle.json_tree.specs.Tree.{Tree, null, boolean, number, text, date, list, object, Members, member}
use Rattle.json_tree.specs.Id.{IsId}
use Rattle.json_tree.specs.Doc.{id_in}
use Rattle.json_text.specs.Print.{escaped, string_text, text_of, more_members}
use Rattle.doc_limits.specs.Names.{names_in}
use Rattle.doc_limits.specs.Values.{values_in, values_in_members, levels, elements_count, members_count, text_bytes}
use Rattle.doc_limits.specs.Limits.{broken, at_most, at_least_one, first_of, greatest, longest_path, has_empty_name}
use Rattle.doc_limits.specs.declared.limits.Broken.{Broken}
use Rattle.update_ops.specs.Upsert.{with_id}
use Rattle.cmd_grammar.specs.Commands.{stand_in, under_own, IsStorable, IsInsertable}
use Rattle.cmd_grammar.specs.Ids.{is_id_byte, IsIdText}
use Rattle.cmd_grammar.proofs.Storing.{fronted}

-- ---- the text is printed as it is

apart : (x k : ℕ) → is_id_byte x ≡ true → is_id_byte k ≡ false → (x == k) ≡ false
apart x k e n = ne_eqb x k (λ q. Prim.cc (sym n ∙ ap is_id_byte (sym q) ∙ e))

printable : (x : ℕ) → is_id_byte x ≡ true → nat_lt x 32 ≡ false
printable x e = grind (arith, e)

plain : (x : ℕ) → is_id_byte x ≡ true → escaped x ≡ x ∷ []
unfolding escaped
plain x e = rw (apart x 34 e refl, apart x 92 e refl, apart x 8 e refl, apart x 9 e refl, apart x 10 e refl, apart x 12 e refl, apart x 13 e refl, printable x e)

all_plain : (u : List ℕ) → list_all is_id_byte u ≡ true → flat_map escaped u ≡ u
all_plain [] e = refl
all_plain (x ∷ u) e =
    let both = and_parts (is_id_byte x) (list_all is_id_byte u) e in
    ap₂ (λ (a b : List ℕ). a ++ b) (plain x both.0) (all_plain u both.1)

printed : (u : List ℕ) → list_all is_id_byte u ≡ true → length (string_text u) ≡ length u + 2
printed u e = ap (λ (s : List ℕ). length (34 ∷ (s ++ 34 ∷ []))) (all_plain u e) ∙ omega (arith, length-append u (34 ∷ []))

-- ---- a document under the text

abbrev front : List ℕ → Members → Tree
front u ms = object (member (codes "_id") (text u) ms)

around : (a b m : List ℕ) → length (123 ∷ ((a ++ 58 ∷ (b ++ m)) ++ 125 ∷ [])) ≡ length a + length b + length m + 3
around a b m = omega (arith, length-append (a ++ 58 ∷ (b ++ m)) (125 ∷ []), length-append a (58 ∷ (b ++ m)), length-append b m)

same_length : (u v : List ℕ) (ms : Members) → length (string_text u) ≡ length (string_text v) → length (text_of (front u ms)) ≡ length (text_of (front v ms))
same_length u v ms e =
    around (string_text (codes "_id")) (string_text u) (more_members ms) ∙ ap (λ n. length (string_text (codes "_id")) + n + length (more_members ms) + 3) e
    ∙ sym (around (string_text (codes "_id")) (string_text v) (more_members ms))

-- the first limit that is broken where the whole has so many bytes and the text so many
abbrev measured : Members → ℕ → ℕ → Option Broken
measured ms bytes own =
    first_of
    (at_most 1 1000000 bytes
    ∷ at_most 2 16 (levels (front [] ms))
    ∷ at_least_one 3 (has_empty_name (front [] ms))
    ∷ at_most 4 100 (greatest (map length (names_in (front [] ms))))
    ∷ at_most 5 1000 (longest_path (front [] ms))
    ∷ at_most 6 1000 (greatest (map members_count (values_in (front [] ms))))
    ∷ at_most 7 2000 (length (names_in (front [] ms)))
    ∷ at_most 8 1000 (greatest (map elements_count (values_in (front [] ms))))
    ∷ at_most 9 8000 (max 0 (max own (greatest (map text_bytes (values_in_members ms)))))
    ∷ [])

broken_is : (u : List ℕ) (ms : Members) → broken (front u ms) ≡ measured ms (length (text_of (front u ms))) (length u)
broken_is u ms = refl

same_broken : (u v : List ℕ) (ms : Members) → IsIdText u → IsIdText v → broken (front u ms) ≡ broken (front v ms)
same_broken u v ms a b =
    let long : length u ≡ length v = a.long ∙ sym b.long in
    let printed_long : length (string_text u) ≡ length (string_text v) = printed u a.bytes ∙ ap (λ n. n + 2) long ∙ sym (printed v b.bytes) in
    broken_is u ms ∙ ap₂ (measured ms) (same_length u v ms printed_long) long ∙ sym (broken_is v ms)

stands_in : IsIdText (codes "00000000-0000-0000-0000-000000000000")
stands_in = record { long = refl; bytes = refl }

is_id : (u : List ℕ) → length u ≡ 36 → IsId (text u)
is_id [] e = absurd (omega (arith, e))
is_id (x ∷ u) e = refl

pub takes : (t : Tree) (u : List ℕ) → IsInsertable t → id_in t ≡ None → IsIdText u → IsStorable (with_id (text u) t)
takes (object ms) u h none is =
    let s : IsStorable (with_id stand_in (object ms)) = subst (λ (o : Option Tree). IsStorable (under_own stand_in (object ms) o)) none h in
    record { document = fronted (text u) ms (is_id u is.long) refl s.document.names; limits = same_broken u (codes "00000000-0000-0000-0000-000000000000") ms is stands_in ∙ s.limits }
takes null u h none is = absurd h.document.id
takes (boolean b) u h none is = absurd h.document.id
takes (number n) u h none is = absurd h.document.id
takes (text s) u h none is = absurd h.document.id
takes (date d) u h none is = absurd h.document.id
takes (list ts) u h none is = absurd h.document.id

pub keeps : (t id : Tree) → IsInsertable t → id_in t ≡ Some id → IsStorable t
keeps t id h some = subst (λ (o : Option Tree). IsStorable (under_own stand_in t o)) some h
