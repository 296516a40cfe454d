-- The id of a document that breaks no limit is short.
use Rattle.std.proofs.Common.{◌≡◌, ℕ, ◌+◌, ◌≤◌, Bool, true, false, cond, List, [], ◌∷◌, ◌++◌, length, map, Option, Some, None, refl, ap, arith}
use Rattle.std.specs.Prelude.{nat_lt, codes, MatchOption, unwrap_or}
use Rattle.std.specs.Str.{bytes_eq}
use Rattle.std.proofs.lemmas.Bool.Decides.{nat_tests}
use Rattle.json_tree.specs.Tree.{Tree, null, boolean, number, text, date, list, object, Members, no_members, member, list_of_members}
use Rattle.json_tree.specs.Bytes.{length-bytes_high_first}
use Rattle.json_tree.specs.Members.{member_at}
use Rattle.json_tree.specs.Doc.{IsDocument, id_in}
use Rattle.json_tree.specs.Id.{IsId, number_bytes, date_bytes, top_inverted}
use Rattle.doc_limits.specs.Limits.{broken, greatest, first_of, at_most, at_least_one, has_empty_name, longest_path}
use Rattle.json_text.specs.Print.{capped, text_of}
use Rattle.doc_limits.specs.Values.{values_in, values_in_members, text_bytes, levels, members_count, elements_count}
use Rattle.doc_limits.specs.Names.{names_in}
use Rattle.doc_limits.specs.declared.limits.Broken.{Broken}
use Rattle.shred_cols.specs.Row.{id_of}
use Rattle.col_keeper.specs.Tables.{IsShort}

-- ---- the bytes of a text inside a document

abbrev longest : List Tree → ℕ
longest ts = greatest (map text_bytes ts)

longest-left : (xs ys : List Tree) → longest xs ≤ longest (xs ++ ys)
longest-left [] ys = omega arith
longest-left (x ∷ xs) ys = omega (arith, longest-left xs ys)

longest-right : (xs ys : List Tree) → longest ys ≤ longest (xs ++ ys)
longest-right [] ys = omega arith
longest-right (x ∷ xs) ys = omega (arith, longest-right xs ys)

own : (t : Tree) → text_bytes t ≤ longest (values_in t)
own null = omega arith
own (boolean b) = omega arith
own (number n) = omega arith
own (text t) = omega arith
own (date d) = omega arith
own (list ts) = omega arith
own (object ms) = omega arith

member_bytes : (name : List ℕ) (ms : Members) (i : Tree) → member_at name (list_of_members ms) ≡ Some i → text_bytes i ≤ longest (values_in_members ms)
member_bytes name no_members i e = cc
member_bytes name (member n t ms) i e =
    elim (bytes_eq n name) as (λ b. cond b (Some t) (member_at name (list_of_members ms)) ≡ Some i → text_bytes i ≤ longest (values_in t ++ values_in_members ms)) [
      | true ↦ λ e. (let same = ap text_bytes (inside t i e) in omega (arith, own t, longest-left (values_in t) (values_in_members ms)))
      | false ↦ λ e. omega (arith, member_bytes name ms i e, longest-right (values_in t) (values_in_members ms))
    ] e
  where
    inside : (a b : Tree) → Some a ≡ Some b → a ≡ b
    inside a b e = cc

id_bytes : (d i : Tree) → id_in d ≡ Some i → text_bytes i ≤ longest (values_in d)
id_bytes (object ms) i e = omega (arith, member_bytes (codes "_id") ms i e)
id_bytes null i e = cc
id_bytes (boolean b) i e = cc
id_bytes (number n) i e = cc
id_bytes (text t) i e = cc
id_bytes (date d) i e = cc
id_bytes (list ts) i e = cc

-- ---- the last limit

rest_none : (b : Option Broken) (bs : List (Option Broken)) → first_of (b ∷ bs) ≡ None → first_of bs ≡ None
rest_none None bs e = e
rest_none (Some b) bs e = cc

first_none : (b : Option Broken) (bs : List (Option Broken)) → first_of (b ∷ bs) ≡ None → b ≡ None
first_none None bs e = refl
first_none (Some b) bs e = cc

under : (bound count : ℕ) (found : Broken) (b : Bool) → nat_lt bound count ≡ b → cond b (Some found) None ≡ None → count ≤ bound
under bound count found true q e = cc
under bound count found false q e = grind (arith, nat_tests)

within : (limit bound count : ℕ) → at_most limit bound count ≡ None → count ≤ bound
within limit bound count e = under bound count (record { limit = limit; bound = bound; found = capped count }) (nat_lt bound count) refl e

ninth : (a b c d e f g h i : Option Broken) → first_of (a ∷ b ∷ c ∷ d ∷ e ∷ f ∷ g ∷ h ∷ i ∷ []) ≡ None → i ≡ None
ninth a b c d e f g h i q = first_none i [] (rest_none h (i ∷ []) (rest_none g (h ∷ i ∷ []) (rest_none f (g ∷ h ∷ i ∷ []) (rest_none e (f ∷ g ∷ h ∷ i ∷ []) (rest_none d (e ∷ f ∷ g ∷ h ∷ i ∷ []) (rest_none c (d ∷ e ∷ f ∷ g ∷ h ∷ i ∷ []) (rest_none b (c ∷ d ∷ e ∷ f ∷ g ∷ h ∷ i ∷ []) (rest_none a (b ∷ c ∷ d ∷ e ∷ f ∷ g ∷ h ∷ i ∷ []) q))))))))

texts_short : (t : Tree) → broken t ≡ None → longest (values_in t) ≤ 8000
texts_short t e =
    within 9 8000 (longest (values_in t)) (ninth
    (at_most 1 1000000 (length (text_of t)))
    (at_most 2 16 (levels t))
    (at_least_one 3 (has_empty_name t))
    (at_most 4 100 (greatest (map length (names_in t))))
    (at_most 5 1000 (longest_path t))
    (at_most 6 1000 (greatest (map members_count (values_in t))))
    (at_most 7 2000 (length (names_in t)))
    (at_most 8 1000 (greatest (map elements_count (values_in t))))
    (at_most 9 8000 (longest (values_in t)))
    e)

-- ---- key bytes

key_short : (i : Tree) → IsId i → text_bytes i ≤ 8000 → IsShort i
unfolding number_bytes date_bytes
key_short null h l = omega arith
key_short (boolean b) h l = omega arith
key_short (number n) h l = let e = length-bytes_high_first 16 (top_inverted 127 n) in omega arith
key_short (text t) h l = omega arith
key_short (date d) h l = let e = length-bytes_high_first 8 (top_inverted 63 d) in omega arith
key_short (list ts) h l = omega arith
key_short (object ms) h l = omega arith

pub short_id : (d : Tree) → IsDocument d → broken d ≡ None → IsShort (id_of d)
short_id d h e = go (id_in d) refl h.id
  where
    go : (o : Option Tree) → id_in d ≡ o → MatchOption o ⊥ IsId → IsShort (unwrap_or o null)
    go None q i = absurd i
    go (Some i) q is = let b = id_bytes d i q in let t = texts_short d e in key_short i is (omega arith)
