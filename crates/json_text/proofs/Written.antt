-- The text's structure that a value is written as.
use Rattle.std.proofs.Common.{◌≡◌, ℕ, zero, suc, ◌*◌, ◌/◌, ◌%◌, ◌^◌, ◌<◌, ℤ, pos, negsuc, neg_ℤ, List, [], ◌∷◌, ◌++◌, map, max, true, false, cond, ◌&&◌, Some, None, refl, sym, ap, ap₂, ◌∙◌, arith, subst, ltb, leb, append_assoc}
use Rattle.std.proofs.lemmas.List.{append-nil}
use Rattle.std.proofs.lemmas.Bool.{lt-ltb, le-leb, eq-eqb, or_parts}
use Rattle.std.proofs.Math.Nat.{mul-mod_left, mul-div_cancel}
use Rattle.std.specs.List.{list_any}
use Rattle.std.specs.Str.{bytes_eq}
use Rattle.json_tree.specs.Tree.{Tree, Elements, no_elements, element, Members, no_members, member, elements_of, members_of, list_of_members}
use Rattle.json_tree.specs.Members.{put_member}
use Rattle.json_tree.specs.Tree as tree
use Rattle.json_text.specs.Grammar.{Json, null, boolean, number, string, array, object, Fields, no_fields, field, levels, fields_levels, has_numbers, elements_have_numbers, fields_have_numbers, date_or_object, object_value, tree_of, with_fields}
use Rattle.json_text.specs.Grammar as json
use Rattle.json_tree.specs.Dates.{whole_i64, date_name}
use Rattle.json_tree.specs.Writable.{tree_levels, elements_levels, members_levels, IsI64, IsWritable, AreWritable, MembersAreWritable}
use Rattle.json_tree.specs.Decimals.{ten_pos}

-- the units of a date's milliseconds
abbrev pub millis : ℤ → ℤ
millis (pos n) = pos (n * 10 ^ 18)
millis (negsuc n) = neg_ℤ (pos (suc n * 10 ^ 18))

abbrev mutual
  pub json_of : Tree → Json
  json_of tree.null = null
  json_of (tree.boolean b) = boolean b
  json_of (tree.number n) = number (Some n)
  json_of (tree.text s) = string s
  json_of (tree.date n) = object (field date_name (number (Some (millis n))) no_fields)
  json_of (tree.list vs) = array (elements_json vs)
  json_of (tree.object ms) = object (fields_json ms)

  pub elements_json : Elements → json.Elements
  elements_json no_elements = json.no_elements
  elements_json (element v vs) = json.element (json_of v) (elements_json vs)

  pub fields_json : Members → Fields
  fields_json no_members = no_fields
  fields_json (member n v ms) = field n (json_of v) (fields_json ms)

-- ---- its levels and numbers

mutual
  pub same_levels : (v : Tree) → levels (json_of v) ≡ tree_levels v
  same_levels tree.null = refl
  same_levels (tree.boolean b) = refl
  same_levels (tree.number n) = refl
  same_levels (tree.text s) = refl
  same_levels (tree.date n) = refl
  same_levels (tree.list vs) = ap suc (same_elements_levels vs)
  same_levels (tree.object ms) = ap suc (same_members_levels ms)

  same_elements_levels : (vs : Elements) → json.elements_levels (elements_json vs) ≡ elements_levels vs
  same_elements_levels no_elements = refl
  same_elements_levels (element v vs) = ap₂ max (same_levels v) (same_elements_levels vs)

  same_members_levels : (ms : Members) → fields_levels (fields_json ms) ≡ members_levels ms
  same_members_levels no_members = refl
  same_members_levels (member n v ms) = ap₂ max (same_levels v) (same_members_levels ms)

mutual
  pub all_numbers : (v : Tree) → has_numbers (json_of v) ≡ true
  all_numbers tree.null = refl
  all_numbers (tree.boolean b) = refl
  all_numbers (tree.number n) = refl
  all_numbers (tree.text s) = refl
  all_numbers (tree.date n) = refl
  all_numbers (tree.list vs) = all_elements_numbers vs
  all_numbers (tree.object ms) = all_members_numbers ms

  all_elements_numbers : (vs : Elements) → elements_have_numbers (elements_json vs) ≡ true
  all_elements_numbers no_elements = refl
  all_elements_numbers (element v vs) = ap₂ (λ a b. a && b) (all_numbers v) (all_elements_numbers vs)

  all_members_numbers : (ms : Members) → fields_have_numbers (fields_json ms) ≡ true
  all_members_numbers no_members = refl
  all_members_numbers (member n v ms) = ap₂ (λ a b. a && b) (all_numbers v) (all_members_numbers ms)

-- ---- its value

pub whole_of : (n : ℕ) → n * 10 ^ 18 % 10 ^ 18 ≡ 0
whole_of n = mul-mod_left n (10 ^ 18)

pub part_of : (n : ℕ) → n * 10 ^ 18 / 10 ^ 18 ≡ n
part_of n = mul-div_cancel n (ten_pos 18)

whole_pos : (m n : ℕ) → m % 10 ^ 18 ≡ 0 → m / 10 ^ 18 ≡ n → n < 2 ^ 63 → whole_i64 (pos m) ≡ Some (pos n)
whole_pos m n zeros is small = ap₂ (λ b q. cond (b && ltb q (2 ^ 63)) (Some (pos q)) None) (eq-eqb (m % 10 ^ 18) 0 zeros) is ∙ ap (λ b. cond b (Some (pos n)) None) (lt-ltb n (2 ^ 63) small)

whole_neg : (m n : ℕ) → 0 < m → m % 10 ^ 18 ≡ 0 → m / 10 ^ 18 ≡ suc n → n < 2 ^ 63 → whole_i64 (neg_ℤ (pos m)) ≡ Some (negsuc n)
whole_neg zero n some zeros is small = absurd (omega arith)
whole_neg (suc m) n some zeros is small =
    ap₂ (λ b q. cond (b && leb q (2 ^ 63)) (Some (neg_ℤ (pos q))) None) (eq-eqb (suc m % 10 ^ 18) 0 zeros) is ∙ ap (λ b. cond b (Some (negsuc n)) None) (le-leb (suc n) (2 ^ 63) (omega arith))

pub whole_millis : (n : ℤ) → IsI64 n → whole_i64 (millis n) ≡ Some n
whole_millis (pos n) h = whole_pos (n * 10 ^ 18) n (whole_of n) (part_of n) h
whole_millis (negsuc n) h = whole_neg (suc n * 10 ^ 18) n (omega arith) (whole_of (suc n)) (part_of (suc n)) h

put_new : (ms : List (List ℕ × Tree)) (n : List ℕ) (v : Tree) → list_any (λ m. bytes_eq m n) (map (λ m. m.0) ms) ≡ false → put_member n v ms ≡ ms ++ (n, v) ∷ []
put_new [] n v h = refl
put_new (m ∷ ms) n v h = let p = or_parts (bytes_eq m.0 n) (list_any (λ m. bytes_eq m n) (map (λ m. m.0) ms)) h in ap (λ b. cond b ((m.0, v) ∷ ms) (m ∷ put_member n v ms)) p.0 ∙ ap (λ l. m ∷ l) (put_new ms n v p.1)

names_push : (ms : List (List ℕ × Tree)) (n : List ℕ) (v : Tree) → map (λ m. m.0) (ms ++ (n, v) ∷ []) ≡ map (λ m. m.0) ms ++ n ∷ []
names_push [] n v = refl
names_push (m ∷ ms) n v = ap (λ l. m.0 ∷ l) (names_push ms n v)

members_again : (ms : Members) → members_of (list_of_members ms) ≡ ms
members_again no_members = refl
members_again (member n v ms) = ap (member n v) (members_again ms)

mutual
  pub tree_again : (v : Tree) → IsWritable v → tree_of (json_of v) ≡ v
  tree_again tree.null w = refl
  tree_again (tree.boolean b) w = refl
  tree_again (tree.number n) w = refl
  tree_again (tree.text s) w = refl
  tree_again (tree.date n) w = ap (λ o. date_or_object o ((date_name, tree.number (millis n)) ∷ [])) (whole_millis n w)
  tree_again (tree.list vs) w = ap tree.list (elements_again vs w)
  tree_again (tree.object ms) w = ap object_value (fields_again [] ms w.0) ∙ ap (λ o. date_or_object o (list_of_members ms)) w.1 ∙ ap tree.object (members_again ms)

  elements_again : (vs : Elements) → AreWritable vs → json.elements_of (elements_json vs) ≡ vs
  elements_again no_elements w = refl
  elements_again (element v vs) w = ap₂ element (tree_again v w.0) (elements_again vs w.1)

  fields_again : (before : List (List ℕ × Tree)) (ms : Members) → MembersAreWritable (map (λ m. m.0) before) ms → with_fields before (fields_json ms) ≡ before ++ list_of_members ms
  fields_again before no_members w = sym (append-nil before)
  fields_again before (member n v ms) w =
      ap (λ t. with_fields (put_member n t before) (fields_json ms)) (tree_again v w.2)
      ∙ ap (λ l. with_fields l (fields_json ms)) (put_new before n v w.1)
      ∙ fields_again (before ++ (n, v) ∷ []) ms (subst (λ names. MembersAreWritable names ms) (sym (names_push before n v)) w.3)
      ∙ append_assoc before ((n, v) ∷ []) (list_of_members ms)
