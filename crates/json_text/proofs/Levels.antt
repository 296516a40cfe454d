-- Levels that open and close.
use Rattle.std.proofs.Common.{◌≡◌, ℕ, suc, ◌+◌, ◌-◌, List, [], ◌∷◌, ◌++◌, length, refl, ap, ◌∙◌, arith}
use Rattle.json_text.specs.Token.{Token, begin_object, end_object, begin_array, end_array, name_separator, value_separator, string}
use Rattle.json_text.specs.Grammar.{Json, Elements, no_elements, element, Fields, no_fields, field, tokens_of, elements_tokens, more_elements, fields_tokens, more_fields}
use Rattle.json_text.specs.Grammar as json
use Rattle.json_text.specs.FaultKinds.{open_levels}
use Rattle.json_text.specs.Machine.{Slot, whole, element_of, member_of, Place, want, first_element, after_element, first_name, name_of, colon_of, after_member, complete, State, elements_of, fields_of}
use Rattle.json_text.proofs.Reached.{elements_chain, fields_chain, slot_tokens, outer_tokens, place_tokens, SlotFits, OuterFits, Reached}

levels-append : (n : ℕ) (xs ys : List Token) → open_levels n (xs ++ ys) ≡ open_levels (open_levels n xs) ys
levels-append n [] ys = refl
levels-append n (begin_object ∷ ts) ys = levels-append (n + 1) ts ys
levels-append n (begin_array ∷ ts) ys = levels-append (n + 1) ts ys
levels-append n (end_object ∷ ts) ys = levels-append (n - 1) ts ys
levels-append n (end_array ∷ ts) ys = levels-append (n - 1) ts ys
levels-append n (t ∷ ts) ys = levels-append n ts ys

then_levels : (n m k : ℕ) (xs ys : List Token) → open_levels n xs ≡ m → open_levels m ys ≡ k → open_levels n (xs ++ ys) ≡ k
then_levels n m k xs ys e f = levels-append n xs ys ∙ ap (λ m. open_levels m ys) e ∙ f

back : (n : ℕ) → n + 1 - 1 ≡ n
back n = omega arith

mutual
  -- a value closes what it opens
  value_levels : (j : Json) (n : ℕ) → open_levels n (tokens_of j) ≡ n
  value_levels json.null n = refl
  value_levels (json.boolean b) n = refl
  value_levels (json.number z) n = refl
  value_levels (json.string s) n = refl
  value_levels (json.array es) n = then_levels (n + 1) (n + 1) n (elements_tokens es) (end_array ∷ []) (elements_levels es (n + 1)) (back n)
  value_levels (json.object fs) n = then_levels (n + 1) (n + 1) n (fields_tokens fs) (end_object ∷ []) (fields_levels fs (n + 1)) (back n)

  elements_levels : (es : Elements) (n : ℕ) → open_levels n (elements_tokens es) ≡ n
  elements_levels no_elements n = refl
  elements_levels (element j es) n = then_levels n n n (tokens_of j) (more_elements es) (value_levels j n) (more_elements_levels es n)

  more_elements_levels : (es : Elements) (n : ℕ) → open_levels n (more_elements es) ≡ n
  more_elements_levels no_elements n = refl
  more_elements_levels (element j es) n = then_levels n n n (tokens_of j) (more_elements es) (value_levels j n) (more_elements_levels es n)

  fields_levels : (fs : Fields) (n : ℕ) → open_levels n (fields_tokens fs) ≡ n
  fields_levels no_fields n = refl
  fields_levels (field s j fs) n = then_levels n n n (tokens_of j) (more_fields fs) (value_levels j n) (more_fields_levels fs n)

  more_fields_levels : (fs : Fields) (n : ℕ) → open_levels n (more_fields fs) ≡ n
  more_fields_levels no_fields n = refl
  more_fields_levels (field s j fs) n = then_levels n n n (tokens_of j) (more_fields fs) (value_levels j n) (more_fields_levels fs n)

elements_chain_levels : (js : List Json) (n : ℕ) → open_levels n (elements_chain js) ≡ n
elements_chain_levels [] n = refl
elements_chain_levels (j ∷ js) n = then_levels n n n (tokens_of j) (value_separator ∷ elements_chain js) (value_levels j n) (elements_chain_levels js n)

fields_chain_levels : (ms : List (List ℕ × Json)) (n : ℕ) → open_levels n (fields_chain ms) ≡ n
fields_chain_levels [] n = refl
fields_chain_levels (m ∷ ms) n = then_levels n n n (tokens_of m.1) (value_separator ∷ fields_chain ms) (value_levels m.1 n) (fields_chain_levels ms n)

slot_levels : (s : Slot Json) (outer : List (Slot Json)) → OuterFits outer → SlotFits s outer → open_levels 0 (outer_tokens outer ++ slot_tokens s) ≡ length outer
slot_levels whole [] o g = refl
slot_levels whole (s ∷ outer) o g = absurd (cc g)
slot_levels (element_of js) [] o g = absurd (omega arith)
slot_levels (member_of ms n) [] o g = absurd (omega arith)
slot_levels (element_of js) (s ∷ outer) o g =
    let one : length outer + 1 ≡ suc (length outer) = omega arith in
    then_levels 0 (length outer) (suc (length outer)) (outer_tokens outer ++ slot_tokens s) (begin_array ∷ elements_chain js) (slot_levels s outer o.1 o.0) (elements_chain_levels js (length outer + 1) ∙ one)
slot_levels (member_of ms n) (s ∷ outer) o g =
    let one : length outer + 1 ≡ suc (length outer) = omega arith in
    then_levels 0 (length outer) (suc (length outer)) (outer_tokens outer ++ slot_tokens s) (begin_object ∷ (fields_chain ms ++ string n ∷ name_separator ∷ [])) (slot_levels s outer o.1 o.0)
    (then_levels (length outer + 1) (length outer + 1) (length outer + 1) (fields_chain ms) (string n ∷ name_separator ∷ []) (fields_chain_levels ms (length outer + 1)) refl ∙ one)

-- inside the innermost level, which ts opened
inside : (s : Slot Json) (outer : List (Slot Json)) (ts : List Token) → OuterFits (s ∷ outer) → open_levels (length outer) ts ≡ length outer + 1 → open_levels 0 (outer_tokens (s ∷ outer) ++ ts) ≡ suc (length outer)
inside s outer ts o e = let one : length outer + 1 ≡ suc (length outer) = omega arith in then_levels 0 (length outer) (suc (length outer)) (outer_tokens (s ∷ outer)) ts (slot_levels s outer o.1 o.0) (e ∙ one)

levels_at : (outer : List (Slot Json)) (p : Place Json) (so_far : List Token) → Reached (record { outer = outer; place = p }) so_far → open_levels 0 (outer_tokens outer ++ place_tokens p) ≡ length outer
levels_at outer (want s) so_far r = slot_levels s outer r.outer r.place
levels_at [] (complete j) so_far r = value_levels j 0
levels_at (s ∷ outer) (complete j) so_far r = absurd (cc r.place)
levels_at [] first_element so_far r = absurd (omega (arith, r.place))
levels_at [] (after_element js) so_far r = absurd (omega (arith, r.place.0))
levels_at [] first_name so_far r = absurd (omega (arith, r.place))
levels_at [] (name_of ms) so_far r = absurd (omega (arith, r.place))
levels_at [] (colon_of ms n) so_far r = absurd (omega (arith, r.place))
levels_at [] (after_member ms) so_far r = absurd (omega (arith, r.place.0))
levels_at (s ∷ outer) first_element so_far r = inside s outer _ r.outer refl
levels_at (s ∷ outer) (after_element js) so_far r = inside s outer _ r.outer (elements_levels (elements_of js) _)
levels_at (s ∷ outer) first_name so_far r = inside s outer _ r.outer refl
levels_at (s ∷ outer) (name_of ms) so_far r = inside s outer _ r.outer (fields_chain_levels ms _)
levels_at (s ∷ outer) (colon_of ms n) so_far r = inside s outer _ r.outer (then_levels _ _ _ (fields_chain ms) (string n ∷ []) (fields_chain_levels ms (length outer + 1)) refl)
levels_at (s ∷ outer) (after_member ms) so_far r = inside s outer _ r.outer (fields_levels (fields_of ms) _)

-- the levels that are open are those of the state
pub reached_levels : (s : State Json) (so_far : List Token) → Reached s so_far → open_levels 0 so_far ≡ length s.outer
reached_levels s so_far r = ap (open_levels 0) r.spelled ∙ levels_at s.outer s.place so_far r
