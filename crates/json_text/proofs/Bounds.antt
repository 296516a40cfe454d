-- What is built has 32 levels at most, and numbers.
use Rattle.std.proofs.Common.{◌≡◌, ℕ, suc, ◌+◌, ◌<◌, ◌≤◌, List, [], ◌∷◌, ◌++◌, length, Bool, true, false, cond, ltb, ◌&&◌, Some, None, refl, sym, ◌∙◌, arith}
use Rattle.std.proofs.lemmas.Bool.{ltb-true, true≢false}
use Rattle.std.specs.Prelude.{⊤, IsTrue}
use Rattle.json_text.specs.Token.{Token, begin_object, end_object, begin_array, end_array, name_separator, value_separator, string, number, boolean, null, end}
use Rattle.json_text.specs.Grammar.{Json, no_elements, no_fields, levels, elements_levels, fields_levels, has_numbers, elements_have_numbers, fields_have_numbers}
use Rattle.json_text.specs.Grammar as json
use Rattle.json_text.specs.FaultKinds.{too_deep, opens}
use Rattle.json_text.specs.Machine.{Slot, whole, element_of, member_of, Place, want, first_element, after_element, first_name, name_of, colon_of, after_member, complete, State, Step, more, done, fault, at, deliver, close, step_value, step, start, texts, elements_of, fields_of}

abbrev Pairs : Type 0
Pairs = List (List ℕ × Json)

abbrev Open : Type 0
Open = List (Slot Json)

-- inside k levels
pub record Low (k : ℕ) (j : Json) : Type 0 where
  pub low : levels j + k ≤ 32
  pub numbers : has_numbers j ≡ true

abbrev pub AllLow : ℕ → List Json → Type 0
AllLow k [] = ⊤
AllLow k (j ∷ js) = Low k j × AllLow k js

abbrev pub PairsLow : ℕ → Pairs → Type 0
PairsLow k [] = ⊤
PairsLow k (m ∷ ms) = Low k m.1 × PairsLow k ms

abbrev pub SlotLow : ℕ → Slot Json → Type 0
SlotLow k whole = ⊤
SlotLow k (element_of js) = AllLow k js
SlotLow k (member_of ms n) = PairsLow k ms

abbrev pub OuterLow : Open → Type 0
OuterLow [] = ⊤
OuterLow (s ∷ outer) = SlotLow (length outer) s × OuterLow outer

abbrev pub PlaceLow : ℕ → Place Json → Type 0
PlaceLow k (want s) = SlotLow k s
PlaceLow k (after_element js) = AllLow k js
PlaceLow k (name_of ms) = PairsLow k ms
PlaceLow k (colon_of ms n) = PairsLow k ms
PlaceLow k (after_member ms) = PairsLow k ms
PlaceLow k (complete j) = Low k j
PlaceLow k p = ⊤

pub record Bounded (s : State Json) : Type 0 where
  pub nested : length s.outer ≤ 32
  pub outer : OuterLow s.outer
  pub place : PlaceLow (length s.outer) s.place

abbrev pub StepBounded : Step Json → Type 0
StepBounded (more s) = Bounded s
StepBounded (done j) = Low 0 j
StepBounded (fault k) = ⊤

AllLow-push : (k : ℕ) (js : List Json) (j : Json) → AllLow k js → Low k j → AllLow k (js ++ j ∷ [])
AllLow-push k [] j h l = (l, tt)
AllLow-push k (i ∷ js) j h l = (h.0, AllLow-push k js j h.1 l)

PairsLow-push : (k : ℕ) (ms : Pairs) (n : List ℕ) (j : Json) → PairsLow k ms → Low k j → PairsLow k (ms ++ (n, j) ∷ [])
PairsLow-push k [] n j h l = (l, tt)
PairsLow-push k (m ∷ ms) n j h l = (h.0, PairsLow-push k ms n j h.1 l)

array_low : (k : ℕ) (js : List Json) → AllLow (suc k) js → suc k ≤ 32 → (suc (elements_levels (elements_of js)) + k ≤ 32) × (elements_have_numbers (elements_of js) ≡ true)
array_low k [] h l = (omega arith, refl)
array_low k (j ∷ js) h l = let rest = array_low k js h.1 l in (omega (arith, h.0.low, rest.0), λ i. h.0.numbers i && rest.1 i)

object_low : (k : ℕ) (ms : Pairs) → PairsLow (suc k) ms → suc k ≤ 32 → (suc (fields_levels (fields_of ms)) + k ≤ 32) × (fields_have_numbers (fields_of ms) ≡ true)
object_low k [] h l = (omega arith, refl)
object_low k (m ∷ ms) h l = let rest = object_low k ms h.1 l in (omega (arith, h.0.low, rest.0), λ i. h.0.numbers i && rest.1 i)

delivers : (j : Json) (s : Slot Json) (outer : Open) → length outer ≤ 32 → OuterLow outer → SlotLow (length outer) s → Low (length outer) j → StepBounded (deliver texts j s outer)
delivers j whole outer n o g l = record { nested = n; outer = o; place = l }
delivers j (element_of js) outer n o g l = record { nested = n; outer = o; place = AllLow-push _ js j g l }
delivers j (member_of ms k) outer n o g l = record { nested = n; outer = o; place = PairsLow-push _ ms k j g l }

closes_array : (js : List Json) (outer : Open) → length outer ≤ 32 → OuterLow outer → AllLow (length outer) js → StepBounded (close texts (json.array (elements_of js)) outer)
closes_array js [] n o g = tt
closes_array js (s ∷ outer) n o g = let l = array_low (length outer) js g n in delivers (json.array (elements_of js)) s outer (omega arith) o.1 o.0 (record { low = l.0; numbers = l.1 })

closes_object : (ms : Pairs) (outer : Open) → length outer ≤ 32 → OuterLow outer → PairsLow (length outer) ms → StepBounded (close texts (json.object (fields_of ms)) outer)
closes_object ms [] n o g = tt
closes_object ms (s ∷ outer) n o g = let l = object_low (length outer) ms g n in delivers (json.object (fields_of ms)) s outer (omega arith) o.1 o.0 (record { low = l.0; numbers = l.1 })

opens_low : (b : Bool) (s : Slot Json) (outer : Open) (p : Place Json) → ltb (length outer) 32 ≡ b → PlaceLow (suc (length outer)) p → OuterLow outer → SlotLow (length outer) s → StepBounded (cond b (at (s ∷ outer) p) (fault too_deep))
opens_low true s outer p e f o g = record { nested = omega (arith, ltb-true (length outer) 32 e); outer = (g, o); place = f }
opens_low false s outer p e f o g = tt

leaf : (k : ℕ) (j : Json) → levels j ≡ 0 → has_numbers j ≡ true → k ≤ 32 → Low k j
leaf k j z h n = record { low = omega arith; numbers = h }

values : (outer : Open) (s : Slot Json) (t : Token) → length outer ≤ 32 → OuterLow outer → SlotLow (length outer) s → StepBounded (step_value texts outer s t)
values outer s begin_object n o g = opens_low _ s outer first_name refl tt o g
values outer s begin_array n o g = opens_low _ s outer first_element refl tt o g
values outer s (string b) n o g = delivers (json.string b) s outer n o g (leaf _ (json.string b) refl refl n)
values outer s (number None) n o g = tt
values outer s (number (Some z)) n o g = delivers (json.number (Some z)) s outer n o g (leaf _ (json.number (Some z)) refl refl n)
values outer s (boolean b) n o g = delivers (json.boolean b) s outer n o g (leaf _ (json.boolean b) refl refl n)
values outer s null n o g = delivers json.null s outer n o g (leaf _ json.null refl refl n)
values outer s t n o g = tt

pub bounded_at : (outer : Open) (p : Place Json) (t : Token) → Bounded (record { outer = outer; place = p }) → StepBounded (step texts (record { outer = outer; place = p }) t)
unfolding step
bounded_at outer (want s) t b = values outer s t b.nested b.outer b.place
bounded_at outer first_element end_array b = closes_array [] outer b.nested b.outer tt
bounded_at outer first_element begin_object b = values outer (element_of []) begin_object b.nested b.outer tt
bounded_at outer first_element begin_array b = values outer (element_of []) begin_array b.nested b.outer tt
bounded_at outer first_element (string s) b = values outer (element_of []) (string s) b.nested b.outer tt
bounded_at outer first_element (number z) b = values outer (element_of []) (number z) b.nested b.outer tt
bounded_at outer first_element (boolean s) b = values outer (element_of []) (boolean s) b.nested b.outer tt
bounded_at outer first_element null b = values outer (element_of []) null b.nested b.outer tt
bounded_at outer first_element t b = tt
bounded_at outer (after_element js) value_separator b = record { nested = b.nested; outer = b.outer; place = b.place }
bounded_at outer (after_element js) end_array b = closes_array js outer b.nested b.outer b.place
bounded_at outer (after_element js) t b = tt
bounded_at outer first_name (string n) b = record { nested = b.nested; outer = b.outer; place = tt }
bounded_at outer first_name end_object b = closes_object [] outer b.nested b.outer tt
bounded_at outer first_name t b = tt
bounded_at outer (name_of ms) (string n) b = record { nested = b.nested; outer = b.outer; place = b.place }
bounded_at outer (name_of ms) t b = tt
bounded_at outer (colon_of ms n) name_separator b = record { nested = b.nested; outer = b.outer; place = b.place }
bounded_at outer (colon_of ms n) t b = tt
bounded_at outer (after_member ms) value_separator b = record { nested = b.nested; outer = b.outer; place = b.place }
bounded_at outer (after_member ms) end_object b = closes_object ms outer b.nested b.outer b.place
bounded_at outer (after_member ms) t b = tt
bounded_at outer (complete j) end b = record { low = omega (arith, b.place.low); numbers = b.place.numbers }
bounded_at outer (complete j) t b = tt

pub bounded_start : Bounded start
bounded_start = record { nested = omega arith; outer = tt; place = tt }

-- ---- a level that opens is at most the 32nd

abbrev pub OpensLow : Open → Token → Step Json → Type 0
OpensLow outer t (more s) = IsTrue (opens t) → length outer < 32
OpensLow outer t st = ⊤

shut : (t : Token) (outer : Open) (st : Step Json) → opens t ≡ false → OpensLow outer t st
shut t outer (more s) e = λ h. absurd (true≢false (sym h ∙ e))
shut t outer (done j) e = tt
shut t outer (fault k) e = tt

low_open : (b : Bool) (t : Token) (s : Slot Json) (outer : Open) (p : Place Json) → ltb (length outer) 32 ≡ b → OpensLow outer t (cond b (at (s ∷ outer) p) (fault too_deep))
low_open true t s outer p e = λ _. ltb-true (length outer) 32 e
low_open false t s outer p e = tt

low_value : (outer : Open) (s : Slot Json) (t : Token) → OpensLow outer t (step_value texts outer s t)
low_value outer s begin_object = low_open _ begin_object s outer first_name refl
low_value outer s begin_array = low_open _ begin_array s outer first_element refl
low_value outer s (string b) = shut (string b) outer _ refl
low_value outer s (number None) = tt
low_value outer s (number (Some z)) = shut (number (Some z)) outer _ refl
low_value outer s (boolean b) = shut (boolean b) outer _ refl
low_value outer s null = shut null outer _ refl
low_value outer s t = tt

pub low_at : (outer : Open) (p : Place Json) (t : Token) → OpensLow outer t (step texts (record { outer = outer; place = p }) t)
unfolding step
low_at outer (want s) t = low_value outer s t
low_at outer first_element end_array = shut end_array outer _ refl
low_at outer first_element begin_object = low_value outer (element_of []) begin_object
low_at outer first_element begin_array = low_value outer (element_of []) begin_array
low_at outer first_element (string b) = low_value outer (element_of []) (string b)
low_at outer first_element (number z) = low_value outer (element_of []) (number z)
low_at outer first_element (boolean b) = low_value outer (element_of []) (boolean b)
low_at outer first_element null = low_value outer (element_of []) null
low_at outer first_element t = tt
low_at outer (after_element js) value_separator = λ h. absurd (true≢false (sym h))
low_at outer (after_element js) end_array = shut end_array outer _ refl
low_at outer (after_element js) t = tt
low_at outer first_name (string n) = λ h. absurd (true≢false (sym h))
low_at outer first_name end_object = shut end_object outer _ refl
low_at outer first_name t = tt
low_at outer (name_of ms) (string n) = λ h. absurd (true≢false (sym h))
low_at outer (name_of ms) t = tt
low_at outer (colon_of ms n) name_separator = λ h. absurd (true≢false (sym h))
low_at outer (colon_of ms n) t = tt
low_at outer (after_member ms) value_separator = λ h. absurd (true≢false (sym h))
low_at outer (after_member ms) end_object = shut end_object outer _ refl
low_at outer (after_member ms) t = tt
low_at outer (complete j) end = tt
low_at outer (complete j) t = tt

-- a numeral whose value is no number is never passed
abbrev pub Passed : Step Json → Type 0
Passed (more s) = ⊥
Passed st = ⊤

pub never_passed : (outer : Open) (p : Place Json) → Passed (step texts (record { outer = outer; place = p }) (number None))
unfolding step
never_passed outer (want s) = tt
never_passed outer first_element = tt
never_passed outer (after_element js) = tt
never_passed outer first_name = tt
never_passed outer (name_of ms) = tt
never_passed outer (colon_of ms n) = tt
never_passed outer (after_member ms) = tt
never_passed outer (complete j) = tt

-- ---- only the end ends a run

abbrev pub EndOnly : Token → Step Json → Type 0
EndOnly t (done j) = t ≡ end
EndOnly t st = ⊤

end_deliver : (t : Token) (j : Json) (s : Slot Json) (outer : Open) → EndOnly t (deliver texts j s outer)
end_deliver t j whole outer = tt
end_deliver t j (element_of js) outer = tt
end_deliver t j (member_of ms n) outer = tt

end_close : (t : Token) (j : Json) (outer : Open) → EndOnly t (close texts j outer)
end_close t j [] = tt
end_close t j (s ∷ outer) = end_deliver t j s outer

end_open : (b : Bool) (t : Token) (s : Slot Json) (outer : Open) (p : Place Json) → EndOnly t (cond b (at (s ∷ outer) p) (fault too_deep))
end_open true t s outer p = tt
end_open false t s outer p = tt

end_value : (outer : Open) (s : Slot Json) (t : Token) → EndOnly t (step_value texts outer s t)
end_value outer s begin_object = end_open (ltb (length outer) 32) begin_object s outer first_name
end_value outer s begin_array = end_open (ltb (length outer) 32) begin_array s outer first_element
end_value outer s (string b) = end_deliver (string b) (json.string b) s outer
end_value outer s (number None) = tt
end_value outer s (number (Some z)) = end_deliver (number (Some z)) (json.number (Some z)) s outer
end_value outer s (boolean b) = end_deliver (boolean b) (json.boolean b) s outer
end_value outer s null = end_deliver null json.null s outer
end_value outer s t = tt

pub end_at : (outer : Open) (p : Place Json) (t : Token) → EndOnly t (step texts (record { outer = outer; place = p }) t)
unfolding step
end_at outer (want s) t = end_value outer s t
end_at outer first_element end_array = end_close end_array (json.array no_elements) outer
end_at outer first_element begin_object = end_value outer (element_of []) begin_object
end_at outer first_element begin_array = end_value outer (element_of []) begin_array
end_at outer first_element (string b) = end_value outer (element_of []) (string b)
end_at outer first_element (number z) = end_value outer (element_of []) (number z)
end_at outer first_element (boolean b) = end_value outer (element_of []) (boolean b)
end_at outer first_element null = end_value outer (element_of []) null
end_at outer first_element t = tt
end_at outer (after_element js) value_separator = tt
end_at outer (after_element js) end_array = end_close end_array (json.array (elements_of js)) outer
end_at outer (after_element js) t = tt
end_at outer first_name (string n) = tt
end_at outer first_name end_object = end_close end_object (json.object no_fields) outer
end_at outer first_name t = tt
end_at outer (name_of ms) (string n) = tt
end_at outer (name_of ms) t = tt
end_at outer (colon_of ms n) name_separator = tt
end_at outer (colon_of ms n) t = tt
end_at outer (after_member ms) value_separator = tt
end_at outer (after_member ms) end_object = end_close end_object (json.object (fields_of ms)) outer
end_at outer (after_member ms) t = tt
end_at outer (complete j) end = refl
end_at outer (complete j) t = tt
