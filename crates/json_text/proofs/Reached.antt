-- The tokens that lead to a state, and how they can go on.
use Rattle.std.proofs.Common.{◌≡◌, ℕ, ◌<◌, List, [], ◌∷◌, ◌++◌, length, Bool, true, false, cond, ltb, Option, Some, None, refl, sym, ap, ◌∙◌, subst, append_assoc, arith}
use Rattle.std.proofs.lemmas.List.{append-nil}
use Rattle.std.specs.Prelude.{⊤}
use Rattle.json_text.specs.Token.{Token, begin_object, end_object, begin_array, end_array, name_separator, value_separator, string, number, boolean, null, end}
use Rattle.json_text.specs.Grammar.{Json, Elements, no_elements, element, Fields, no_fields, field, tokens_of, elements_tokens, more_elements, fields_tokens, more_fields, text_tokens}
use Rattle.json_text.specs.Grammar as json
use Rattle.json_text.specs.FaultKinds.{too_deep, Begins}
use Rattle.json_text.specs.Machine.{Values, Slot, whole, element_of, member_of, Place, want, first_element, after_element, first_name, name_of, colon_of, after_member, complete, State, Step, more, done, fault, at, deliver, close, unfit, step_value, step, start, texts_with, elements_of, fields_of}

abbrev Pairs : Type 0
Pairs = List (List ℕ × Json)

abbrev Open : Type 0
Open = List (Slot Json)

-- ---- the tokens that lead to a state

-- elements and members, each with its comma
abbrev pub elements_chain : List Json → List Token
elements_chain [] = []
elements_chain (j ∷ js) = tokens_of j ++ value_separator ∷ elements_chain js

abbrev pub fields_chain : Pairs → List Token
fields_chain [] = []
fields_chain (m ∷ ms) = string m.0 ∷ name_separator ∷ (tokens_of m.1 ++ value_separator ∷ fields_chain ms)

abbrev pub slot_tokens : Slot Json → List Token
slot_tokens whole = []
slot_tokens (element_of js) = begin_array ∷ elements_chain js
slot_tokens (member_of ms n) = begin_object ∷ (fields_chain ms ++ string n ∷ name_separator ∷ [])

abbrev pub outer_tokens : Open → List Token
outer_tokens [] = []
outer_tokens (s ∷ outer) = outer_tokens outer ++ slot_tokens s

abbrev pub place_tokens : Place Json → List Token
place_tokens (want s) = slot_tokens s
place_tokens first_element = begin_array ∷ []
place_tokens (after_element js) = begin_array ∷ elements_tokens (elements_of js)
place_tokens first_name = begin_object ∷ []
place_tokens (name_of ms) = begin_object ∷ fields_chain ms
place_tokens (colon_of ms n) = begin_object ∷ (fields_chain ms ++ string n ∷ [])
place_tokens (after_member ms) = begin_object ∷ fields_tokens (fields_of ms)
place_tokens (complete j) = tokens_of j

-- the whole text stands at the bottom, and a list or an object inside another place
abbrev pub SlotFits : Slot Json → Open → Type 0
SlotFits whole outer = outer ≡ []
SlotFits (element_of js) outer = 0 < length outer
SlotFits (member_of ms n) outer = 0 < length outer

abbrev pub OuterFits : Open → Type 0
OuterFits [] = ⊤
OuterFits (s ∷ outer) = SlotFits s outer × OuterFits outer

abbrev pub PlaceFits : Place Json → Open → Type 0
PlaceFits (want s) outer = SlotFits s outer
PlaceFits (after_element js) outer = (0 < length outer) × (0 < length js)
PlaceFits (after_member ms) outer = (0 < length outer) × (0 < length ms)
PlaceFits (complete j) outer = outer ≡ []
PlaceFits p outer = 0 < length outer

-- the tokens so far led to this state
pub record Reached (s : State Json) (so_far : List Token) : Type 0 where
  pub spelled : so_far ≡ outer_tokens s.outer ++ place_tokens s.place
  pub outer : OuterFits s.outer
  pub place : PlaceFits s.place s.outer

abbrev pub StepReached : Step Json → List Token → Type 0
StepReached (more s) so_far = Reached s so_far
StepReached (done j) so_far = so_far ≡ text_tokens j
StepReached (fault k) so_far = ⊤

-- ---- one more element or member

more_is_elements : (js : List Json) (j : Json) → more_elements (elements_of (js ++ j ∷ [])) ≡ value_separator ∷ elements_tokens (elements_of (js ++ j ∷ []))
more_is_elements [] j = refl
more_is_elements (k ∷ js) j = refl

elements-push : (js : List Json) (j : Json) → elements_tokens (elements_of (js ++ j ∷ [])) ≡ elements_chain js ++ tokens_of j
elements-push [] j = append-nil (tokens_of j)
elements-push (k ∷ js) j =
    ap (λ l. tokens_of k ++ l) (more_is_elements js j ∙ ap (λ l. value_separator ∷ l) (elements-push js j))
    ∙ sym (append_assoc (tokens_of k) (value_separator ∷ elements_chain js) (tokens_of j))

elements-comma : (js : List Json) → 0 < length js → elements_tokens (elements_of js) ++ value_separator ∷ [] ≡ elements_chain js
elements-comma [] h = absurd (omega arith)
elements-comma (j ∷ []) h = ap (λ l. l ++ value_separator ∷ []) (append-nil (tokens_of j))
elements-comma (j ∷ k ∷ js) h =
    append_assoc (tokens_of j) (value_separator ∷ elements_tokens (elements_of (k ∷ js))) (value_separator ∷ [])
    ∙ ap (λ l. tokens_of j ++ value_separator ∷ l) (elements-comma (k ∷ js) (omega arith))

more_is_fields : (ms : Pairs) (n : List ℕ) (j : Json) → more_fields (fields_of (ms ++ (n, j) ∷ [])) ≡ value_separator ∷ fields_tokens (fields_of (ms ++ (n, j) ∷ []))
more_is_fields [] n j = refl
more_is_fields (m ∷ ms) n j = refl

fields-push : (ms : Pairs) (n : List ℕ) (j : Json) → fields_tokens (fields_of (ms ++ (n, j) ∷ [])) ≡ fields_chain ms ++ string n ∷ name_separator ∷ tokens_of j
fields-push [] n j = ap (λ l. string n ∷ name_separator ∷ l) (append-nil (tokens_of j))
fields-push (m ∷ ms) n j =
    ap (λ l. string m.0 ∷ name_separator ∷ (tokens_of m.1 ++ l)) (more_is_fields ms n j ∙ ap (λ l. value_separator ∷ l) (fields-push ms n j))
    ∙ ap (λ l. string m.0 ∷ name_separator ∷ l) (sym (append_assoc (tokens_of m.1) (value_separator ∷ fields_chain ms) (string n ∷ name_separator ∷ tokens_of j)))

fields-comma : (ms : Pairs) → 0 < length ms → fields_tokens (fields_of ms) ++ value_separator ∷ [] ≡ fields_chain ms
fields-comma [] h = absurd (omega arith)
fields-comma (m ∷ []) h = ap (λ l. string m.0 ∷ name_separator ∷ (l ++ value_separator ∷ [])) (append-nil (tokens_of m.1))
fields-comma (m ∷ k ∷ ms) h =
    ap (λ l. string m.0 ∷ name_separator ∷ l) (append_assoc (tokens_of m.1) (value_separator ∷ fields_tokens (fields_of (k ∷ ms))) (value_separator ∷ []))
    ∙ ap (λ l. string m.0 ∷ name_separator ∷ (tokens_of m.1 ++ value_separator ∷ l)) (fields-comma (k ∷ ms) (omega arith))

pushed-long : {A : Type 0} (xs : List A) (x : A) → 0 < length (xs ++ x ∷ [])
pushed-long [] x = omega arith
pushed-long (y ∷ xs) x = omega arith

-- a value stands in its slot, after what stands before it
slot-array : (outer : List Token) (js : List Json) (j : Json) → (outer ++ slot_tokens (element_of js)) ++ tokens_of j ≡ outer ++ place_tokens (after_element (js ++ j ∷ []))
slot-array outer js j = append_assoc outer _ (tokens_of j) ∙ ap (λ l. outer ++ begin_array ∷ l) (sym (elements-push js j))

slot-object : (outer : List Token) (ms : Pairs) (n : List ℕ) (j : Json) → (outer ++ slot_tokens (member_of ms n)) ++ tokens_of j ≡ outer ++ place_tokens (after_member (ms ++ (n, j) ∷ []))
slot-object outer ms n j =
    append_assoc outer _ (tokens_of j) ∙ ap (λ l. outer ++ begin_object ∷ l) (append_assoc (fields_chain ms) (string n ∷ name_separator ∷ []) (tokens_of j) ∙ sym (fields-push ms n j))

-- one more token
grown : (old a b : List Token) (t : Token) → old ≡ a ++ b → old ++ t ∷ [] ≡ a ++ (b ++ t ∷ [])
grown old a b t e = ap (λ l. l ++ t ∷ []) e ∙ append_assoc a b (t ∷ [])

-- ---- steps

module _ (u : Option Json) (n : ℕ) (lax : (j : Json) → u ≡ Some j → j ≡ json.number None) where
  abbrev vs : Values Json
  vs = texts_with u n

  delivers : (j : Json) (s : Slot Json) (outer : Open) (so_far : List Token) → so_far ≡ (outer_tokens outer ++ slot_tokens s) ++ tokens_of j → OuterFits outer → SlotFits s outer → StepReached (deliver vs j s outer) so_far
  delivers j whole outer so_far e o g = record { spelled = e ∙ ap (λ l. l ++ tokens_of j) (append-nil (outer_tokens outer)); outer = o; place = g }
  delivers j (element_of js) outer so_far e o g = record { spelled = e ∙ slot-array (outer_tokens outer) js j; outer = o; place = (g, pushed-long js j) }
  delivers j (member_of ms n) outer so_far e o g = record { spelled = e ∙ slot-object (outer_tokens outer) ms n j; outer = o; place = (g, pushed-long ms (n, j)) }

  closes : (j : Json) (outer : Open) (so_far : List Token) → so_far ≡ outer_tokens outer ++ tokens_of j → OuterFits outer → StepReached (close vs j outer) so_far
  closes j [] so_far e o = tt
  closes j (s ∷ outer) so_far e o = delivers j s outer so_far e o.1 o.0

  opens : (b : Bool) (s : Slot Json) (outer : Open) (p : Place Json) (so_far : List Token) → so_far ≡ (outer_tokens outer ++ slot_tokens s) ++ place_tokens p → PlaceFits p (s ∷ outer) → OuterFits outer → SlotFits s outer
      → StepReached (cond b (at (s ∷ outer) p) (fault too_deep)) so_far
  opens true s outer p so_far e f o g = record { spelled = e; outer = (g, o); place = f }
  opens false s outer p so_far e f o g = tt

  unfits : (v : Option Json) (s : Slot Json) (outer : Open) (so_far : List Token) → v ≡ u → so_far ≡ (outer_tokens outer ++ slot_tokens s) ++ number None ∷ [] → OuterFits outer → SlotFits s outer → StepReached (unfit vs v s outer) so_far
  unfits None s outer so_far v e o g = tt
  unfits (Some j) s outer so_far v e o g = let is = lax j (sym v) in subst (λ j. StepReached (deliver vs j s outer) so_far) (sym is) (delivers (json.number None) s outer so_far e o g)

  values : (outer : Open) (s : Slot Json) (t : Token) (so_far : List Token) → so_far ≡ (outer_tokens outer ++ slot_tokens s) ++ t ∷ [] → OuterFits outer → SlotFits s outer → StepReached (step_value vs outer s t) so_far
  values outer s begin_object so_far e o g = opens (ltb (length outer) n) s outer first_name so_far e (omega arith) o g
  values outer s begin_array so_far e o g = opens (ltb (length outer) n) s outer first_element so_far e (omega arith) o g
  values outer s (string b) so_far e o g = delivers (json.string b) s outer so_far e o g
  values outer s (number None) so_far e o g = unfits u s outer so_far refl e o g
  values outer s (number (Some z)) so_far e o g = delivers (json.number (Some z)) s outer so_far e o g
  values outer s (boolean b) so_far e o g = delivers (json.boolean b) s outer so_far e o g
  values outer s null so_far e o g = delivers json.null s outer so_far e o g
  values outer s t so_far e o g = tt

  pub reached_at : (outer : Open) (p : Place Json) (t : Token) (so_far : List Token) → Reached (record { outer = outer; place = p }) so_far → StepReached (step vs (record { outer = outer; place = p }) t) (so_far ++ t ∷ [])
  unfolding step
  reached_at outer (want s) t so_far r = values outer s t _ (ap (λ l. l ++ t ∷ []) r.spelled) r.outer r.place
  reached_at outer first_element end_array so_far r = closes (json.array no_elements) outer _ (grown so_far _ _ _ r.spelled) r.outer
  reached_at outer first_element begin_object so_far r = values outer (element_of []) begin_object _ (ap (λ l. l ++ begin_object ∷ []) r.spelled) r.outer r.place
  reached_at outer first_element begin_array so_far r = values outer (element_of []) begin_array _ (ap (λ l. l ++ begin_array ∷ []) r.spelled) r.outer r.place
  reached_at outer first_element (string b) so_far r = values outer (element_of []) (string b) _ (ap (λ l. l ++ string b ∷ []) r.spelled) r.outer r.place
  reached_at outer first_element (number z) so_far r = values outer (element_of []) (number z) _ (ap (λ l. l ++ number z ∷ []) r.spelled) r.outer r.place
  reached_at outer first_element (boolean b) so_far r = values outer (element_of []) (boolean b) _ (ap (λ l. l ++ boolean b ∷ []) r.spelled) r.outer r.place
  reached_at outer first_element null so_far r = values outer (element_of []) null _ (ap (λ l. l ++ null ∷ []) r.spelled) r.outer r.place
  reached_at outer first_element t so_far r = tt
  reached_at outer (after_element js) value_separator so_far r =
      record { spelled = grown so_far _ _ _ r.spelled ∙ ap (λ l. outer_tokens outer ++ begin_array ∷ l) (elements-comma js r.place.1); outer = r.outer; place = r.place.0 }
  reached_at outer (after_element js) end_array so_far r = closes (json.array (elements_of js)) outer _ (grown so_far _ _ _ r.spelled) r.outer
  reached_at outer (after_element js) t so_far r = tt
  reached_at outer first_name (string n) so_far r = record { spelled = grown so_far _ _ _ r.spelled; outer = r.outer; place = r.place }
  reached_at outer first_name end_object so_far r = closes (json.object no_fields) outer _ (grown so_far _ _ _ r.spelled) r.outer
  reached_at outer first_name t so_far r = tt
  reached_at outer (name_of ms) (string n) so_far r = record { spelled = grown so_far _ _ _ r.spelled; outer = r.outer; place = r.place }
  reached_at outer (name_of ms) t so_far r = tt
  reached_at outer (colon_of ms n) name_separator so_far r =
      record { spelled = grown so_far _ _ _ r.spelled ∙ ap (λ l. outer_tokens outer ++ begin_object ∷ l) (append_assoc (fields_chain ms) (string n ∷ []) (name_separator ∷ [])); outer = r.outer; place = r.place }
  reached_at outer (colon_of ms n) t so_far r = tt
  reached_at outer (after_member ms) value_separator so_far r =
      record { spelled = grown so_far _ _ _ r.spelled ∙ ap (λ l. outer_tokens outer ++ begin_object ∷ l) (fields-comma ms r.place.1); outer = r.outer; place = r.place.0 }
  reached_at outer (after_member ms) end_object so_far r = closes (json.object (fields_of ms)) outer _ (grown so_far _ _ _ r.spelled) r.outer
  reached_at outer (after_member ms) t so_far r = tt
  reached_at outer (complete j) end so_far r = ap (λ l. l ++ end ∷ []) (r.spelled ∙ ap (λ o. outer_tokens o ++ tokens_of j) r.place)
  reached_at outer (complete j) t so_far r = tt

pub reached_start : Reached start []
reached_start = record { spelled = refl; outer = tt; place = refl }

-- ---- how a text can go on

-- a value in its slot can become a text
ends_up : (j : Json) (s : Slot Json) (outer : Open) (so_far : List Token) → so_far ≡ (outer_tokens outer ++ slot_tokens s) ++ tokens_of j → OuterFits outer → SlotFits s outer → Begins so_far
ends_up j whole [] so_far e o g = (j, end ∷ [], ap (λ l. l ++ end ∷ []) (sym e))
ends_up j whole (s ∷ outer) so_far e o g = absurd (cc g)
ends_up j (element_of js) [] so_far e o g = absurd (omega arith)
ends_up j (member_of ms n) [] so_far e o g = absurd (omega arith)
ends_up j (element_of js) (s ∷ outer) so_far e o g =
    let closed = grown so_far _ _ end_array (e ∙ slot-array (outer_tokens (s ∷ outer)) js j) in
    let more = ends_up (json.array (elements_of (js ++ j ∷ []))) s outer (so_far ++ end_array ∷ []) closed o.1 o.0 in
    (more.0, end_array ∷ more.1, more.2 ∙ append_assoc so_far (end_array ∷ []) more.1)
ends_up j (member_of ms n) (s ∷ outer) so_far e o g =
    let closed = grown so_far _ _ end_object (e ∙ slot-object (outer_tokens (s ∷ outer)) ms n j) in
    let more = ends_up (json.object (fields_of (ms ++ (n, j) ∷ []))) s outer (so_far ++ end_object ∷ []) closed o.1 o.0 in
    (more.0, end_object ∷ more.1, more.2 ∙ append_assoc so_far (end_object ∷ []) more.1)

goes_on : (so_far ts : List Token) → Begins (so_far ++ ts) → Begins so_far
goes_on so_far ts b = (b.0, ts ++ b.1, b.2 ∙ append_assoc so_far ts b.1)

-- the tokens that lead to a state begin a text
pub begins_at : (outer : Open) (p : Place Json) (so_far : List Token) → Reached (record { outer = outer; place = p }) so_far → Begins so_far
begins_at outer (want s) so_far r = goes_on so_far (null ∷ []) (ends_up json.null s outer _ (ap (λ l. l ++ null ∷ []) r.spelled) r.outer r.place)
begins_at outer first_element so_far r = goes_on so_far (null ∷ []) (ends_up json.null (element_of []) outer _ (ap (λ l. l ++ null ∷ []) r.spelled) r.outer r.place)
begins_at [] (after_element js) so_far r = absurd (omega (arith, r.place.0))
begins_at (s ∷ outer) (after_element js) so_far r =
    goes_on so_far (end_array ∷ []) (ends_up (json.array (elements_of js)) s outer _ (grown so_far _ _ _ r.spelled) r.outer.1 r.outer.0)
begins_at outer first_name so_far r =
    goes_on so_far (string [] ∷ name_separator ∷ null ∷ [])
    (ends_up json.null (member_of [] []) outer _ (ap (λ l. l ++ string [] ∷ name_separator ∷ null ∷ []) r.spelled ∙ regroup (outer_tokens outer) (begin_object ∷ []) (string [] ∷ name_separator ∷ []) (null ∷ [])) r.outer r.place)
  where
    regroup : (a b c d : List Token) → (a ++ b) ++ (c ++ d) ≡ (a ++ (b ++ c)) ++ d
    regroup a b c d = append_assoc a b (c ++ d) ∙ ap (λ l. a ++ l) (sym (append_assoc b c d)) ∙ sym (append_assoc a (b ++ c) d)
begins_at outer (name_of ms) so_far r =
    goes_on so_far (string [] ∷ name_separator ∷ null ∷ [])
    (ends_up json.null (member_of ms []) outer _ (ap (λ l. l ++ string [] ∷ name_separator ∷ null ∷ []) r.spelled ∙ regroup (outer_tokens outer) (begin_object ∷ fields_chain ms) (string [] ∷ name_separator ∷ []) (null ∷ [])) r.outer r.place)
  where
    regroup : (a b c d : List Token) → (a ++ b) ++ (c ++ d) ≡ (a ++ (b ++ c)) ++ d
    regroup a b c d = append_assoc a b (c ++ d) ∙ ap (λ l. a ++ l) (sym (append_assoc b c d)) ∙ sym (append_assoc a (b ++ c) d)
begins_at outer (colon_of ms n) so_far r =
    goes_on so_far (name_separator ∷ null ∷ [])
    (ends_up json.null (member_of ms n) outer _ (ap (λ l. l ++ name_separator ∷ null ∷ []) r.spelled ∙ regroup (outer_tokens outer) (begin_object ∷ (fields_chain ms ++ string n ∷ [])) (name_separator ∷ []) (null ∷ [])
    ∙ ap (λ l. (outer_tokens outer ++ begin_object ∷ l) ++ null ∷ []) (append_assoc (fields_chain ms) (string n ∷ []) (name_separator ∷ []))) r.outer r.place)
  where
    regroup : (a b c d : List Token) → (a ++ b) ++ (c ++ d) ≡ (a ++ (b ++ c)) ++ d
    regroup a b c d = append_assoc a b (c ++ d) ∙ ap (λ l. a ++ l) (sym (append_assoc b c d)) ∙ sym (append_assoc a (b ++ c) d)
begins_at [] (after_member ms) so_far r = absurd (omega (arith, r.place.0))
begins_at (s ∷ outer) (after_member ms) so_far r =
    goes_on so_far (end_object ∷ []) (ends_up (json.object (fields_of ms)) s outer _ (grown so_far _ _ _ r.spelled) r.outer.1 r.outer.0)
begins_at outer (complete j) so_far r = (j, end ∷ [], ap (λ l. l ++ end ∷ []) (sym (r.spelled ∙ ap (λ o. outer_tokens o ++ tokens_of j) r.place)))
