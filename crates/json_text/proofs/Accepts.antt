-- What the grammar spells, the machine builds.
use Rattle.std.proofs.Common.{◌≡◌, ℕ, suc, ◌+◌, ◌<◌, ◌≤◌, List, [], ◌∷◌, ◌++◌, length, Bool, true, cond, ◌&&◌, Option, Some, None, refl, sym, ap, ◌∙◌, append_assoc, arith}
use Rattle.std.proofs.lemmas.Bool.{lt-ltb, and_parts}
use Rattle.json_text.specs.Token.{Token, Placed, begin_object, end_object, begin_array, end_array, name_separator, value_separator, string, number, boolean, null, end}
use Rattle.json_text.specs.Grammar.{Json, Elements, no_elements, element, Fields, no_fields, field, tokens_of, elements_tokens, more_elements, fields_tokens, more_fields, text_tokens, levels, elements_levels, fields_levels, has_numbers, elements_have_numbers, fields_have_numbers, erased}
use Rattle.json_text.specs.Grammar as json
use Rattle.json_text.specs.FaultKinds.{Kind, too_deep}
use Rattle.json_text.specs.Machine.{unfit as unfit_step, Values, Slot, whole, element_of, member_of, Place, want, first_element, after_element, first_name, after_member, complete, State, Step, more, done, fault, at, deliver, opened, step_value, step, End, built, refused, unended, then_run, run, start, texts_with, elements_of, fields_of}

abbrev Pairs : Type 0
Pairs = List (List ℕ × Json)

-- ---- a run over tokens that stand nowhere

pub data Gone : Type 0 where
  gone : Json → Gone
  stopped : Kind → Gone
  unfinished : Gone

abbrev pub forget : End Json → Gone
forget (built j) = gone j
forget (refused k at) = stopped k
forget unended = unfinished

abbrev pub then_go : Step Json → (State Json → Gone) → Gone
then_go (more s) go = go s
then_go (done j) go = gone j
then_go (fault k) go = stopped k

unfoldable pub go : Values Json → State Json → List Token → Gone
go vs s [] = unfinished
go vs s (t ∷ ts) = then_go (step vs s t) (λ next. go vs next ts)

pub go_next : (vs : Values Json) (s : State Json) (t : Token) (ts : List Token) → go vs s (t ∷ ts) ≡ then_go (step vs s t) (λ next. go vs next ts)
unfolding go
go_next vs s t ts = refl

then_runs : (st : Step Json) (at : ℕ) (f : State Json → Gone) (g : State Json → End Json) → ((s : State Json) → f s ≡ forget (g s)) → then_go st f ≡ forget (then_run st at g)
then_runs (more s) at f g h = h s
then_runs (done j) at f g h = refl
then_runs (fault k) at f g h = refl

pub go_run : (vs : Values Json) (ts : List Placed) (s : State Json) → go vs s (erased ts) ≡ forget (run vs s ts)
unfolding run go
go_run vs [] s = refl
go_run vs (t ∷ ts) s = then_runs (step vs s t.token) t.at _ _ (go_run vs ts)

-- ---- elements and fields with others in front

abbrev elements_before : List Json → Elements → Elements
elements_before [] es = es
elements_before (j ∷ js) es = element j (elements_before js es)

elements_before-none : (js : List Json) → elements_before js no_elements ≡ elements_of js
elements_before-none [] = refl
elements_before-none (j ∷ js) = ap (element j) (elements_before-none js)

elements_before-push : (js : List Json) (j : Json) (es : Elements) → elements_before (js ++ j ∷ []) es ≡ elements_before js (element j es)
elements_before-push [] j es = refl
elements_before-push (k ∷ js) j es = ap (element k) (elements_before-push js j es)

abbrev fields_before : Pairs → Fields → Fields
fields_before [] fs = fs
fields_before (m ∷ ms) fs = field m.0 m.1 (fields_before ms fs)

fields_before-none : (ms : Pairs) → fields_before ms no_fields ≡ fields_of ms
fields_before-none [] = refl
fields_before-none (m ∷ ms) = ap (field m.0 m.1) (fields_before-none ms)

fields_before-push : (ms : Pairs) (n : List ℕ) (j : Json) (fs : Fields) → fields_before (ms ++ (n, j) ∷ []) fs ≡ fields_before ms (field n j fs)
fields_before-push [] n j fs = refl
fields_before-push (m ∷ ms) n j fs = ap (field m.0 m.1) (fields_before-push ms n j fs)

-- a text has numbers, or a numeral with none stands for itself
abbrev pub Fits : Option Json → Bool → Type 0
Fits None b = b ≡ true
Fits (Some u) b = u ≡ json.number None

pub fits_parts : (unfit : Option Json) (a b : Bool) → Fits unfit (a && b) → Fits unfit a × Fits unfit b
fits_parts None a b h = and_parts a b h
fits_parts (Some u) a b h = (h, h)

module _ (unfit : Option Json) (n : ℕ) where
  abbrev vs : Values Json
  vs = texts_with unfit n

  abbrev after : Step Json → List Token → Gone
  after st ts = then_go st (λ s. go vs s ts)

  module _ (outer : List (Slot Json)) (ts : List Token) where
    open_step : (slot : Slot Json) (t : Token) (p : Place Json) → length outer < n → step_value vs outer slot t ≡ opened vs slot outer p → go vs (record { outer = outer; place = want slot }) (t ∷ ts) ≡ go vs (record { outer = slot ∷ outer; place = p }) ts
    unfolding go step
    open_step slot t p h e = ap (λ st. then_go st (λ s. go vs s ts)) (e ∙ ap (λ b. cond b (at (slot ∷ outer) p) (fault too_deep)) (lt-ltb (length outer) n h))

    value_step : (slot : Slot Json) (t : Token) (j : Json) → step_value vs outer slot t ≡ deliver vs j slot outer → go vs (record { outer = outer; place = want slot }) (t ∷ ts) ≡ after (deliver vs j slot outer) ts
    unfolding go step
    value_step slot t j e = ap (λ st. then_go st (λ s. go vs s ts)) e

    go_first_name : (s : List ℕ) → go vs (record { outer = outer; place = first_name }) (string s ∷ name_separator ∷ ts) ≡ go vs (record { outer = outer; place = want (member_of [] s) }) ts
    unfolding go step
    go_first_name s = refl

    go_next_name : (ms : Pairs) (s : List ℕ) → go vs (record { outer = outer; place = after_member ms }) (value_separator ∷ string s ∷ name_separator ∷ ts) ≡ go vs (record { outer = outer; place = want (member_of ms s) }) ts
    unfolding go step
    go_next_name ms s = refl

    go_next_element : (js : List Json) → go vs (record { outer = outer; place = after_element js }) (value_separator ∷ ts) ≡ go vs (record { outer = outer; place = want (element_of js) }) ts
    unfolding go step
    go_next_element js = refl

  module _ (slot : Slot Json) (outer : List (Slot Json)) (ts : List Token) where
    close_object : (ms : Pairs) → go vs (record { outer = slot ∷ outer; place = after_member ms }) (end_object ∷ ts) ≡ after (deliver vs (json.object (fields_of ms)) slot outer) ts
    unfolding go step
    close_object ms = refl

    close_no_object : go vs (record { outer = slot ∷ outer; place = first_name }) (end_object ∷ ts) ≡ after (deliver vs (json.object no_fields) slot outer) ts
    unfolding go step
    close_no_object = refl

    close_array : (js : List Json) → go vs (record { outer = slot ∷ outer; place = after_element js }) (end_array ∷ ts) ≡ after (deliver vs (json.array (elements_of js)) slot outer) ts
    unfolding go step
    close_array js = refl

    close_no_array : go vs (record { outer = slot ∷ outer; place = first_element }) (end_array ∷ ts) ≡ after (deliver vs (json.array no_elements) slot outer) ts
    unfolding go step
    close_no_array = refl

  -- where the first element of an array may stand, a value is wanted
  first_is_wanted : (j : Json) (outer : List (Slot Json)) (ts : List Token) → go vs (record { outer = outer; place = first_element }) (tokens_of j ++ ts) ≡ go vs (record { outer = outer; place = want (element_of []) }) (tokens_of j ++ ts)
  unfolding go step
  first_is_wanted json.null outer ts = refl
  first_is_wanted (json.boolean b) outer ts = refl
  first_is_wanted (json.number z) outer ts = refl
  first_is_wanted (json.string s) outer ts = refl
  first_is_wanted (json.array es) outer ts = refl
  first_is_wanted (json.object fs) outer ts = refl

  unfit_value : (u : Option Json) (slot : Slot Json) (outer : List (Slot Json)) → u ≡ unfit → Fits u (has_numbers (json.number None)) → step_value vs outer slot (number None) ≡ deliver vs (json.number None) slot outer
  unfit_value None slot outer e h = absurd (cc h)
  unfit_value (Some u) slot outer e h =
      ap (λ o. unfit_step vs o slot outer) (sym e) ∙ ap (λ j. deliver vs j slot outer) h

  mutual
    -- from where a value is wanted, over its tokens, to where it goes
    pub accepts : (j : Json) (slot : Slot Json) (outer : List (Slot Json)) (ts : List Token) → levels j + length outer ≤ n → Fits unfit (has_numbers j)
        → go vs (record { outer = outer; place = want slot }) (tokens_of j ++ ts) ≡ after (deliver vs j slot outer) ts
    accepts json.null slot outer ts h k = value_step outer ts slot null json.null refl
    accepts (json.boolean b) slot outer ts h k = value_step outer ts slot (boolean b) (json.boolean b) refl
    accepts (json.number None) slot outer ts h k = value_step outer ts slot (number None) (json.number None) (unfit_value unfit slot outer refl k)
    accepts (json.number (Some z)) slot outer ts h k = value_step outer ts slot (number (Some z)) (json.number (Some z)) refl
    accepts (json.string s) slot outer ts h k = value_step outer ts slot (string s) (json.string s) refl
    accepts (json.array no_elements) slot outer ts h k = open_step outer (end_array ∷ ts) slot begin_array first_element (omega arith) refl ∙ close_no_array slot outer ts
    accepts (json.array (element j es)) slot outer ts h k =
        let both = fits_parts unfit (has_numbers j) _ k in
        let inner = tokens_of j ++ (more_elements es ++ end_array ∷ ts) in
        let regrouped : ((tokens_of j ++ more_elements es) ++ end_array ∷ []) ++ ts ≡ inner = append_assoc (tokens_of j ++ more_elements es) (end_array ∷ []) ts ∙ append_assoc (tokens_of j) (more_elements es) (end_array ∷ ts) in
        ap (λ l. go vs (record { outer = outer; place = want slot }) (begin_array ∷ l)) regrouped
        ∙ open_step outer inner slot begin_array first_element (omega arith) refl ∙ first_is_wanted j (slot ∷ outer) _
        ∙ accepts j (element_of []) (slot ∷ outer) (more_elements es ++ end_array ∷ ts) (omega arith) both.0 ∙ accepts_elements es (j ∷ []) slot outer ts (omega arith) both.1
    accepts (json.object no_fields) slot outer ts h k = open_step outer (end_object ∷ ts) slot begin_object first_name (omega arith) refl ∙ close_no_object slot outer ts
    accepts (json.object (field s j fs)) slot outer ts h k =
        let both = fits_parts unfit (has_numbers j) _ k in
        let inner = tokens_of j ++ (more_fields fs ++ end_object ∷ ts) in
        let regrouped : ((tokens_of j ++ more_fields fs) ++ end_object ∷ []) ++ ts ≡ inner = append_assoc (tokens_of j ++ more_fields fs) (end_object ∷ []) ts ∙ append_assoc (tokens_of j) (more_fields fs) (end_object ∷ ts) in
        ap (λ l. go vs (record { outer = outer; place = want slot }) (begin_object ∷ string s ∷ name_separator ∷ l)) regrouped
        ∙ open_step outer (string s ∷ name_separator ∷ inner) slot begin_object first_name (omega arith) refl ∙ go_first_name (slot ∷ outer) inner s
        ∙ accepts j (member_of [] s) (slot ∷ outer) (more_fields fs ++ end_object ∷ ts) (omega arith) both.0 ∙ accepts_fields fs ((s, j) ∷ []) slot outer ts (omega arith) both.1

    accepts_elements : (es : Elements) (js : List Json) (slot : Slot Json) (outer : List (Slot Json)) (ts : List Token) → suc (elements_levels es) + length outer ≤ n → Fits unfit (elements_have_numbers es)
        → go vs (record { outer = slot ∷ outer; place = after_element js }) (more_elements es ++ end_array ∷ ts) ≡ after (deliver vs (json.array (elements_before js es)) slot outer) ts
    accepts_elements no_elements js slot outer ts h k = close_array slot outer ts js ∙ ap (λ es. after (deliver vs (json.array es) slot outer) ts) (sym (elements_before-none js))
    accepts_elements (element j es) js slot outer ts h k =
        let both = fits_parts unfit (has_numbers j) _ k in
        ap (λ l. go vs (record { outer = slot ∷ outer; place = after_element js }) (value_separator ∷ l)) (append_assoc (tokens_of j) (more_elements es) (end_array ∷ ts))
        ∙ go_next_element (slot ∷ outer) _ js ∙ accepts j (element_of js) (slot ∷ outer) (more_elements es ++ end_array ∷ ts) (omega arith) both.0
        ∙ accepts_elements es (js ++ j ∷ []) slot outer ts (omega arith) both.1
        ∙ ap (λ es. after (deliver vs (json.array es) slot outer) ts) (elements_before-push js j es)

    accepts_fields : (fs : Fields) (ms : Pairs) (slot : Slot Json) (outer : List (Slot Json)) (ts : List Token) → suc (fields_levels fs) + length outer ≤ n → Fits unfit (fields_have_numbers fs)
        → go vs (record { outer = slot ∷ outer; place = after_member ms }) (more_fields fs ++ end_object ∷ ts) ≡ after (deliver vs (json.object (fields_before ms fs)) slot outer) ts
    accepts_fields no_fields ms slot outer ts h k = close_object slot outer ts ms ∙ ap (λ fs. after (deliver vs (json.object fs) slot outer) ts) (sym (fields_before-none ms))
    accepts_fields (field s j fs) ms slot outer ts h k =
        let both = fits_parts unfit (has_numbers j) _ k in
        ap (λ l. go vs (record { outer = slot ∷ outer; place = after_member ms }) (value_separator ∷ string s ∷ name_separator ∷ l)) (append_assoc (tokens_of j) (more_fields fs) (end_object ∷ ts))
        ∙ go_next_name (slot ∷ outer) _ ms s ∙ accepts j (member_of ms s) (slot ∷ outer) (more_fields fs ++ end_object ∷ ts) (omega arith) both.0
        ∙ accepts_fields fs (ms ++ (s, j) ∷ []) slot outer ts (omega arith) both.1
        ∙ ap (λ fs. after (deliver vs (json.object fs) slot outer) ts) (fields_before-push ms s j fs)

  go_end : (j : Json) → after (at [] (complete j)) (end ∷ []) ≡ gone j
  unfolding go step
  go_end j = refl

  -- a whole text
  pub accepts_text : (j : Json) → levels j ≤ n → Fits unfit (has_numbers j) → go vs start (text_tokens j) ≡ gone j
  accepts_text j h k = accepts j whole [] (end ∷ []) (omega arith) k ∙ go_end j
