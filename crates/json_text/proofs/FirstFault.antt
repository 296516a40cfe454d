-- A run stops at the first fault.
use Rattle.std.proofs.Common.{◌≡◌, ℕ, suc, ◌≤◌, List, [], ◌∷◌, length, Bool, true, false, cond, ltb, Some, None, refl, ap, arith}
use Rattle.std.proofs.lemmas.Bool.{lt-ltb, ltb-true, ltb-false}
use Rattle.std.specs.Prelude.{⊤, IsTrue}
use Rattle.json_text.specs.Token.{Token, begin_object, end_object, begin_array, end_array, name_separator, value_separator, string, number, boolean, null, end}
use Rattle.json_text.specs.Grammar.{Json, no_elements, no_fields, text_tokens, levels, has_numbers, erased}
use Rattle.json_text.specs.Grammar as json
use Rattle.json_text.specs.FaultKinds.{syntax, too_deep, out_of_range, opens}
use Rattle.json_text.specs.Machine.{Values, Slot, whole, element_of, member_of, Place, want, first_element, after_element, first_name, name_of, colon_of, after_member, complete, State, Step, more, done, fault, at, deliver, close, opened, step_value, step, texts, texts_with}

abbrev pub Open : Type 0
Open = List (Slot Json)

-- the same steps with more levels, and with any numeral
abbrev pub lax : ℕ → Values Json
lax n = texts_with (Some (json.number None)) n

-- what a step with the limits says of one without
abbrev pub Agrees : Step Json → Step Json → Type 0
Agrees (more s) l = l ≡ more s
Agrees (done j) l = l ≡ done j
Agrees (fault syntax) l = l ≡ fault syntax
Agrees (fault k) l = ⊤

-- the cause of a fault other than of syntax
abbrev pub Cause : Open → Token → Step Json → Step Json → Type 0
Cause outer t (fault too_deep) l = IsTrue (opens t) × (32 ≤ length outer) × ((s : State Json) × (l ≡ more s))
Cause outer t (fault out_of_range) l = (t ≡ number None) × ((s : State Json) × (l ≡ more s))
Cause outer t st l = ⊤

agrees_deliver : (n : ℕ) (j : Json) (s : Slot Json) (outer : Open) → Agrees (deliver texts j s outer) (deliver (lax n) j s outer)
agrees_deliver n j whole outer = refl
agrees_deliver n j (element_of js) outer = refl
agrees_deliver n j (member_of ms k) outer = refl

agrees_close : (n : ℕ) (j : Json) (outer : Open) → Agrees (close texts j outer) (close (lax n) j outer)
agrees_close n j [] = refl
agrees_close n j (s ∷ outer) = agrees_deliver n j s outer

agrees_open : (n : ℕ) (b : Bool) (s : Slot Json) (outer : Open) (p : Place Json) → 32 ≤ n → ltb (length outer) 32 ≡ b → Agrees (cond b (at (s ∷ outer) p) (fault too_deep)) (opened (lax n) s outer p)
agrees_open n true s outer p h e = ap (λ b. cond b (at (s ∷ outer) p) (fault too_deep)) (lt-ltb (length outer) n (omega (arith, ltb-true (length outer) 32 e)))
agrees_open n false s outer p h e = tt

module _ (n : ℕ) (wide : 32 ≤ n) where
  agrees_value : (outer : Open) (s : Slot Json) (t : Token) → Agrees (step_value texts outer s t) (step_value (lax n) outer s t)
  agrees_value outer s begin_object = agrees_open n _ s outer first_name wide refl
  agrees_value outer s begin_array = agrees_open n _ s outer first_element wide refl
  agrees_value outer s (string b) = agrees_deliver n _ s outer
  agrees_value outer s (number None) = tt
  agrees_value outer s (number (Some z)) = agrees_deliver n _ s outer
  agrees_value outer s (boolean b) = agrees_deliver n _ s outer
  agrees_value outer s null = agrees_deliver n _ s outer
  agrees_value outer s t = refl

  pub agrees_at : (outer : Open) (p : Place Json) (t : Token) → Agrees (step texts (record { outer = outer; place = p }) t) (step (lax n) (record { outer = outer; place = p }) t)
  unfolding step
  agrees_at outer (want s) t = agrees_value outer s t
  agrees_at outer first_element end_array = agrees_close n _ outer
  agrees_at outer first_element begin_object = agrees_value outer (element_of []) begin_object
  agrees_at outer first_element begin_array = agrees_value outer (element_of []) begin_array
  agrees_at outer first_element (string b) = agrees_value outer (element_of []) (string b)
  agrees_at outer first_element (number z) = agrees_value outer (element_of []) (number z)
  agrees_at outer first_element (boolean b) = agrees_value outer (element_of []) (boolean b)
  agrees_at outer first_element null = agrees_value outer (element_of []) null
  agrees_at outer first_element t = refl
  agrees_at outer (after_element js) value_separator = refl
  agrees_at outer (after_element js) end_array = agrees_close n _ outer
  agrees_at outer (after_element js) t = refl
  agrees_at outer first_name (string k) = refl
  agrees_at outer first_name end_object = agrees_close n _ outer
  agrees_at outer first_name t = refl
  agrees_at outer (name_of ms) (string k) = refl
  agrees_at outer (name_of ms) t = refl
  agrees_at outer (colon_of ms k) name_separator = refl
  agrees_at outer (colon_of ms k) t = refl
  agrees_at outer (after_member ms) value_separator = refl
  agrees_at outer (after_member ms) end_object = agrees_close n _ outer
  agrees_at outer (after_member ms) t = refl
  agrees_at outer (complete j) end = refl
  agrees_at outer (complete j) t = refl

no_cause_deliver : (outer : Open) (t : Token) (l : Step Json) (j : Json) (s : Slot Json) (o : Open) → Cause outer t (deliver texts j s o) l
no_cause_deliver outer t l j whole o = tt
no_cause_deliver outer t l j (element_of js) o = tt
no_cause_deliver outer t l j (member_of ms k) o = tt

no_cause_close : (outer : Open) (t : Token) (l : Step Json) (j : Json) (o : Open) → Cause outer t (close texts j o) l
no_cause_close outer t l j [] = tt
no_cause_close outer t l j (s ∷ o) = no_cause_deliver outer t l j s o

cause_open : (b : Bool) (t : Token) (s : Slot Json) (outer : Open) (p : Place Json) → IsTrue (opens t) → ltb (length outer) 32 ≡ b → Cause outer t (cond b (at (s ∷ outer) p) (fault too_deep)) (opened (lax (suc (length outer))) s outer p)
cause_open true t s outer p o e = tt
cause_open false t s outer p o e =
    (o, ltb-false (length outer) 32 e, (record { outer = s ∷ outer; place = p }, ap (λ b. cond b (at (s ∷ outer) p) (fault too_deep)) (lt-ltb (length outer) (suc (length outer)) (omega arith))))

some_state : (n : ℕ) (j : Json) (s : Slot Json) (outer : Open) → (next : State Json) × (deliver (lax n) j s outer ≡ more next)
some_state n j whole outer = (_, refl)
some_state n j (element_of js) outer = (_, refl)
some_state n j (member_of ms k) outer = (_, refl)

cause_value : (outer : Open) (s : Slot Json) (t : Token) → Cause outer t (step_value texts outer s t) (step_value (lax (suc (length outer))) outer s t)
cause_value outer s begin_object = cause_open _ begin_object s outer first_name refl refl
cause_value outer s begin_array = cause_open _ begin_array s outer first_element refl refl
cause_value outer s (string b) = no_cause_deliver outer (string b) (step_value (lax (suc (length outer))) outer s (string b)) _ s outer
cause_value outer s (number None) = (refl, some_state (suc (length outer)) (json.number None) s outer)
cause_value outer s (number (Some z)) = no_cause_deliver outer (number (Some z)) (step_value (lax (suc (length outer))) outer s (number (Some z))) _ s outer
cause_value outer s (boolean b) = no_cause_deliver outer (boolean b) (step_value (lax (suc (length outer))) outer s (boolean b)) _ s outer
cause_value outer s null = no_cause_deliver outer null (step_value (lax (suc (length outer))) outer s null) _ s outer
cause_value outer s t = tt

pub cause_at : (outer : Open) (p : Place Json) (t : Token) → Cause outer t (step texts (record { outer = outer; place = p }) t) (step (lax (suc (length outer))) (record { outer = outer; place = p }) t)
unfolding step
cause_at outer (want s) t = cause_value outer s t
cause_at outer first_element end_array = no_cause_close outer end_array (step (lax (suc (length outer))) (record { outer = outer; place = first_element }) end_array) _ outer
cause_at outer first_element begin_object = cause_value outer (element_of []) begin_object
cause_at outer first_element begin_array = cause_value outer (element_of []) begin_array
cause_at outer first_element (string b) = cause_value outer (element_of []) (string b)
cause_at outer first_element (number z) = cause_value outer (element_of []) (number z)
cause_at outer first_element (boolean b) = cause_value outer (element_of []) (boolean b)
cause_at outer first_element null = cause_value outer (element_of []) null
cause_at outer first_element t = tt
cause_at outer (after_element js) value_separator = tt
cause_at outer (after_element js) end_array = no_cause_close outer end_array (step (lax (suc (length outer))) (record { outer = outer; place = (after_element js) }) end_array) _ outer
cause_at outer (after_element js) t = tt
cause_at outer first_name (string k) = tt
cause_at outer first_name end_object = no_cause_close outer end_object (step (lax (suc (length outer))) (record { outer = outer; place = first_name }) end_object) _ outer
cause_at outer first_name t = tt
cause_at outer (name_of ms) (string k) = tt
cause_at outer (name_of ms) t = tt
cause_at outer (colon_of ms k) name_separator = tt
cause_at outer (colon_of ms k) t = tt
cause_at outer (after_member ms) value_separator = tt
cause_at outer (after_member ms) end_object = no_cause_close outer end_object (step (lax (suc (length outer))) (record { outer = outer; place = (after_member ms) }) end_object) _ outer
cause_at outer (after_member ms) t = tt
cause_at outer (complete j) end = tt
cause_at outer (complete j) t = tt
