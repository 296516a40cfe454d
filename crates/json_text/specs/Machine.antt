-- What a reader knows between two tokens. Only the crate's private clauses cite it.
use Rattle.std.specs.Prelude.{ℕ, ℤ, List, [], ◌∷◌, ◌++◌, length, Bool, if◌then◌else◌, nat_lt, Option, Some, None}
use Rattle.json_tree.specs.Tree.{Tree}
use Rattle.json_tree.specs.Tree as tree
use Rattle.json_tree.specs.Members.{put_member}
use Rattle.json_text.specs.Token.{Token, Placed, begin_object, end_object, begin_array, end_array, name_separator, value_separator, string, number, boolean, null, end}
use Rattle.json_text.specs.Grammar.{Json, Elements, no_elements, element, Fields, no_fields, field, object_value}
use Rattle.json_text.specs.Grammar as json
use Rattle.json_text.specs.FaultKinds.{Kind, syntax, too_deep, out_of_range}

-- Values, as they are built, and how many levels may open. A reader builds trees; the same steps build the text's own structure.
pub record Values (V : Type 0) : Type 0 where
  pub null_value : V
  pub boolean_value : Bool → V
  pub number_value : ℤ → V
  -- what a numeral stands for whose value is no number
  pub unfit_value : Option V
  pub string_value : List ℕ → V
  pub array_value : List V → V
  pub object_value : List (List ℕ × V) → V
  pub put_value : List ℕ → V → List (List ℕ × V) → List (List ℕ × V)
  pub max_levels : ℕ

-- where a value goes
pub data Slot (V : Type 0) : Type 0 where
  whole : Slot V
  element_of : List V → Slot V
  member_of : List (List ℕ × V) → List ℕ → Slot V

-- what may stand next
pub data Place (V : Type 0) : Type 0 where
  want : Slot V → Place V
  first_element : Place V
  after_element : List V → Place V
  first_name : Place V
  name_of : List (List ℕ × V) → Place V
  colon_of : List (List ℕ × V) → List ℕ → Place V
  after_member : List (List ℕ × V) → Place V
  complete : V → Place V

-- where the values of the levels that are open go, the innermost first
pub record State (V : Type 0) : Type 0 where
  pub outer : List (Slot V)
  pub place : Place V

pub data Step (V : Type 0) : Type 0 where
  more : State V → Step V
  done : V → Step V
  fault : Kind → Step V

abbrev pub at : {V : Type 0} → List (Slot V) → Place V → Step V
at outer place = more (record { outer = outer; place = place })

abbrev pub deliver : {V : Type 0} → Values V → V → Slot V → List (Slot V) → Step V
deliver vs v whole outer = at outer (complete v)
deliver vs v (element_of es) outer = at outer (after_element (es ++ v ∷ []))
deliver vs v (member_of ms n) outer = at outer (after_member (vs.put_value n v ms))

abbrev pub close : {V : Type 0} → Values V → V → List (Slot V) → Step V
close vs v [] = fault syntax
close vs v (slot ∷ outer) = deliver vs v slot outer

abbrev pub opened : {V : Type 0} → Values V → Slot V → List (Slot V) → Place V → Step V
opened vs slot outer place = if nat_lt (length outer) vs.max_levels then at (slot ∷ outer) place else fault too_deep

abbrev pub unfit : {V : Type 0} → Values V → Option V → Slot V → List (Slot V) → Step V
unfit vs None slot outer = fault out_of_range
unfit vs (Some v) slot outer = deliver vs v slot outer

abbrev pub step_value : {V : Type 0} → Values V → List (Slot V) → Slot V → Token → Step V
step_value vs outer slot begin_object = opened vs slot outer first_name
step_value vs outer slot begin_array = opened vs slot outer first_element
step_value vs outer slot (string s) = deliver vs (vs.string_value s) slot outer
step_value vs outer slot (number None) = unfit vs vs.unfit_value slot outer
step_value vs outer slot (number (Some n)) = deliver vs (vs.number_value n) slot outer
step_value vs outer slot (boolean b) = deliver vs (vs.boolean_value b) slot outer
step_value vs outer slot null = deliver vs vs.null_value slot outer
step_value vs outer slot t = fault syntax

abbrev pub step_first_element : {V : Type 0} → Values V → List (Slot V) → Token → Step V
step_first_element vs outer end_array = close vs (vs.array_value []) outer
step_first_element vs outer t = step_value vs outer (element_of []) t

abbrev pub step_element : {V : Type 0} → Values V → List (Slot V) → List V → Token → Step V
step_element vs outer es value_separator = at outer (want (element_of es))
step_element vs outer es end_array = close vs (vs.array_value es) outer
step_element vs outer es t = fault syntax

abbrev pub step_first_name : {V : Type 0} → Values V → List (Slot V) → Token → Step V
step_first_name vs outer (string n) = at outer (colon_of [] n)
step_first_name vs outer end_object = close vs (vs.object_value []) outer
step_first_name vs outer t = fault syntax

abbrev pub step_name : {V : Type 0} → List (Slot V) → List (List ℕ × V) → Token → Step V
step_name outer ms (string n) = at outer (colon_of ms n)
step_name outer ms t = fault syntax

abbrev pub step_colon : {V : Type 0} → List (Slot V) → List (List ℕ × V) → List ℕ → Token → Step V
step_colon outer ms n name_separator = at outer (want (member_of ms n))
step_colon outer ms n t = fault syntax

abbrev pub step_member : {V : Type 0} → Values V → List (Slot V) → List (List ℕ × V) → Token → Step V
step_member vs outer ms value_separator = at outer (name_of ms)
step_member vs outer ms end_object = close vs (vs.object_value ms) outer
step_member vs outer ms t = fault syntax

abbrev pub step_complete : {V : Type 0} → V → Token → Step V
step_complete v end = done v
step_complete v t = fault syntax

abbrev pub step_at : {V : Type 0} → Values V → List (Slot V) → Place V → Token → Step V
step_at vs outer (want slot) t = step_value vs outer slot t
step_at vs outer first_element t = step_first_element vs outer t
step_at vs outer (after_element es) t = step_element vs outer es t
step_at vs outer first_name t = step_first_name vs outer t
step_at vs outer (name_of ms) t = step_name outer ms t
step_at vs outer (colon_of ms n) t = step_colon outer ms n t
step_at vs outer (after_member ms) t = step_member vs outer ms t
step_at vs outer (complete v) t = step_complete v t

unfoldable pub step : {V : Type 0} → Values V → State V → Token → Step V
step vs s t = step_at vs s.outer s.place t

-- how a run ends
pub data End (V : Type 0) : Type 0 where
  built : V → End V
  refused : Kind → ℕ → End V
  unended : End V

-- after a step, the rest
abbrev pub then_run : {V : Type 0} → Step V → ℕ → (State V → End V) → End V
then_run (more s) place run = run s
then_run (done v) place run = built v
then_run (fault k) place run = refused k place

unfoldable pub run : {V : Type 0} → Values V → State V → List Placed → End V
run vs s [] = unended
run vs s (t ∷ ts) = then_run (step vs s t.token) t.at (λ next. run vs next ts)

abbrev pub start : {V : Type 0} → State V
start = record { outer = []; place = want whole }

-- ---- the kinds of values

abbrev pub trees : Values Tree
trees = record {
  null_value = tree.null;
  boolean_value = tree.boolean;
  number_value = tree.number;
  unfit_value = None;
  string_value = tree.text;
  array_value = λ vs. tree.list (tree.elements_of vs);
  object_value = object_value;
  put_value = put_member;
  max_levels = 32;
}

abbrev pub elements_of : List Json → Elements
elements_of [] = no_elements
elements_of (j ∷ js) = element j (elements_of js)

abbrev pub fields_of : List (List ℕ × Json) → Fields
fields_of [] = no_fields
fields_of (m ∷ ms) = field m.0 m.1 (fields_of ms)

-- what a text's structure is built of, with this many levels
abbrev pub texts_with : Option Json → ℕ → Values Json
texts_with unfit levels = record {
  null_value = json.null;
  boolean_value = json.boolean;
  number_value = λ n. json.number (Some n);
  unfit_value = unfit;
  string_value = json.string;
  array_value = λ js. json.array (elements_of js);
  object_value = λ ms. json.object (fields_of ms);
  put_value = λ n j ms. ms ++ (n, j) ∷ [];
  max_levels = levels;
}

abbrev pub texts : Values Json
texts = texts_with None 32
