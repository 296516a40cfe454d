-- The machine builds trees as it builds the text's own structure.
use Rattle.std.proofs.Common.{◌≡◌, ℕ, suc, List, [], ◌∷◌, ◌++◌, length, map, Bool, true, false, cond, ltb, Some, None, refl, sym, ap, ◌∙◌}
use Rattle.json_tree.specs.Tree.{Tree}
use Rattle.json_tree.specs.Tree as tree
use Rattle.json_tree.specs.Members.{put_member}
use Rattle.json_text.specs.Token.{Token, Placed, begin_object, end_object, begin_array, end_array, name_separator, string, number, boolean, null, end}
use Rattle.json_text.specs.Grammar.{Json, Elements, no_elements, element, Fields, no_fields, field, tree_of, with_fields, object_value}
use Rattle.json_text.specs.Grammar as json
use Rattle.json_text.specs.FaultKinds.{too_deep}
use Rattle.json_text.specs.Machine.{Slot, whole, element_of, member_of, Place, want, first_element, after_element, first_name, name_of, colon_of, after_member, complete, State, Step, more, done, fault, at, deliver, close, opened, step_value, step, End, built, refused, unended, then_run, run, trees, texts, elements_of, fields_of}

abbrev Pairs : Type 0
Pairs = List (List ℕ × Json)

-- members as they are kept, each name once
abbrev pub kept : Pairs → List (List ℕ × Tree)
kept ms = with_fields [] (fields_of ms)

abbrev pub slot : Slot Json → Slot Tree
slot whole = whole
slot (element_of js) = element_of (map tree_of js)
slot (member_of ms n) = member_of (kept ms) n

abbrev pub place : Place Json → Place Tree
place (want s) = want (slot s)
place first_element = first_element
place (after_element js) = after_element (map tree_of js)
place first_name = first_name
place (name_of ms) = name_of (kept ms)
place (colon_of ms n) = colon_of (kept ms) n
place (after_member ms) = after_member (kept ms)
place (complete j) = complete (tree_of j)

abbrev pub state : State Json → State Tree
state s = record { outer = map slot s.outer; place = place s.place }

abbrev pub step_of : Step Json → Step Tree
step_of (more s) = more (state s)
step_of (done j) = done (tree_of j)
step_of (fault k) = fault k

abbrev pub end_of : End Json → End Tree
end_of (built j) = built (tree_of j)
end_of (refused k at) = refused k at
end_of unended = unended

map-push : (js : List Json) (j : Json) → map tree_of (js ++ j ∷ []) ≡ map tree_of js ++ tree_of j ∷ []
map-push [] j = refl
map-push (k ∷ js) j = ap (λ l. tree_of k ∷ l) (map-push js j)

with-push : (first : List (List ℕ × Tree)) (ms : Pairs) (n : List ℕ) (j : Json) → with_fields first (fields_of (ms ++ (n, j) ∷ [])) ≡ put_member n (tree_of j) (with_fields first (fields_of ms))
with-push first [] n j = refl
with-push first (m ∷ ms) n j = with-push (put_member m.0 (tree_of m.1) first) ms n j

length-slots : (outer : List (Slot Json)) → length (map slot outer) ≡ length outer
length-slots [] = refl
length-slots (s ∷ outer) = ap (λ n. suc n) (length-slots outer)

elements-map : (js : List Json) → json.elements_of (elements_of js) ≡ tree.elements_of (map tree_of js)
elements-map [] = refl
elements-map (j ∷ js) = ap (tree.element (tree_of j)) (elements-map js)

delivers : (j : Json) (s : Slot Json) (outer : List (Slot Json)) → deliver trees (tree_of j) (slot s) (map slot outer) ≡ step_of (deliver texts j s outer)
delivers j whole outer = refl
delivers j (element_of js) outer = ap (λ l. at (map slot outer) (after_element l)) (sym (map-push js j))
delivers j (member_of ms n) outer = ap (λ l. at (map slot outer) (after_member l)) (sym (with-push [] ms n j))

closes : (j : Json) (v : Tree) (outer : List (Slot Json)) → v ≡ tree_of j → close trees v (map slot outer) ≡ step_of (close texts j outer)
closes j v [] e = refl
closes j v (s ∷ outer) e = ap (λ v. deliver trees v (slot s) (map slot outer)) e ∙ delivers j s outer

opens_by : (b : Bool) (s : Slot Json) (outer : List (Slot Json)) (p : Place Json) → cond b (at (slot s ∷ map slot outer) (place p)) (fault too_deep) ≡ step_of (cond b (at (s ∷ outer) p) (fault too_deep))
opens_by true s outer p = refl
opens_by false s outer p = refl

opens : (s : Slot Json) (outer : List (Slot Json)) (p : Place Json) → opened trees (slot s) (map slot outer) (place p) ≡ step_of (opened texts s outer p)
opens s outer p = ap (λ n. cond (ltb n 32) (at (slot s ∷ map slot outer) (place p)) (fault too_deep)) (length-slots outer) ∙ opens_by (ltb (length outer) 32) s outer p

values : (outer : List (Slot Json)) (s : Slot Json) (t : Token) → step_value trees (map slot outer) (slot s) t ≡ step_of (step_value texts outer s t)
values outer s begin_object = opens s outer first_name
values outer s begin_array = opens s outer first_element
values outer s (string b) = delivers (json.string b) s outer
values outer s (number None) = refl
values outer s (number (Some n)) = delivers (json.number (Some n)) s outer
values outer s (boolean b) = delivers (json.boolean b) s outer
values outer s null = delivers json.null s outer
values outer s t = refl

steps_at : (outer : List (Slot Json)) (p : Place Json) (t : Token) → step trees (state (record { outer = outer; place = p })) t ≡ step_of (step texts (record { outer = outer; place = p }) t)
unfolding step
steps_at outer (want s) t = values outer s t
steps_at outer first_element end_array = closes (json.array no_elements) _ outer refl
steps_at outer first_element begin_object = values outer (element_of []) begin_object
steps_at outer first_element begin_array = values outer (element_of []) begin_array
steps_at outer first_element (string b) = values outer (element_of []) (string b)
steps_at outer first_element (number n) = values outer (element_of []) (number n)
steps_at outer first_element (boolean b) = values outer (element_of []) (boolean b)
steps_at outer first_element null = values outer (element_of []) null
steps_at outer first_element t = refl
steps_at outer (after_element js) end_array = closes (json.array (elements_of js)) _ outer (ap tree.list (sym (elements-map js)))
steps_at outer (after_element js) t = refl
steps_at outer first_name end_object = closes (json.object no_fields) _ outer refl
steps_at outer first_name t = refl
steps_at outer (name_of ms) (string n) = refl
steps_at outer (name_of ms) t = refl
steps_at outer (colon_of ms n) name_separator = refl
steps_at outer (colon_of ms n) t = refl
steps_at outer (after_member ms) end_object = closes (json.object (fields_of ms)) _ outer refl
steps_at outer (after_member ms) t = refl
steps_at outer (complete j) end = refl
steps_at outer (complete j) t = refl

runs_by : (st : Step Json) (at : ℕ) (f : State Json → End Json) (g : State Tree → End Tree) → ((s : State Json) → g (state s) ≡ end_of (f s)) → then_run (step_of st) at g ≡ end_of (then_run st at f)
runs_by (more s) at f g h = h s
runs_by (done j) at f g h = refl
runs_by (fault k) at f g h = refl

-- what is built of trees is what is built of the text's structure, seen as a tree
pub runs : (ts : List Placed) (s : State Json) → run trees (state s) ts ≡ end_of (run texts s ts)
unfolding run
runs [] s = refl
runs (t ∷ ts) s =
    ap (λ st. then_run st t.at (λ next. run trees next ts)) (steps_at s.outer s.place t.token)
    ∙ runs_by (step texts s t.token) t.at (λ next. run texts next ts) (λ next. run trees next ts) (runs ts)
