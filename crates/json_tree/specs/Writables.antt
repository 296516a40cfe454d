-- A value is writable exactly where it is one of the program and holds no object that stands for a date.
use Rattle.std.proofs.Common.{◌≡◌, ℕ, Bool, true, false, ◌||◌, ◌&&◌, not, is_some, List, [], ◌∷◌, ◌++◌, Option, Some, None, refl, sym, ◌∙◌, ap, ap₂, IsTrue, cond}
use Rattle.std.specs.List.{list_any}
use Rattle.std.specs.Str.{bytes_eq}
use Rattle.std.proofs.lemmas.Bool.{and_parts, or_parts}
use Rattle.std.proofs.lemmas.List.Folds.{list_any-append}
use Rattle.std.proofs.lemmas.Slice.Eq.{bytes_eq-Decides}
use Rattle.json_tree.specs.Tree.{Tree, null, boolean, number, text, date, list, object, Elements, no_elements, element, Members, no_members, member, list_of_members}
use Rattle.json_tree.specs.Members.{member_at, all_distinct}
use Rattle.json_tree.specs.Dates.{date_of, date_name, whole_i64}
use Rattle.json_tree.specs.Doc.{is_dollar, has_dollar_name, elements_dollar_name, members_dollar_name}
use Rattle.json_tree.specs.Writable.{IsValue, AreValues, MembersAreValues, HoldsNoDateObject, HoldNoDateObject, MembersHoldNoDateObject, IsWritable, AreWritable, MembersAreWritable}

-- ---- names that differ

-- none of the names is that of a pair
abbrev Apart : List (List ℕ) → List (List ℕ × Tree) → Type 0
Apart names ps = (q : List ℕ) → list_any (λ m. bytes_eq m q) names ≡ true → is_some (member_at q ps) ≡ false

test_false : (b : Bool) → (b ≡ true → ⊥) → b ≡ false
test_false true h = absurd (h refl)
test_false false h = refl

not_true : (b : Bool) → not b ≡ true → b ≡ false
not_true true e = Prim.cc e
not_true false e = refl

behind : (b : Bool) (x : Tree) (o : Option Tree) → is_some (cond b (Some x) o) ≡ false → (b ≡ false) × (is_some o ≡ false)
behind true x o e = absurd (Prim.cc e)
behind false x o e = (refl, e)

apart_none : (ps : List (List ℕ × Tree)) → Apart [] ps
apart_none ps q h = absurd (Prim.cc h)

new_name : (names : List (List ℕ)) (n : List ℕ) (t : Tree) (ps : List (List ℕ × Tree)) → Apart names ((n, t) ∷ ps) → list_any (λ m. bytes_eq m n) names ≡ false
new_name names n t ps a = test_false _ (λ h.
    let e = (behind (bytes_eq n n) t (member_at n ps) (a n h)).0 in
    absurd (Prim.cc (sym ((bytes_eq-Decides n n).1 refl) ∙ e)))

apart_more : (names : List (List ℕ)) (n : List ℕ) (t : Tree) (ps : List (List ℕ × Tree)) → IsTrue (all_distinct ((n, t) ∷ ps)) → Apart names ((n, t) ∷ ps) → Apart (names ++ n ∷ []) ps
apart_more names n t ps d a q h = go (list_any (λ m. bytes_eq m q) names) (bytes_eq n q) refl refl (sym (list_any-append (λ m. bytes_eq m q) names (n ∷ [])) ∙ h)
  where
    go : (b c : Bool) → list_any (λ m. bytes_eq m q) names ≡ b → bytes_eq n q ≡ c → (b || (c || false)) ≡ true → is_some (member_at q ps) ≡ false
    go true c e f g = (behind (bytes_eq n q) t (member_at q ps) (a q e)).1
    go false true e f g = let same = (bytes_eq-Decides n q).0 f in ap (λ k. is_some (member_at k ps)) (sym same) ∙ not_true _ (and_parts (not (is_some (member_at n ps))) (all_distinct ps) d).0
    go false false e f g = absurd (Prim.cc g)

-- ---- what makes a value writable

mutual
  pub writable : (t : Tree) → IsValue t → HoldsNoDateObject t → IsWritable t
  writable null v d = tt
  writable (boolean b) v d = tt
  writable (number n) v d = v
  writable (text s) v d = v
  writable (date n) v d = v
  writable (list ts) v d = all_writable ts v d
  writable (object ps) v d = (members_writable [] ps v.1 v.0 (apart_none (list_of_members ps)) d.1, d.0)

  all_writable : (ts : Elements) → AreValues ts → HoldNoDateObject ts → AreWritable ts
  all_writable no_elements v d = tt
  all_writable (element t ts) v d = (writable t v.0 d.0, all_writable ts v.1 d.1)

  members_writable : (names : List (List ℕ)) (ps : Members) → MembersAreValues ps → IsTrue (all_distinct (list_of_members ps)) → Apart names (list_of_members ps) → MembersHoldNoDateObject ps → MembersAreWritable names ps
  members_writable names no_members v e a d = tt
  members_writable names (member n t ps) v e a d =
      (v.0, new_name names n t (list_of_members ps) a, writable t v.1 d.0, members_writable (names ++ n ∷ []) ps v.2 (and_parts _ _ e).1 (apart_more names n t (list_of_members ps) e a) d.1)

-- ---- what is writable is a value, with no object that stands for a date

or_right : (a b : Bool) → b ≡ true → (a || b) ≡ true
or_right true b e = refl
or_right false b e = e

or_left : (a b : Bool) → a ≡ true → (a || b) ≡ true
or_left true b e = refl
or_left false b e = Prim.cc e

named : (names : List (List ℕ)) (n : List ℕ) → list_any (λ m. bytes_eq m n) (names ++ n ∷ []) ≡ true
named names n = list_any-append (λ m. bytes_eq m n) names (n ∷ []) ∙ or_right _ _ (or_left (bytes_eq n n) false ((bytes_eq-Decides n n).1 refl))

-- no pair has one of the names before it
absent : (names : List (List ℕ)) (ps : Members) → MembersAreWritable names ps → Apart names (list_of_members ps)
absent names no_members w q h = refl
absent names (member n t ps) w q h = go (bytes_eq n q) refl (absent (names ++ n ∷ []) ps w.3 q (list_any-append (λ m. bytes_eq m q) names (n ∷ []) ∙ or_left _ _ h))
  where
    go : (b : Bool) → bytes_eq n q ≡ b → is_some (member_at q (list_of_members ps)) ≡ false → is_some (cond b (Some t) (member_at q (list_of_members ps))) ≡ false
    go true e k =
        let same = (bytes_eq-Decides n q).0 e in
        let there : list_any (λ m. bytes_eq m n) names ≡ true = ap (λ k. list_any (λ m. bytes_eq m k) names) same ∙ h in
        absurd (Prim.cc (sym there ∙ w.1))
    go false e k = k

distinct : (names : List (List ℕ)) (ps : Members) → MembersAreWritable names ps → IsTrue (all_distinct (list_of_members ps))
distinct names no_members w = refl
distinct names (member n t ps) w =
    ap₂ (λ a b. not a && b) (absent (names ++ n ∷ []) ps w.3 n (named names n)) (distinct (names ++ n ∷ []) ps w.3)

mutual
  pub writable_value : (t : Tree) → IsWritable t → IsValue t
  writable_value (list ts) w = writable_values ts w
  writable_value (object ps) w = (distinct [] ps w.0, writable_members [] ps w.0)
  writable_value null w = tt
  writable_value (boolean b) w = tt
  writable_value (number n) w = w
  writable_value (text s) w = w
  writable_value (date n) w = w

  writable_values : (ts : Elements) → AreWritable ts → AreValues ts
  writable_values no_elements w = tt
  writable_values (element t ts) w = (writable_value t w.0, writable_values ts w.1)

  writable_members : (names : List (List ℕ)) (ps : Members) → MembersAreWritable names ps → MembersAreValues ps
  writable_members names no_members w = tt
  writable_members names (member n t ps) w = (w.0, writable_value t w.2, writable_members (names ++ n ∷ []) ps w.3)

mutual
  pub holds_no_date_object : (t : Tree) → IsWritable t → HoldsNoDateObject t
  holds_no_date_object (list ts) w = hold_no_date_object ts w
  holds_no_date_object (object ps) w = (w.1, members_hold_no_date_object [] ps w.0)
  holds_no_date_object null w = tt
  holds_no_date_object (boolean b) w = tt
  holds_no_date_object (number n) w = tt
  holds_no_date_object (text s) w = tt
  holds_no_date_object (date n) w = tt

  hold_no_date_object : (ts : Elements) → AreWritable ts → HoldNoDateObject ts
  hold_no_date_object no_elements w = tt
  hold_no_date_object (element t ts) w = (holds_no_date_object t w.0, hold_no_date_object ts w.1)

  members_hold_no_date_object : (names : List (List ℕ)) (ps : Members) → MembersAreWritable names ps → MembersHoldNoDateObject ps
  members_hold_no_date_object names no_members w = tt
  members_hold_no_date_object names (member n t ps) w = (holds_no_date_object t w.2, members_hold_no_date_object (names ++ n ∷ []) ps w.3)

-- ---- a value with no member name that begins with `$`

no_dollar : (n : List ℕ) → is_dollar n ≡ false → bytes_eq n date_name ≡ false
no_dollar n h = test_false _ (λ e. let same = (bytes_eq-Decides n date_name).0 e in absurd (Prim.cc (sym (ap is_dollar same) ∙ h)))

no_date : (ps : Members) → members_dollar_name ps ≡ false → date_of (list_of_members ps) ≡ None
no_date no_members h = refl
no_date (member n (number z) no_members) h = ap (λ b. cond b (whole_i64 z) None) (no_dollar n (or_parts (is_dollar n) false (or_parts (is_dollar n || false) false h).0).0)
no_date (member n null no_members) h = refl
no_date (member n (boolean b) no_members) h = refl
no_date (member n (text s) no_members) h = refl
no_date (member n (date d) no_members) h = refl
no_date (member n (list ts) no_members) h = refl
no_date (member n (object qs) no_members) h = refl
no_date (member n (number z) (member m u ps)) h = refl
no_date (member n t (member m u ps)) h = refl

mutual
  pub no_date_object : (t : Tree) → has_dollar_name t ≡ false → HoldsNoDateObject t
  no_date_object (list ts) h = no_date_objects ts h
  no_date_object (object ps) h = (no_date ps h, no_date_members ps h)
  no_date_object null h = tt
  no_date_object (boolean b) h = tt
  no_date_object (number n) h = tt
  no_date_object (text s) h = tt
  no_date_object (date n) h = tt

  no_date_objects : (ts : Elements) → elements_dollar_name ts ≡ false → HoldNoDateObject ts
  no_date_objects no_elements h = tt
  no_date_objects (element t ts) h = let p = or_parts (has_dollar_name t) (elements_dollar_name ts) h in (no_date_object t p.0, no_date_objects ts p.1)

  no_date_members : (ps : Members) → members_dollar_name ps ≡ false → MembersHoldNoDateObject ps
  no_date_members no_members h = tt
  no_date_members (member n t ps) h =
      let p = or_parts (is_dollar n || has_dollar_name t) (members_dollar_name ps) h in
      (no_date_object t (or_parts (is_dollar n) (has_dollar_name t) p.0).1, no_date_members ps p.1)
