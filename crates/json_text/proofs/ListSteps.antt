-- One step through a list of trees, or of pairs of name and tree.
use Rattle.std.proofs.Common.{◌≡◌, Bool, true, false, ◌==◌, ◌<◌, ◌+◌, ℕ, List, [], ◌∷◌, ◌++◌, length, drop, Some, refl, sym, ◌∙◌, ap, arith, slice_get, append_assoc}
use Rattle.std.proofs.lemmas.List.{length-append}
use Rattle.std.proofs.lemmas.Bool.{ne_eqb}
use Rattle.json_tree.specs.Tree.{Tree, Elements, element, Members, member, elements_of, members_of}
use Rattle.json_text.specs.Print.{capped, string_text, text_of, separator, elements_text, members_text, more_elements, more_members}
use Rattle.json_tree.specs.Falls.{elements_size-elements_of, members_size-members_of}
use Rattle.json_tree.specs.Sizes.{drop-at, at_end}

-- what is left to write of a list or an object, whose next part is the first one or not
abbrev pub rest_of_elements : Bool → Elements → List ℕ
rest_of_elements true vs = elements_text vs
rest_of_elements false vs = more_elements vs

abbrev pub rest_of_members : Bool → Members → List ℕ
rest_of_members true ms = members_text ms
rest_of_members false ms = more_members ms

-- ---- the text so far, after one part more

rest_text : (b : Bool) (t : Tree) (ts : Elements) → rest_of_elements b (element t ts) ≡ separator b ++ text_of t ++ more_elements ts
rest_text true t ts = refl
rest_text false t ts = refl

rest_members : (b : Bool) (n : List ℕ) (t : Tree) (ms : Members) → rest_of_members b (member n t ms) ≡ separator b ++ (string_text n ++ 58 ∷ (text_of t ++ more_members ms))
rest_members true n t ms = refl
rest_members false n t ms = refl

later : (i : ℕ) → false ≡ (i + 1 == 0)
later i = sym (ne_eqb (i + 1) 0 (λ e. omega (arith, e)))

elements_here : (ts : List Tree) (i : ℕ) (t : Tree) → Some t ≡ slice_get ts i
    → rest_of_elements (i == 0) (elements_of (drop i ts)) ≡ separator (i == 0) ++ text_of t ++ rest_of_elements (i + 1 == 0) (elements_of (drop (i + 1) ts))
elements_here ts i t at =
    ap (λ l. rest_of_elements (i == 0) (elements_of l)) (drop-at ts i t (sym at)) ∙ rest_text (i == 0) t (elements_of (drop (i + 1) ts))
    ∙ ap (λ b. separator (i == 0) ++ text_of t ++ rest_of_elements b (elements_of (drop (i + 1) ts))) (later i)

members_here : (ps : List (List ℕ × Tree)) (i : ℕ) (n : List ℕ) (t : Tree) → Some (n, t) ≡ slice_get ps i
    → rest_of_members (i == 0) (members_of (drop i ps)) ≡ separator (i == 0) ++ (string_text n ++ 58 ∷ (text_of t ++ rest_of_members (i + 1 == 0) (members_of (drop (i + 1) ps))))
members_here ps i n t at =
    ap (λ l. rest_of_members (i == 0) (members_of l)) (drop-at ps i (n, t) (sym at)) ∙ rest_members (i == 0) n t (members_of (drop (i + 1) ps))
    ∙ ap (λ b. separator (i == 0) ++ (string_text n ++ 58 ∷ (text_of t ++ rest_of_members b (members_of (drop (i + 1) ps))))) (later i)

pub elements_more : (ts : List Tree) (i : ℕ) (t : Tree) (from comma to end whole : List ℕ) → Some t ≡ slice_get ts i
    → from ++ (rest_of_elements (i == 0) (elements_of (drop i ts)) ++ end) ≡ whole → comma ≡ from ++ separator (i == 0) → to ≡ comma ++ text_of t
    → to ++ (rest_of_elements (i + 1 == 0) (elements_of (drop (i + 1) ts)) ++ end) ≡ whole
elements_more ts i t from comma to end whole at e p q =
    let rest = rest_of_elements (i + 1 == 0) (elements_of (drop (i + 1) ts)) in
    let joined : ((from ++ separator (i == 0)) ++ text_of t) ++ (rest ++ end) ≡ from ++ ((separator (i == 0) ++ text_of t ++ rest) ++ end) = simp append_assoc in
    rw (q, p) (joined ∙ ap (λ l. from ++ (l ++ end)) (sym (elements_here ts i t at)) ∙ e)

pub members_more : (ps : List (List ℕ × Tree)) (i : ℕ) (n : List ℕ) (t : Tree) (from comma named colon to end whole : List ℕ) → Some (n, t) ≡ slice_get ps i
    → from ++ (rest_of_members (i == 0) (members_of (drop i ps)) ++ end) ≡ whole → comma ≡ from ++ separator (i == 0) → named ≡ comma ++ string_text n → colon ≡ named ++ 58 ∷ []
    → to ≡ colon ++ text_of t → to ++ (rest_of_members (i + 1 == 0) (members_of (drop (i + 1) ps)) ++ end) ≡ whole
members_more ps i n t from comma named colon to end whole at e p q r s =
    let rest = rest_of_members (i + 1 == 0) (members_of (drop (i + 1) ps)) in
    let joined : ((((from ++ separator (i == 0)) ++ string_text n) ++ 58 ∷ []) ++ text_of t) ++ (rest ++ end) ≡ from ++ ((separator (i == 0) ++ (string_text n ++ 58 ∷ (text_of t ++ rest))) ++ end) =
    simp append_assoc in
    rw (s, r, q, p) (joined ∙ ap (λ l. from ++ (l ++ end)) (sym (members_here ps i n t at)) ∙ e)

-- ---- its length

pub elements_longer : (ts : List Tree) (i : ℕ) (t : Tree) (from comma to : ℕ) → Some t ≡ slice_get ts i → comma ≡ capped (from + length (separator (i == 0)))
    → to ≡ capped (comma + capped (length (text_of t)))
    → capped (to + (length (rest_of_elements (i + 1 == 0) (elements_of (drop (i + 1) ts))) + 1)) ≡ capped (from + (length (rest_of_elements (i == 0) (elements_of (drop i ts))) + 1))
elements_longer ts i t from comma to at p q =
    let rest = rest_of_elements (i + 1 == 0) (elements_of (drop (i + 1) ts)) in
    let here = ap length (elements_here ts i t at) ∙ length-append (separator (i == 0) ++ text_of t) rest ∙ ap (λ n. n + length rest) (length-append (separator (i == 0)) (text_of t)) in
    omega (arith, here, p, q)

pub members_longer : (ps : List (List ℕ × Tree)) (i : ℕ) (n : List ℕ) (t : Tree) (from comma named colon to : ℕ) → Some (n, t) ≡ slice_get ps i
    → comma ≡ capped (from + length (separator (i == 0))) → named ≡ capped (comma + capped (length (string_text n))) → colon ≡ capped (named + 1)
    → to ≡ capped (colon + capped (length (text_of t)))
    → capped (to + (length (rest_of_members (i + 1 == 0) (members_of (drop (i + 1) ps))) + 1)) ≡ capped (from + (length (rest_of_members (i == 0) (members_of (drop i ps))) + 1))
members_longer ps i n t from comma named colon to at p q r s =
    let rest = rest_of_members (i + 1 == 0) (members_of (drop (i + 1) ps)) in
    let here = ap length (members_here ps i n t at) ∙ length-append (separator (i == 0)) (string_text n ++ 58 ∷ (text_of t ++ rest)) in
    let more = length-append (string_text n) (58 ∷ (text_of t ++ rest)) in
    let last = length-append (text_of t) rest in
    omega (arith, here, more, last, p, q, r, s)

pub ruleset sizes = (elements_size-elements_of, members_size-members_of)

pub ruleset steps = (drop-at, at_end)
