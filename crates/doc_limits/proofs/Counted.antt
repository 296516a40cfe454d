-- How counts are joined.
use Rattle.std.proofs.Common.{◌≡◌, ◌≤◌, ◌+◌, ℕ, suc, max, Bool, true, false, ◌||◌, List, [], ◌∷◌, ◌++◌, drop, length, map, decimal, Option, Some, None, refl, sym, ◌∙◌, ap, ap₂, arith, slice_get, add-one}
use Rattle.std.proofs.lemmas.List.{map-append, length-append, drop_all}
use Rattle.std.proofs.lemmas.List.Folds.{list_any-append}
use Rattle.json_tree.specs.Tree.{Tree, list, object, elements_of, members_of, list_of_elements, list_of_members}
use Rattle.json_text.specs.Print.{capped}
use Rattle.doc_limits.specs.declared.counts.Counts.{Counts}
use Rattle.doc_limits.specs.Names.{names_in, names_in_elements, names_in_members}
use Rattle.doc_limits.specs.Values.{values_in, values_in_elements, values_in_members, levels, levels_of_elements, levels_of_members, elements_count, members_count, text_bytes}
use Rattle.doc_limits.specs.Paths.{paths_in, paths_in_elements, paths_in_members}
use Rattle.doc_limits.specs.Limits.{greatest}
use Rattle.doc_limits.specs.Counts.{both, joined, dotted, longer, reached, counts, place_counts, tree_counts, name_counts, list_counts, object_counts}
use Rattle.json_tree.specs.Sizes.{drop-at}

-- two counts agree where all of them do
same_counts : (a b : Counts) → a.levels ≡ b.levels → a.empty_name ≡ b.empty_name → a.name ≡ b.name → a.path ≡ b.path → a.object ≡ b.object → a.members ≡ b.members → a.list ≡ b.list → a.text ≡ b.text → a ≡ b
same_counts a b e f g h k l m n = λ i. record { levels = e i; empty_name = f i; name = g i; path = h i; object = k i; members = l i; list = m i; text = n i }

or_assoc : (a b c : Bool) → ((a || b) || c) ≡ (a || (b || c))
or_assoc true b c = refl
or_assoc false b c = refl

max_twice : (a b c : ℕ) → capped (max (capped (max a b)) c) ≡ capped (max a (max b c))
max_twice a b c = omega arith

sum_twice : (a b c : ℕ) → capped (capped (a + b) + c) ≡ capped (a + (b + c))
sum_twice a b c = omega arith

pub joined_both : (c x y : Counts) → joined (joined c x) y ≡ joined c (both x y)
joined_both c x y =
    same_counts _ _ (max_twice c.levels x.levels y.levels) (or_assoc c.empty_name x.empty_name y.empty_name) (max_twice c.name x.name y.name) (max_twice c.path x.path y.path)
    (max_twice c.object x.object y.object) (sum_twice c.members x.members y.members) (max_twice c.list x.list y.list) (max_twice c.text x.text y.text)

cap_first : (c a l : ℕ) → capped (max c (capped a + l)) ≡ capped (max c (a + l))
cap_first c a l = omega arith

-- the place of a value inside may be capped before
inside : (from : Counts) (a p level path : ℕ) (t : Tree) → level ≡ capped a → path ≡ capped p → joined from (tree_counts level (Some path) t) ≡ joined from (tree_counts a (Some p) t)
inside from a p level path t e f =
    ap₂ (λ x y. joined from (tree_counts x (Some y) t)) e f
    ∙ same_counts _ _ (cap_first from.levels a (levels t)) refl refl (cap_first from.path p (greatest (map dotted (paths_in t)))) refl refl refl refl

-- ---- the greatest of two lists

greatest_append : (xs ys : List ℕ) → greatest (xs ++ ys) ≡ max (greatest xs) (greatest ys)
greatest_append [] ys = omega arith
greatest_append (x ∷ xs) ys = omega (arith, greatest_append xs ys)

pub greatest_of : {X : Type 0} (f : X → ℕ) (xs ys : List X) → greatest (map f (xs ++ ys)) ≡ max (greatest (map f xs)) (greatest (map f ys))
greatest_of f xs ys = ap greatest (map-append f xs ys) ∙ greatest_append (map f xs) (map f ys)

-- paths that begin with one part, and that part alone
greatest_behind : (n : List ℕ) (paths : List (List (List ℕ))) → max (length n + 1) (greatest (map dotted (map (λ p. n ∷ p) paths))) ≡ length n + 1 + greatest (map dotted paths)
greatest_behind n [] = omega arith
greatest_behind n (p ∷ paths) = omega (arith, greatest_behind n paths)

reached_more : (at : Option ℕ) (n d r : ℕ) → reached at (max (n + 1 + d) r) ≡ max (longer at n + d) (reached at r)
reached_more None n d r = omega arith
reached_more (Some p) n d r = omega arith

-- the longest path through one part, and that through the others
reached_part : (at : Option ℕ) (part : List ℕ) (paths paths' : List (List (List ℕ)))
    → reached at (greatest (map dotted ((part ∷ []) ∷ (map (λ p. part ∷ p) paths ++ paths')))) ≡ max (longer at (length part) + greatest (map dotted paths)) (reached at (greatest (map dotted paths')))
reached_part at part paths paths' =
    let parts : greatest (map dotted ((part ∷ []) ∷ (map (λ p. part ∷ p) paths ++ paths'))) ≡ max (length part + 1 + greatest (map dotted paths)) (greatest (map dotted paths')) =
    omega (arith, greatest_of dotted (map (λ p. part ∷ p) paths) paths', greatest_behind part paths) in
    ap (reached at) parts ∙ reached_more at (length part) (greatest (map dotted paths)) (greatest (map dotted paths'))

-- the counts of a value inside, and of what comes behind it
parted : (a : ℕ) (s : Option ℕ) (l k : ℕ) (part : List ℕ) (v : Tree) (names names' : List (List ℕ)) (values values' : List Tree) (paths paths' : List (List (List ℕ)))
    → counts (a + (1 + max l k)) s (names ++ names') (v ∷ (values ++ values')) ((part ∷ []) ∷ (map (λ p. part ∷ p) paths ++ paths'))
    ≡ both (counts (a + 1 + l) (Some (longer s (length part))) names values paths) (counts (a + (1 + k)) s names' (v ∷ values') paths')
parted a s l k part v names names' values values' paths paths' =
    same_counts _ _ (omega arith) (list_any-append _ names names') (greatest_of length names names')
    (reached_part s part paths paths')
    (omega (arith, greatest_of members_count values values')) (length-append names names')
    (omega (arith, greatest_of elements_count values values')) (omega (arith, greatest_of text_bytes values values'))

-- the counts of a name, and of the rest
named : (d : ℕ) (s : Option ℕ) (n : List ℕ) (names : List (List ℕ)) (values : List Tree) (paths : List (List (List ℕ)))
    → counts d s (n ∷ names) values paths ≡ both (name_counts (length n)) (counts d s names values paths)
named d s n names values paths = same_counts _ _ (omega arith) refl refl (omega arith) (omega arith) (omega arith) (omega arith) (omega arith)

-- ---- a step through elements or members

pub list_more : (ts : List Tree) (i : ℕ) (t : Tree) (a : ℕ) (s : Option ℕ) (level path n : ℕ) (from to : Counts) → Some t ≡ slice_get ts i
    → level ≡ capped (a + 1) → n ≡ length (decimal i) → path ≡ capped (longer s n) → to ≡ joined from (tree_counts level (Some path) t)
    → joined to (list_counts a s (elements_of ts) (i + 1) (elements_of (drop (i + 1) ts))) ≡ joined from (list_counts a s (elements_of ts) i (elements_of (drop i ts)))
list_more ts i t a s level path n from to at is_level is_n is_path e =
    let rest = elements_of (drop (i + 1) ts) in
    let all = elements_of ts in
    let value = tree_counts (a + 1) (Some (longer s (length (decimal i)))) t in
    let here : list_counts a s all i (elements_of (drop i ts)) ≡ both value (list_counts a s all (i + 1) rest) =
    ap (λ l. list_counts a s all i (elements_of l)) (drop-at ts i t (sym at))
    ∙ parted a s (levels t) (levels_of_elements rest) (decimal i) (list all) (names_in t) (names_in_elements rest) (values_in t) (values_in_elements rest) (paths_in t) (paths_in_elements (suc i) rest)
    ∙ ap (λ j. both value (list_counts a s all j rest)) (sym (add-one i)) in
    ap (λ c. joined c (list_counts a s all (i + 1) rest)) (e ∙ inside from (a + 1) (longer s (length (decimal i))) level path t is_level (is_path ∙ ap (λ m. capped (longer s m)) is_n))
    ∙ joined_both from value (list_counts a s all (i + 1) rest)
    ∙ ap (joined from) (sym here)

pub object_more : (ps : List (List ℕ × Tree)) (i : ℕ) (n : List ℕ) (t : Tree) (a : ℕ) (s : Option ℕ) (level path : ℕ) (name : List ℕ) (from with_name to : Counts) → Some (n, t) ≡ slice_get ps i
    → level ≡ capped (a + 1) → name ≡ n → path ≡ capped (longer s (length name)) → with_name ≡ joined from (name_counts (length name)) → to ≡ joined with_name (tree_counts level (Some path) t)
    → joined to (object_counts a s (members_of ps) (members_of (drop (i + 1) ps))) ≡ joined from (object_counts a s (members_of ps) (members_of (drop i ps)))
object_more ps i n t a s level path name from with_name to at is_level is_name is_path e f =
    let rest = members_of (drop (i + 1) ps) in
    let all = members_of ps in
    let value = tree_counts (a + 1) (Some (longer s (length n))) t in
    let behind = object_counts a s all rest in
    let here : object_counts a s all (members_of (drop i ps)) ≡ both (name_counts (length n)) (both value behind) =
    ap (λ l. object_counts a s all (members_of l)) (drop-at ps i (n, t) (sym at))
    ∙ named (a + (1 + max (levels t) (levels_of_members rest))) s n (names_in t ++ names_in_members rest) (object all ∷ (values_in t ++ values_in_members rest)) ((n ∷ []) ∷ (map (λ p. n ∷ p) (paths_in t) ++ paths_in_members rest))
    ∙ ap (both (name_counts (length n))) (parted a s (levels t) (levels_of_members rest) n (object all) (names_in t) (names_in_members rest) (values_in t) (values_in_members rest) (paths_in t) (paths_in_members rest)) in
    ap (λ c. joined c behind) (f ∙ inside with_name (a + 1) (longer s (length n)) level path t is_level (is_path ∙ ap (λ m. capped (longer s (length m))) is_name))
    ∙ joined_both with_name value behind
    ∙ ap (λ c. joined c (both value behind)) (e ∙ ap (λ m. joined from (name_counts (length m))) is_name)
    ∙ joined_both from (name_counts (length n)) (both value behind)
    ∙ ap (joined from) (sym here)

-- ---- at the end

as_long : (ts : List Tree) → length (list_of_elements (elements_of ts)) ≡ length ts
as_long [] = refl
as_long (t ∷ ts) = omega (arith, as_long ts)

as_many : (ps : List (List ℕ × Tree)) → length (list_of_members (members_of ps)) ≡ length ps
as_many [] = refl
as_many (p ∷ ps) = omega (arith, as_many ps)

cap_place : (c a : ℕ) → capped (max c (capped (a + 1))) ≡ capped (max c (a + (1 + 0)))
cap_place c a = omega arith

pub list_end : (ts : List Tree) (a : ℕ) (s : Option ℕ) (i level len : ℕ) (own from to : Counts) → len ≤ i → level ≡ capped (a + 1) → own ≡ place_counts level s → len ≡ length ts
    → to ≡ joined from (record { levels = own.levels; empty_name = own.empty_name; name = own.name; path = own.path; object = own.object; members = own.members; list = len; text = own.text })
    → to ≡ joined from (list_counts a s (elements_of ts) i (elements_of (drop i ts)))
list_end ts a s i level len own from to h is_level is_own is_len e =
    e
    ∙ ap (λ (o : Counts). joined from (record { levels = o.levels; empty_name = o.empty_name; name = o.name; path = o.path; object = o.object; members = o.members; list = len; text = o.text })) (is_own ∙ ap (λ l. place_counts l s) is_level)
    ∙ same_counts _ _ (cap_place from.levels a) refl refl refl refl refl (omega (arith, as_long ts, is_len)) refl
    ∙ ap (λ l. joined from (list_counts a s (elements_of ts) i (elements_of l))) (sym (drop_all i ts (omega (arith, h, is_len))))

pub object_end : (ps : List (List ℕ × Tree)) (a : ℕ) (s : Option ℕ) (i level len : ℕ) (own from to : Counts) → len ≤ i → level ≡ capped (a + 1) → own ≡ place_counts level s → len ≡ length ps
    → to ≡ joined from (record { levels = own.levels; empty_name = own.empty_name; name = own.name; path = own.path; object = len; members = own.members; list = own.list; text = own.text })
    → to ≡ joined from (object_counts a s (members_of ps) (members_of (drop i ps)))
object_end ps a s i level len own from to h is_level is_own is_len e =
    e
    ∙ ap (λ (o : Counts). joined from (record { levels = o.levels; empty_name = o.empty_name; name = o.name; path = o.path; object = len; members = o.members; list = o.list; text = o.text })) (is_own ∙ ap (λ l. place_counts l s) is_level)
    ∙ same_counts _ _ (cap_place from.levels a) refl refl refl (omega (arith, as_many ps, is_len)) refl refl refl
    ∙ ap (λ l. joined from (object_counts a s (members_of ps) (members_of l))) (sym (drop_all i ps (omega (arith, h, is_len))))
