-- The entries of places, column by column.
use Rattle.std.proofs.Common.{◌≡◌, ◌≢◌, ◌⊎◌, inl, inr, ⊎_elim, ◌<◌, ◌≤◌, ◌+◌, ◌^◌, OnOk, Result, map, ℕ, zero, suc, List, [], ◌∷◌, length, Option, Some, None, refl, sym, ◌∙◌, ap, subst, arith, cond, nat_eq, true, false, Bool, take, get_or}
use Rattle.std.specs.List.{Contains, onto_first}
use Rattle.std.specs.List.Sorted.{IsPermutation}
use Rattle.std.proofs.lemmas.Bool.{eqb-true}
use Rattle.std.proofs.lemmas.List.Sorted.{Contains-permutation, IsPermutation-sym}
use Rattle.json_tree.specs.Tree.{Tree, null, boolean, number, text, date, list, object, elements_of, members_of, list_of_elements}
use Rattle.doc_paths.specs.Text.{parts, IsPath}
use Rattle.doc_paths.specs.At.{at}
use Rattle.shred_cols.specs.Entry.{path_of, column_of, kept_of, key_of, elements_in, Says}
use Rattle.shred_cols.specs.Columns.{Belongs}
use Rattle.shred_cols.specs.declared.entry.Entry.{Entry}
use Rattle.shred_cols.specs.declared.entry.Entry.TheVariants as v
use Rattle.shred_cols.specs.declared.forms.Kept.{Kept}
use Rattle.shred_cols.specs.Adds.{Adds, Under, Below, Each, OfPlace, OfColumn, OfBefore, OfKept, SizeOf, Rest, kind_of}
use Rattle.shred_cols.proofs.Adding.{no_member, on_ok, renamed, adds_none, adds_then, adds_as}
use Rattle.shred_cols.proofs.Pairs.{contains_more, elements_back}
use Rattle.shred_cols.proofs.Walked.{Spot, below_under, inside_first}

pub arm : {X E : Type 0} (r : Result X E) (xs ys : List Entry) (path : List ℕ) (t u : Tree) (x y : Entry) → x ≡ y → u ≡ t → ((e : Entry) → e ≡ y → Rest path t e) → ((e : Entry) → Rest path t e → e ≡ y)
    → OnOk r (Adds xs ys (λ e. e ≡ x)) → OnOk r (Adds xs ys (λ e. Rest path u e))
arm r xs ys path t u x y same is to from h =
    on_ok r h (λ a. subst (λ w. Adds xs ys (λ e. Rest path w e)) (sym is) (adds_as xs ys (λ e. e ≡ y) (λ e. Rest path t e) (renamed xs ys x y same a) to from))

pub list_rest : {X E : Type 0} (r : Result X E) (xs ys : List Entry) (path : List ℕ) (ts : List Tree) (u : Tree) (n : ℕ) → n ≡ length ts → u ≡ list (elements_of ts) → OnOk r (Adds xs ys (λ e. SizeOf path n e)) → OnOk r (Adds xs ys (λ e. Rest path u e))
list_rest r xs ys path ts u n count is h =
    on_ok r h (λ a. subst (λ w. Adds xs ys (λ e. Rest path w e)) (sym is) (subst (λ m. Adds xs ys (λ e. SizeOf path m e)) (count ∙ ap length (sym (elements_back ts))) a))

pub object_rest : (xs : List Entry) (path : List ℕ) (ps : List (List ℕ × Tree)) (u : Tree) → u ≡ object (members_of ps) → Adds xs xs (λ e. Rest path u e)
object_rest xs path ps u is = subst (λ w. Adds xs xs (λ e. Rest path w e)) (sym is) (adds_none xs (λ e. Rest path (object (members_of ps)) e) (λ e h. h))

pub size_added : (xs ys : List Entry) (path p : List ℕ) (n m : ℕ) → p ≡ path → m ≡ n → m < 2 ^ 32 → Adds xs ys (λ e. e ≡ v.Size p m) → Adds xs ys (λ e. SizeOf path n e)
size_added xs ys path p n m same count small a =
    adds_as xs ys (λ e. e ≡ v.Size path n) (λ e. SizeOf path n e) (renamed xs ys (v.Size p m) (v.Size path n) (λ i. v.Size (same i) (count i)) a)
    (λ e h. record { is = h; small = subst (λ k. k < 2 ^ 32) count small }) (λ e h. h.is)

-- ---- each column of a value

pub exists_to : (q : Spot) (e : Entry) → e ≡ v.Exists q.0 → OfColumn 1 q e
exists_to q e h = subst (λ x. OfColumn 1 q x) (sym h) (record { of = record { path = refl; says = tt }; in_column = refl })

pub exists_from : (q : Spot) (e : Entry) → OfColumn 1 q e → e ≡ v.Exists q.0
exists_from q (v.Exists p) m = ap v.Exists m.of.path
exists_from q (v.Size p n) m = absurd (omega (arith, m.in_column))
exists_from q (v.Has p k) m = absurd (omega (arith, m.in_column))
exists_from q (v.Bool p b) m = absurd (omega (arith, m.in_column))
exists_from q (v.Num p n) m = absurd (omega (arith, m.in_column))
exists_from q (v.Text p k) m = absurd (omega (arith, m.in_column))
exists_from q (v.Date p d) m = absurd (omega (arith, m.in_column))
exists_from q (v.Null p) m = absurd (omega (arith, m.in_column))

map_step : (t : Tree) (ts : List Tree) (y : Tree) (k : ℕ) → k < suc (length ts) → get_or (t ∷ ts) k y ≡ y → (Contains ts y → Contains (map kept_of ts) (kept_of y)) → Contains (map kept_of (t ∷ ts)) (kept_of y)
map_step t ts y zero l q more = (0, omega arith, ap kept_of q)
map_step t ts y (suc k) l q more = contains_more (kept_of t) (map kept_of ts) (kept_of y) (more (k, omega (arith, l), q))

map_contains : (ts : List Tree) (y : Tree) → Contains ts y → Contains (map kept_of ts) (kept_of y)
map_contains [] y h = absurd (no_member y h)
map_contains (t ∷ ts) y h = map_step t ts y h.0 h.1 h.2 (map_contains ts y)

record Mapped (ts : List Tree) (k : Kept) : Type 0 where
  tree : Tree
  among : Contains ts tree
  is : k ≡ kept_of tree

mapped_step : (t : Tree) (ts : List Tree) (k : Kept) (n : ℕ) → n < suc (length (map kept_of ts)) → get_or (kept_of t ∷ map kept_of ts) n k ≡ k → (Contains (map kept_of ts) k → Mapped ts k) → Mapped (t ∷ ts) k
mapped_step t ts k zero l q more = record { tree = t; among = (0, omega arith, refl); is = sym q }
mapped_step t ts k (suc n) l q more = let m = more (n, omega (arith, l), q) in record { tree = m.tree; among = contains_more t ts m.tree m.among; is = m.is }

contains_map : (ts : List Tree) (k : Kept) → Contains (map kept_of ts) k → Mapped ts k
contains_map [] k h = absurd (no_member k h)
contains_map (t ∷ ts) k h = mapped_step t ts k h.0 h.1 h.2 (contains_map ts k)

pub kept_to : (q : Spot) (ks : List Kept) (k : Kept) → ks ≡ map kept_of (elements_in q.1) → k ≡ kept_of q.1 → (e : Entry) → OfKept q.0 ks e ⊎ (e ≡ v.Has q.0 k) → OfColumn 3 q e
kept_to q ks k all own e (inl m) =
    let w = contains_map (elements_in q.1) m.what (subst (λ l. Contains l m.what) all m.among) in
    subst (λ x. OfColumn 3 q x) (sym m.is) (record { of = record { path = refl; says = inr (w.tree, w.among, w.is) }; in_column = refl })
kept_to q ks k all own e (inr h) = subst (λ x. OfColumn 3 q x) (sym h) (record { of = record { path = refl; says = inl own }; in_column = refl })

has_from : (q : Spot) (ks : List Kept) (k l : Kept) (p : List ℕ) → ks ≡ map kept_of (elements_in q.1) → k ≡ kept_of q.1 → p ≡ q.0 → (l ≡ kept_of q.1) ⊎ ((y : Tree) × Contains (elements_in q.1) y × (l ≡ kept_of y)) → OfKept q.0 ks (v.Has p l) ⊎ (v.Has p l ≡ v.Has q.0 k)
has_from q ks k l p all own same (inl h) = inr (λ i. v.Has (same i) ((h ∙ sym own) i))
has_from q ks k l p all own same (inr h) =
    inl (record { what = l; among = subst (λ z. Contains z l) (sym all) (subst (λ z. Contains (map kept_of (elements_in q.1)) z) (sym h.2) (map_contains (elements_in q.1) h.0 h.1)); is = ap (λ z. v.Has z l) same })

pub kept_from : (q : Spot) (ks : List Kept) (k : Kept) → ks ≡ map kept_of (elements_in q.1) → k ≡ kept_of q.1 → (e : Entry) → OfColumn 3 q e → OfKept q.0 ks e ⊎ (e ≡ v.Has q.0 k)
kept_from q ks k all own (v.Exists p) m = absurd (omega (arith, m.in_column))
kept_from q ks k all own (v.Size p n) m = absurd (omega (arith, m.in_column))
kept_from q ks k all own (v.Has p l) m = has_from q ks k l p all own m.of.path m.of.says
kept_from q ks k all own (v.Bool p b) m = absurd (omega (arith, m.in_column))
kept_from q ks k all own (v.Num p n) m = absurd (omega (arith, m.in_column))
kept_from q ks k all own (v.Text p l) m = absurd (omega (arith, m.in_column))
kept_from q ks k all own (v.Date p d) m = absurd (omega (arith, m.in_column))
kept_from q ks k all own (v.Null p) m = absurd (omega (arith, m.in_column))

-- one thing kept where there is no element
pub alone_to : (q : Spot) (ks : List Kept) (k : Kept) → ks ≡ map kept_of (elements_in q.1) → ks ≡ [] → k ≡ kept_of q.1 → (e : Entry) → OfColumn 3 q e → e ≡ v.Has q.0 k
alone_to q ks k all none own e m = ⊎_elim (λ w. absurd (no_member w.what (subst (λ l. Contains l w.what) none w.among))) (λ w. w) (kept_from q ks k all own e m)

rest_of : (q : Spot) (e : Entry) → OfPlace q e → column_of e ≢ 1 → column_of e ≢ 3 → Rest q.0 q.1 e
rest_of q (v.Exists p) m a b = absurd (a refl)
rest_of q (v.Size p n) m a b =
    subst (λ u. Rest q.0 u (v.Size p n)) (sym m.says.is) (record { is = λ i. v.Size (m.path i) (sym m.says.count i); small = subst (λ z. z < 2 ^ 32) (sym m.says.count) m.says.small })
rest_of q (v.Has p k) m a b = absurd (b refl)
rest_of q (v.Bool p b) m x y = subst (λ u. Rest q.0 u (v.Bool p b)) (sym m.says) (ap (λ z. v.Bool z b) m.path)
rest_of q (v.Num p n) m a b = subst (λ u. Rest q.0 u (v.Num p n)) (sym m.says) (ap (λ z. v.Num z n) m.path)
rest_of q (v.Text p k) m a b = subst (λ u. Rest q.0 u (v.Text p k)) (sym m.says.1) (λ i. v.Text (m.path i) (m.says.2 i))
rest_of q (v.Date p d) m a b = subst (λ u. Rest q.0 u (v.Date p d)) (sym m.says) (ap (λ z. v.Date z d) m.path)
rest_of q (v.Null p) m a b = subst (λ u. Rest q.0 u (v.Null p)) (sym m.says) (ap v.Null m.path)

one_of : (path : List ℕ) (t : Tree) (e x : Entry) → path_of x ≡ path → Says x t → column_of x ≡ kind_of t → e ≡ x → OfColumn (kind_of t) (path, t) e
one_of path t e x same says column is = subst (λ y. OfColumn (kind_of t) (path, t) y) (sym is) (record { of = record { path = same; says = says }; in_column = column })

of_rest : (path : List ℕ) (t : Tree) (e : Entry) → Rest path t e → OfColumn (kind_of t) (path, t) e
of_rest path null e h = one_of path null e (v.Null path) refl refl refl h
of_rest path (boolean b) e h = one_of path (boolean b) e (v.Bool path b) refl refl refl h
of_rest path (number n) e h = one_of path (number n) e (v.Num path n) refl refl refl h
of_rest path (text s) e h = one_of path (text s) e (v.Text path (key_of s)) refl (s, refl, refl) refl h
of_rest path (date d) e h = one_of path (date d) e (v.Date path d) refl refl refl h
of_rest path (list ts) e h = one_of path (list ts) e (v.Size path (length (list_of_elements ts))) refl (record { elements = ts; is = refl; count = refl; small = h.small }) refl h.is
of_rest path (object ms) e h = absurd h

pub rest_to : (column : ℕ) (path : List ℕ) (t : Tree) → kind_of t ≡ column → (e : Entry) → Rest path t e → OfColumn column (path, t) e
rest_to column path t is e h = subst (λ n. OfColumn n (path, t) e) is (of_rest path t e h)

pub rest_from : (column : ℕ) (path : List ℕ) (t : Tree) → column ≢ 1 → column ≢ 3 → (e : Entry) → OfColumn column (path, t) e → Rest path t e
rest_from column path t a b e m = rest_of (path, t) e m.of (λ h. a (sym m.in_column ∙ h)) (λ h. b (sym m.in_column ∙ h))

pub other_column : (column : ℕ) (path : List ℕ) (t : Tree) → column ≢ 1 → column ≢ 3 → kind_of t ≢ column → (e : Entry) → OfColumn column (path, t) e → ⊥
other_column column path t a b c e m = c (sym (of_rest path t e (rest_from column path t a b e m)).in_column ∙ m.in_column)

-- ---- the steps of a column

pub exists_added : {X E : Type 0} (r : Result X E) (xs ys : List Entry) (column : ℕ) (q : Spot) (p p' : List ℕ) → column ≡ 1 → p ≡ p' → p' ≡ q.0 → OnOk r (Adds xs ys (λ e. e ≡ v.Exists p)) → OnOk r (Adds xs ys (λ e. OfColumn column q e))
exists_added r xs ys column q p p' one same of h =
    on_ok r h
    (λ a. subst (λ n. Adds xs ys (λ e. OfColumn n q e)) (sym one)
    (adds_as xs ys (λ e. e ≡ v.Exists q.0) (λ e. OfColumn 1 q e) (renamed xs ys (v.Exists p) (v.Exists q.0) (ap v.Exists (same ∙ of)) a) (exists_to q) (exists_from q)))

pub rest_added : {X E : Type 0} (r : Result X E) (xs ys : List Entry) (column n : ℕ) (q : Spot) (path : List ℕ) (t u : Tree) → path ≡ q.0 → t ≡ q.1 → u ≡ q.1 → n ≡ kind_of t → n ≡ column → column ≢ 1 → column ≢ 3
    → OnOk r (Adds xs ys (λ e. Rest path u e)) → OnOk r (Adds xs ys (λ e. OfColumn column q e))
rest_added r xs ys column n q path t u same is is' kind here a b h =
    on_ok r h
    (λ w. adds_as xs ys (λ e. Rest q.0 q.1 e) (λ e. OfColumn column q e) (subst (λ (z : Spot). Adds xs ys (λ e. Rest z.0 z.1 e)) (λ i. (same i, is' i)) w)
    (rest_to column q.0 q.1 (ap kind_of (sym is) ∙ sym kind ∙ here)) (rest_from column q.0 q.1 a b))

pub none_added : (xs : List Entry) (column n : ℕ) (q : Spot) (t : Tree) → t ≡ q.1 → n ≡ kind_of t → (n ≡ column → ⊥) → column ≢ 1 → column ≢ 3 → Adds xs xs (λ e. OfColumn column q e)
none_added xs column n q t is kind other a b = adds_none xs (λ e. OfColumn column q e) (other_column column q.0 q.1 a b (λ h. other (kind ∙ ap kind_of is ∙ h)))

pub has_added : {X E : Type 0} (r : Result X E) (xs ys : List Entry) (q : Spot) (path : List ℕ) (k : Kept) (ks : List Kept) → path ≡ q.0 → k ≡ kept_of q.1 → ks ≡ map kept_of (elements_in q.1) → ks ≡ []
    → OnOk r (Adds xs ys (λ e. e ≡ v.Has path k)) → OnOk r (Adds xs ys (λ e. OfColumn 3 q e))
has_added r xs ys q path k ks same own all none h =
    on_ok r h
    (λ a. adds_as xs ys (λ e. e ≡ v.Has q.0 k) (λ e. OfColumn 3 q e) (renamed xs ys (v.Has path k) (v.Has q.0 k) (ap (λ p. v.Has p k) same) a)
    (λ e w. kept_to q ks k all own e (inr w)) (alone_to q ks k all none own))

pub sorted_added : {X E : Type 0} (r : Result X E) (xs ys : List Entry) (q : Spot) (path : List ℕ) (k : Kept) (ks : List Kept) → path ≡ q.0 → k ≡ kept_of q.1 → ks ≡ map kept_of (elements_in q.1)
    → OnOk r (Adds xs ys (λ e. OfKept path ks e ⊎ (e ≡ v.Has path k))) → OnOk r (Adds xs ys (λ e. OfColumn 3 q e))
sorted_added r xs ys q path k ks same own all h =
    on_ok r h
    (λ a. adds_as xs ys (λ e. OfKept q.0 ks e ⊎ (e ≡ v.Has q.0 k)) (λ e. OfColumn 3 q e) (subst (λ p. Adds xs ys (λ e. OfKept p ks e ⊎ (e ≡ v.Has p k))) same a)
    (kept_to q ks k all own) (kept_from q ks k all own))

-- ---- one column after another

before_to : (c : ℕ) (ps : List Spot) (e : Entry) → Each (OfBefore c) ps e ⊎ Each (OfColumn c) ps e → Each (OfBefore (c + 1)) ps e
before_to c ps e (inl m) = record { pair = m.pair; among = m.among; has = record { of = m.has.of; before = omega (arith, m.has.before) } }
before_to c ps e (inr m) = record { pair = m.pair; among = m.among; has = record { of = m.has.of; before = omega (arith, m.has.in_column) } }

before_from : (c : ℕ) (ps : List Spot) (e : Entry) → Each (OfBefore (c + 1)) ps e → Each (OfBefore c) ps e ⊎ Each (OfColumn c) ps e
before_from c ps e m =
    ⊎_elim (λ l. inl (record { pair = m.pair; among = m.among; has = record { of = m.has.of; before = l } })) (λ l. inr (record { pair = m.pair; among = m.among; has = record { of = m.has.of; in_column = l } }))
    (low_or (column_of e) c (omega (arith, m.has.before)))
  where
    low_or : (n c : ℕ) → n < c + 1 → (n < c) ⊎ (n ≡ c)
    low_or zero zero h = inr refl
    low_or zero (suc c) h = inl (omega arith)
    low_or (suc n) zero h = absurd (omega (arith, h))
    low_or (suc n) (suc c) h = ⊎_elim (λ l. inl (omega (arith, l))) (λ l. inr (ap suc l)) (low_or n c (omega (arith, h)))

pub column_more : (xs ys zs : List Entry) (ps : List Spot) (c : ℕ) → Adds xs ys (λ e. Each (OfBefore c) ps e) → Adds ys zs (λ e. Each (OfColumn c) ps e) → Adds xs zs (λ e. Each (OfBefore (c + 1)) ps e)
column_more xs ys zs ps c a b =
    adds_as xs zs (λ e. Each (OfBefore c) ps e ⊎ Each (OfColumn c) ps e) (λ e. Each (OfBefore (c + 1)) ps e) (adds_then xs ys zs (λ e. Each (OfBefore c) ps e) (λ e. Each (OfColumn c) ps e) a b) (before_to c ps) (before_from c ps)

some_column : (e : Entry) → 1 ≤ column_of e
some_column (v.Exists p) = omega arith
some_column (v.Size p n) = omega arith
some_column (v.Has p k) = omega arith
some_column (v.Bool p b) = omega arith
some_column (v.Num p n) = omega arith
some_column (v.Text p k) = omega arith
some_column (v.Date p d) = omega arith
some_column (v.Null p) = omega arith

low_column : (e : Entry) → column_of e < 9
low_column (v.Exists p) = omega arith
low_column (v.Size p n) = omega arith
low_column (v.Has p k) = omega arith
low_column (v.Bool p b) = omega arith
low_column (v.Num p n) = omega arith
low_column (v.Text p k) = omega arith
low_column (v.Date p d) = omega arith
low_column (v.Null p) = omega arith

pub no_column : (xs : List Entry) (ps : List Spot) (c : ℕ) → c ≤ 1 → Adds xs xs (λ e. Each (OfBefore c) ps e)
no_column xs ps c h = adds_none xs (λ e. Each (OfBefore c) ps e) (λ e m. omega (arith, h, m.has.before, some_column e))

pub all_columns : (xs ys : List Entry) (ps : List Spot) (c : ℕ) → 9 ≤ c → Adds xs ys (λ e. Each (OfBefore c) ps e) → Adds xs ys (λ e. Each OfPlace ps e)
all_columns xs ys ps c h a =
    adds_as xs ys (λ e. Each (OfBefore c) ps e) (λ e. Each OfPlace ps e) a (λ e m. record { pair = m.pair; among = m.among; has = m.has.of })
    (λ e m. record { pair = m.pair; among = m.among; has = record { of = m.has; before = omega (arith, h, low_column e) } })

-- ---- the whole document

some_step : (x : ℕ) (ps : List (List ℕ)) (b : Bool) → (part : List ℕ) × ((more : List (List ℕ)) × (ps ≡ part ∷ more)) → (part : List ℕ) × ((more : List (List ℕ)) × (cond b ([] ∷ ps) (onto_first x ps) ≡ part ∷ more))
some_step x ps true h = ([], (ps, refl))
some_step x ps false h = (x ∷ h.0, (h.1.0, ap (onto_first x) h.1.1))

some_part : (p : List ℕ) → (part : List ℕ) × ((more : List (List ℕ)) × (parts p ≡ part ∷ more))
some_part [] = ([], ([], refl))
some_part (x ∷ xs) = some_step x (parts xs) (nat_eq x 46) (some_part xs)

of_belongs : (d : Tree) (ps : List Spot) (e : Entry) → ((q : Spot) → Contains ps q → Below [] d q) → Each OfPlace ps e → Belongs d e
of_belongs d ps e all m =
    let u = below_under [] d m.pair (all m.pair m.among) in
    record { path = subst IsPath (sym m.has.path) u.path; value = m.pair.1; there = ap (at d) (ap parts m.has.path ∙ u.leads) ∙ u.there; says = m.has.says }

belongs_of : (d : Tree) (ps : List Spot) (e : Entry) → ((q : Spot) → Below [] d q → Contains ps q) → Belongs d e → Each OfPlace ps e
belongs_of d ps e all b =
    let s = some_part (path_of e) in
    record { pair = (path_of e, b.value); among = all (path_of e, b.value) (inside_first [] d (path_of e, b.value) s.0 s.1.0 b.path s.1.1 (ap (at d) (sym s.1.1) ∙ b.there)); has = record { path = refl; says = b.says } }

-- the entries of the places that were found, in whichever order
pub document_added : {X E : Type 0} (r : Result X E) (xs xs' ys : List Entry) (d : Tree) (ps qs qs' : List Spot) → xs' ≡ xs → qs' ≡ qs → Adds [] ps (λ q. Below [] d q) → IsPermutation ps qs → OnOk r (Adds xs' ys (λ e. Each OfPlace qs' e))
    → OnOk r (Adds xs ys (λ e. Belongs d e))
document_added r xs xs' ys d ps qs qs' before given all moved h =
    on_ok r h
    (λ a. adds_as xs ys (λ e. Each OfPlace qs e) (λ e. Belongs d e) (subst (λ l. Adds xs ys (λ e. Each OfPlace l e)) given (subst (λ l. Adds l ys (λ e. Each OfPlace qs' e)) before a))
    (λ e m. of_belongs d qs e (λ q c. ⊎_elim (λ n. absurd (no_member q n)) (λ w. w) (all.only q (Contains-permutation qs ps q (IsPermutation-sym ps qs moved) c))) m)
    (λ e b. belongs_of d qs e (λ q c. Contains-permutation ps qs q moved (all.added q c)) b))

pub empty_list : {A : Type 0} (xs : List A) (b : Bool) → b ≡ (nat_eq (length xs) 0) → b ≡ true → xs ≡ []
empty_list [] b is h = refl
empty_list (x ∷ xs) b is h = let z : nat_eq (suc (length xs)) 0 ≡ true = sym is ∙ h in let w = eqb-true (suc (length xs)) 0 z in absurd (omega (arith, w))
