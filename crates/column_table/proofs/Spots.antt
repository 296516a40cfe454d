-- A row of a chunk at the place that the search gives.
use Rattle.std.proofs.Common.{◌≡◌, ℕ, zero, suc, ◌+◌, ◌<◌, cond, List, [], ◌∷◌, ◌++◌, length, map, take, drop, get_or, Option, Some, None, refl, sym, ap, ◌∙◌, add-one}
use Rattle.std.specs.List.{slice_get, slice_set, insert, remove, filter, take-map, drop-map}
use Rattle.std.specs.Ordering.{is_lt}
use Rattle.std.proofs.lemmas.List.{map-append, take-append-drop, take-set, drop-set}
use Rattle.std.proofs.lemmas.List.Elements.{filter-append}
use Rattle.std.proofs.lemmas.Option.{slice_get_within, get_or_from_slice_get, slice_get_read}
use Rattle.std.specs.declared.cmp.Ordering.TheVariants.{Equal}
use Rattle.json_tree.specs.Tree.{Tree}
use Rattle.json_tree.specs.Id.{id_cmp, IsId}
use Rattle.shred_cols.specs.Row.{Version, id_of}
use Rattle.shred_cols.specs.Rows.{Rows, keyed, version_of, with_version, without, is_after}
use Rattle.column_table.specs.Spot.{Below, Above, IsSpot}
use Rattle.column_table.specs.After.{rows_after}
use Rattle.column_table.specs.declared.chunk.Spot.TheVariants as s
use Rattle.column_table.proofs.Cuts.{ids_total}
use Rattle.column_table.proofs.Order.{split_at, put_after, put_front, put_here, find_after, find_over, find_here, rid_under, rid_over, rid_here, rid-append, after_reversed}

-- an element of a list with each element's key
pub map_at : (vs : List Version) (p : ℕ) (e : Tree × Version) → slice_get (map keyed vs) p ≡ Some e → (v : Version) × (slice_get vs p ≡ Some v) × (keyed v ≡ e)
map_at [] p e h = cc
map_at (v ∷ vs) zero e h = (v, refl, inside _ _ h)
  where
    inside : (a b : Tree × Version) → Some a ≡ Some b → a ≡ b
    inside a b q = cc
map_at (v ∷ vs) (suc p) e h = map_at vs p e h

at_cut : {A : Type 0} (xs : List A) (p : ℕ) (x : A) → slice_get xs p ≡ Some x → xs ≡ take p xs ++ x ∷ drop (p + 1) xs
at_cut xs p x h = split_at xs p x (slice_get_within xs p x h) (sym (get_or_from_slice_get xs p x x h))

-- ---- the row of an id

pub version_here : (id : Tree) (es : Rows) (p : ℕ) (h : IsSpot id es (s.Here p)) → version_of id es ≡ Some h.0.1
version_here id es p h =
    ap (version_of id) (at_cut es p h.0 h.1)
    ∙ find_after id_cmp ids_total id (take p es) (h.0 ∷ drop (p + 1) es) h.3
    ∙ find_here id_cmp ids_total id h.0 (drop (p + 1) es) h.2

pub version_before : (id : Tree) (es : Rows) (p : ℕ) → IsSpot id es (s.Before p) → version_of id es ≡ None
version_before id es p h =
    ap (version_of id) (sym (take-append-drop p es))
    ∙ find_after id_cmp ids_total id (take p es) (drop p es) h.1
    ∙ find_over id_cmp ids_total id (drop p es) h.2

pub row_here : (id : Tree) (vs : List Version) (p : ℕ) (r : Option Version) → r ≡ slice_get vs p → IsSpot id (map keyed vs) (s.Here p) → r ≡ version_of id (map keyed vs)
row_here id vs p r e h =
    let v = map_at vs p h.0 h.1 in
    e ∙ v.1 ∙ ap (λ (x : Tree × Version). Some x.1) v.2 ∙ sym (version_here id (map keyed vs) p h)

-- ---- the writes

pub inserted : (v : Version) (vs : List Version) (p : ℕ) → IsSpot (id_of v.doc) (map keyed vs) (s.Before p) → map keyed (insert vs p v) ≡ with_version (id_of v.doc) v (map keyed vs)
inserted v vs p h =
    let id = id_of v.doc in
    let es = map keyed vs in
    map-append keyed (take p vs) (v ∷ drop p vs)
    ∙ ap (λ l. l ++ keyed v ∷ map keyed (drop p vs)) (sym (take-map keyed p vs))
    ∙ ap (λ l. take p es ++ keyed v ∷ l) (sym (drop-map keyed p vs))
    ∙ ap (λ l. take p es ++ l) (sym (put_front id_cmp ids_total id v (drop p es) h.2))
    ∙ sym (put_after id_cmp ids_total id v (take p es) (drop p es) h.1)
    ∙ ap (with_version id v) (take-append-drop p es)

-- a list with another element at a place
set_cut : {A : Type 0} (xs : List A) (p : ℕ) (x : A) → p < length xs → slice_set xs p x ≡ take p xs ++ x ∷ drop (p + 1) xs
set_cut xs p x l = sym (take-append-drop p (slice_set xs p x)) ∙ ap (λ a. a ++ drop p (slice_set xs p x)) (take-set xs p x) ∙ ap (λ b. take p xs ++ b) (drop-set xs p x l)

pub replaced : (v : Version) (vs : List Version) (p : ℕ) (h : IsSpot (id_of v.doc) (map keyed vs) (s.Here p)) → id_of v.doc ≡ h.0.0 → map keyed (slice_set vs p v) ≡ with_version (id_of v.doc) v (map keyed vs)
replaced v vs p h same =
    let id = id_of v.doc in
    let es = map keyed vs in
    let old = map_at vs p h.0 h.1 in
    let within : p < length vs = slice_get_within vs p old.0 old.1 in
    ap (map keyed) (set_cut vs p v within)
    ∙ map-append keyed (take p vs) (v ∷ drop (p + 1) vs)
    ∙ ap (λ l. l ++ keyed v ∷ map keyed (drop (p + 1) vs)) (sym (take-map keyed p vs))
    ∙ ap (λ l. take p es ++ keyed v ∷ l) (sym (drop-map keyed (p + 1) vs))
    ∙ ap (λ k. take p es ++ (k, v) ∷ drop (p + 1) es) same
    ∙ ap (λ l. take p es ++ l) (sym (put_here id_cmp ids_total id v h.0 (drop (p + 1) es) h.2))
    ∙ sym (put_after id_cmp ids_total id v (take p es) (h.0 ∷ drop (p + 1) es) h.3)
    ∙ ap (with_version id v) (sym (at_cut es p h.0 h.1))

pub removed : (id : Tree) (vs : List Version) (p : ℕ) → IsSpot id (map keyed vs) (s.Here p) → map keyed (remove vs p) ≡ without id (map keyed vs)
removed id vs p h =
    let es = map keyed vs in
    map-append keyed (take p vs) (drop (suc p) vs)
    ∙ ap (λ l. l ++ map keyed (drop (suc p) vs)) (sym (take-map keyed p vs))
    ∙ ap (λ l. take p es ++ l) (sym (drop-map keyed (suc p) vs))
    ∙ ap (λ n. take p es ++ drop n es) (sym (add-one p))
    ∙ ap (λ l. l ++ drop (p + 1) es) (sym (rid_under id_cmp ids_total id (take p es) h.3))
    ∙ ap (λ l. without id (take p es) ++ l) (sym (rid_over id_cmp ids_total id (drop (p + 1) es) h.4))
    ∙ ap (λ l. without id (take p es) ++ l) (sym (rid_here id_cmp ids_total id h.0 (drop (p + 1) es) h.2))
    ∙ sym (rid-append id_cmp ids_total id (take p es) (h.0 ∷ drop (p + 1) es))
    ∙ ap (without id) (sym (at_cut es p h.0 h.1))

pub not_removed : (id : Tree) (es : Rows) (p : ℕ) → IsSpot id es (s.Before p) → without id es ≡ es
not_removed id es p h =
    ap (without id) (sym (take-append-drop p es))
    ∙ rid-append id_cmp ids_total id (take p es) (drop p es)
    ∙ ap (λ l. l ++ without id (drop p es)) (rid_under id_cmp ids_total id (take p es) h.1)
    ∙ ap (λ l. take p es ++ l) (rid_over id_cmp ids_total id (drop p es) h.2)
    ∙ take-append-drop p es

pub removed_row : (id : Tree) (vs : List Version) (p : ℕ) (v : Version) → v ≡ get_or vs p v → IsSpot id (map keyed vs) (s.Here p) → Some v ≡ version_of id (map keyed vs)
removed_row id vs p v e h =
    let old = map_at vs p h.0 h.1 in
    row_here id vs p (Some v) (sym (slice_get_read vs (length vs) p v refl (slice_get_within vs p old.0 old.1) e)) h

-- an id that isn't told apart from one that is there is that id
pub same_here : ((x y : Tree) → IsId x → IsId y → id_cmp x y ≡ Equal → x ≡ y)
    → (id : Tree) (vs : List Version) (p : ℕ) (h : IsSpot id (map keyed vs) (s.Here p)) (old : Version) → old ≡ get_or vs p old → IsId id → IsId (id_of old.doc) → id ≡ h.0.0
same_here apart id vs p h old e i j =
    let v = map_at vs p h.0 h.1 in
    let is : v.0 ≡ old = sym (get_or_from_slice_get vs p v.0 old v.1) ∙ sym e in
    let key : id_of old.doc ≡ h.0.0 = ap (λ (x : Version). id_of x.doc) (sym is) ∙ ap (λ (x : Tree × Version). x.0) v.2 in
    apart id (id_of old.doc) i j (ap (id_cmp id) key ∙ h.2) ∙ key

-- ---- what comes next

pub none_after : (id : Tree) (es : Rows) → Below id es → filter (λ e. is_after (Some id) e.0) es ≡ []
none_after id [] h = refl
none_after id (e ∷ es) h = ap (λ r. cond (is_lt r) (e ∷ filter (λ e. is_after (Some id) e.0) es) (filter (λ e. is_after (Some id) e.0) es)) (after_reversed id_cmp ids_total e.0 id h.0) ∙ none_after id es h.1

pub all_after : (id : Tree) (es : Rows) → Above id es → filter (λ e. is_after (Some id) e.0) es ≡ es
all_after id [] h = refl
all_after id (e ∷ es) h = ap (λ r. cond (is_lt r) (e ∷ filter (λ e. is_after (Some id) e.0) es) (filter (λ e. is_after (Some id) e.0) es)) h.0 ∙ ap (λ l. e ∷ l) (all_after id es h.1)

tied_not_after : (id : Tree) (e : Tree × Version) (es : Rows) → id_cmp id e.0 ≡ Equal → filter (λ e. is_after (Some id) e.0) (e ∷ es) ≡ filter (λ e. is_after (Some id) e.0) es
tied_not_after id e es t = ap (λ r. cond (is_lt r) (e ∷ filter (λ e. is_after (Some id) e.0) es) (filter (λ e. is_after (Some id) e.0) es)) t

-- an id after which a part of a list stands whole
pub after_cut : (id : Tree) (xs ys : Rows) → Below id xs → Above id ys → filter (λ e. is_after (Some id) e.0) (xs ++ ys) ≡ ys
after_cut id xs ys b a =
    filter-append (λ e. is_after (Some id) e.0) xs ys ∙ ap (λ l. l ++ filter (λ e. is_after (Some id) e.0) ys) (none_after id xs b) ∙ all_after id ys a

pub after_tied : (id : Tree) (xs : Rows) (e : Tree × Version) (ys : Rows) → Below id xs → id_cmp id e.0 ≡ Equal → Above id ys → filter (λ e. is_after (Some id) e.0) (xs ++ e ∷ ys) ≡ ys
after_tied id xs e ys b t a =
    filter-append (λ e. is_after (Some id) e.0) xs (e ∷ ys) ∙ ap (λ l. l ++ filter (λ e. is_after (Some id) e.0) (e ∷ ys)) (none_after id xs b) ∙ tied_not_after id e ys t ∙ all_after id ys a

pub after_here : (id : Tree) (vs rs : List Version) (p : ℕ) → rs ≡ drop (p + 1) vs → IsSpot id (map keyed vs) (s.Here p) → map keyed rs ≡ rows_after (Some id) (map keyed vs)
after_here id vs rs p e h =
    let es = map keyed vs in
    ap (map keyed) e ∙ sym (drop-map keyed (p + 1) vs) ∙ sym (after_tied id (take p es) h.0 (drop (p + 1) es) h.3 h.2 h.4)
    ∙ ap (rows_after (Some id)) (sym (at_cut es p h.0 h.1))

pub after_before : (id : Tree) (vs rs : List Version) (p : ℕ) → rs ≡ drop p vs → IsSpot id (map keyed vs) (s.Before p) → map keyed rs ≡ rows_after (Some id) (map keyed vs)
after_before id vs rs p e h =
    let es = map keyed vs in
    ap (map keyed) e ∙ sym (drop-map keyed p vs) ∙ sym (after_cut id (take p es) (drop p es) h.1 h.2) ∙ ap (rows_after (Some id)) (take-append-drop p es)
