-- The missing collections are found and made one after another.
use Rattle.std.proofs.Common.{◌≡◌, ℕ, ◌+◌, ◌<◌, ◌≤◌, List, [], ◌∷◌, ◌++◌, map, length, take, get_or, Bool, true, false, ◌||◌, if◌then◌else◌, Option, Some, None, refl, sym, ap, ◌∙◌, arith, length-append}
use Rattle.std.specs.Option.{option_map}
use Rattle.std.proofs.lemmas.List.{take_more, length-take-le, length-map}
use Rattle.shred_cols.specs.Rows.{Rows}
use Rattle.col_keeper.specs.Tables.{Name, Collections, Tables, rows_in, names_of, created, with_collection}
use Rattle.store_core.specs.Opening.{is_among, missing, missed, with_name, with_name_if, with_names, begun_with, opened_with, would_live, Prepares}
use Rattle.store_core.specs.declared.open.Prepared.{Prepared}
use Rattle.store_core.specs.declared.open.Prepared.TheVariants as p
use Rattle.store_core.proofs.Histories.{map_told, map_map}

-- ---- the names

abbrev found_one : List Name → Name → List Name → List Name
found_one listed n m = if is_among n listed || is_among n m then m else m ++ n ∷ []

found_if : (b : Bool) (n : Name) (listed m m' l l' : List Name) → l ≡ found_one listed n m → l' ≡ found_one listed n m' → (if b then l else l') ≡ found_one listed n (if b then m else m')
found_if true n listed m m' l l' e f = e
found_if false n listed m m' l l' e f = f

missing-append : (listed found ns : List Name) (n : Name) → missing listed found (ns ++ n ∷ []) ≡ (if is_among n listed || is_among n (missing listed found ns) then missing listed found ns else missing listed found ns ++ n ∷ [])
missing-append listed found [] n = refl
missing-append listed found (x ∷ ns) n = found_if (is_among x listed || is_among x found) n listed (missing listed found ns) (missing listed (found ++ x ∷ []) ns) _ _ (missing-append listed found ns n) (missing-append listed (found ++ x ∷ []) ns n)

or_true : (a b : Bool) → b ≡ true → a || b ≡ true
or_true true b e = refl
or_true false b e = e

module _ (listed names : List Name) (i : ℕ) (n : Name) (found : List Name) (within : i < length names) (here : n ≡ get_or names i n) (so_far : found ≡ missing listed [] (take i names)) where
  next_found : missing listed [] (take (i + 1) names) ≡ (if is_among n listed || is_among n found then found else found ++ n ∷ [])
  next_found =
      ap (missing listed []) (take_more names i n within ∙ ap (λ m. take i names ++ m ∷ []) (sym here))
      ∙ missing-append listed [] (take i names) n
      ∙ ap (λ f. if is_among n listed || is_among n f then f else f ++ n ∷ []) (sym so_far)

  pub listed_already : is_among n listed ≡ true → found ≡ missing listed [] (take (i + 1) names)
  listed_already e = sym (next_found ∙ ap (λ (b : Bool). if b || is_among n found then found else found ++ n ∷ []) e)

  pub found_already : is_among n found ≡ true → found ≡ missing listed [] (take (i + 1) names)
  found_already e = sym (next_found ∙ ap (λ (b : Bool). if b then found else found ++ n ∷ []) (or_true (is_among n listed) (is_among n found) e))

  pub found_new : is_among n listed ≡ false → is_among n found ≡ false → found ++ n ∷ [] ≡ missing listed [] (take (i + 1) names)
  found_new e f = sym (next_found ∙ ap (λ (b : Bool). if b || is_among n found then found else found ++ n ∷ []) e ∙ ap (λ (b : Bool). if b then found else found ++ n ∷ []) f)

-- ---- the tables

with_names-append : (ns : List Name) (n : Name) (t : Tables) → with_names (ns ++ n ∷ []) t ≡ with_name n (with_names ns t)
with_names-append [] n t = refl
with_names-append (m ∷ ns) n t = with_names-append ns n (with_name m t)

last_kept : (o : Option Rows) (n : Name) (t : Tables) → (with_name_if o n t).last ≡ t.last
last_kept None n t = refl
last_kept (Some rows) n t = refl

pub last_same : (ns : List Name) (t : Tables) → (with_names ns t).last ≡ t.last
last_same [] t = refl
last_same (n ∷ ns) t = last_same ns (with_name n t) ∙ last_kept (rows_in n t.collections) n t

one_few : (o : Option Rows) (n : Name) (t : Tables) → length (with_name_if o n t).collections ≤ length t.collections + 1
one_few None n t = let e : length (with_collection n t.collections) ≡ length t.collections + 1 = length-append t.collections (record { name = n; rows = [] } ∷ []) in omega arith
one_few (Some rows) n t = omega arith

few : (ns : List Name) (t : Tables) → length (with_names ns t).collections ≤ length t.collections + length ns
few [] t = omega arith
few (n ∷ ns) t = let a = few ns (with_name n t) in let b = one_few (rows_in n t.collections) n t in omega arith

module _ (names : List Name) (i : ℕ) (n : Name) (old mid new : Option Tables) (within : i < length names) (here : n ≡ get_or names i n) (so_far : mid ≡ option_map (with_names (take i names)) old) where
  more : (t : Tables) → with_names (take (i + 1) names) t ≡ with_name n (with_names (take i names) t)
  more t = ap (λ ns. with_names ns t) (take_more names i n within ∙ ap (λ m. take i names ++ m ∷ []) (sym here)) ∙ with_names-append (take i names) n t

  mid_at : (t : Tables) → old ≡ Some t → mid ≡ Some (with_names (take i names) t)
  mid_at t e = so_far ∙ ap (option_map (with_names (take i names))) e

  pub made_one : new ≡ option_map (created n) mid → ((t : Tables) → mid ≡ Some t → rows_in n t.collections ≡ None) → new ≡ option_map (with_names (take (i + 1) names)) old
  made_one is absent =
      is ∙ ap (option_map (created n)) so_far ∙ map_map old (with_names (take i names)) (created n)
      ∙ map_told old (λ t. created n (with_names (take i names) t)) (with_names (take (i + 1) names))
      (λ t e. sym (more t ∙ ap (λ o. with_name_if o n (with_names (take i names) t)) (absent (with_names (take i names) t) (mid_at t e))))

  pub there_already : new ≡ mid → ((t : Tables) → mid ≡ Some t → (rows : Rows) × (rows_in n t.collections ≡ Some rows)) → new ≡ option_map (with_names (take (i + 1) names)) old
  there_already is there =
      is ∙ so_far
      ∙ map_told old (with_names (take i names)) (with_names (take (i + 1) names))
      (λ t e. sym (more t ∙ ap (λ o. with_name_if o n (with_names (take i names) t)) (there (with_names (take i names) t) (mid_at t e)).1))

  -- where no room is left, too many would live
  pub no_room : ((t : Tables) → mid ≡ Some t → 100 ≤ length t.collections) → (t : Tables) → old ≡ Some t → 100 < length t.collections + length names
  no_room full t e =
      let f = full (with_names (take i names) t) (mid_at t e) in let a = few (take i names) t in let l = length-take-le i names (omega arith) in omega arith

-- ---- a keeper whose listed names are these

pub same_missed : (names listed found : List Name) (t : Tables) → found ≡ missing listed [] names → listed ≡ names_of t.collections → found ≡ missed names t
same_missed names listed found t is at = is ∙ ap (λ l. missing l [] names) at

pub so_many : (names listed found : List Name) (t : Tables) → found ≡ missing listed [] names → listed ≡ names_of t.collections → length listed + length found ≡ would_live names t
so_many names listed found t is at =
    let a = ap length at in let b = length-map t.collections (λ c. c.name) in let d = ap length (same_missed names listed found t is at) in omega arith

-- ---- what a preparation leaves, by the tables before alone

pub prepares_from : {K : Type 0} (tables : K → Option Tables) (names : List Name) (old mid new : K) (r : Prepared) → tables mid ≡ tables old → Prepares tables names mid new r → Prepares tables names old new r
prepares_from tables names old mid new (p.At first) same h = (h.0 ∙ ap (option_map (opened_with names)) same, h.1, h.2, λ t e. h.3 t (same ∙ e))
prepares_from tables names old mid new p.TooMany same h = λ t e. let x = h t (same ∙ e) in (x.0, x.1 ∙ same)
prepares_from tables names old mid new p.Failed same h = (h.0, h.1 ∙ ap (option_map (begun_with h.0 names)) same)
prepares_from tables names old mid new p.NoMemory same h = (h.0, h.1 ∙ ap (option_map (begun_with h.0 names)) same)
