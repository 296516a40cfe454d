-- The first so many of what was found, page by page.
use Rattle.std.proofs.Common.{◌≡◌, ◌≢◌, ℕ, zero, suc, Bool, true, false, cond, List, [], ◌∷◌, ◌++◌, map, take, refl, sym, ap, ◌∙◌, subst, Ordering, is_gt, append-nil, Vec, Global, Result, Ok, Err}
use Rattle.std.specs.Prelude.{◌↔◌, IfOk, IsTrue}
use Rattle.std.specs.List.{AllByRecursion as Each}
use Rattle.std.specs.Ordering.{on}
use Rattle.std.proofs.lemmas.List.{take-map}
use Rattle.sqlite_keyed.specs.Lists.{insert_sorted, sort_by}
use Rattle.json_tree.specs.Doc.{IsDocument}
use Rattle.shred_cols.specs.Row.{Version, id_of}
use Rattle.view_sort.specs.Sort.{SortKeys, HasIds, found_cmp, sorted}
use Rattle.view_sort.specs.declared.fault.ViewFault.{ViewFault}
use Rattle.cmd_tasks.specs.Pages.{found_row}
use Rattle.cmd_tasks.specs.Searches.{stored, in_order}
use Rattle.cmd_tasks.specs.Finding.{ordered, KeepsFirst}

-- ---- found documents and their rows

insert_row : (cmp : Version → Version → Ordering) (new : Version) (vs : List Version) → insert_sorted (on stored cmp) (found_row new) (map found_row vs) ≡ map found_row (insert_sorted cmp new vs)
insert_row cmp new [] = refl
insert_row cmp new (v ∷ vs) =
    elim (is_gt (cmp new v)) as (λ b. cond b (found_row v ∷ insert_sorted (on stored cmp) (found_row new) (map found_row vs)) (found_row new ∷ found_row v ∷ map found_row vs) ≡ map found_row (cond b (v ∷ insert_sorted cmp new vs) (new ∷ v ∷ vs)))
    [ true ↦ ap (λ l. found_row v ∷ l) (insert_row cmp new vs) | false ↦ refl ]

sort_rows : (cmp : Version → Version → Ordering) (vs : List Version) → sort_by (on stored cmp) (map found_row vs) ≡ map found_row (sort_by cmp vs)
sort_rows cmp [] = refl
sort_rows cmp (v ∷ vs) = ap (insert_sorted (on stored cmp) (found_row v)) (sort_rows cmp vs) ∙ insert_row cmp v (sort_by cmp vs)

in_order_rows : (sort : SortKeys) (vs : List Version) → in_order sort (map found_row vs) ≡ map found_row (ordered sort vs)
in_order_rows [] vs = refl
in_order_rows (key ∷ keys) vs = sort_rows (found_cmp (key ∷ keys)) vs

-- the first of what was found are the rows of the first
pub first_rows : (sort : SortKeys) (keep : ℕ) (vs : List Version) → take keep (in_order sort (map found_row vs)) ≡ map found_row (take keep (ordered sort vs))
first_rows sort keep vs = ap (take keep) (in_order_rows sort vs) ∙ take-map found_row keep (ordered sort vs)

rows_back : (vs : List Version) → map stored (map found_row vs) ≡ vs
rows_back [] = refl
rows_back (v ∷ vs) = ap (λ l. v ∷ l) (rows_back vs)

pub rows_same : (vs ws : List Version) → map found_row vs ≡ map found_row ws → vs ≡ ws
rows_same vs ws e = sym (rows_back vs) ∙ ap (map stored) e ∙ rows_back ws

-- ---- ids of what is sorted and cut

all_insert : (P : Version → Type 0) (cmp : Version → Version → Ordering) (new : Version) (vs ws : List Version) → P new → Each P (vs ++ ws) → Each P (insert_sorted cmp new vs ++ ws)
all_insert P cmp new [] ws h all = (h, all)
all_insert P cmp new (v ∷ vs) ws h all =
    elim (is_gt (cmp new v)) as (λ b. Each P (cond b (v ∷ insert_sorted cmp new vs) (new ∷ v ∷ vs) ++ ws)) [ true ↦ (all.0, all_insert P cmp new vs ws h all.1) | false ↦ (h, all) ]

all_sort : (P : Version → Type 0) (cmp : Version → Version → Ordering) (vs ws : List Version) → Each P (vs ++ ws) → Each P (sort_by cmp vs ++ ws)
all_sort P cmp [] ws all = all
all_sort P cmp (v ∷ vs) ws all = all_insert P cmp v (sort_by cmp vs) ws all.0 (all_sort P cmp vs ws all.1)

all_take : (P : Version → Type 0) (keep : ℕ) (vs ws : List Version) → Each P (vs ++ ws) → Each P (take keep vs ++ ws)
all_take P zero [] ws all = all
all_take P (suc n) [] ws all = all
all_take P zero (v ∷ vs) ws all = all_take P zero vs ws all.1
all_take P (suc n) (v ∷ vs) ws all = (all.0, all_take P n vs ws all.1)

insert_ids : (cmp : Version → Version → Ordering) (new : Version) (vs ws : List Version) → IsDocument new.doc → Each (λ w. id_of new.doc ≢ id_of w.doc) (vs ++ ws) → HasIds (vs ++ ws) → HasIds (insert_sorted cmp new vs ++ ws)
insert_ids cmp new [] ws d far ids = ((d, far), ids)
insert_ids cmp new (v ∷ vs) ws d far ids =
    elim (is_gt (cmp new v)) as (λ b. HasIds (cond b (v ∷ insert_sorted cmp new vs) (new ∷ v ∷ vs) ++ ws)) [
      | true ↦ ((ids.0.0, all_insert (λ w. id_of v.doc ≢ id_of w.doc) cmp new vs ws (λ e. far.0 (sym e)) ids.0.1), insert_ids cmp new vs ws d far.1 ids.1)
      | false ↦ ((d, far), ids)
    ]

sort_ids : (cmp : Version → Version → Ordering) (vs ws : List Version) → HasIds (vs ++ ws) → HasIds (sort_by cmp vs ++ ws)
sort_ids cmp [] ws ids = ids
sort_ids cmp (v ∷ vs) ws ids = insert_ids cmp v (sort_by cmp vs) ws ids.0.0 (all_sort (λ w. id_of v.doc ≢ id_of w.doc) cmp vs ws ids.0.1) (sort_ids cmp vs ws ids.1)

take_ids : (keep : ℕ) (vs ws : List Version) → HasIds (vs ++ ws) → HasIds (take keep vs ++ ws)
take_ids zero [] ws ids = ids
take_ids (suc n) [] ws ids = ids
take_ids zero (v ∷ vs) ws ids = take_ids zero vs ws ids.1
take_ids (suc n) (v ∷ vs) ws ids = ((ids.0.0, all_take (λ w. id_of v.doc ≢ id_of w.doc) n vs ws ids.0.1), take_ids n vs ws ids.1)

-- ---- a page more

take_again : (keep : ℕ) (vs ws : List Version) → take keep (take keep vs ++ ws) ≡ take keep (vs ++ ws)
take_again zero vs ws = refl
take_again (suc n) [] ws = refl
take_again (suc n) (v ∷ vs) ws = ap (λ l. v ∷ l) (take_again n vs ws)

-- a page without rows
pub keeps_same : (sort : SortKeys) (keep : ℕ) (kept rows : List Version) → rows ≡ [] → KeepsFirst sort keep kept rows kept
keeps_same sort keep kept rows none vs ids is = is ∙ ap (λ l. take keep (ordered sort l)) (sym (ap (λ l. vs ++ l) none ∙ append-nil vs))

-- without a sort
pub keeps_cut : (sort : SortKeys) (keep : ℕ) (kept rows first : List Version) → sort ≡ [] → first ≡ take keep (kept ++ rows) → KeepsFirst sort keep kept rows first
keeps_cut sort keep kept rows first none cut vs ids is =
    cut ∙ ap (λ l. take keep (l ++ rows)) (is ∙ ap (λ s. take keep (ordered s vs)) none) ∙ take_again keep vs rows ∙ sym (ap (λ s. take keep (ordered s (vs ++ rows))) none)

-- pages in turn give the first of all
abbrev pub ArePaged : Type 0
ArePaged = (sort : List (List ℕ × Bool)) (keep : ℕ) (xs ys : List Version) → HasIds (xs ++ ys) → take keep (sorted sort (take keep (sorted sort xs) ++ ys)) ≡ take keep (sorted sort (xs ++ ys))

-- under a sort
pub keeps_sorted : ArePaged → (sort : SortKeys) (keep : ℕ) (kept rows first : List Version) → (sort ≡ [] → ⊥) → (HasIds (kept ++ rows) → first ≡ take keep (sorted sort (kept ++ rows))) → KeepsFirst sort keep kept rows first
keeps_sorted paged [] keep kept rows first some one vs ids is = absurd (some refl)
keeps_sorted paged (key ∷ keys) keep kept rows first some one vs ids is =
    let sort : SortKeys = key ∷ keys in
    let front : HasIds (take keep (sorted sort vs) ++ rows) = take_ids keep (sorted sort vs) rows (sort_ids (found_cmp sort) vs rows ids) in
    one (subst (λ (l : List Version). HasIds (l ++ rows)) (sym is) front) ∙ ap (λ l. take keep (sorted sort (l ++ rows))) is ∙ paged sort keep vs rows ids

pub keeps_ordered : ArePaged → (sort : SortKeys) (keep : ℕ) (kept rows all : List Version) → (is_none : Bool) → (IsTrue is_none ↔ (sort ≡ [])) → is_none ≡ false → all ≡ kept ++ rows → (o : Result (Vec Version Global) ViewFault)
    → (HasIds all → IfOk o (λ first. first.items ≡ take keep (sorted sort all))) → IfOk o (λ first. KeepsFirst sort keep kept rows first.items)
keeps_ordered paged sort keep kept rows all is_none empty some is (Ok first) one =
    keeps_sorted paged sort keep kept rows first.items (λ e. no (sym some ∙ empty.1 e)) (λ ids. subst (λ (l : List Version). first.items ≡ take keep (sorted sort l)) is (one (subst HasIds (sym is) ids)))
  where
    no : false ≡ true → ⊥
    no e = cc
keeps_ordered paged sort keep kept rows all is_none empty some is (Err fault) one = tt
