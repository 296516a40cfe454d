-- What a keeper's answers to the calls that read show of the state.
use Rattle.std.proofs.Common.{◌≡◌, ◌≤◌, ◌∙◌, ℕ, true, false, cond, [], ◌∷◌, Option, Some, None, refl, sym, ap, subst, Less, Equal, Greater, Ordering}
use Rattle.std.specs.Prelude.{option_and_then, IfSome, Ok, ◌↔◌, map}
use Rattle.std.specs.Ordering.{is_eq, eq_by_cmp}
use Rattle.std.specs.FinMap.Entries.{find}
use Rattle.json_tree.specs.Tree.{Tree}
use Rattle.json_tree.specs.Id.{IsId, id_cmp}
use Rattle.shred_cols.specs.Row.{Version, id_of}
use Rattle.shred_cols.specs.Rows.{Rows, version_of, ascends}
use Rattle.shred_cols.specs.declared.probe.Probe.{Probe}
use Rattle.std.specs.List.{AllByRecursion as Each}
use Rattle.std.specs.Str.{bytes_eq}
use Rattle.col_keeper.specs.Tables.{Name, Collections, IsCollection, IsEntry, rows_in, version_at}
use Rattle.col_keeper.specs.Answers.{GetAnswers, WalkAnswers}
use Rattle.col_keeper.specs.declared.answer.Walked.{Walked}
use Rattle.store_core.specs.Outcomes.{ShowsPage}

pub look_shows : (o : Option Rows) (id : Tree) (row : Option Version) → GetAnswers o id (Ok row) → ((rows : Rows) × (o ≡ Some rows)) × (option_and_then (version_of id) o ≡ row)
look_shows None id row h = absurd h
look_shows (Some rows) id row h = ((rows, refl), h)

-- what stands under an id is its document

abbrev pub TellsApart : Type 0
TellsApart = (x y : Tree) → IsId x → IsId y → id_cmp x y ≡ Equal → x ≡ y

equal : (o : Ordering) → is_eq o ≡ true → o ≡ Equal
equal Less e = cc
equal Equal e = refl
equal Greater e = cc

found_keyed : (last : ℕ) (id : Tree) (rows : Rows) (row : Option Version) → IsId id → TellsApart → Each (IsEntry last) rows → version_of id rows ≡ row → IfSome row (λ v. id_of v.doc ≡ id)
found_keyed last id [] row is apart h e = subst (λ (o : Option Version). IfSome o (λ v. id_of v.doc ≡ id)) e tt
found_keyed last id (r ∷ rows) row is apart h e = elim (eq_by_cmp id_cmp id r.0) as (λ b. eq_by_cmp id_cmp id r.0 ≡ b → cond b (Some r.1) (find id_cmp id rows) ≡ row → IfSome row (λ v. id_of v.doc ≡ id)) [
  | true ↦ λ q there. subst (λ (o : Option Version). IfSome o (λ v. id_of v.doc ≡ id)) there (h.0.0 ∙ sym (apart id r.0 is h.0.1 (equal (id_cmp id r.0) q)))
  | false ↦ λ q there. found_keyed last id rows row is apart h.1 there
] refl e

same_rows : (a b : Rows) → ◌≡◌ {A = Option Rows} (Some a) (Some b) → a ≡ b
same_rows a b q = cc

entries_in : (last : ℕ) (coll : Name) (cs : Collections) (rows : Rows) → rows_in coll cs ≡ Some rows → Each (λ c. IsCollection last c.rows) cs → Each (IsEntry last) rows
entries_in last coll [] rows e h = cc
entries_in last coll (c ∷ cs) rows e h = elim (bytes_eq coll c.name) as (λ b. cond b (Some c.rows) (rows_in coll cs) ≡ Some rows → Each (IsEntry last) rows) [
  | true ↦ λ q. subst (Each (IsEntry last)) (same_rows c.rows rows q) h.0.entries
  | false ↦ λ q. entries_in last coll cs rows q h.1
] e

pub look_keyed : (last : ℕ) (coll : Name) (id : Tree) (cs : Collections) (row : Option Version) → IsId id → TellsApart → Each (λ c. IsCollection last c.rows) cs → version_at coll id cs ≡ row → IfSome row (λ v. id_of v.doc ≡ id)
look_keyed last coll id cs row is apart sound e = go (rows_in coll cs) refl e
  where
    go : (o : Option Rows) → rows_in coll cs ≡ o → option_and_then (version_of id) o ≡ row → IfSome row (λ v. id_of v.doc ≡ id)
    go None q there = subst (λ (o : Option Version). IfSome o (λ v. id_of v.doc ≡ id)) there tt
    go (Some rows) q there = found_keyed last id rows row is apart (entries_in last coll cs rows q sound) there

-- ---- pages

sorted : (last : ℕ) (coll : Name) (cs : Collections) (rows : Rows) → rows_in coll cs ≡ Some rows → Each (λ c. IsCollection last c.rows) cs → ascends rows ≡ true
sorted last coll [] rows e h = cc
sorted last coll (c ∷ cs) rows e h =
    elim (bytes_eq coll c.name) as (λ b. cond b (Some c.rows) (rows_in coll cs) ≡ Some rows → ascends rows ≡ true) [
      | true ↦ λ e. subst (λ (r : Rows). ascends r ≡ true) (same c.rows rows e) h.0.ascends
      | false ↦ λ e. sorted last coll cs rows e h.1
    ] e
  where
    same : (a b : Rows) → Some a ≡ Some b → a ≡ b
    same a b q = cc

pub page_shows : (last : ℕ) (coll : Name) (cs : Collections) (probe : Probe) (after : Option Tree) (w : Walked) → Each (λ c. IsCollection last c.rows) cs → WalkAnswers (rows_in coll cs) probe after 64 (Ok w) → (rows : Rows) × (rows_in coll cs ≡ Some rows) × (ascends rows ≡ true) × ShowsPage probe after rows w.rows.items w.end
page_shows last coll cs probe after w sound h = go (rows_in coll cs) refl h
  where
    go : (o : Option Rows) → rows_in coll cs ≡ o → WalkAnswers o probe after 64 (Ok w) → (rows : Rows) × (rows_in coll cs ≡ Some rows) × (ascends rows ≡ true) × ShowsPage probe after rows w.rows.items w.end
    go None q h = absurd h
    go (Some rows) q h = (rows, q, sorted last coll cs rows q sound, h)
