-- What holds of the rows that a sound keeper answers.
use Rattle.std.proofs.Common.{◌≡◌, ◌≤◌, ℕ, true, false, cond, [], ◌∷◌, Option, Some, None, Result, Ok, Err, refl, sym, subst}
use Rattle.std.specs.Prelude.{IfOk, IfSome}
use Rattle.std.specs.List.{AllByRecursion as Each, filter}
use Rattle.json_tree.specs.Tree.{Tree}
use Rattle.shred_cols.specs.declared.probe.Probe.{Probe}
use Rattle.shred_cols.specs.Row.{Version, id_of}
use Rattle.shred_cols.specs.Rows.{Rows, is_after, first, next_of}
use Rattle.col_keeper.specs.Tables.{Name, Collections, IsEntry, IsCollection, IsShort, rows_in}
use Rattle.col_keeper.specs.Pages.{IsPage}
use Rattle.col_keeper.specs.Answers.{GetAnswers, WalkAnswers, StoredAnswers, IsStored, IsAbove}
use Rattle.col_keeper.specs.declared.answer.KeepFault.{KeepFault}
use Rattle.col_keeper.specs.declared.answer.Walked.{Walked}
use Rattle.col_keeper.specs.declared.answer.Stored.{Stored}
use Rattle.keeper_mem.proofs.Sound.{sound_rows, sound_version}
use Rattle.keeper_mem.proofs.Scans.{page_sound}

pub short_row : (last : ℕ) (name : Name) (id : Tree) (cs : Collections) (rows : Rows) (r : Result (Option Version) KeepFault) → Some rows ≡ rows_in name cs → Each (λ c. IsCollection last c.rows) cs → GetAnswers (Some rows) id r → IfOk r (λ o. IfSome o (λ v. IsShort (id_of v.doc)))
short_row last name id cs rows (Err e) there sound h = tt
short_row last name id cs rows (Ok None) there sound h = tt
short_row last name id cs rows (Ok (Some v)) there sound h = sound_version last id rows v h (sound_rows last name cs rows there sound).entries

first_entry : (last : ℕ) (after : Option Tree) (rows : Rows) (e : Tree × Version) → Each (IsEntry last) rows → next_of after rows ≡ Some e → IsAbove after e.0
first_entry last after [] e h q = cc
first_entry last after (x ∷ rows) e h q =
    elim (is_after after x.0) as (λ b. is_after after x.0 ≡ b → first (cond b (x ∷ filter (λ e. is_after after e.0) rows) (filter (λ e. is_after after e.0) rows)) ≡ Some e → IsAbove after e.0) [
      | true ↦ λ p q. subst (λ (k : Tree × Version). IsAbove after k.0) (same x e q) (p, h.0.2)
      | false ↦ λ p q. first_entry last after rows e h.1 q
    ] refl q
  where
    same : (a b : Tree × Version) → Some a ≡ Some b → a ≡ b
    same a b e = cc

pub above_row : (last : ℕ) (name : Name) (after : Option Tree) (cs : Collections) (rows : Rows) (r : Result (Option Stored) KeepFault) → Some rows ≡ rows_in name cs → Each (λ c. IsCollection last c.rows) cs → StoredAnswers (Some rows) after r → IfOk r (λ o. IfSome o (λ s. IsAbove after s.id))
above_row last name after cs rows (Err e) there sound h = tt
above_row last name after cs rows (Ok None) there sound h = tt
above_row last name after cs rows (Ok (Some s)) there sound h = go (next_of after rows) refl h
  where
    go : (o : Option (Tree × Version)) → next_of after rows ≡ o → IsStored o (Some s) → IsAbove after s.id
    go None q h = absurd h
    go (Some e) q h = subst (IsAbove after) (sym h.0) (first_entry last after rows e (sound_rows last name cs rows there sound).entries q)

pub walked_page : (last : ℕ) (name : Name) (cs : Collections) (probe : Probe) (after : Option Tree) (n : ℕ) (rows : Rows) (r : Result Walked KeepFault) → Some rows ≡ rows_in name cs → Each (λ c. IsCollection last c.rows) cs → 1 ≤ n → WalkAnswers (Some rows) probe after n r → IfOk r (λ w. IsPage after n w.rows.items w.end)
walked_page last name cs probe after n rows (Err e) there sound one h = tt
walked_page last name cs probe after n rows (Ok w) there sound one h = page_sound last rows probe after n w.rows.items w.end (sound_rows last name cs rows there sound) one h.0 h.1
