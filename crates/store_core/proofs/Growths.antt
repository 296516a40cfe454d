-- A call appends nothing, or one entry by its session.
use Rattle.std.proofs.Common.{◌≡◌, ℕ, ◌≤◌, List, [], ◌∷◌, ◌++◌, length, Option, Some, None, refl, sym, ◌∙◌, arith}
use Rattle.std.proofs.lemmas.List.{append-nil}
use Rattle.json_tree.specs.Tree.{Tree}
use Rattle.shred_cols.specs.declared.probe.Probe.{Probe}
use Rattle.col_keeper.specs.Tables.{Name}
use Rattle.store_core.specs.Counts.{by_of, AllBy}
use Rattle.store_core.specs.Store.{Stored}
use Rattle.store_core.specs.Growth.{Grows}
use Rattle.store_core.specs.Outcomes.{Fails, Writes, Looks, Pages, Lists, Creates, Drops}
use Rattle.store_core.specs.declared.entry.Change.{Change}
use Rattle.store_core.specs.declared.entry.Entry.{Entry}
use Rattle.store_core.specs.declared.outcome.WriteOutcome.{WriteOutcome}
use Rattle.store_core.specs.declared.outcome.WriteOutcome.TheVariants as w
use Rattle.store_core.specs.declared.outcome.Looked.{Looked}
use Rattle.store_core.specs.declared.outcome.Looked.TheVariants as l
use Rattle.store_core.specs.declared.outcome.Paged.{Paged}
use Rattle.store_core.specs.declared.outcome.Paged.TheVariants as p
use Rattle.store_core.specs.declared.outcome.Shaped.{Shaped}
use Rattle.store_core.specs.declared.outcome.Shaped.TheVariants as sh
use Rattle.store_core.specs.declared.outcome.Listed.{Listed}
use Rattle.store_core.specs.declared.outcome.Listed.TheVariants as li

stay : (by : Option ℕ) (old new : List Entry) → new ≡ old → Grows by old new
stay None old new is = is
stay (Some by) old new is = ([], is ∙ sym (append-nil old), tt, omega arith)

one : (by : ℕ) (old new : List Entry) (e : Entry) → by_of e ≡ by → new ≡ old ++ e ∷ [] → Grows (Some by) old new
one by old new e its is = (e ∷ [], is, (its, tt), omega arith)

module _ {K : Type 0} (failed : K → ℕ) (old new : Stored K) where
  fault : (by : Option ℕ) (at before count : ℕ) → Fails failed by old new at before count → Grows by old.journal new.journal
  fault None at before count h = h.entered ∙ append-nil old.journal
  fault (Some by) at before count h = one by old.journal new.journal _ refl h.entered

  pub write_grows : (by : ℕ) (coll : Name) (id : Tree) (read : Option ℕ) (change : Change) (o : WriteOutcome) → Writes failed by coll id read change old new o → Grows (Some by) old.journal new.journal
  write_grows by coll id read change (w.Written at tx) h = one by old.journal new.journal _ refl h.0.1
  write_grows by coll id read change (w.Lost at found) h = stay (Some by) old.journal new.journal h.0.1
  write_grows by coll id read change (w.NoCollection at) h = stay (Some by) old.journal new.journal h.0.1
  write_grows by coll id read change (w.VersionsSpent at) h = stay (Some by) old.journal new.journal h.0.1
  write_grows by coll id read change (w.Fault at before count) h = fault (Some by) at before count h
  write_grows by coll id read change w.NoMemory h = stay (Some by) old.journal new.journal h

  pub look_grows : (by : Option ℕ) (coll : Name) (id : Tree) (o : Looked) → Looks failed by coll id old new o → Grows by old.journal new.journal
  look_grows by coll id (l.Row at row) h = stay by old.journal new.journal h.0.1
  look_grows by coll id (l.NoCollection at) h = stay by old.journal new.journal h.0.1
  look_grows by coll id (l.Fault at before count) h = fault by at before count h
  look_grows by coll id l.NoMemory h = stay by old.journal new.journal h

  pub page_grows : (by : Option ℕ) (coll : Name) (probe : Probe) (after : Option Tree) (o : Paged) → Pages failed by coll probe after old new o → Grows by old.journal new.journal
  page_grows by coll probe after (p.Rows at page end) h = stay by old.journal new.journal h.0.1
  page_grows by coll probe after (p.NoCollection at) h = stay by old.journal new.journal h.0.1
  page_grows by coll probe after (p.Fault at before count) h = fault by at before count h
  page_grows by coll probe after p.NoMemory h = stay by old.journal new.journal h

  pub list_grows : (by : Option ℕ) (o : Listed) → Lists failed by old new o → Grows by old.journal new.journal
  list_grows by (li.Names at names) h = stay by old.journal new.journal h.0.1
  list_grows by (li.Fault at before count) h = fault by at before count h
  list_grows by li.NoMemory h = stay by old.journal new.journal h

  pub create_grows : (by : ℕ) (coll : Name) (o : Shaped) → Creates failed by coll old new o → Grows (Some by) old.journal new.journal
  create_grows by coll (sh.Done at) h = one by old.journal new.journal _ refl h.0.1
  create_grows by coll (sh.Same at) h = stay (Some by) old.journal new.journal h.0.1
  create_grows by coll (sh.TooMany at found) h = stay (Some by) old.journal new.journal h.0.1
  create_grows by coll (sh.Fault at before count) h = fault (Some by) at before count h
  create_grows by coll sh.NoMemory h = stay (Some by) old.journal new.journal h

  pub drop_grows : (by : ℕ) (coll : Name) (o : Shaped) → Drops failed by coll old new o → Grows (Some by) old.journal new.journal
  drop_grows by coll (sh.Done at) h = one by old.journal new.journal _ refl h.0.1
  drop_grows by coll (sh.Same at) h = stay (Some by) old.journal new.journal h.0.1
  drop_grows by coll (sh.TooMany at found) h = absurd h
  drop_grows by coll (sh.Fault at before count) h = fault (Some by) at before count h
  drop_grows by coll sh.NoMemory h = stay (Some by) old.journal new.journal h
