-- What a reply tells of a document that is met, and of it that none is found.
use Rattle.std.proofs.Common.{◌≡◌, ◌≢◌, ◌⊎◌, Option, Some, None, Result, Ok, Err, sym, subst, inl, inr, ⊎_elim}
use Rattle.json_tree.specs.Tree.{Tree}
use Rattle.filter_tree.specs.Filters.{FilterTree}
use Rattle.update_ops.specs.declared.fault.UpdateFault.{UpdateFault}
use Rattle.update_ops.specs.declared.fault.UpdateFault.TheVariants as faults
use Rattle.cmd_grammar.specs.Refused.{update_error}
use Rattle.reply_env.specs.Reply.{IsRefusal}
use Rattle.reply_env.specs.declared.reply.Reply.{Reply}
use Rattle.reply_env.specs.declared.reply.Reply.TheVariants.{NoMemory}
use Rattle.store_core.specs.declared.entry.Change.{Change}
use Rattle.store_core.specs.declared.entry.Change.TheVariants.{Delete}
use Rattle.cmd_tasks.specs.Doing.{Doing, makes, deletes, change_of, upsert_of}
use Rattle.cmd_tasks.specs.Jobs.{Form}
use Rattle.cmd_tasks.specs.Outcomes.{unchanged, put, TellsChange, Tells, TellsMet, TellsUnwritten, TellsUnput, TellsNone, ready}
use Rattle.cmd_tasks.specs.Looking.{Refuses}
use Rattle.cmd_tasks.proofs.Goings.{cases_fault}

-- ---- a document that is met

-- a deletion leaves no document as it is
deletes_some : ◌≡◌ {A = Result (Option Change) UpdateFault} (Ok (Some Delete)) (Ok None) → ⊥
deletes_some e = cc

pub unchanged_told : (doing : Doing) (form : Form) (d : Tree) (r : Reply) → change_of doing d ≡ Ok None → TellsChange form (unchanged d) r → TellsUnwritten doing form d r
unchanged_told (makes making up) form d r e told = subst (λ (z : Result (Option Change) UpdateFault). TellsMet (makes making up) form d z r) (sym e) told
unchanged_told deletes form d r e told = absurd (deletes_some e)

-- an error is told, or memory was wanting for it or before
told_or_cut : (fault : UpdateFault) (r : Reply) (P M : Type 0) → (fault ≡ faults.NoMemory) ⊎ P → (fault ≡ faults.NoMemory → r ≡ NoMemory 0) → (fault ≢ faults.NoMemory → Refuses (update_error fault) r) → (P → IsRefusal (update_error fault) r → M) → M ⊎ (r ≡ NoMemory 0)
told_or_cut fault r P M meant cut told so = ⊎_elim
    (λ (e : fault ≡ faults.NoMemory). inr (cut e))
    (λ (p : P). ⊎_elim (λ (e : fault ≡ faults.NoMemory). inr (cut e)) (λ (n : fault ≢ faults.NoMemory). ⊎_elim (λ (t : IsRefusal (update_error fault) r). inl (so p t)) (λ (e : r ≡ NoMemory 0). inr e) (told n)) (cases_fault fault))
    meant

pub refusal_told : (doing : Doing) (form : Form) (d : Tree) (r : Reply) (fault : UpdateFault) → (fault ≡ faults.NoMemory) ⊎ (change_of doing d ≡ Err fault) → (fault ≡ faults.NoMemory → r ≡ NoMemory 0) → (fault ≢ faults.NoMemory → Refuses (update_error fault) r)
    → TellsUnwritten doing form d r ⊎ (r ≡ NoMemory 0)
refusal_told doing form d r fault meant cut told = told_or_cut fault r _ _ meant cut told (λ (e : change_of doing d ≡ Err fault) t. subst (λ (z : Result (Option Change) UpdateFault). TellsMet doing form d z r) (sym e) t)

-- ---- none is found

-- a deletion inserts none
inserts_none : (d : Tree) → ready None ≡ Some d → ⊥
inserts_none d e = cc

pub put_told : (f : FilterTree) (doing : Doing) (form : Form) (d : Tree) (r : Reply) → ready (upsert_of f doing) ≡ Some d → TellsChange form (put d) r → Tells doing form (put d) r
put_told f (makes making up) form d r e told = told
put_told f deletes form d r e told = absurd (inserts_none d e)

pub unput_told : (f : FilterTree) (doing : Doing) (form : Form) (r : Reply) (fault : UpdateFault) → (fault ≡ faults.NoMemory) ⊎ (upsert_of f doing ≡ Some (Err fault)) → (fault ≡ faults.NoMemory → r ≡ NoMemory 0) → (fault ≢ faults.NoMemory → Refuses (update_error fault) r)
    → TellsNone f doing form r ⊎ (r ≡ NoMemory 0)
unput_told f doing form r fault meant cut told = told_or_cut fault r _ _ meant cut told (λ (e : upsert_of f doing ≡ Some (Err fault)) t. subst (λ (z : Option (Result Tree UpdateFault)). TellsUnput doing form z r) (sym e) t)
