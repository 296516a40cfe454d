-- How a command that takes many documents goes on from what is taken next, and what its reply tells.
use Rattle.std.proofs.Common.{◌≡◌, ◌≢◌, ◌⊎◌, ℕ, ◌<◌, ◌≤◌, List, [], ◌∷◌, map, reverse, length, Bool, true, false, Option, Some, None, Result, Ok, Err, refl, sym, ap, ◌∙◌, subst, arith, inl, inr, ⊎_elim}
use Rattle.std.specs.Prelude.{nat_lt, if◌then◌else◌}
use Rattle.std.proofs.lemmas.List.{length-map, length-reverse}
use Rattle.json_tree.specs.Tree.{Tree}
use Rattle.shred_cols.specs.Row.{Version}
use Rattle.update_ops.specs.declared.fault.UpdateFault.{UpdateFault}
use Rattle.update_ops.specs.declared.fault.UpdateFault.TheVariants as faults
use Rattle.view_sort.specs.declared.page.PageState.{PageState}
use Rattle.reply_env.specs.Reply.{IsRefusalAfter}
use Rattle.reply_env.specs.declared.reply.ErrorItem.{ErrorItem}
use Rattle.reply_env.specs.declared.reply.SoFar.TheVariants as so_far
use Rattle.reply_env.specs.declared.reply.Reply.{Reply}
use Rattle.reply_env.specs.declared.reply.Reply.TheVariants.{UpdatedMany, DeletedMany, NoMemory}
use Rattle.cmd_grammar.specs.Refused.{update_error}
use Rattle.cmd_tasks.specs.Pages.{found_row}
use Rattle.cmd_tasks.specs.Looking.{Refuses}
use Rattle.cmd_tasks.specs.Doing.{Doing, makes, deletes}
use Rattle.cmd_tasks.specs.Taking.{Shown, Standing, Turn, inserts, is_done, is_refused, turn}
use Rattle.cmd_tasks.specs.Turns.{so_far_of, state_behind, done_reply, Ends}
use Rattle.cmd_tasks.specs.Many.{doing_of, put_for, IsStanding}
use Rattle.cmd_tasks.specs.Going.{Settles, IsRefused, TurnsDown, tally, GoesOnFrom, RefusesAfter}
use Rattle.cmd_tasks.specs.declared.work.Many as declared_many
use Rattle.cmd_tasks.specs.declared.work.Stand.{Stand}
use Rattle.cmd_tasks.specs.declared.work.State.TheVariants.{Paging}
use Rattle.cmd_tasks.specs.declared.work.Moved.TheVariants as m
use Rattle.cmd_tasks.specs.declared.taking.Settled.TheVariants as s
use Rattle.cmd_tasks.specs.declared.trace.Item.{Item}
use Rattle.cmd_tasks.proofs.Turnings.{IsAtEnd, full_turn, refused_turn, inserts_turn, unmade_turn}

-- ---- the same is told of the same counts

pub so_far_same : (doing : Doing) (a b : Standing) → a.matched ≡ b.matched → a.modified ≡ b.modified → so_far_of doing a ≡ so_far_of doing b
so_far_same (makes making up) a b e f = λ i. if nat_lt 0 (f i) then Some (so_far.Updated (e i) (f i)) else None
so_far_same deletes a b e f = λ i. if nat_lt 0 (f i) then Some (so_far.Deleted (f i)) else None

state_same : (page : Option PageState) (a b : Standing) (more : Bool) → a.matched ≡ b.matched → a.last ≡ b.last → state_behind page a more ≡ state_behind page b more
state_same page a b true e g = λ i. state_behind page (record a { matched = e i; last = g i }) true
state_same page a b false e g = refl

done_same : (doing : Doing) (page : Option PageState) (a b : Standing) (more : Bool) → a.matched ≡ b.matched → a.modified ≡ b.modified → a.last ≡ b.last → done_reply doing page a more ≡ done_reply doing page b more
done_same (makes making up) page a b more e f g = λ i. UpdatedMany (e i) (f i) None (state_same page a b more e g i)
done_same deletes page a b more e f g = λ i. DeletedMany (f i) more

-- ---- it is done

as_many : (rows : List Version) (waiting : List Shown) → map found_row (reverse rows) ≡ map (λ s. s.x) waiting → length rows ≡ length waiting
as_many rows waiting e = sym (length-reverse rows) ∙ (sym (length-map (reverse rows) found_row) ∙ (ap length e ∙ length-map waiting (λ s. s.x)))

none_of : {A : Type 0} (xs : List A) → length xs ≡ 0 → xs ≡ []
none_of [] e = refl
none_of (x ∷ xs) e = absurd (omega arith)

-- the reply tells that all is done, and that more match or don't, unless memory was wanting
abbrev pub TellsDone : declared_many.Many → Stand → Bool → Reply → Type 0
TellsDone many stand more reply = (reply ≡ done_reply (doing_of many.doing) many.page.value (tally stand) more) ⊎ (reply ≡ NoMemory stand.modified)

ends_with : (many : declared_many.Many) (item : Item) (stand : Stand) (st : Standing) (more : Bool) (reply : Reply) → turn (put_for many) (doing_of many.doing) st ≡ is_done more → IsStanding stand st st.queue
    → TellsDone many stand more reply → GoesOnFrom many item st (m.Ends item reply)
ends_with many item stand st more reply is h told = (
  refl,
  ⊎_elim
      (λ (e : reply ≡ done_reply (doing_of many.doing) many.page.value (tally stand) more). inl (subst (λ (z : Turn). Ends (doing_of many.doing) many.page.value st z reply) (sym is) (e ∙ done_same (doing_of many.doing) many.page.value (tally stand) st more h.matched h.modified h.last)))
      (λ (e : reply ≡ NoMemory stand.modified). inr (e ∙ ap (λ (n : ℕ). NoMemory n) h.modified))
      told,
)

-- some wait, so as many are counted as may be
pub more_ends : (many : declared_many.Many) (item : Item) (stand : Stand) (reply : Reply) → 0 < length stand.queue.items → TellsDone many stand true reply
    → (st : Standing) → Settles (doing_of many.doing) st (s.Untaken stand) → GoesOnFrom many item st (m.Ends item reply)
more_ends many item stand reply some told st h = go st.queue refl
  where
    go : (q : List Shown) → st.queue ≡ q → GoesOnFrom many item st (m.Ends item reply)
    go [] e = absurd (let n = as_many stand.queue.items st.queue h.0.queue in let l = ap length e in omega arith)
    go (t ∷ rest) e = ends_with many item stand st true reply
        (full_turn (put_for many) (doing_of many.doing) st t rest h.1 e (⊎_elim (λ (none : st.queue ≡ []). absurd (let n = as_many stand.queue.items st.queue h.0.queue in let l = ap length none in omega arith)) (λ (full : 20 ≤ st.matched). full) h.2)) h.0 told

-- ---- none wait

pub empty_waiting : (stand : Stand) (st : Standing) → length stand.queue.items ≡ 0 → IsStanding stand st st.queue → st.queue ≡ []
empty_waiting stand st none h = none_of st.queue (sym (as_many stand.queue.items st.queue h.queue) ∙ none)

pub emptied : (stand : Stand) (st : Standing) → st.queue ≡ [] → IsStanding stand st st.queue → IsStanding stand st []
emptied stand st empty h = subst (λ (q : List Shown). IsStanding stand st q) empty h

-- there is more to list
pub lists_on : (many : declared_many.Many) (item : Item) (stand : Stand) → length stand.queue.items ≡ 0 → stand.is_whole ≡ false → (st : Standing) → Settles (doing_of many.doing) st (s.Untaken stand) → GoesOnFrom many item st (m.Goes item (Paging many stand))
lists_on many item stand none more st h =
    let empty = empty_waiting stand st none h.0 in
    (refl, (refl, empty, sym h.0.is_whole ∙ more, emptied stand st empty h.0))

-- all was listed, and none was counted
module _ (many : declared_many.Many) (stand : Stand) (st : Standing) (h : IsStanding stand st []) (queue : st.queue ≡ []) (first : st.again ≡ false) (whole : st.is_whole ≡ true) (none : stand.matched ≡ 0) where
  at_end : IsAtEnd st
  at_end = record { first_time = first; queue = queue; whole = whole; none = sym h.matched ∙ none }

  pub puts_next : (d : Tree) → put_for many ≡ Some (Ok d) → turn (put_for many) (doing_of many.doing) st ≡ inserts d
  puts_next d due = inserts_turn (put_for many) (doing_of many.doing) st d at_end h.unput due

  pub turns_down : (fault : UpdateFault) → (fault ≡ faults.NoMemory) ⊎ (put_for many ≡ Some (Err fault)) → TurnsDown many stand fault st
  turns_down fault z = ⊎_elim
      (λ (cut : fault ≡ faults.NoMemory). inl (cut, h.modified))
      (λ (due : put_for many ≡ Some (Err fault)). inr (unmade_turn (put_for many) (doing_of many.doing) st fault at_end h.unput due, h.matched, h.modified))
      z

-- ---- a change or an insertion is refused

pub cases_fault : (fault : UpdateFault) → (fault ≡ faults.NoMemory) ⊎ (fault ≢ faults.NoMemory)
cases_fault faults.NoMemory = inl refl
cases_fault (faults.UnknownOperator name) = inr (λ e. cc)
cases_fault (faults.BadOperand operator path) = inr (λ e. cc)
cases_fault (faults.Overlap first second) = inr (λ e. cc)
cases_fault faults.TouchesId = inr (λ e. cc)
cases_fault (faults.WrongTarget path) = inr (λ e. cc)
cases_fault (faults.NumberRange path) = inr (λ e. cc)
cases_fault (faults.Broken broken) = inr (λ e. cc)

-- the change of the first one is
pub first_refused : (many : declared_many.Many) (stand : Stand) (fault : UpdateFault) (st : Standing) → Settles (doing_of many.doing) st (s.Refused stand fault) → TurnsDown many stand fault st
first_refused many stand fault st h = ⊎_elim
    (λ (none : (fault ≡ faults.NoMemory) × (stand.modified ≡ st.modified)). inl none)
    (λ (no : IsRefused (doing_of many.doing) stand fault st). inr (refused_turn (put_for many) (doing_of many.doing) st no.first no.rest fault no.first_time no.queue no.few no.refused, no.stands.matched, no.stands.modified))
    h

-- what a refusal is told as
abbrev pub TellsRefusals : Doing → Stand → Reply → Reply → Type 0
TellsRefusals doing stand from reply = (st : Standing) (error : ErrorItem) → stand.matched ≡ st.matched → stand.modified ≡ st.modified → Refuses error from → RefusesAfter doing st error reply

pub refused_ends : (many : declared_many.Many) (item : Item) (stand : Stand) (fault : UpdateFault) (from reply : Reply) → (fault ≡ faults.NoMemory → from ≡ NoMemory 0) → (fault ≢ faults.NoMemory → Refuses (update_error fault) from)
    → TellsRefusals (doing_of many.doing) stand from reply → ((n : ℕ) → from ≡ NoMemory n → reply ≡ NoMemory stand.modified) → (st : Standing) → TurnsDown many stand fault st → GoesOnFrom many item st (m.Ends item reply)
refused_ends many item stand fault from reply cut told tells cuts st h = (
  refl,
  ⊎_elim
      (λ (none : (fault ≡ faults.NoMemory) × (stand.modified ≡ st.modified)). inr (cuts 0 (cut none.0) ∙ ap (λ (n : ℕ). NoMemory n) none.1))
      (λ (no : (turn (put_for many) (doing_of many.doing) st ≡ is_refused fault) × (stand.matched ≡ st.matched) × (stand.modified ≡ st.modified)). ⊎_elim
      (λ (none : fault ≡ faults.NoMemory). inr (cuts 0 (cut none) ∙ ap (λ (n : ℕ). NoMemory n) no.2))
      (λ (some : fault ≢ faults.NoMemory). ⊎_elim
      (λ (after : IsRefusalAfter (so_far_of (doing_of many.doing) st) (update_error fault) reply). inl (subst (λ (z : Turn). Ends (doing_of many.doing) many.page.value st z reply) (sym no.0) after))
      (λ (none : reply ≡ NoMemory st.modified). inr none)
      (tells st (update_error fault) no.1 no.2 (told some)))
      (cases_fault fault))
      h,
)
