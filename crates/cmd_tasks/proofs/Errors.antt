-- Which errors a reply to a request may tell: beside lost writes and failed calls only some.
use Rattle.std.proofs.Common.{◌≡◌, ◌⊎◌, ℕ, List, [], ◌∷◌, ◌++◌, map, reverse, length, Option, Some, None, Result, Ok, Err, refl, sym, subst, inl, inr, Vec, Global}
use Rattle.std.specs.Prelude.{MatchOption, slice_get}
use Rattle.std.specs.List.{AllByRecursion as Each}
use Rattle.std.specs.Option.{option_map}
use Rattle.json_tree.specs.Tree.{Tree}
use Rattle.shred_cols.specs.Row.{id_of}
use Rattle.shred_cols.specs.Rows.{first}
use Rattle.col_keeper.specs.Tables.{Name}
use Rattle.filter_tree.specs.Filters.{FilterTree}
use Rattle.update_ops.specs.declared.fault.UpdateFault.{UpdateFault}
use Rattle.view_sort.specs.Sort.{SortKeys}
use Rattle.view_sort.specs.View.{view}
use Rattle.view_sort.specs.declared.page.PageState.{PageState}
use Rattle.reply_env.specs.Messages as errors
use Rattle.reply_env.specs.Reply.{IsRefusal, IsRefusalOf, IsRefusalAfter}
use Rattle.reply_env.specs.declared.reply.ErrorItem.{ErrorItem}
use Rattle.reply_env.specs.declared.reply.SoFar.{SoFar}
use Rattle.reply_env.specs.declared.reply.Reply.{Reply}
use Rattle.reply_env.specs.declared.reply.Reply.TheVariants as replies
use Rattle.cmd_grammar.specs.Refused.{update_error}
use Rattle.store_core.specs.State.{State as Base}
use Rattle.store_core.specs.declared.entry.Change.{Change}
use Rattle.store_core.specs.declared.entry.Entry.TheVariants.{Failed}
use Rattle.cmd_tasks.specs.Trace.{Sight, Found, shown}
use Rattle.cmd_tasks.specs.Part.{keep_of, part_of, state_after}
use Rattle.cmd_tasks.specs.Doing.{Doing, makes, deletes, change_of, upsert_of}
use Rattle.cmd_tasks.specs.Jobs.{Job, Form, by_counts, shows, inserts, finds_one, finds, counts, changes_one, changes_many, creates, drops, names}
use Rattle.cmd_tasks.specs.Insertions.{doubles, inserted, error_of_double, TellsIds, TellsInsertions}
use Rattle.cmd_tasks.specs.Outcomes.{Outcome, put, changed, unchanged, none_found, ShowsChange, ShowsDeletion, TellsChange, TellsDeletion, Tells, TellsMet, TellsUnwritten, TellsUnput, TellsNone}
use Rattle.cmd_tasks.specs.Taking.{Standing, Turn, looks_on, looks_again, attempts, inserts as puts, is_done, is_put, is_taken, is_refused, gives_up}
use Rattle.cmd_tasks.specs.Turns.{Ends, so_far_of, done_reply}
use Rattle.cmd_tasks.specs.Served.{TellsFound, TellsListed, TellsNames, losses, accepted, chosen, round, HasChange, put_last, IsFound, TellsWon, TellsPut, AnswersRounds, AnswersOne, many_standing, many_turn, IsMarked, Stops, Marks, IsToWrite, errors_before, TellsBefore, IsPartOf, IsStopped, Answers, TellsStop, Serves}
use Rattle.cmd_tasks.specs.Undisturbed.{TellsOnly}
use Rattle.cmd_tasks.specs.declared.trace.Item.{Item}
use Rattle.cmd_tasks.specs.declared.trace.Item.TheVariants.{Looked, Wrote, Lost, Faulted}
use Rattle.cmd_tasks.proofs.Calm.{each_append}
use Rattle.cmd_tasks.proofs.Smooth.{match_out}

-- such errors
pub record IsPlain (P : ErrorItem → Type 0) : Type 0 where
  pub taken : (id : Tree) (tx : ℕ) → P (errors.already_exists id tx)
  pub fault : (fault : UpdateFault) → P (update_error fault)
  pub sorted : P errors.too_many_to_sort
  pub full : P errors.too_many_collections
  pub spent : P errors.versions_spent
  pub gone : (coll : Name) → P (errors.no_collection coll)

-- and those of lost writes, where four were lost
module _ (P : ErrorItem → Type 0) (base : Base) (coll : Name) (k : ℕ) where
  abbrev pub TellsLosses : Job → List Sight → Type 0
  TellsLosses (inserts ds ordered) sights = Unit {0}
  TellsLosses (finds_one f sort p) sights = Unit {0}
  TellsLosses (finds f sort look p) sights = Unit {0}
  TellsLosses (counts f) sights = Unit {0}
  TellsLosses (changes_one f sort doing form) sights = put_last base coll k f sort doing sights ≡ None → length (losses sights) ≡ 4 → P (errors.lost_writes (reverse (losses sights)))
  TellsLosses (changes_many f doing page) sights = many_turn base coll k f doing page sights ≡ gives_up → P (errors.lost_writes (reverse (many_standing base coll k f doing page sights).losses))
  TellsLosses creates sights = Unit {0}
  TellsLosses drops sights = Unit {0}
  TellsLosses names sights = Unit {0}

-- and that of a failed call
abbrev pub TellsFault : (ErrorItem → Type 0) → ℕ → List Sight → Type 0
TellsFault P k [] = Unit {0}
TellsFault P k (s ∷ earlier) = (before count : ℕ) → s.entry ≡ Some (Failed k before count) → P (errors.store_fault before count)

module _ (P : ErrorItem → Type 0) (plain : IsPlain P) where
  -- ---- replies by their form

  own_if_refused : (reply : Reply) → ((listed : Vec ErrorItem Global) (so_far : Option SoFar) → reply ≡ replies.Refused listed so_far → Each P listed.items) → TellsOnly P reply
  own_if_refused (replies.Inserted ids) f = tt
  own_if_refused (replies.Found view) f = tt
  own_if_refused (replies.Listed views state) f = tt
  own_if_refused (replies.Counted count more) f = tt
  own_if_refused (replies.Updated matched modified upserted) f = tt
  own_if_refused (replies.UpdatedMany matched modified upserted state) f = tt
  own_if_refused (replies.Deleted deleted) f = tt
  own_if_refused (replies.DeletedMany deleted more) f = tt
  own_if_refused (replies.FoundAndChanged view matched modified upserted) f = tt
  own_if_refused (replies.FoundAndDeleted view deleted) f = tt
  own_if_refused replies.Done f = tt
  own_if_refused (replies.Names told) f = tt
  own_if_refused (replies.Refused listed so_far) f = f listed so_far refl
  own_if_refused (replies.NoMemory accepted) f = tt

  -- it has a form that no refusal has
  own_by : (Form : Reply → Type 0) → ((listed : Vec ErrorItem Global) (so_far : Option SoFar) → Form (replies.Refused listed so_far) → ⊥) → (reply : Reply) → Form reply → TellsOnly P reply
  own_by Form none reply h = own_if_refused reply (λ listed so_far e. absurd (none listed so_far (subst Form e h)))

  pub same_own : (reply other : Reply) → reply ≡ other → TellsOnly P other → TellsOnly P reply
  same_own reply other e own = subst (TellsOnly P) (sym e) own

  refusal_own : (es : List ErrorItem) (So_far : Option SoFar → Type 0) (reply : Reply) → Each P es → IsRefusalOf es So_far reply → TellsOnly P reply
  refusal_own es So_far reply own h = own_if_refused reply (λ listed so_far e. let is : IsRefusalOf es So_far (replies.Refused listed so_far) = subst (IsRefusalOf es So_far) e h in subst (Each P) (sym is.0) own)

  pub one_own : (error : ErrorItem) (so_far : Option SoFar) (reply : Reply) → P error → IsRefusalAfter so_far error reply → TellsOnly P reply
  one_own error so_far reply own h = refusal_own (error ∷ []) (λ done. done ≡ so_far) reply (own, tt) h

  -- the reply to a request that is refused by itself
  blamed : (error : ErrorItem) (reply : Reply) → P error → IsRefusal error reply ⊎ (reply ≡ replies.NoMemory 0) → TellsOnly P reply
  blamed error reply own (inl h) = one_own error None reply own h
  blamed error reply own (inr h) = same_own reply (replies.NoMemory 0) h tt

  -- ---- insertions

  double_own : (item : Item) (d : Option Tree) → Each P (error_of_double item d)
  double_own (Looked at after up_to shown) d = tt
  double_own (Wrote at) d = tt
  double_own (Lost at read None) d = tt
  double_own (Lost at read (Some tx)) None = tt
  double_own (Lost at read (Some tx)) (Some d) = (plain.taken (id_of d) tx, tt)
  double_own (Faulted at before count) d = tt

  doubles_own : (ds : List Tree) (sights : List Sight) → Each P (doubles ds sights)
  doubles_own ds [] = tt
  doubles_own ds (s ∷ earlier) = each_append P (doubles ds earlier) (error_of_double s.item (slice_get ds (length earlier))) (doubles_own ds earlier) (double_own s.item (slice_get ds (length earlier)))

  insertions_own : (ids : List Tree) (es : List ErrorItem) (reply : Reply) → Each P es → TellsInsertions ids es reply → TellsOnly P reply
  insertions_own ids [] reply own h = own_by (TellsIds ids) (λ listed so_far z. z) reply h
  insertions_own ids (e ∷ es) reply own h = refusal_own (e ∷ es) _ reply own h

  -- ---- a change of one document

  change_own : (form : Form) (o : Outcome) (reply : Reply) → TellsChange form o reply → TellsOnly P reply
  change_own by_counts o reply h = same_own reply _ h tt
  change_own (shows p after) o reply h = own_by (ShowsChange _ o) (λ listed so_far z. z) reply h

  deletion_own : (form : Form) (o : Outcome) (reply : Reply) → TellsDeletion form o reply → TellsOnly P reply
  deletion_own by_counts o reply h = same_own reply _ h tt
  deletion_own (shows p after) o reply h = own_by (ShowsDeletion _ o) (λ listed so_far z. z) reply h

  tells_own : (doing : Doing) (form : Form) (o : Outcome) (reply : Reply) → Tells doing form o reply → TellsOnly P reply
  tells_own (makes making up) form o reply h = change_own form o reply h
  tells_own deletes form o reply h = deletion_own form o reply h

  met_own : (doing : Doing) (form : Form) (d : Tree) (r : Result (Option Change) UpdateFault) (reply : Reply) → TellsMet doing form d r reply → TellsOnly P reply
  met_own doing form d (Ok None) reply h = tells_own doing form (unchanged d) reply h
  met_own doing form d (Ok (Some change)) reply h = absurd h
  met_own doing form d (Err fault) reply h = one_own (update_error fault) None reply (plain.fault fault) h

  unput_own : (doing : Doing) (form : Form) (o : Option (Result Tree UpdateFault)) (reply : Reply) → TellsUnput doing form o reply → TellsOnly P reply
  unput_own doing form None reply h = tells_own doing form none_found reply h
  unput_own doing form (Some (Ok d)) reply h = absurd h
  unput_own doing form (Some (Err fault)) reply h = one_own (update_error fault) None reply (plain.fault fault) h

  module _ (base : Base) (coll : Name) (k : ℕ) where
    -- ---- searches

    found_own : (f : FilterTree) (sort : SortKeys) (keep : ℕ) (looks : List Sight) (Told : List Found → Type 0) (reply : Reply) → ((xs : List Found) → Told xs → TellsOnly P reply) → IsFound base coll k f sort keep looks Told reply → TellsOnly P reply
    found_own f sort keep looks Told reply tells (listed, inl z) = one_own errors.too_many_to_sort None reply plain.sorted z.1
    found_own f sort keep looks Told reply tells (listed, inr z) = tells _ z.1

    module _ (f : FilterTree) (sort : SortKeys) (doing : Doing) (form : Form) where
      won_own : (sights : List Sight) (reply : Reply) → TellsWon base coll k f sort doing form sights reply → TellsOnly P reply
      won_own [] reply h = absurd h
      won_own (s ∷ earlier) reply h =
          match_out (chosen base coll k f sort earlier) ⊥ (λ x. HasChange base coll k f sort doing x (λ change. Tells doing form (changed change x.doc) reply)) (TellsOnly P reply)
          (λ e l. absurd l) (λ x e c. tells_own doing form (changed c.0 x.doc) reply c.2) h.1

      put_own : (d : Tree) (sights : List Sight) (reply : Reply) → TellsPut base coll k f sort doing form d sights reply → TellsOnly P reply
      put_own d [] reply h = absurd h
      put_own d (s ∷ earlier) reply (inl z) = tells_own doing form (put d) reply z.1
      put_own d (s ∷ earlier) reply (inr z) = one_own (errors.already_exists (id_of d) z.0) None reply (plain.taken (id_of d) z.0) z.2

      met_first : (o : Option Found) (reply : Reply) → MatchOption o (TellsNone f doing form reply) (λ x. TellsUnwritten doing form x.doc reply) → TellsOnly P reply
      met_first None reply h = unput_own doing form (upsert_of f doing) reply h
      met_first (Some x) reply h = met_own doing form x.doc (change_of doing x.doc) reply h

      rounds_own : (sights : List Sight) (reply : Reply) → (length (losses sights) ≡ 4 → P (errors.lost_writes (reverse (losses sights)))) → AnswersRounds base coll k f sort doing form sights reply → TellsOnly P reply
      rounds_own sights reply lost (inl h) = won_own sights reply h
      rounds_own sights reply lost (inr (inl h)) = one_own (errors.lost_writes (reverse (losses sights))) None reply (lost h.0) h.1
      rounds_own sights reply lost (inr (inr h)) = found_own f sort 1 (round sights) (λ xs. MatchOption (first xs) (TellsNone f doing form reply) (λ x. TellsUnwritten doing form x.doc reply)) reply (λ xs t. met_first (first xs) reply t) h.2

      answers_one_own : (sights : List Sight) (reply : Reply) → TellsLosses P base coll k (changes_one f sort doing form) sights → AnswersOne base coll k f sort doing form sights reply → TellsOnly P reply
      answers_one_own sights reply lost h =
          match_out (put_last base coll k f sort doing sights) (AnswersRounds base coll k f sort doing form sights reply) (λ d. TellsPut base coll k f sort doing form d sights reply) (TellsOnly P reply)
          (λ e a. rounds_own sights reply (lost e) a)
          (λ d e a. put_own d sights reply a) h

    -- ---- many are changed

    done_own : (doing : Doing) (page : Option PageState) (st : Standing) (more : _) → TellsOnly P (done_reply doing page st more)
    done_own (makes making up) page st more = tt
    done_own deletes page st more = tt

    ends_own : (doing : Doing) (page : Option PageState) (st : Standing) (t : Turn) (reply : Reply) → (t ≡ gives_up → P (errors.lost_writes (reverse st.losses))) → Ends doing page st t reply → TellsOnly P reply
    ends_own doing page st (looks_on from) reply c h = absurd h
    ends_own doing page st (looks_again id) reply c h = absurd h
    ends_own doing page st (attempts q change) reply c h = absurd h
    ends_own doing page st (puts d) reply c h = absurd h
    ends_own doing page st (is_done more) reply c h = same_own reply (done_reply doing page st more) h (done_own doing page st more)
    ends_own doing page st (is_put d) reply c h = same_own reply _ h tt
    ends_own doing page st (is_taken d tx) reply c h = one_own (errors.already_exists (id_of d) tx) None reply (plain.taken (id_of d) tx) h
    ends_own doing page st (is_refused fault) reply c h = one_own (update_error fault) (so_far_of doing st) reply (plain.fault fault) h
    ends_own doing page st gives_up reply c h = one_own (errors.lost_writes (reverse st.losses)) (so_far_of doing st) reply (c refl) h

    -- ---- collections

    creates_own : (sights : List Sight) (reply : Reply) → Answers base coll k creates sights reply → TellsOnly P reply
    creates_own [] reply h = absurd h
    creates_own (s ∷ earlier) reply (inl z) = same_own reply replies.Done z.1 tt
    creates_own (s ∷ earlier) reply (inr z) = one_own errors.too_many_collections None reply plain.full z.1

    drops_own : (sights : List Sight) (reply : Reply) → Answers base coll k drops sights reply → TellsOnly P reply
    drops_own [] reply h = absurd h
    drops_own (s ∷ earlier) reply h = same_own reply replies.Done h.1 tt

    names_own : (sights : List Sight) (reply : Reply) → Answers base coll k names sights reply → TellsOnly P reply
    names_own [] reply h = absurd h
    names_own (s ∷ earlier) reply h = own_by (TellsNames _) (λ listed so_far z. z) reply h.1

    -- ---- all jobs

    answers_own : (job : Job) (sights : List Sight) (reply : Reply) → TellsLosses P base coll k job sights → Answers base coll k job sights reply → TellsOnly P reply
    answers_own (inserts ds ordered) sights reply lost h = insertions_own (inserted ds sights) (doubles ds sights) reply (doubles_own ds sights) h.1
    answers_own (finds_one f sort p) sights reply lost h =
        found_own f sort 1 sights (λ xs. TellsFound (option_map (λ x. view p x.doc) (first xs)) reply) reply
        (λ xs t. own_by (TellsFound (option_map (λ x. view p x.doc) (first xs))) (λ listed so_far z. z) reply t) h
    answers_own (finds f sort look p) sights reply lost h =
        found_own f sort (keep_of p) sights (λ xs. TellsListed (map (λ x. view look x.doc) (part_of p xs)) (state_after sort p (part_of p xs)) reply) reply
        (λ xs t. own_by (TellsListed (map (λ x. view look x.doc) (part_of p xs)) (state_after sort p (part_of p xs))) (λ listed so_far z. z) reply t) h
    answers_own (counts f) sights reply lost h = same_own reply _ h.1 tt
    answers_own (changes_one f sort doing form) sights reply lost h = answers_one_own f sort doing form sights reply lost h
    answers_own (changes_many f doing page) sights reply lost h = ends_own doing page (many_standing base coll k f doing page sights) (many_turn base coll k f doing page sights) reply lost h
    answers_own creates sights reply lost h = creates_own sights reply h
    answers_own drops sights reply lost h = drops_own sights reply h
    answers_own names sights reply lost h = names_own sights reply h

    before_own : (job : Job) (sights : List Sight) → Each P (errors_before base coll k job sights)
    before_own (inserts ds ordered) sights = doubles_own ds sights
    before_own (finds_one f sort p) sights = tt
    before_own (finds f sort look p) sights = tt
    before_own (counts f) sights = tt
    before_own (changes_one f sort doing form) sights = tt
    before_own (changes_many f doing page) sights = tt
    before_own creates sights = tt
    before_own drops sights = tt
    before_own names sights = tt

    mark_own : (to_write : Type 0) (s : Sight) (error : ErrorItem) → IsMarked base coll k to_write s error → P error
    mark_own to_write s error (inl z) = subst P (sym z.2) plain.spent
    mark_own to_write s error (inr z) = subst P (sym z.2) (plain.gone coll)

    stop_own : (marks : Option Tree → Option Tree → Type 0) (to_write : Type 0) (s : Sight) (error : ErrorItem) (i : Item) → ((before count : ℕ) → s.entry ≡ Some (Failed k before count) → P (errors.store_fault before count)) → Stops base coll k marks to_write i s error → P error
    stop_own marks to_write s error (Looked at after up_to shown) failed h = mark_own to_write s error h.2
    stop_own marks to_write s error (Wrote at) failed h = absurd h
    stop_own marks to_write s error (Lost at read found) failed h = absurd h
    stop_own marks to_write s error (Faulted at before count) failed h = subst P (sym h.1) (failed before count h.0)

    stopped_own : (job : Job) (sights : List Sight) (error : ErrorItem) (reply : Reply) → TellsFault P k sights → IsStopped base coll k job sights error → TellsStop base coll k job sights error reply → TellsOnly P reply
    stopped_own job [] error reply failed h t = absurd h
    stopped_own job (s ∷ earlier) error reply failed h t =
        let own = stop_own (Marks base coll k job earlier) (IsToWrite base coll k job earlier) s error s.item failed h.2 in
        refusal_own (errors_before base coll k job earlier ++ error ∷ []) (TellsBefore base coll k job earlier) reply (each_append P (errors_before base coll k job earlier) (error ∷ []) (before_own job earlier) (own, tt)) t

    pub serves_own : (job : Job) (sights : List Sight) (reply : Reply) → (IsPartOf base coll k job sights → TellsLosses P base coll k job sights) → TellsFault P k sights → Serves base coll k job sights reply → TellsOnly P reply
    serves_own job sights reply lost failed (inl z) = answers_own job sights reply (lost z.0) z.1
    serves_own job sights reply lost failed (inr (inl z)) = stopped_own job sights z.0 reply failed z.1 z.2
    serves_own job sights reply lost failed (inr (inr z)) = same_own reply _ z.1 tt
