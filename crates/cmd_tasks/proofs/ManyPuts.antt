-- The insertion of a document by a command that takes many, since it counted none.
use Rattle.std.proofs.Common.{◌≡◌, ◌⊎◌, ℕ, ◌+◌, List, [], ◌∷◌, Option, Some, None, Result, Ok, refl, sym, ap, ◌∙◌, subst, arith, inl, inr, ⊎_elim}
use Rattle.std.specs.Prelude.{⊤, nat_lt, if◌then◌else◌}
use Rattle.json_tree.specs.Tree.{Tree}
use Rattle.shred_cols.specs.Row.{id_of}
use Rattle.col_keeper.specs.Tables.{Name}
use Rattle.filter_tree.specs.Filters.{FilterTree}
use Rattle.filter_tree.specs.View.{filter_tree}
use Rattle.update_ops.specs.declared.fault.UpdateFault.{UpdateFault}
use Rattle.reply_env.specs.Messages as errors
use Rattle.reply_env.specs.Reply.{IsRefusal, IsRefusalAfter}
use Rattle.reply_env.specs.declared.reply.ErrorItem.{ErrorItem}
use Rattle.reply_env.specs.declared.reply.SoFar.{SoFar}
use Rattle.reply_env.specs.declared.reply.Reply.{Reply}
use Rattle.reply_env.specs.declared.reply.Reply.TheVariants.{NoMemory}
use Rattle.store_core.specs.State.{State as Base}
use Rattle.store_core.specs.declared.entry.Entry.{Entry}
use Rattle.cmd_tasks.specs.Trace.{Sight, sight}
use Rattle.cmd_tasks.specs.Doing.{Doing}
use Rattle.cmd_tasks.specs.Jobs.{Job}
use Rattle.cmd_tasks.specs.Insertions.{IsInserted, IsTaken, IsInsertion}
use Rattle.cmd_tasks.specs.Looking.{Refuses}
use Rattle.cmd_tasks.specs.Puts.{Puts, MarksPut, AnswersPut, EndsPut}
use Rattle.cmd_tasks.specs.Taking.{Standing, Put, was_put, was_taken, settle, settled, win, lose, with_item, Turn, turn}
use Rattle.cmd_tasks.specs.Turns.{IsWrite, MarksTurn, Follows, counts_of, so_far_of, Ends}
use Rattle.cmd_tasks.specs.Served.{IsPartOf, Stops, Serves, accepted, one_if_wrote}
use Rattle.cmd_tasks.specs.Many.{doing_of, taking, put_for}
use Rattle.cmd_tasks.specs.Going.{RefusesAfter}
use Rattle.cmd_tasks.specs.Moves.{Steps, IsUnderWay, Leads, stands_at}
use Rattle.cmd_tasks.specs.declared.work.Many.{Many}
use Rattle.cmd_tasks.specs.declared.work.Stand.{Stand}
use Rattle.cmd_tasks.specs.declared.work.State.{State}
use Rattle.cmd_tasks.specs.declared.work.State.TheVariants.{PuttingMany}
use Rattle.cmd_tasks.specs.declared.work.Moved.{Moved}
use Rattle.cmd_tasks.specs.declared.work.Moved.TheVariants as m
use Rattle.cmd_tasks.proofs.Requests.{stops_for}
use Rattle.cmd_tasks.proofs.Accepted.{unput_accepts}
use Rattle.cmd_tasks.proofs.Turnings.{IsAtEnd, IsToPut, to_put, was_put_turn, was_taken_turn}
use Rattle.cmd_tasks.proofs.Following.{many_stopped}

-- told or not
pub put_steps : (k low high : ℕ) (H H' : List Entry) (w : State) (o : Moved) → Puts k low high H H' o → Steps k low high w H H' o
put_steps k low high H H' w (m.Goes i w') h = absurd h
put_steps k low high H H' w (m.Ends i reply) h = h
put_steps k low high H H' w m.NoMemory h = h

module _ (base : Base) (coll : Name) (k : ℕ) (many : Many) (stand : Stand) (doc : Tree) (told : Reply) (H' : List Entry) (earlier : List Sight) (way : IsUnderWay base coll k (PuttingMany many stand doc told) earlier) where
  abbrev f : FilterTree
  f = filter_tree many.wanted.filter

  abbrev doing : Doing
  doing = doing_of many.doing

  abbrev up : Option (Result Tree UpdateFault)
  up = put_for many

  abbrev job : Job
  job = taking many

  -- where it stands before the insertion
  abbrev st : Standing
  st = stands_at base coll k many earlier

  is : IsToPut up doing st doc
  is = to_put up doing st doc way.1.is

  -- where it stands behind it
  abbrev behind : Put → Standing
  behind p = record st { queue = []; put = p }

  ends_there : (p : Put) → IsAtEnd (behind p)
  ends_there p = record { first_time = is.at_end.first_time; queue = refl; whole = is.at_end.whole; none = is.at_end.none }

  accepted_none : accepted earlier ≡ 0
  accepted_none = unput_accepts base coll k f doing many.page.value earlier way.0.0 is.unput ∙ way.1.none_written

  part : (s : Sight) → IsInsertion base coll k doc s → IsPartOf base coll k job (s ∷ earlier)
  part s insertion = (way.0.0, way.0.1, subst (λ (t : Turn). Follows base coll k f t s) (sym way.1.is) insertion)

  -- the reply that belongs to where it stands now
  ends : (s : Sight) (p : Put) (t : Turn) (reply : Reply) → stands_at base coll k many (s ∷ earlier) ≡ behind p → turn up doing (behind p) ≡ t → Ends doing many.page.value (behind p) t reply
      → Ends doing many.page.value (stands_at base coll k many (s ∷ earlier)) (turn up doing (stands_at base coll k many (s ∷ earlier))) reply
  ends s p t reply stands next h = subst (λ (z : Standing). Ends doing many.page.value z (turn up doing z) reply) (sym stands) (subst (λ (x : Turn). Ends doing many.page.value (behind p) x reply) (sym next) h)

  inserted : (s : Sight) (reply : Reply) → IsInserted base coll k doc s → reply ≡ told → Serves base coll k job (s ∷ earlier) reply
  inserted s reply i e = inl (part s (inl i), ends s was_put _ reply stands (was_put_turn up doing (behind was_put) doc (ends_there was_put) refl is.due) (e ∙ way.1.tells))
    where
      stands : stands_at base coll k many (s ∷ earlier) ≡ behind was_put
      stands = ap (λ z. with_item base coll f doing z s st) i.wrote.0 ∙ (ap (λ q. settle doing (win q st)) is.at_end.queue ∙ ap (λ q. settled doing q (record st { put = was_put })) is.at_end.queue)

  taken : (s : Sight) (tx : ℕ) (reply : Reply) → IsTaken base coll k doc tx s → Refuses (errors.already_exists (id_of doc) tx) reply → Serves base coll k job (s ∷ earlier) reply
  taken s tx reply t refuses = ⊎_elim
      (λ (r : IsRefusal (errors.already_exists (id_of doc) tx) reply). inl (whole, ends s p _ reply stands (was_taken_turn up doing (behind p) doc tx (ends_there p) refl is.due) r))
      (λ (e : reply ≡ NoMemory 0). inr (inr (inl whole, e ∙ ap NoMemory (let a = accepted_none in let b = ap one_if_wrote t.item in omega (arith, a, b)))))
      refuses
    where
      p : Put
      p = was_taken (Some tx)

      whole : IsPartOf base coll k job (s ∷ earlier)
      whole = part s (inr (tx, t))

      stands : stands_at base coll k many (s ∷ earlier) ≡ behind p
      stands = ap (λ z. with_item base coll f doing z s st) t.item ∙ ((λ j. lose (record { read = 0; found = Some tx }) (is.at_end.queue j) st) ∙ (λ j. record st { queue = is.at_end.queue j; put = p }))

  stopped : (s : Sight) (error : ErrorItem) (reply : Reply) → Stops base coll k (MarksPut doc) ⊤ s.item s error → Refuses error reply → Serves base coll k job (s ∷ earlier) reply
  stopped s error reply stops refuses = many_stopped base coll k f doing many.page.value earlier s error reply way.0
      (stops_for base coll k (MarksPut doc) (MarksTurn (turn up doing st)) (IsWrite (turn up doing st)) s.item s error (subst IsWrite (sym way.1.is) tt) (λ after to h. subst (λ (x : Turn). MarksTurn x after to) (sym way.1.is) h) stops)
      is.unput
      (⊎_elim
      (λ (r : IsRefusal error reply). inl (subst (λ (o : Option SoFar). IsRefusalAfter o error reply) (sym (ap (λ n. if nat_lt 0 n then Some (counts_of doing st) else None) way.1.none_written)) r))
      (λ (e : reply ≡ NoMemory 0). inr (e ∙ ap NoMemory (sym way.1.none_written)))
      refuses)

  pub put_leads : (o : Moved) → EndsPut base coll k H' doc told o → Leads base coll k H' (PuttingMany many stand doc told) earlier o
  put_leads (m.Goes i w) h = absurd h
  put_leads (m.Ends i reply) h = ⊎_elim
      (λ won. inserted (sight H' i) reply won.0 won.1)
      (λ more. ⊎_elim (λ t. taken (sight H' i) t.0 reply t.1 t.2) (λ z. stopped (sight H' i) z.0 reply z.1 z.2) more)
      h
  put_leads m.NoMemory h = tt
