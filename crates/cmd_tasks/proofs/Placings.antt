-- The insertion of a document where a command for one has found none.
use Rattle.std.proofs.Common.{◌≡◌, ◌⊎◌, ℕ, List, ◌∷◌, sym, ap, subst, arith, inl, inr, ⊎_elim}
use Rattle.std.specs.Prelude.{⊤}
use Rattle.json_tree.specs.Tree.{Tree}
use Rattle.shred_cols.specs.Row.{id_of}
use Rattle.col_keeper.specs.Tables.{Name}
use Rattle.filter_tree.specs.Filters.{FilterTree}
use Rattle.filter_tree.specs.View.{filter_tree}
use Rattle.reply_env.specs.Messages as errors
use Rattle.reply_env.specs.declared.reply.ErrorItem.{ErrorItem}
use Rattle.reply_env.specs.declared.reply.Reply.{Reply}
use Rattle.store_core.specs.State.{State as Base}
use Rattle.store_core.specs.declared.entry.Entry.{Entry}
use Rattle.view_sort.specs.Sort.{SortKeys}
use Rattle.cmd_tasks.specs.Trace.{Sight, sight}
use Rattle.cmd_tasks.specs.Doing.{Doing}
use Rattle.cmd_tasks.specs.Jobs.{Form}
use Rattle.cmd_tasks.specs.Insertions.{IsInserted, IsTaken, IsInsertion}
use Rattle.cmd_tasks.specs.Served.{IsPartOf, AnswersOne, TellsPut, Serves, Stops, Marks, IsToWrite, chosen, insertion, put_last, one_if_wrote}
use Rattle.cmd_tasks.specs.Looking.{Refuses}
use Rattle.cmd_tasks.specs.Puts.{Puts, MarksPut, EndsPut}
use Rattle.cmd_tasks.specs.Many.{doing_of, form_of}
use Rattle.cmd_tasks.specs.Moves.{changing, Steps, Leads, IsUnderWay, IsPutting}
use Rattle.cmd_tasks.specs.declared.work.One.{One}
use Rattle.cmd_tasks.specs.declared.work.State.TheVariants.{Putting}
use Rattle.cmd_tasks.specs.declared.work.Moved.{Moved}
use Rattle.cmd_tasks.specs.declared.work.Moved.TheVariants as m
use Rattle.cmd_tasks.specs.declared.trace.Item.{Item}
use Rattle.cmd_tasks.proofs.Requests.{stops_for, stopped_serves, answered}
use Rattle.cmd_tasks.proofs.Fresh.{match_some, match_none, some_is}

pub put_steps : (k low high : ℕ) (H H' : List Entry) (one : One) (d : Tree) (reply : Reply) (o : Moved) → Puts k low high H H' o → Steps k low high (Putting one d reply) H H' o
put_steps k low high H H' one d reply (m.Goes i w) h = absurd h
put_steps k low high H H' one d reply (m.Ends i r) h = h
put_steps k low high H H' one d reply m.NoMemory h = h

module _ (base : Base) (coll : Name) (k : ℕ) (one : One) (d : Tree) (reply : Reply) (H' : List Entry) (earlier : List Sight) (way : IsUnderWay base coll k (Putting one d reply) earlier) where
  abbrev f : FilterTree
  f = filter_tree one.search.wanted.filter

  abbrev sort : SortKeys
  sort = one.search.sort

  abbrev doing : Doing
  doing = doing_of one.doing

  abbrev form : Form
  form = form_of one.form

  abbrev kept : IsPutting base coll k one d reply earlier
  kept = way.1

  part : (s : Sight) → IsInsertion base coll k d s → IsPartOf base coll k (changing one) (s ∷ earlier)
  part s inserts = (way.0.0, way.0.1, match_none (chosen base coll k f sort earlier) _ _ kept.none_found (match_some (insertion base coll k f sort doing earlier) d _ _ kept.is inserts))

  answers : (s : Sight) (r : Reply) → TellsPut base coll k f sort doing form d (s ∷ earlier) r → AnswersOne base coll k f sort doing form (s ∷ earlier) r
  answers s r told = match_some (put_last base coll k f sort doing (s ∷ earlier)) d _ _ kept.is told

  -- it was inserted
  put_serves : (s : Sight) → IsInserted base coll k d s → Serves base coll k (changing one) (s ∷ earlier) reply
  put_serves s is = inl (part s (inl is), answers s reply (inl (is, kept.tells)))

  -- its id is there
  taken_serves : (s : Sight) (tx : ℕ) (r : Reply) → IsTaken base coll k d tx s → Refuses (errors.already_exists (id_of d) tx) r → Serves base coll k (changing one) (s ∷ earlier) r
  taken_serves s tx r is refuses = answered base coll k (changing one) (s ∷ earlier) r _ (part s (inr (tx, is))) (let a = way.0.1.0 in let b : one_if_wrote s.item ≡ 0 = ap one_if_wrote is.item in omega arith)
      (λ t. answers s r (inr (tx, is, t))) refuses

  -- it stops there
  stop_serves : (i : Item) (error : ErrorItem) (r : Reply) → Stops base coll k (MarksPut d) ⊤ i (sight H' i) error → Refuses error r → Serves base coll k (changing one) (sight H' i ∷ earlier) r
  stop_serves i error r stops refuses = stopped_serves base coll k (changing one) tt earlier (sight H' i) error r way.0
      (stops_for base coll k (MarksPut d) (Marks base coll k (changing one) earlier) (IsToWrite base coll k (changing one) earlier) i (sight H' i) error
      (inr (some_is (insertion base coll k f sort doing earlier) d kept.is))
      (λ after up marks. match_none (chosen base coll k f sort earlier) _ _ kept.none_found (match_some (insertion base coll k f sort doing earlier) d _ _ kept.is marks)) stops) refuses

  pub put_leads : (o : Moved) → EndsPut base coll k H' d reply o → Leads base coll k H' (Putting one d reply) earlier o
  put_leads (m.Goes i w) h = absurd h
  put_leads (m.Ends i r) h = ⊎_elim
      (λ (won : IsInserted base coll k d (sight H' i) × (r ≡ reply)). subst (λ (z : Reply). Serves base coll k (changing one) (sight H' i ∷ earlier) z) (sym won.1) (put_serves (sight H' i) won.0))
      (λ rest. ⊎_elim
      (λ (taken : (tx : ℕ) × IsTaken base coll k d tx (sight H' i) × Refuses (errors.already_exists (id_of d) tx) r). taken_serves (sight H' i) taken.0 r taken.1 taken.2)
      (λ (stop : (error : ErrorItem) × Stops base coll k (MarksPut d) ⊤ i (sight H' i) error × Refuses error r). stop_serves i stop.0 r stop.1 stop.2) rest) h
  put_leads m.NoMemory h = tt
