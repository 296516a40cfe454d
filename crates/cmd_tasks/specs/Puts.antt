-- What the insertion of one document is, of which the reply is at hand.
use Rattle.std.specs.Prelude.{◌≡◌, ◌⊎◌, ℕ, List, Option, Some, ⊤}
use Rattle.json_tree.specs.Tree.{Tree}
use Rattle.shred_cols.specs.Row.{id_of}
use Rattle.col_keeper.specs.Tables.{Name}
use Rattle.reply_env.specs.Messages as errors
use Rattle.reply_env.specs.declared.reply.ErrorItem.{ErrorItem}
use Rattle.reply_env.specs.declared.reply.Reply.{Reply}
use Rattle.store_core.specs.State.{State as Base}
use Rattle.store_core.specs.declared.entry.Entry.{Entry}
use Rattle.cmd_tasks.specs.Trace.{Sight, sight}
use Rattle.cmd_tasks.specs.Served.{Stops}
use Rattle.cmd_tasks.specs.Insertions.{IsInserted, IsTaken}
use Rattle.cmd_tasks.specs.Looking.{Made, Refuses}
use Rattle.cmd_tasks.specs.declared.work.Moved.{Moved}
use Rattle.cmd_tasks.specs.declared.work.Moved.TheVariants as m

-- told or not: it ends with an item at the journal's end, or memory was wanting and nothing was done
abbrev pub Puts : ℕ → ℕ → ℕ → List Entry → List Entry → Moved → Type 0
Puts k low high H H' (m.Goes item w) = ⊥
Puts k low high H H' (m.Ends item reply) = Made k low high H H' item
Puts k low high H H' m.NoMemory = H' ≡ H

-- the interval of a look in the place of the insertion
abbrev pub MarksPut : Tree → Option Tree → Option Tree → Type 0
MarksPut d after up = (after ≡ Some (id_of d)) × (up ≡ Some (id_of d))

module _ (base : Base) (coll : Name) (k : ℕ) where
  -- what the sight is, and the reply to it: the document is inserted, and this is the reply that was at hand; or its id is there; or it stops with an error
  abbrev pub AnswersPut : Tree → Reply → Sight → Reply → Type 0
  AnswersPut d at_hand s reply =
      (IsInserted base coll k d s × (reply ≡ at_hand))
      ⊎ (((tx : ℕ) × IsTaken base coll k d tx s × Refuses (errors.already_exists (id_of d) tx) reply)
      ⊎ ((error : ErrorItem) × Stops base coll k (MarksPut d) ⊤ s.item s error × Refuses error reply))

  abbrev pub EndsPut : List Entry → Tree → Reply → Moved → Type 0
  EndsPut H' d at_hand (m.Goes item w) = ⊥
  EndsPut H' d at_hand (m.Ends item reply) = AnswersPut d at_hand (sight H' item) reply
  EndsPut H' d at_hand m.NoMemory = ⊤
