-- What a step makes of the one document that is searched for and changed, told or not.
use Rattle.std.specs.Prelude.{◌≡◌, ◌⊎◌, ℕ, ◌<◌, ◌≤◌, List, [], ◌∷◌, ◌++◌, length, Option, Some, None, Ok}
use Rattle.std.proofs.Common.{Vec, Global}
use Rattle.json_tree.specs.Tree.{Tree}
use Rattle.shred_cols.specs.Row.{Version, id_of}
use Rattle.col_keeper.specs.Tables.{KeepsLimits}
use Rattle.filter_tree.specs.View.{filter_tree}
use Rattle.reply_env.specs.Messages as errors
use Rattle.reply_env.specs.declared.reply.Reply.{Reply}
use Rattle.reply_env.specs.declared.reply.Reply.TheVariants.{NoMemory}
use Rattle.reply_env.specs.declared.update_errors.Loss.{Loss}
use Rattle.cmd_tasks.specs.Doing.{change_of, upsert_of}
use Rattle.cmd_tasks.specs.Outcomes.{changed, put, Tells, TellsUnwritten, TellsNone, ready}
use Rattle.cmd_tasks.specs.Many.{doing_of, form_of, IsReadyTo}
use Rattle.cmd_tasks.specs.Looking.{Refuses}
use Rattle.cmd_tasks.specs.Searching.{IsFresh}
use Rattle.cmd_tasks.specs.declared.work.Attempt.{Attempt}
use Rattle.cmd_tasks.specs.declared.work.One.{One}
use Rattle.cmd_tasks.specs.declared.work.Progress.{Progress}
use Rattle.cmd_tasks.specs.declared.work.State.TheVariants.{Choosing, Changing, Putting}
use Rattle.cmd_tasks.specs.declared.work.Moved.{Moved}
use Rattle.cmd_tasks.specs.declared.work.Moved.TheVariants as m
use Rattle.cmd_tasks.specs.declared.trace.Item.{Item}
use Rattle.cmd_tasks.specs.declared.trace.Item.TheVariants.{Lost}

-- the attempt comes next, of this change of the row, and a reply that tells it is at hand
pub record Attempts (one : One) (v : Version) (attempt : Attempt) (reply : Reply) : Type 0 where
  pub id : attempt.id ≡ id_of v.doc
  pub read : attempt.read ≡ v.tx
  pub change : change_of (doing_of one.doing) v.doc ≡ Ok (Some attempt.change)
  pub ready_to : IsReadyTo attempt
  pub tells : Tells (doing_of one.doing) (form_of one.form) (changed attempt.change v.doc) reply

-- what is made of the row that is taken: an attempt comes next, or no write is needed
abbrev pub Takes : One → Item → Version → Moved → Type 0
Takes one item v (m.Goes i w) = (i ≡ item) × ((attempt : Attempt) × (reply : Reply) × Attempts one v attempt reply × (w ≡ Changing one attempt reply))
Takes one item v (m.Ends i reply) = (i ≡ item) × (TellsUnwritten (doing_of one.doing) (form_of one.form) v.doc reply ⊎ (reply ≡ NoMemory 0))
Takes one item v m.NoMemory = ⊥

-- what is made of it that none was found: an insertion comes next, or none does
abbrev pub Misses : One → Item → Moved → Type 0
Misses one item (m.Goes i w) =
    (i ≡ item) × ((d : Tree) × (reply : Reply) × (ready (upsert_of (filter_tree one.search.wanted.filter) (doing_of one.doing)) ≡ Some d) × KeepsLimits d
    × Tells (doing_of one.doing) (form_of one.form) (put d) reply × (w ≡ Putting one d reply))
Misses one item (m.Ends i reply) = (i ≡ item) × (TellsNone (filter_tree one.search.wanted.filter) (doing_of one.doing) (form_of one.form) reply ⊎ (reply ≡ NoMemory 0))
Misses one item m.NoMemory = ⊥

-- what is made of the rows that were searched for
abbrev pub Chooses : One → Item → List Version → Moved → Type 0
Chooses one item [] o = Misses one item o
Chooses one item (v ∷ rows) o = Takes one item v o

-- the attempts that were lost, with this one
abbrev pub with_loss : One → ℕ → Option ℕ → List Loss
with_loss one read found = one.lost.items ++ record { read = read; found = found } ∷ []

-- what is made of a lost attempt: a new round begins, or four were lost
abbrev pub LosesTo : ℕ → ℕ → Option ℕ → One → Moved → Type 0
LosesTo at read found one (m.Goes i w) = (more : Vec Loss Global) × (more.items ≡ with_loss one read found) × (length more.items < 4) × (i ≡ Lost at read found) × ((p : Progress) × IsFresh None p × (w ≡ Choosing (record one { lost = more }) p))
LosesTo at read found one (m.Ends i reply) = (i ≡ Lost at read found) × (((4 ≤ length (with_loss one read found)) × Refuses (errors.lost_writes (with_loss one read found)) reply) ⊎ (reply ≡ NoMemory 0))
LosesTo at read found one m.NoMemory = ⊥
