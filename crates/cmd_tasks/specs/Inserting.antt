-- How insertions go on behind an item, told or not.
use Rattle.std.specs.Prelude.{◌≡◌, ◌⊎◌, ℕ, ◌<◌, List, [], ◌∷◌, ◌++◌, length, Bool, true, false, ◌&&◌}
use Rattle.json_tree.specs.Tree.{Tree}
use Rattle.json_tree.specs.View.{tree}
use Rattle.json_tree.specs.declared.value.Value.{Value}
use Rattle.reply_env.specs.Reply.{TellsInserted, IsRefusalOf}
use Rattle.reply_env.specs.declared.reply.ErrorItem.{ErrorItem}
use Rattle.reply_env.specs.declared.reply.Reply.TheVariants.{NoMemory}
use Rattle.cmd_tasks.specs.Insertions.{is_any, TellsInsertions}
use Rattle.cmd_tasks.specs.declared.work.Insertions.{Insertions}
use Rattle.cmd_tasks.specs.declared.work.State.TheVariants.{Inserting}
use Rattle.cmd_tasks.specs.declared.work.Moved.{Moved}
use Rattle.cmd_tasks.specs.declared.work.Moved.TheVariants as m
use Rattle.cmd_tasks.specs.declared.trace.Item.{Item}

-- the document is the next one, and behind it these are left
pub record IsNextOf (i : Insertions) (d : Tree) (rest : Insertions) : Type 0 where
  pub v : Value
  pub left : i.left.items ≡ rest.left.items ++ v ∷ []
  pub document : tree v ≡ d
  pub all : rest.all.value ≡ i.all.value
  pub ordered : rest.ordered ≡ i.ordered
  pub ids : rest.ids.items ≡ i.ids.items
  pub errors : rest.errors.items ≡ i.errors.items

-- an error that was told ends them, since they are ordered
abbrev pub is_over : Insertions → Bool
is_over i = i.ordered && is_any i.errors.items

-- behind the item the next document comes, or all is told
abbrev pub InsertsOn : Insertions → Item → Moved → Type 0
InsertsOn i item (m.Goes at w) = (at ≡ item) × (w ≡ Inserting i) × (0 < length i.left.items) × (is_over i ≡ false)
InsertsOn i item (m.Ends at reply) = (at ≡ item) × ((i.left.items ≡ []) ⊎ (is_over i ≡ true)) × TellsInsertions i.ids.items i.errors.items reply
InsertsOn i item m.NoMemory = ⊥

-- one id or one error more
pub record HasMore (i : Insertions) (ids : List Tree) (errors : List ErrorItem) (more : Insertions) : Type 0 where
  pub all : more.all.value ≡ i.all.value
  pub left : more.left.items ≡ i.left.items
  pub ordered : more.ordered ≡ i.ordered
  pub ids_are : more.ids.items ≡ i.ids.items ++ ids
  pub errors_are : more.errors.items ≡ i.errors.items ++ errors

-- they go on with one id or one error more
abbrev pub InsertsMore : Insertions → List Tree → List ErrorItem → Item → Moved → Type 0
InsertsMore i ids errors item o = (more : Insertions) × HasMore i ids errors more × InsertsOn more item o

-- the errors so far and then this one are told, with the ids of the inserted documents, or memory was wanting
abbrev pub StopsAll : Insertions → (Item → Type 0) → ErrorItem → Moved → Type 0
StopsAll i At error (m.Goes item w) = ⊥
StopsAll i At error (m.Ends item reply) = At item × (IsRefusalOf (i.errors.items ++ error ∷ []) (TellsInserted i.ids.items) reply ⊎ (reply ≡ NoMemory (length i.ids.items)))
StopsAll i At error m.NoMemory = ⊥
