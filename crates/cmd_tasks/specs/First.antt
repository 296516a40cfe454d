-- How a command's first state is made, by kinds of commands.
use Rattle.std.specs.Prelude.{◌≡◌, List, [], ◌∷◌, ◌++◌, Option, Some, Result, Ok, ⊤}
use Rattle.std.proofs.Common.{Vec, Global}
use Rattle.json_tree.specs.declared.value.Value.{Value}
use Rattle.json_tree.specs.declared.fault.TreeFault.{TreeFault}
use Rattle.cmd_grammar.specs.Commands.{CommandTree, insert_one, insert_many, find_one, find, count_documents, update_one, update_many, delete_one, delete_many, find_one_and_update, find_one_and_replace, find_one_and_delete, create_collection, find_collections, delete_collection}

-- one document more was made ready behind the others
pub record IsAdded (all : Option (Vec Value Global)) (next : Result Value TreeFault) (more : List Value) : Type 0 where
  pub before : Vec Value Global
  pub value : Value
  pub all_is : all ≡ Some before
  pub next_is : next ≡ Ok value
  pub more_is : more ≡ before.items ++ value ∷ []

-- the command is on the documents that match a filter
abbrev pub HasFilter : CommandTree → Type 0
HasFilter (insert_one d) = ⊥
HasFilter (insert_many ds ordered) = ⊥
HasFilter (create_collection name) = ⊥
HasFilter find_collections = ⊥
HasFilter (delete_collection name) = ⊥
HasFilter command = ⊤

-- it makes another document of one that matches
abbrev pub MakesAnother : CommandTree → Type 0
MakesAnother (update_one f u sort upsert) = ⊤
MakesAnother (update_many f u upsert page) = ⊤
MakesAnother (find_one_and_update f u sort p upsert after) = ⊤
MakesAnother (find_one_and_replace f r sort p upsert after) = ⊤
MakesAnother command = ⊥

-- of one, and shows it
abbrev pub ShowsAnother : CommandTree → Type 0
ShowsAnother (find_one_and_update f u sort p upsert after) = ⊤
ShowsAnother (find_one_and_replace f r sort p upsert after) = ⊤
ShowsAnother command = ⊥
