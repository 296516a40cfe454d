-- Requests: what the bytes of the body and the place show.
use Rattle.std.specs.Prelude.{◌≡◌, ◌≢◌, ℕ, List, None, Result, Ok, Err, ⊤, ◌⊎◌}
use Rattle.json_tree.specs.Tree.{Tree}
use Rattle.json_text.specs.Grammar.{Reads}
use Rattle.json_text.specs.Fault.{IsFault}
use Rattle.json_text.specs.declared.read.TextFault.{TextFault}
use Rattle.json_text.specs.declared.read.TextFault.TheVariants as text_faults
use Rattle.reply_env.specs.Messages.{unread}
use Rattle.reply_env.specs.declared.reply.ErrorItem.{ErrorItem}
use Rattle.reply_env.specs.declared.request.Request.{Request}
use Rattle.cmd_grammar.specs.Commands.{CommandTree, command_tree}
use Rattle.cmd_grammar.specs.Refused.{refused, IsRefusedBy}
use Rattle.cmd_grammar.specs.Asked.{Asks}
use Rattle.cmd_grammar.specs.declared.command.Command.{Command}
use Rattle.cmd_grammar.specs.declared.fault.CommandFault.{CommandFault}
use Rattle.cmd_grammar.specs.declared.fault.CommandFault.TheVariants.{Refused, NoMemory}

-- the body spells no value, and this is its first fault
pub record IsUnread (body : List ℕ) (error : ErrorItem) : Type 0 where
  pub fault : TextFault
  pub is_fault : IsFault body fault
  pub told : fault ≢ text_faults.NoMemory
  pub is_error : error ≡ unread fault

-- the body spells a value, and this is the first refusal of the request
pub record IsRefusedValue (keyspace : List ℕ) (request : Request) (error : ErrorItem) : Type 0 where
  pub value : Tree
  pub reads : Reads request.body.items value
  pub refusal : IsRefusedBy keyspace request.place value error

-- the request is refused by this error before anything else is looked at
abbrev pub IsRefused : List ℕ → Request → ErrorItem → Type 0
IsRefused keyspace request error = IsUnread request.body.items error ⊎ IsRefusedValue keyspace request error

-- the request asks for this command
pub record AsksFor (keyspace : List ℕ) (request : Request) (command : CommandTree) : Type 0 where
  pub value : Tree
  pub reads : Reads request.body.items value
  pub unrefused : refused keyspace request.place value ≡ None
  pub asks : Asks request.place value command

-- the command, or the refusal; want of memory may come at any place
abbrev pub IsReadAs : List ℕ → Request → Result Command CommandFault → Type 0
IsReadAs keyspace request (Ok command) = AsksFor keyspace request (command_tree command)
IsReadAs keyspace request (Err (Refused code message)) = IsRefused keyspace request (record { code = code; message = message })
IsReadAs keyspace request (Err NoMemory) = ⊤
