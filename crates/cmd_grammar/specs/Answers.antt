-- What the calls of this crate answer: want of memory may come at any place.
use Rattle.std.specs.Prelude.{◌≡◌, ℕ, List, Option, Some, None, Result, Ok, Err, ⊤}
use Rattle.json_tree.specs.Tree.{Tree}
use Rattle.reply_env.specs.declared.reply.ErrorItem.{ErrorItem}
use Rattle.reply_env.specs.declared.request.Place.{Place}
use Rattle.cmd_grammar.specs.Commands.{command_tree}
use Rattle.cmd_grammar.specs.Refused.{refused, page_at, IsFirst}
use Rattle.cmd_grammar.specs.Asked.{Asks}
use Rattle.cmd_grammar.specs.declared.command.Command.{Command}
use Rattle.cmd_grammar.specs.declared.fault.CommandFault.{CommandFault}
use Rattle.cmd_grammar.specs.declared.fault.CommandFault.TheVariants.{Refused, NoMemory}

-- the fault is this refusal
abbrev pub Refuses : Option ErrorItem → CommandFault → Type 0
Refuses refusal (Refused code message) = refusal ≡ Some (record { code = code; message = message })
Refuses refusal NoMemory = ⊤

-- there is no refusal and the value is as is said, or else this is the refusal
abbrev pub Passes : {X : Type 0} → Option ErrorItem → (X → Type 0) → Result X CommandFault → Type 0
Passes refusal Said (Ok x) = (refusal ≡ None) × Said x
Passes refusal Said (Err fault) = Refuses refusal fault

-- the fault is the first refusal, the text of a page state counted
abbrev pub RefusesFirst : Option ErrorItem → Option (List ℕ) → CommandFault → Type 0
RefusesFirst refusal page (Refused code message) = IsFirst refusal page (record { code = code; message = message })
RefusesFirst refusal page NoMemory = ⊤

abbrev pub PassesAll : {X : Type 0} → Option ErrorItem → Option (List ℕ) → (X → Type 0) → Result X CommandFault → Type 0
PassesAll refusal page Said (Ok x) = (refusal ≡ None) × Said x
PassesAll refusal page Said (Err fault) = RefusesFirst refusal page fault

-- the command that the value asks for at that place, or the first refusal
abbrev pub Answers : List ℕ → Place → Tree → Result Command CommandFault → Type 0
Answers keyspace place value result = PassesAll (refused keyspace place value) (page_at place value) (λ c. Asks place value (command_tree c)) result
