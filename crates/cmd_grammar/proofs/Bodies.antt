-- A request, by the reading of its body.
use Rattle.std.proofs.Common.{◌≡◌, ◌≢◌, inl, inr, ℕ, List, Some, refl, sym, subst}
use Rattle.std.specs.Prelude.{Result, Ok, Err}
use Rattle.json_tree.specs.Tree.{Tree}
use Rattle.json_text.specs.Grammar.{Reads}
use Rattle.json_text.specs.Fault.{IsFault}
use Rattle.json_text.specs.declared.read.TextFault.{TextFault}
use Rattle.json_text.specs.declared.read.TextFault.TheVariants as text_faults
use Rattle.reply_env.specs.Messages.{unread}
use Rattle.reply_env.specs.declared.request.Request.{Request}
use Rattle.cmd_grammar.specs.Requests.{IsReadAs}
use Rattle.cmd_grammar.specs.Answers.{Refuses, Answers}
use Rattle.cmd_grammar.specs.declared.command.Command.{Command}
use Rattle.cmd_grammar.specs.declared.fault.CommandFault.{CommandFault}
use Rattle.cmd_grammar.specs.declared.fault.CommandFault.TheVariants.{Refused, NoMemory}

pub read_as : (keyspace : List ℕ) (request : Request) (t : Tree) (r : Result Command CommandFault) → Reads request.body.items t → Answers keyspace request.place t r → IsReadAs keyspace request r
read_as keyspace request t (Ok c) reads a = record { value = t; reads = reads; unrefused = a.0; asks = a.1 }
read_as keyspace request t (Err (Refused code message)) reads a = inr (record { value = t; reads = reads; refusal = a })
read_as keyspace request t (Err NoMemory) reads a = tt

refused_unread : (keyspace : List ℕ) (request : Request) (fault : TextFault) (r : CommandFault) → IsFault request.body.items fault → (fault ≡ text_faults.NoMemory → ⊥) → Refuses (Some (unread fault)) r → IsReadAs keyspace request (Err r)
refused_unread keyspace request fault (Refused code message) is other e = inl (record { fault = fault; is_fault = is; told = other; is_error = Prim.cc e })
refused_unread keyspace request fault NoMemory is other e = tt

pub unread_as : (keyspace : List ℕ) (request : Request) (fault : TextFault) (r : CommandFault) → IsFault request.body.items fault → (fault ≢ text_faults.NoMemory → Refuses (Some (unread fault)) r) → (fault ≡ text_faults.NoMemory → r ≡ NoMemory) → IsReadAs keyspace request (Err r)
unread_as keyspace request (text_faults.Syntax at) r is told wanting = refused_unread keyspace request (text_faults.Syntax at) r is (λ e. Prim.cc e) (told (λ e. Prim.cc e))
unread_as keyspace request (text_faults.NotUtf8 at) r is told wanting = refused_unread keyspace request (text_faults.NotUtf8 at) r is (λ e. Prim.cc e) (told (λ e. Prim.cc e))
unread_as keyspace request (text_faults.TooDeep at) r is told wanting = refused_unread keyspace request (text_faults.TooDeep at) r is (λ e. Prim.cc e) (told (λ e. Prim.cc e))
unread_as keyspace request (text_faults.Number at) r is told wanting = refused_unread keyspace request (text_faults.Number at) r is (λ e. Prim.cc e) (told (λ e. Prim.cc e))
unread_as keyspace request text_faults.NoMemory r is told wanting = subst (λ (f : CommandFault). IsReadAs keyspace request (Err f)) (sym (wanting refl)) tt
