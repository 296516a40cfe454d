-- What a reader's whole run made. Only the crate's private clauses cite it.
use Rattle.std.specs.Prelude.{◌≡◌, ℕ, Result, Ok, Err}
use Rattle.json_tree.specs.Tree.{Tree}
use Rattle.json_tree.specs.View.{tree}
use Rattle.json_tree.specs.declared.value.Value.{Value}
use Rattle.json_text.specs.FaultKinds.{syntax, too_deep, out_of_range}
use Rattle.json_text.specs.Machine.{End, built, refused}
use Rattle.json_text.specs.declared.read.builder.Refusal.{Refusal}
use Rattle.json_text.specs.declared.read.builder.Refusal.TheVariants.{Memory, Fault}
use Rattle.json_text.specs.declared.read.builder.Kind.TheVariants as builder
use Rattle.json_text.specs.declared.read.TextFault.{TextFault}
use Rattle.json_text.specs.declared.read.TextFault.TheVariants.{Syntax, NotUtf8, Number, TooDeep, NoMemory}

abbrev pub Ends : TextFault → End Tree → Type 0
Ends (Syntax at) run = run ≡ refused syntax at
Ends (TooDeep at) run = run ≡ refused too_deep at
Ends (Number at) run = run ≡ refused out_of_range at
Ends (NotUtf8 at) run = ⊥
Ends NoMemory run = Unit {0}

abbrev pub Builds : Result Value TextFault → End Tree → Type 0
Builds (Ok v) run = run ≡ built (tree v)
Builds (Err e) run = Ends e run

-- the answer for a token at this place that was refused
abbrev pub IsFor : Refusal → ℕ → TextFault → Type 0
IsFor Memory at e = e ≡ NoMemory
IsFor (Fault builder.Syntax) at e = e ≡ Syntax at
IsFor (Fault builder.TooDeep) at e = e ≡ TooDeep at
IsFor (Fault builder.OutOfRange) at e = e ≡ Number at
