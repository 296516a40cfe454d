-- The fault of bytes, as the reader answers it.
use Rattle.std.specs.Prelude.{ℕ, List}
use Rattle.json_text.specs.FaultKinds.{syntax, too_deep, out_of_range, TextFaultAt, NotUtf8At}
use Rattle.json_text.specs.declared.read.TextFault.{TextFault}
use Rattle.json_text.specs.declared.read.TextFault.TheVariants.{Syntax, NotUtf8, Number, TooDeep, NoMemory}

-- this is the fault of the bytes, or memory ran out
abbrev pub IsFault : List ℕ → TextFault → Type 0
IsFault bytes (Syntax at) = TextFaultAt bytes syntax at
IsFault bytes (TooDeep at) = TextFaultAt bytes too_deep at
IsFault bytes (Number at) = TextFaultAt bytes out_of_range at
IsFault bytes (NotUtf8 at) = NotUtf8At bytes at
IsFault bytes NoMemory = Unit {0}
