-- What the builder's types stand for. Only the crate's private clauses cite it.
use Rattle.std.specs.Prelude.{◌≡◌, List, map, reverse, Result, Ok, Err}
use Rattle.json_tree.specs.Tree.{Tree}
use Rattle.json_tree.specs.View.{tree}
use Rattle.json_text.specs.Machine as machine
use Rattle.json_text.specs.FaultKinds as faults
use Rattle.json_text.specs.declared.read.builder.Kind.{Kind}
use Rattle.json_text.specs.declared.read.builder.Kind.TheVariants.{Syntax, TooDeep, OutOfRange}
use Rattle.json_text.specs.declared.read.builder.Slot.{Slot}
use Rattle.json_text.specs.declared.read.builder.Slot.TheVariants as slots
use Rattle.json_text.specs.declared.read.builder.Place.{Place}
use Rattle.json_text.specs.declared.read.builder.Place.TheVariants as places
use Rattle.json_text.specs.declared.read.builder.Builder.{Builder}
use Rattle.json_text.specs.declared.read.builder.Step.{Step}
use Rattle.json_text.specs.declared.read.builder.Step.TheVariants as steps
use Rattle.json_text.specs.declared.read.builder.Refusal.{Refusal}
use Rattle.json_text.specs.declared.read.builder.Refusal.TheVariants as refusals

abbrev pub kind_of : Kind → faults.Kind
kind_of Syntax = faults.syntax
kind_of TooDeep = faults.too_deep
kind_of OutOfRange = faults.out_of_range

abbrev pub slot_of : Slot → machine.Slot Tree
slot_of slots.Whole = machine.whole
slot_of (slots.Element vs) = machine.element_of vs
slot_of (slots.Named ms n) = machine.member_of ms n

abbrev pub place_of : Place → machine.Place Tree
place_of (places.Want slot) = machine.want (slot_of slot)
place_of places.FirstElement = machine.first_element
place_of (places.AfterElement vs) = machine.after_element vs
place_of places.FirstName = machine.first_name
place_of (places.Name ms) = machine.name_of ms
place_of (places.Colon ms n) = machine.colon_of ms n
place_of (places.AfterMember ms) = machine.after_member ms
place_of (places.Complete v) = machine.complete (tree v)

abbrev pub outer_of : List Slot → List (machine.Slot Tree)
outer_of outer = reverse (map slot_of outer)

abbrev pub state_of : Builder → machine.State Tree
state_of s = record { outer = outer_of s.outer.items; place = place_of s.place }

-- the step is refused so, unless memory ran out
abbrev pub Refuses : Refusal → machine.Step Tree → Type 0
Refuses refusals.Memory step = Unit {0}
Refuses (refusals.Fault k) step = step ≡ machine.fault (kind_of k)

-- the builder made this step, and stands there where it goes on
abbrev pub Makes : Result Step Refusal → machine.State Tree → machine.Step Tree → Type 0
Makes (Ok steps.More) next step = step ≡ machine.more next
Makes (Ok (steps.Done v)) next step = step ≡ machine.done (tree v)
Makes (Err e) next step = Refuses e step
