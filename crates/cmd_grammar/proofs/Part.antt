-- A member that is read by its first fault, one that is absent as `{}`.
use Rattle.std.proofs.Common.{◌≡◌, ◌⊎◌, inl, inr, Option, Some, None, refl, ap, sym, subst}
use Rattle.std.specs.Prelude.{Result}
use Rattle.std.specs.Option.{option_map, option_and_then, unwrap_or}
use Rattle.json_tree.specs.Tree.{Tree, object, no_members}
use Rattle.json_tree.specs.Writable.{IsWritable}
use Rattle.reply_env.specs.declared.reply.ErrorItem.{ErrorItem}
use Rattle.cmd_grammar.specs.Answers.{Refuses, Passes}
use Rattle.cmd_grammar.specs.declared.fault.CommandFault.{CommandFault}
use Rattle.cmd_grammar.specs.declared.fault.CommandFault.TheVariants.{NoMemory}

pub present : {F X : Type 0} (error : F → ErrorItem) (first : Tree → Option F) (Said : Tree → X → Type 0) (o : Option Tree) (v : Tree) (r : Result X CommandFault) → Some v ≡ o → Passes (option_map error (first v)) (Said v) r → Passes (option_map error (option_and_then first o)) (Said (unwrap_or o (object no_members))) r
present error first Said o v r e h = subst (λ (x : Option Tree). Passes (option_map error (option_and_then first x)) (Said (unwrap_or x (object no_members))) r) e h

pub absent : {F X : Type 0} (error : F → ErrorItem) (first : Tree → Option F) (Said : Tree → X → Type 0) (o : Option Tree) (v : Tree) (r : Result X CommandFault) → first (object no_members) ≡ None → None ≡ o → v ≡ object no_members → Passes (option_map error (first v)) (Said v) r → Passes (option_map error (option_and_then first o)) (Said (unwrap_or o (object no_members))) r
absent error first Said o v r none e is h =
    let empty : Passes (option_map error (first (object no_members))) (Said (object no_members)) r = subst (λ (u : Tree). Passes (option_map error (first u)) (Said u) r) is h in
    let passes : Passes None (Said (object no_members)) r = subst (λ f. Passes (option_map error f) (Said (object no_members)) r) none empty in
    subst (λ (x : Option Tree). Passes (option_map error (option_and_then first x)) (Said (unwrap_or x (object no_members))) r) e passes

pub empty_writable : (v : Tree) → v ≡ object no_members → IsWritable v
empty_writable v e = subst IsWritable (sym e) (tt, refl)

-- the reader's fault is want of memory, or the first one
pub faulty : {F : Type 0} (error : F → ErrorItem) (first : Tree → Option F) (wanting : F) (v : Tree) (e : F) (r : CommandFault) → (e ≡ wanting) ⊎ (first v ≡ Some e) → Refuses (Some (error e)) r → (e ≡ wanting → r ≡ NoMemory) → Refuses (option_map error (first v)) r
faulty error first wanting v e r (inl none) told unread = subst (λ z. Refuses (option_map error (first v)) z) (sym (unread none)) tt
faulty error first wanting v e r (inr is) told unread = subst (λ o. Refuses o r) (sym (ap (option_map error) is)) told
