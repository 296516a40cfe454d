-- The update of a command.
use Rattle.std.proofs.Common.{◌≡◌, ◌≢◌, ◌⊎◌, inl, inr, List, [], Option, Some, None, refl, ap, sym, ◌∙◌, subst, codes}
use Rattle.std.specs.Prelude.{Result, Ok}
use Rattle.std.specs.Option.{option_map, option_and_then, unwrap_or}
use Rattle.json_tree.specs.Tree.{Tree, object, no_members}
use Rattle.update_ops.specs.Clauses.{Clause}
use Rattle.update_ops.specs.Faults.{first_fault, updates_in}
use Rattle.update_ops.specs.declared.fault.UpdateFault.{UpdateFault}
use Rattle.update_ops.specs.declared.fault.UpdateFault.TheVariants as faults
use Rattle.cmd_grammar.specs.Refused.{update_error, update_refusal}
use Rattle.cmd_grammar.specs.Parts.{member_in, updates_of}
use Rattle.cmd_grammar.specs.Answers.{Refuses, Passes}
use Rattle.cmd_grammar.specs.declared.fault.CommandFault.{CommandFault}

pub present : {X : Type 0} (view : X → List Clause) (t v : Tree) (r : Result X CommandFault) → Some v ≡ member_in (codes "update") t → Passes (option_map update_error (first_fault v)) (λ u. view u ≡ updates_in v) r → Passes (update_refusal t) (λ u. view u ≡ updates_of t) r
present view t v r e h = subst (λ (o : Option Tree). Passes (option_map update_error (option_and_then first_fault o)) (λ u. view u ≡ updates_in (unwrap_or o (object no_members))) r) e h

none_in : updates_in (object no_members) ≡ []
none_in = refl

pub absent : {X : Type 0} (view : X → List Clause) (t : Tree) (u : X) → None ≡ member_in (codes "update") t → view u ≡ [] → Passes (update_refusal t) (λ x. view x ≡ updates_of t) (Ok u)
absent view t u e is = subst (λ (o : Option Tree). Passes (option_map update_error (option_and_then first_fault o)) (λ x. view x ≡ updates_in (unwrap_or o (object no_members))) (Ok u)) e (refl, is ∙ sym none_in)

pub faulty : (v : Tree) (e : UpdateFault) (r : CommandFault) → (e ≡ faults.NoMemory) ⊎ (first_fault v ≡ Some e) → e ≢ faults.NoMemory → Refuses (Some (update_error e)) r → Refuses (option_map update_error (first_fault v)) r
faulty v e r (inl none) other told = absurd (other none)
faulty v e r (inr is) other told = subst (λ o. Refuses o r) (sym (ap (option_map update_error) is)) told
