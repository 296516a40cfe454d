-- The page state of a command.
use Rattle.std.proofs.Common.{◌≡◌, ◌≢◌, ◌<◌, ◌^◌, inl, inr, ℕ, List, Option, Some, None, refl, sym, subst}
use Rattle.std.specs.Prelude.{Ok}
use Rattle.json_tree.specs.Tree.{Tree}
use Rattle.json_tree.specs.Id.{IsId, IsInRange}
use Rattle.view_sort.specs.Page.{state_text, IsRefused}
use Rattle.view_sort.specs.declared.page.PageState.{PageState}
use Rattle.view_sort.specs.declared.fault.ViewFault.{ViewFault}
use Rattle.view_sort.specs.declared.fault.ViewFault.TheVariants as faults
use Rattle.reply_env.specs.Messages.{bad_page_state}
use Rattle.cmd_grammar.specs.Parts.{IsPage}
use Rattle.cmd_grammar.specs.Refused.{view_error}
use Rattle.cmd_grammar.specs.Answers.{Refuses, RefusesFirst, PassesAll}
use Rattle.cmd_grammar.specs.declared.fault.CommandFault.{CommandFault}
use Rattle.cmd_grammar.specs.declared.fault.CommandFault.TheVariants.{Refused, NoMemory}

pub state_read : (o : Option (List ℕ)) (s : List ℕ) (state : PageState) → Some s ≡ o → (state_text state.given state.last ≡ s) × (state.given < 2 ^ 63) × IsId state.last × IsInRange state.last → PassesAll {X = Option PageState} None o (λ page. IsPage o page) (Ok (Some state))
state_read o s state e h = subst (λ x. PassesAll {X = Option PageState} None x (λ page. IsPage x page) (Ok (Some state))) e (refl, record { spells = h.0; given = h.1; is_id = h.2; in_range = h.3 })

no_state : (s : List ℕ) (r : CommandFault) → ((n : ℕ) (t : Tree) → n < 2 ^ 63 → IsId t → IsInRange t → state_text n t ≢ s) → Refuses (Some bad_page_state) r → RefusesFirst None (Some s) r
no_state s (Refused code message) none told =
    let error : record { code = code; message = message } ≡ bad_page_state = sym (Prim.cc told) in
    inr (refl, λ state spelt. none state.given state.last spelt.given spelt.is_id spelt.in_range spelt.spells, error)
no_state s NoMemory none told = tt

pub state_refused : (o : Option (List ℕ)) (s : List ℕ) (fault : ViewFault) (r : CommandFault) → Some s ≡ o → IsRefused fault (λ n t. state_text n t ≢ s) → Refuses (Some (view_error fault)) r → (fault ≡ faults.NoMemory → r ≡ NoMemory) → RefusesFirst None o r
state_refused o s fault r e (inl none) told wanting = subst (RefusesFirst None o) (sym (wanting none)) tt
state_refused o s fault r e (inr h) told wanting = subst (λ x. RefusesFirst None x r) e (no_state s r h.1 (subst (λ f. Refuses (Some (view_error f)) r) h.0 told))

pub no_text : (o : Option (List ℕ)) → None ≡ o → PassesAll {X = Option PageState} None o (λ page. IsPage o page) (Ok None)
no_text o e = subst (λ x. PassesAll {X = Option PageState} None x (λ page. IsPage x page) (Ok None)) e (refl, tt)
