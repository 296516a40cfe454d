-- A place and a value show one command or one refusal.
use Rattle.std.proofs.Common.{◌≡◌, ◌<◌, ◌^◌, inl, inr, ℕ, List, Option, Some, None, refl, ap, ap₂, sym, ◌∙◌, arith}
use Rattle.std.specs.Option.{option_map}
use Rattle.json_tree.specs.Tree.{Tree}
use Rattle.json_tree.specs.Id.{IsId, IsInRange}
use Rattle.view_sort.specs.Page.{state_text}
use Rattle.view_sort.specs.declared.page.PageState.{PageState}
use Rattle.reply_env.specs.declared.reply.ErrorItem.{ErrorItem}
use Rattle.reply_env.specs.declared.request.Place.{Place}
use Rattle.cmd_grammar.specs.Commands.{CommandTree}
use Rattle.cmd_grammar.specs.Parts.{IsPage, IsNoPage}
use Rattle.cmd_grammar.specs.Refused.{command_at, page_at, refused, IsFirst, IsRefusedBy}
use Rattle.cmd_grammar.specs.Asked.{command_of, Asks}

-- one page state has a text
abbrev pub OneState : Type 0
OneState = (m n : ℕ) (s t : Tree) → m < 2 ^ 64 → n < 2 ^ 64 → IsId s → IsInRange s → IsId t → IsInRange t → state_text m s ≡ state_text n t → (m ≡ n) × (s ≡ t)

wider : (n : ℕ) → n < 2 ^ 63 → n < 2 ^ 64
wider n h = grind (arith, h)

abbrev state_of : ℕ → Tree → PageState
state_of given last = record { given = given; last = last }

same_page : OneState → (o : Option (List ℕ)) (p q : Option PageState) → IsPage o p → IsPage o q → p ≡ q
same_page law None None None a b = refl
same_page law None None (Some q) a b = absurd b
same_page law None (Some p) q a b = absurd a
same_page law (Some s) None q a b = absurd a
same_page law (Some s) (Some p) None a b = absurd b
same_page law (Some s) (Some p) (Some q) a b =
    let same = law p.given q.given p.last q.last (wider p.given a.given) (wider q.given b.given) a.is_id a.in_range b.is_id b.in_range (a.spells ∙ sym b.spells) in
    ap₂ (λ (n : ℕ) (t : Tree). Some (state_of n t)) same.0 same.1

pub one_command : OneState → (place : Place) (t : Tree) (c d : CommandTree) → Asks place t c → Asks place t d → c ≡ d
one_command law place t c d a b =
    let page : a.page ≡ b.page = same_page law (page_at place t) a.page b.page a.is_page b.is_page in
    let same : Some c ≡ Some d = sym a.is_command ∙ ap (λ p. option_map (command_of p) (command_at place.collection t)) page ∙ b.is_command in
    Prim.cc same

pub one_refusal : (refusal : Option ErrorItem) (page : Option (List ℕ)) (e f : ErrorItem) → IsFirst refusal page e → IsFirst refusal page f → e ≡ f
one_refusal refusal page e f (inl a) (inl b) = let same : Some e ≡ Some f = sym a ∙ b in Prim.cc same
one_refusal refusal page e f (inl a) (inr b) = let none : Some e ≡ None = sym a ∙ b.0 in absurd (Prim.cc none)
one_refusal refusal page e f (inr a) (inl b) = let none : Some f ≡ None = sym b ∙ a.0 in absurd (Prim.cc none)
one_refusal refusal page e f (inr a) (inr b) = a.2 ∙ sym b.2

not_both : (o : Option (List ℕ)) (page : Option PageState) → IsPage o page → IsNoPage o → ⊥
not_both None page a b = b
not_both (Some s) None a b = a
not_both (Some s) (Some state) a b = b state a

pub not_refused : (keyspace : List ℕ) (place : Place) (t : Tree) (c : CommandTree) (e : ErrorItem) → refused keyspace place t ≡ None → Asks place t c → IsRefusedBy keyspace place t e → ⊥
not_refused keyspace place t c e none a (inl h) = let both : Some e ≡ None = sym h ∙ none in Prim.cc both
not_refused keyspace place t c e none a (inr h) = not_both (page_at place t) a.page a.is_page h.1
