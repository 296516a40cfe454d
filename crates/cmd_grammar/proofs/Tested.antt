-- The tests of a document, joined.
use Rattle.std.proofs.Common.{◌≡◌, ℕ, List, [], ◌∷◌, Option, Some, None, refl, sym, ◌∙◌, subst}
use Rattle.std.specs.Prelude.{Result, Ok, ⊤}
use Rattle.std.specs.Option.{option_or, option_and_then}
use Rattle.json_tree.specs.Tree.{Tree, object, members_of}
use Rattle.json_tree.specs.Doc.{id_in}
use Rattle.doc_limits.specs.Limits.{broken}
use Rattle.update_ops.specs.Upsert.{with_id}
use Rattle.reply_env.specs.declared.reply.ErrorItem.{ErrorItem}
use Rattle.cmd_grammar.specs.First.{first_of, first_by}
use Rattle.cmd_grammar.specs.Documents.{id_kind_refusal, empty_id_refusal, limit_refusal, document_refusal}
use Rattle.cmd_grammar.specs.Commands.{stand_in, under, under_own}
use Rattle.cmd_grammar.specs.Parts.{documents_of}
use Rattle.cmd_grammar.specs.Refused.{many_inserted_refusal}
use Rattle.cmd_grammar.specs.Answers.{Refuses, Passes}
use Rattle.cmd_grammar.specs.declared.fault.CommandFault.{CommandFault}
use Rattle.cmd_grammar.proofs.Order.{goes_on, refuses_first}

-- what a test of nothing but refusals answers
abbrev Tested : Type 0
Tested = Result (Unit {0}) CommandFault

-- ---- the member `_id`

abbrev id_refusal : Option Tree → Option ErrorItem
id_refusal o = first_of (id_kind_refusal o ∷ empty_id_refusal o ∷ [])

pub id_present : (t id : Tree) (r : Tested) → Some id ≡ id_in t → Passes (id_refusal (Some id)) (λ _. ⊤) r → Passes (id_refusal (id_in t)) (λ _. ⊤) r
id_present t id r e h = subst (λ o. Passes (id_refusal o) (λ _. ⊤) r) e h

pub id_absent : (t : Tree) (u : Unit {0}) → None ≡ id_in t → Passes {X = Unit {0}} (id_refusal (id_in t)) (λ _. ⊤) (Ok u)
id_absent t u e = subst (λ o. Passes {X = Unit {0}} (id_refusal o) (λ _. ⊤) (Ok u)) e (refl, tt)

-- ---- the id, then the names

grouped : (a b n : Option ErrorItem) → first_of (a ∷ b ∷ n ∷ []) ≡ option_or (first_of (a ∷ b ∷ [])) n
grouped (Some a) b n = refl
grouped None (Some b) n = refl
grouped None None (Some n) = refl
grouped None None None = refl

pub id_fires : (a b n : Option ErrorItem) (fault : CommandFault) → Refuses (first_of (a ∷ b ∷ [])) fault → Refuses (first_of (a ∷ b ∷ n ∷ [])) fault
id_fires a b n fault h = subst (λ o. Refuses o fault) (sym (grouped a b n)) (refuses_first (first_of (a ∷ b ∷ [])) n fault h)

pub names_decide : (a b n : Option ErrorItem) (r : Tested) → first_of (a ∷ b ∷ []) ≡ None → Passes n (λ _. ⊤) r → Passes (first_of (a ∷ b ∷ n ∷ [])) (λ _. ⊤) r
names_decide a b n r e h = subst (λ o. Passes o (λ _. ⊤) r) (sym (grouped a b n ∙ goes_on (first_of (a ∷ b ∷ [])) n e)) h

-- ---- these, then the limits

paired : (a b : Option ErrorItem) → first_of (a ∷ b ∷ []) ≡ option_or a b
paired (Some a) b = refl
paired None (Some b) = refl
paired None None = refl

pub sizes_decide : (a b : Option ErrorItem) (r : Tested) → a ≡ None → Passes b (λ _. ⊤) r → Passes (first_of (a ∷ b ∷ [])) (λ _. ⊤) r
sizes_decide a b r e h = subst (λ o. Passes o (λ _. ⊤) r) (sym (paired a b ∙ goes_on a b e)) h

abbrev sized : Tree → Option Tree → Option ErrorItem
sized t o = limit_refusal (broken (under_own stand_in t o))

pub sized_alone : (t : Tree) (r : Tested) (id : Tree) → Some id ≡ id_in t → Passes (limit_refusal (broken t)) (λ _. ⊤) r → Passes (limit_refusal (broken (under stand_in t))) (λ _. ⊤) r
sized_alone t r id e h = subst (λ o. Passes (sized t o) (λ _. ⊤) r) e h

pub sized_standing : (t : Tree) (ms : List (List ℕ × Tree)) (r : Tested) → t ≡ object (members_of ms) → None ≡ id_in t → Passes (limit_refusal (broken (with_id stand_in (object (members_of ms))))) (λ _. ⊤) r → Passes (limit_refusal (broken (under stand_in t))) (λ _. ⊤) r
sized_standing t ms r f e h = subst (λ o. Passes (sized t o) (λ _. ⊤) r) e (subst (λ (u : Tree). Passes (limit_refusal (broken (with_id stand_in u))) (λ _. ⊤) r) (sym f) h)

-- ---- in a command's value

pub member_tested : (test : Tree → Option ErrorItem) (o : Option Tree) (v : Tree) (r : Tested) → Some v ≡ o → Passes (test v) (λ _. ⊤) r → Passes (option_and_then test o) (λ _. ⊤) r
member_tested test o v r e h = subst (λ o. Passes (option_and_then test o) (λ _. ⊤) r) e h

pub member_untested : (test : Tree → Option ErrorItem) (o : Option Tree) (u : Unit {0}) → None ≡ o → Passes {X = Unit {0}} (option_and_then test o) (λ _. ⊤) (Ok u)
member_untested test o u e = subst (λ o. Passes {X = Unit {0}} (option_and_then test o) (λ _. ⊤) (Ok u)) e (refl, tt)

pub documents_tested : (t : Tree) (ts : List Tree) (r : Tested) → ts ≡ documents_of t → Passes (first_by document_refusal ts) (λ _. ⊤) r → Passes (many_inserted_refusal t) (λ _. ⊤) r
documents_tested t ts r e h = subst (λ l. Passes (first_by document_refusal l) (λ _. ⊤) r) e h
