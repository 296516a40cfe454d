-- Tests one behind the other.
use Rattle.std.proofs.Common.{◌≡◌, ◌+◌, ℕ, List, [], ◌∷◌, ◌++◌, drop, Option, Some, None, inl, refl, sym, subst, ap, ◌∙◌, slice_get}
use Rattle.std.specs.Prelude.{Result}
use Rattle.std.specs.Option.{option_or}
use Rattle.json_tree.specs.Sizes.{drop-at}
use Rattle.reply_env.specs.declared.reply.ErrorItem.{ErrorItem}
use Rattle.cmd_grammar.specs.First.{first_of, first_by}
use Rattle.cmd_grammar.specs.Answers.{Refuses, RefusesFirst, PassesAll}
use Rattle.cmd_grammar.specs.declared.fault.CommandFault.{CommandFault}
use Rattle.cmd_grammar.specs.declared.fault.CommandFault.TheVariants.{Refused, NoMemory}

-- no test fires: each one doesn't
pub neither_fires : {E : Type 0} (a b : Option E) → option_or a b ≡ None → (a ≡ None) × (b ≡ None)
neither_fires None b e = (refl, e)
neither_fires (Some x) b e = absurd (Prim.cc e)

-- the first fires
pub first_fires : {E : Type 0} (a b : Option E) (x : E) → a ≡ Some x → option_or a b ≡ Some x
first_fires a b x e = ap (λ o. option_or o b) e

-- it doesn't fire
pub goes_on : {E : Type 0} (a b : Option E) → a ≡ None → option_or a b ≡ b
goes_on a b e = ap (λ o. option_or o b) e

-- a loop over the tests: so far none has fired
pub fires_at : {X E : Type 0} (f : X → Option E) (xs : List X) (i : ℕ) (x : X) (e : E) → Some x ≡ slice_get xs i → f x ≡ Some e → first_by f xs ≡ first_by f (drop i xs) → first_by f xs ≡ Some e
fires_at f xs i x e at fires so_far = so_far ∙ ap (first_by f) (drop-at xs i x (sym at)) ∙ first_fires (f x) (first_by f (drop (i + 1) xs)) e fires

pub passes_at : {X E : Type 0} (f : X → Option E) (xs : List X) (i : ℕ) (x : X) → Some x ≡ slice_get xs i → f x ≡ None → first_by f xs ≡ first_by f (drop i xs) → first_by f xs ≡ first_by f (drop (i + 1) xs)
passes_at f xs i x at none so_far = so_far ∙ ap (first_by f) (drop-at xs i x (sym at)) ∙ goes_on (f x) (first_by f (drop (i + 1) xs)) none

pub refuses_at : {X : Type 0} (f : X → Option ErrorItem) (xs : List X) (i : ℕ) (x : X) (fault : CommandFault) → Some x ≡ slice_get xs i → Refuses (f x) fault → first_by f xs ≡ first_by f (drop i xs) → Refuses (first_by f xs) fault
refuses_at f xs i x (Refused code message) at fires so_far = fires_at f xs i x (record { code = code; message = message }) at fires so_far
refuses_at f xs i x NoMemory at fires so_far = tt

-- a fault of the first test is one of both
pub refuses_first : (a b : Option ErrorItem) (fault : CommandFault) → Refuses a fault → Refuses (option_or a b) fault
refuses_first a b (Refused code message) e = first_fires a b (record { code = code; message = message }) e
refuses_first a b NoMemory e = tt

pub refuses_later : (a b : Option ErrorItem) (fault : CommandFault) → a ≡ None → Refuses b fault → Refuses (option_or a b) fault
refuses_later a b (Refused code message) none e = goes_on a b none ∙ e
refuses_later a b NoMemory none e = tt

-- ---- several tests

abbrev pub AllNone : List (Option ErrorItem) → Type 0
AllNone [] = Unit {0}
AllNone (test ∷ tests) = (test ≡ None) × AllNone tests

pub none_of : (tests : List (Option ErrorItem)) → AllNone tests → first_of tests ≡ None
none_of [] n = refl
none_of (test ∷ tests) n = goes_on test (first_of tests) n.0 ∙ none_of tests n.1

-- the one behind these fires
pub fires : (before : List (Option ErrorItem)) (test : Option ErrorItem) (behind : List (Option ErrorItem)) (fault : CommandFault) → AllNone before → Refuses test fault → Refuses (first_of (before ++ (test ∷ behind))) fault
fires [] test behind fault n r = refuses_first test (first_of behind) fault r
fires (a ∷ before) test behind fault n r = refuses_later a (first_of (before ++ (test ∷ behind))) fault n.0 (fires before test behind fault n.1 r)

-- ---- with the page state, which is tested last

pub refuses_before : (a : Option ErrorItem) (page : Option (List ℕ)) (fault : CommandFault) → Refuses a fault → RefusesFirst a page fault
refuses_before a page (Refused code message) e = inl e
refuses_before a page NoMemory e = tt

pub decides : {X : Type 0} (a b : Option ErrorItem) (page : Option (List ℕ)) (Said : X → Type 0) (r : Result X CommandFault) → a ≡ None → PassesAll b page Said r → PassesAll (option_or a b) page Said r
decides a b page Said r none h = subst (λ o. PassesAll o page Said r) (sym (goes_on a b none)) h
