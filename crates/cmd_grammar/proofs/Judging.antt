-- The tests of a request, joined.
use Rattle.std.proofs.Common.{◌≡◌, ℕ, List, [], ◌∷◌, Option, Some, None, refl, ap, sym, ◌∙◌, subst}
use Rattle.std.specs.Option.{option_map, option_and_then, option_or}
use Rattle.std.specs.Prelude.{Result, Ok, Err, IfOk, MatchResult}
use Rattle.json_tree.specs.Tree.{Tree, null, boolean, number, text, date, list, object, no_members, member}
use Rattle.json_tree.specs.Writable.{IsWritable}
use Rattle.reply_env.specs.Messages.{no_command}
use Rattle.reply_env.specs.declared.reply.ErrorItem.{ErrorItem}
use Rattle.reply_env.specs.declared.fault.ReplyFault.{ReplyFault}
use Rattle.reply_env.specs.declared.request.Place.{Place}
use Rattle.cmd_grammar.specs.First.{first_of}
use Rattle.cmd_grammar.specs.Names.{command_named}
use Rattle.cmd_grammar.specs.Fields.{paging_refusal, limits_refusal}
use Rattle.cmd_grammar.specs.Parts.{page_text}
use Rattle.cmd_grammar.specs.Refused.{at_level, command_at, page_at, collection_named, fields_refusal, filter_refusal, update_refusal, parts_refusal, command_refusal, keyspace_refusal, collection_refusal, no_command_refusal, refused}
use Rattle.cmd_grammar.specs.Judged.{place_refusal, listing_refusal, named_refusal}
use Rattle.cmd_grammar.specs.Answers.{Refuses, RefusesFirst, PassesAll}
use Rattle.cmd_grammar.specs.declared.name.Name.{Name}
use Rattle.cmd_grammar.specs.declared.fault.CommandFault.{CommandFault}
use Rattle.cmd_grammar.specs.declared.fault.CommandFault.TheVariants.{NoMemory}
use Rattle.cmd_grammar.proofs.Order.{goes_on, refuses_first, refuses_before, fires, decides}

-- ---- a command's value

pub fields_fire : (name : Name) (t : Tree) (fault : CommandFault) → Refuses (fields_refusal (name, t)) fault → RefusesFirst (command_refusal (name, t)) (page_text t) fault
fields_fire name t fault r = refuses_before (command_refusal (name, t)) (page_text t) fault (fires [] (fields_refusal (name, t)) (paging_refusal t ∷ limits_refusal t ∷ parts_refusal t ∷ []) fault tt r)

pub paging_fires : (name : Name) (t : Tree) (fault : CommandFault) → fields_refusal (name, t) ≡ None → Refuses (paging_refusal t) fault → RefusesFirst (command_refusal (name, t)) (page_text t) fault
paging_fires name t fault a r = refuses_before (command_refusal (name, t)) (page_text t) fault (fires (fields_refusal (name, t) ∷ []) (paging_refusal t) (limits_refusal t ∷ parts_refusal t ∷ []) fault (a, tt) r)

pub limits_fire : (name : Name) (t : Tree) (fault : CommandFault) → fields_refusal (name, t) ≡ None → paging_refusal t ≡ None → Refuses (limits_refusal t) fault → RefusesFirst (command_refusal (name, t)) (page_text t) fault
limits_fire name t fault a b r =
    refuses_before (command_refusal (name, t)) (page_text t) fault (fires (fields_refusal (name, t) ∷ paging_refusal t ∷ []) (limits_refusal t) (parts_refusal t ∷ []) fault (a, (b, tt)) r)

only : {E : Type 0} (a : Option E) → option_or a None ≡ a
only None = refl
only (Some x) = refl

-- the tests of the members, of the page and of the limits are made: those of the parts decide
pub parts_decide : {X : Type 0} (Said : X → Type 0) (name : Name) (t : Tree) (r : Result X CommandFault) → fields_refusal (name, t) ≡ None → paging_refusal t ≡ None → limits_refusal t ≡ None
    → PassesAll (parts_refusal t) (page_text t) Said r → PassesAll (command_refusal (name, t)) (page_text t) Said r
parts_decide Said name t r a b c h =
    decides (fields_refusal (name, t)) (first_of (paging_refusal t ∷ limits_refusal t ∷ parts_refusal t ∷ [])) (page_text t) Said r a
    (decides (paging_refusal t) (first_of (limits_refusal t ∷ parts_refusal t ∷ [])) (page_text t) Said r b
    (decides (limits_refusal t) (first_of (parts_refusal t ∷ [])) (page_text t) Said r c
    (subst (λ o. PassesAll o (page_text t) Said r) (sym (only (parts_refusal t))) h)))

-- the filter and the update are read: the tests behind them decide
behind_update : (t : Tree) → filter_refusal t ≡ None → update_refusal t ≡ None → parts_refusal t ≡ listing_refusal t
behind_update t a b = goes_on (filter_refusal t) (option_or (update_refusal t) (listing_refusal t)) a ∙ goes_on (update_refusal t) (listing_refusal t) b

pub listing_fires : (t : Tree) (fault : CommandFault) → filter_refusal t ≡ None → update_refusal t ≡ None → RefusesFirst (listing_refusal t) (page_text t) fault → RefusesFirst (parts_refusal t) (page_text t) fault
listing_fires t fault a b r = subst (λ o. RefusesFirst o (page_text t) fault) (sym (behind_update t a b)) r

pub parts_pass : (t : Tree) → filter_refusal t ≡ None → update_refusal t ≡ None → listing_refusal t ≡ None → parts_refusal t ≡ None
parts_pass t a b n = behind_update t a b ∙ n

-- ---- a request

-- the tests of a request of this command, if it is of one
abbrev tests_of : List ℕ → Place → Option (Name × Tree) → Option ErrorItem
tests_of keyspace place o =
    first_of
    (no_command_refusal o
    ∷ keyspace_refusal keyspace place.keyspace
    ∷ collection_refusal (option_and_then (collection_named place.collection) o)
    ∷ option_and_then command_refusal o
    ∷ [])

pub unnamed : (keyspace : List ℕ) (place : Place) (t : Tree) (fault : CommandFault) → None ≡ command_at place.collection t → Refuses (Some no_command) fault → RefusesFirst (refused keyspace place t) (page_at place t) fault
unnamed keyspace place t fault e r =
    refuses_before (refused keyspace place t) (page_at place t) fault (subst (λ (o : Option (Name × Tree)). Refuses (tests_of keyspace place o) fault) e (refuses_first (Some no_command) None fault r))

-- the page state of the command's value is that of the request
pub page_is : (place : Place) (t : Tree) (p : Name × Tree) → Some p ≡ command_at place.collection t → page_text p.1 ≡ page_at place t
page_is place t p e = ap (option_and_then (λ (command : Name × Tree). page_text command.1)) e

regroup : (k c x : Option ErrorItem) → option_or k (option_or c (option_or x None)) ≡ option_or (option_or k (option_or c None)) x
regroup (Some k) c x = refl
regroup None (Some c) x = refl
regroup None None (Some x) = refl
regroup None None None = refl

pub is_named : (keyspace : List ℕ) (place : Place) (t : Tree) (p : Name × Tree) → Some p ≡ command_at place.collection t → named_refusal keyspace place p ≡ refused keyspace place t
is_named keyspace place t p e =
    subst (λ (o : Option (Name × Tree)). named_refusal keyspace place p ≡ tests_of keyspace place o) e
    (sym (regroup (keyspace_refusal keyspace place.keyspace) (collection_refusal (collection_named place.collection p)) (command_refusal p)))

pub named_fires : (keyspace : List ℕ) (place : Place) (t : Tree) (p : Name × Tree) (fault : CommandFault) → Some p ≡ command_at place.collection t → RefusesFirst (named_refusal keyspace place p) (page_text p.1) fault → RefusesFirst (refused keyspace place t) (page_at place t) fault
named_fires keyspace place t p fault e r = subst (λ o. RefusesFirst (refused keyspace place t) o fault) (page_is place t p e) (subst (λ o. RefusesFirst o (page_text p.1) fault) (is_named keyspace place t p e) r)

pub place_fires : (keyspace : List ℕ) (place : Place) (p : Name × Tree) (fault : CommandFault) → Refuses (place_refusal keyspace place p) fault → RefusesFirst (named_refusal keyspace place p) (page_text p.1) fault
place_fires keyspace place p fault r = refuses_before (named_refusal keyspace place p) (page_text p.1) fault (refuses_first (place_refusal keyspace place p) (command_refusal p) fault r)

pub made : (m : Result ErrorItem ReplyFault) (error : ErrorItem) (fault : CommandFault) → IfOk m (λ e. e ≡ error) → MatchResult m (λ e. Refuses (Some e) fault) (λ _. fault ≡ NoMemory) → Refuses (Some error) fault
made (Ok e) error fault is r = subst (λ (x : ErrorItem). Refuses (Some x) fault) is r
made (Err f) error fault is r = subst (Refuses (Some error)) (sym r) tt

-- ---- the value of a command

inner_of : (u : Tree) (o : Option Name) (p : Name × Tree) → Some p ≡ option_map (λ (command : Name). (command, u)) o → p.1 ≡ u
inner_of u None p e = absurd (Prim.cc e)
inner_of u (Some k) p e = let same : p ≡ (k, u) = Prim.cc e in ap (λ (q : Name × Tree). q.1) same

pub inner_writable : (o : Option (List ℕ)) (t : Tree) (p : Name × Tree) → Some p ≡ command_at o t → IsWritable t → IsWritable p.1
inner_writable o (object (member n u no_members)) p e w = subst IsWritable (sym (inner_of u (option_and_then (at_level o) (command_named n)) p e)) w.0.2
inner_writable o (object no_members) p e w = absurd (Prim.cc e)
inner_writable o (object (member n u (member m v ms))) p e w = absurd (Prim.cc e)
inner_writable o null p e w = absurd (Prim.cc e)
inner_writable o (boolean b) p e w = absurd (Prim.cc e)
inner_writable o (number k) p e w = absurd (Prim.cc e)
inner_writable o (text s) p e w = absurd (Prim.cc e)
inner_writable o (date d) p e w = absurd (Prim.cc e)
inner_writable o (list ts) p e w = absurd (Prim.cc e)
