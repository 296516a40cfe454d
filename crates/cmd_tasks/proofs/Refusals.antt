-- A request that is refused by itself is refused by an error of its own: it asked nothing of the keeper.
use Rattle.std.proofs.Common.{ℕ, List, [], ◌∷◌, Bool, true, false, Option, Some, None, sym, subst, inl, inr}
use Rattle.std.specs.Prelude.{IfSome, not, ◌&&◌, ◌==◌, nat_le, length, is_none, is_some, codes, option_and_then, if◌then◌else◌}
use Rattle.std.specs.Str.{bytes_eq}
use Rattle.std.specs.Option.{option_or, option_map}
use Rattle.std.specs.List.{AllByRecursion as Each}
use Rattle.json_tree.specs.Tree.{Tree, null, boolean, number, text, date, list, object, list_of_members}
use Rattle.json_tree.specs.Members.{member_at}
use Rattle.json_tree.specs.Doc.{id_in}
use Rattle.json_text.specs.declared.read.TextFault.{TextFault}
use Rattle.json_text.specs.declared.read.TextFault.TheVariants as text_faults
use Rattle.doc_limits.specs.Names.{first_bad_name}
use Rattle.doc_limits.specs.Limits.{broken}
use Rattle.doc_paths.specs.Name.{is_collection_name}
use Rattle.filter_tree.specs.Faults.{first_fault}
use Rattle.filter_tree.specs.declared.fault.FilterFault.{FilterFault}
use Rattle.filter_tree.specs.declared.fault.FilterFault.TheVariants as filter_faults
use Rattle.update_ops.specs.Faults as updates
use Rattle.update_ops.specs.declared.fault.UpdateFault.{UpdateFault}
use Rattle.update_ops.specs.declared.fault.UpdateFault.TheVariants as update_faults
use Rattle.view_sort.specs.Projection.{projection_fault}
use Rattle.view_sort.specs.Sort.{sort_fault}
use Rattle.view_sort.specs.declared.fault.ViewFault.{ViewFault}
use Rattle.view_sort.specs.declared.fault.ViewFault.TheVariants as view_faults
use Rattle.reply_env.specs.Messages.{unread, no_keyspace, bad_collection_name, bad_field, bad_option, command_limit, bad_member_name, broken_limit}
use Rattle.reply_env.specs.declared.reply.ErrorItem.{ErrorItem}
use Rattle.reply_env.specs.declared.request.Place.{Place}
use Rattle.reply_env.specs.declared.request.Request.{Request}
use Rattle.cmd_grammar.specs.First.{first_of, first_by}
use Rattle.cmd_grammar.specs.Names.{command_text}
use Rattle.cmd_grammar.specs.Parts.{member_in, sort_of, skip_of, page_text, documents_of}
use Rattle.cmd_grammar.specs.Rows.{Field, Row, row, fits}
use Rattle.cmd_grammar.specs.Fields.{option_refusal, options_refusal, member_refusal, missing_refusal, members_refusal, is_sorted, skip_refusal, page_refusal, paging_refusal, at_most, limits_refusal}
use Rattle.cmd_grammar.specs.Documents.{id_kind_refusal, empty_id_refusal, name_refusal, limit_refusal, replacing_refusal, document_refusal}
use Rattle.cmd_grammar.specs.Refused.{command_at, collection_named, no_command_refusal, keyspace_refusal, collection_refusal, fields_refusal, filter_error, filter_refusal, update_error, update_refusal, view_error, projection_refusal, sort_refusal, inserted_refusal, many_inserted_refusal, replacement_refusal, contents_refusal, parts_refusal, command_refusal, refused, IsRefusedBy}
use Rattle.cmd_grammar.specs.Commands.{stand_in, under}
use Rattle.cmd_grammar.specs.Requests.{IsRefused}
use Rattle.cmd_tasks.specs.Undisturbed.{IsOwn}

-- ---- tests

abbrev IsOwnIfAny : Option ErrorItem → Type 0
IsOwnIfAny o = IfSome o IsOwn

or_own : (a b : Option ErrorItem) → IsOwnIfAny a → IsOwnIfAny b → IsOwnIfAny (option_or a b)
or_own None b p q = q
or_own (Some e) b p q = p

all_own : (tests : List (Option ErrorItem)) → Each IsOwnIfAny tests → IsOwnIfAny (first_of tests)
all_own [] h = tt
all_own (test ∷ tests) h = or_own test (first_of tests) h.0 (all_own tests h.1)

by_own : {X : Type 0} (test : X → Option ErrorItem) → ((x : X) → IsOwnIfAny (test x)) → (xs : List X) → IsOwnIfAny (first_by test xs)
by_own test own [] = tt
by_own test own (x ∷ xs) = or_own (test x) (first_by test xs) (own x) (by_own test own xs)

mapped_own : {X : Type 0} (f : X → ErrorItem) → ((x : X) → IsOwn (f x)) → (o : Option X) → IsOwnIfAny (option_map f o)
mapped_own f own None = tt
mapped_own f own (Some x) = own x

then_own : {X : Type 0} (f : X → Option ErrorItem) → ((x : X) → IsOwnIfAny (f x)) → (o : Option X) → IsOwnIfAny (option_and_then f o)
then_own f own None = tt
then_own f own (Some x) = own x

unless_own : (b : Bool) (e : ErrorItem) → IsOwn e → IsOwnIfAny (if b then None else Some e)
unless_own true e own = tt
unless_own false e own = own

where_own : (b : Bool) (e : ErrorItem) → IsOwn e → IsOwnIfAny (if b then Some e else None)
where_own true e own = own
where_own false e own = tt

-- ---- faults

field_own : (name : List ℕ) → IsOwn (bad_field name)
field_own name = (λ e. Prim.cc e, λ e. Prim.cc e)

option_own : (name : List ℕ) → IsOwn (bad_option name)
option_own name = (λ e. Prim.cc e, λ e. Prim.cc e)

unread_own : (fault : TextFault) → IsOwn (unread fault)
unread_own (text_faults.Syntax at) = (λ e. Prim.cc e, λ e. Prim.cc e)
unread_own (text_faults.NotUtf8 at) = (λ e. Prim.cc e, λ e. Prim.cc e)
unread_own (text_faults.TooDeep at) = (λ e. Prim.cc e, λ e. Prim.cc e)
unread_own (text_faults.Number at) = (λ e. Prim.cc e, λ e. Prim.cc e)
unread_own text_faults.NoMemory = (λ e. Prim.cc e, λ e. Prim.cc e)

filter_own : (fault : FilterFault) → IsOwn (filter_error fault)
filter_own (filter_faults.Invalid path) = (λ e. Prim.cc e, λ e. Prim.cc e)
filter_own (filter_faults.UnknownOperator name) = (λ e. Prim.cc e, λ e. Prim.cc e)
filter_own (filter_faults.TooManyOperands found) = (λ e. Prim.cc e, λ e. Prim.cc e)
filter_own filter_faults.NoMemory = (λ e. Prim.cc e, λ e. Prim.cc e)

pub update_own : (fault : UpdateFault) → IsOwn (update_error fault)
update_own (update_faults.UnknownOperator name) = (λ e. Prim.cc e, λ e. Prim.cc e)
update_own (update_faults.BadOperand operator path) = (λ e. Prim.cc e, λ e. Prim.cc e)
update_own (update_faults.Overlap one other) = (λ e. Prim.cc e, λ e. Prim.cc e)
update_own update_faults.TouchesId = (λ e. Prim.cc e, λ e. Prim.cc e)
update_own (update_faults.WrongTarget path) = (λ e. Prim.cc e, λ e. Prim.cc e)
update_own (update_faults.NumberRange path) = (λ e. Prim.cc e, λ e. Prim.cc e)
update_own (update_faults.Broken b) = (λ e. Prim.cc e, λ e. Prim.cc e)
update_own update_faults.NoMemory = (λ e. Prim.cc e, λ e. Prim.cc e)

view_own : (fault : ViewFault) → IsOwn (view_error fault)
view_own (view_faults.BadProjection path) = (λ e. Prim.cc e, λ e. Prim.cc e)
view_own (view_faults.BadSort path) = (λ e. Prim.cc e, λ e. Prim.cc e)
view_own view_faults.BadPageState = (λ e. Prim.cc e, λ e. Prim.cc e)
view_own view_faults.NoMemory = (λ e. Prim.cc e, λ e. Prim.cc e)

-- ---- members

options_own : (fields : Option (List Field)) (t : Tree) → IsOwnIfAny (options_refusal fields t)
options_own None t = field_own (codes "options")
options_own (Some fields) null = field_own (codes "options")
options_own (Some fields) (boolean b) = field_own (codes "options")
options_own (Some fields) (number n) = field_own (codes "options")
options_own (Some fields) (text t) = field_own (codes "options")
options_own (Some fields) (date d) = field_own (codes "options")
options_own (Some fields) (list ts) = field_own (codes "options")
options_own (Some fields) (object ms) = by_own (option_refusal fields) (λ p. unless_own (fits fields p.0 p.1) (bad_option p.0) (option_own p.0)) (list_of_members ms)

member_own : (r : Row) (p : List ℕ × Tree) → IsOwnIfAny (member_refusal r p)
member_own r p = by_name (bytes_eq p.0 (codes "options"))
  where
    by_name : (b : Bool) → IsOwnIfAny (if b then options_refusal r.options p.1 else (if fits r.members p.0 p.1 then None else Some (bad_field p.0)))
    by_name true = options_own r.options p.1
    by_name false = unless_own (fits r.members p.0 p.1) (bad_field p.0) (field_own p.0)

members_own : (r : Row) (ms : List (List ℕ × Tree)) → IsOwnIfAny (members_refusal r ms)
members_own r ms =
    or_own (first_by (member_refusal r) ms) (first_by (missing_refusal ms) r.members)
    (by_own (member_refusal r) (member_own r) ms)
    (by_own (missing_refusal ms) (λ f. where_own (f.required && is_none (member_at f.name ms)) (bad_field f.name) (field_own f.name)) r.members)

fields_own : (name : _) (t : Tree) → IsOwnIfAny (fields_refusal (name, t))
fields_own name null = field_own (command_text name)
fields_own name (boolean b) = field_own (command_text name)
fields_own name (number n) = field_own (command_text name)
fields_own name (text t) = field_own (command_text name)
fields_own name (date d) = field_own (command_text name)
fields_own name (list ts) = field_own (command_text name)
fields_own name (object ms) = members_own (row name) (list_of_members ms)

paging_own : (t : Tree) → IsOwnIfAny (paging_refusal t)
paging_own t =
    let skip = where_own (not (is_sorted t) && not (skip_of t == 0)) (bad_option (codes "skip")) (option_own (codes "skip")) in
    let page = where_own (is_sorted t && is_some (page_text t)) (bad_option (codes "pageState")) (option_own (codes "pageState")) in
    all_own (skip_refusal t ∷ page_refusal t ∷ []) (skip, (page, tt))

most_own : (field : List ℕ) (bound found : ℕ) → IsOwnIfAny (at_most field bound found)
most_own field bound found = unless_own (nat_le found bound) (command_limit field bound found) (λ e. Prim.cc e, λ e. Prim.cc e)

limits_own : (t : Tree) → IsOwnIfAny (limits_refusal t)
limits_own t =
    all_own (at_most (codes "documents") 100 (length (documents_of t)) ∷ at_most (codes "skip") 480 (skip_of t) ∷ at_most (codes "sort") 8 (length (sort_of t)) ∷ [])
    (most_own (codes "documents") 100 (length (documents_of t)), (most_own (codes "skip") 480 (skip_of t), (most_own (codes "sort") 8 (length (sort_of t)), tt)))

-- ---- documents

kind_own : (id : Option Tree) → IsOwnIfAny (id_kind_refusal id)
kind_own None = tt
kind_own (Some null) = tt
kind_own (Some (boolean b)) = tt
kind_own (Some (number n)) = tt
kind_own (Some (text t)) = tt
kind_own (Some (date d)) = tt
kind_own (Some (list ts)) = (λ e. Prim.cc e, λ e. Prim.cc e)
kind_own (Some (object ms)) = (λ e. Prim.cc e, λ e. Prim.cc e)

empty_own : (id : Option Tree) → IsOwnIfAny (empty_id_refusal id)
empty_own None = tt
empty_own (Some null) = tt
empty_own (Some (boolean b)) = tt
empty_own (Some (number n)) = tt
empty_own (Some (text [])) = (λ e. Prim.cc e, λ e. Prim.cc e)
empty_own (Some (text (x ∷ xs))) = tt
empty_own (Some (date d)) = tt
empty_own (Some (list ts)) = tt
empty_own (Some (object ms)) = tt

replacing_own : (t : Tree) → IsOwnIfAny (replacing_refusal t)
replacing_own t =
    let name = mapped_own bad_member_name (λ n. (λ e. Prim.cc e, λ e. Prim.cc e)) (first_bad_name t) in
    all_own (id_kind_refusal (id_in t) ∷ empty_id_refusal (id_in t) ∷ name_refusal (first_bad_name t) ∷ []) (kind_own (id_in t), (empty_own (id_in t), (name, tt)))

document_own : (t : Tree) → IsOwnIfAny (document_refusal t)
document_own t =
    let limit = mapped_own (λ b. broken_limit b.limit b.bound b.found) (λ b. (λ e. Prim.cc e, λ e. Prim.cc e)) (broken (under stand_in t)) in
    all_own (replacing_refusal t ∷ limit_refusal (broken (under stand_in t)) ∷ []) (replacing_own t, (limit, tt))

-- ---- requests

contents_own : (t : Tree) → IsOwnIfAny (contents_refusal t)
contents_own t =
    let one = then_own document_refusal document_own (member_in (codes "document") t) in
    let many = by_own document_refusal document_own (documents_of t) in
    let replacing = then_own replacing_refusal replacing_own (member_in (codes "replacement") t) in
    all_own (inserted_refusal t ∷ many_inserted_refusal t ∷ replacement_refusal t ∷ []) (one, (many, (replacing, tt)))

parts_own : (t : Tree) → IsOwnIfAny (parts_refusal t)
parts_own t =
    let filter = mapped_own filter_error filter_own (option_and_then first_fault (member_in (codes "filter") t)) in
    let update = mapped_own update_error update_own (option_and_then updates.first_fault (member_in (codes "update") t)) in
    let projection = mapped_own view_error view_own (option_and_then projection_fault (member_in (codes "projection") t)) in
    let sort = mapped_own view_error view_own (option_and_then sort_fault (member_in (codes "sort") t)) in
    all_own (filter_refusal t ∷ update_refusal t ∷ projection_refusal t ∷ sort_refusal t ∷ contents_refusal t ∷ []) (filter, (update, (projection, (sort, (contents_own t, tt)))))

command_own : (command : _ × Tree) → IsOwnIfAny (command_refusal command)
command_own (name, t) =
    all_own (fields_refusal (name, t) ∷ paging_refusal t ∷ limits_refusal t ∷ parts_refusal t ∷ []) (fields_own name t, (paging_own t, (limits_own t, (parts_own t, tt))))

missing_own : (command : Option (_ × Tree)) → IsOwnIfAny (no_command_refusal command)
missing_own None = (λ e. Prim.cc e, λ e. Prim.cc e)
missing_own (Some command) = tt

name_own : (name : Option (List ℕ)) → IsOwnIfAny (collection_refusal name)
name_own None = tt
name_own (Some name) = unless_own (is_collection_name name) (bad_collection_name name) (λ e. Prim.cc e, λ e. Prim.cc e)

refused_own : (keyspace : List ℕ) (place : Place) (value : Tree) → IsOwnIfAny (refused keyspace place value)
refused_own keyspace place value =
    let command = command_at place.collection value in
    let other = unless_own (bytes_eq place.keyspace keyspace) (no_keyspace place.keyspace) (λ e. Prim.cc e, λ e. Prim.cc e) in
    all_own
    (no_command_refusal command ∷ keyspace_refusal keyspace place.keyspace ∷ collection_refusal (option_and_then (collection_named place.collection) command) ∷ option_and_then command_refusal command ∷ [])
    (missing_own command, (other, (name_own (option_and_then (collection_named place.collection) command), (then_own command_refusal command_own command, tt))))

first_own : (keyspace : List ℕ) (place : Place) (value : Tree) (error : ErrorItem) → IsRefusedBy keyspace place value error → IsOwn error
first_own keyspace place value error (inl e) = subst IsOwnIfAny e (refused_own keyspace place value)
first_own keyspace place value error (inr e) = subst IsOwn (sym e.2) (λ q. Prim.cc q, λ q. Prim.cc q)

pub refusal_is_own : (keyspace : List ℕ) (request : Request) (error : ErrorItem) → IsRefused keyspace request error → IsOwn error
refusal_is_own keyspace request error (inl h) = subst IsOwn (sym h.is_error) (unread_own h.fault)
refusal_is_own keyspace request error (inr h) = first_own keyspace request.place h.value error h.refusal
