-- The first refusal of a request that its place and the value of its body show.
use Rattle.std.specs.Prelude.{◌≡◌, ℕ, List, [], ◌∷◌, Option, Some, None, ◌⊎◌, option_and_then, if◌then◌else◌, codes}
use Rattle.std.specs.Str.{bytes_eq}
use Rattle.std.specs.Option.{option_map}
use Rattle.json_tree.specs.Tree.{Tree, object, no_members, member, list_of_members}
use Rattle.doc_paths.specs.Name.{is_collection_name}
use Rattle.filter_tree.specs.Faults.{first_fault}
use Rattle.filter_tree.specs.declared.fault.FilterFault.{FilterFault}
use Rattle.filter_tree.specs.declared.fault.FilterFault.TheVariants as filter_faults
use Rattle.update_ops.specs.Faults as updates
use Rattle.update_ops.specs.declared.fault.UpdateFault.{UpdateFault}
use Rattle.update_ops.specs.declared.fault.UpdateFault.TheVariants as update_faults
use Rattle.view_sort.specs.Projection.{projection_fault}
use Rattle.view_sort.specs.Sort.{sort_fault}
use Rattle.view_sort.specs.declared.fault.ViewFault.{ViewFault}
use Rattle.view_sort.specs.declared.fault.ViewFault.TheVariants as view_faults
use Rattle.reply_env.specs.Messages.{no_command, no_keyspace, bad_collection_name, bad_field, bad_filter, many_operands, no_filter_operator, no_update_operator, bad_update_operand, update_conflict, id_unchangeable, wrong_update_target, number_out_of_range, broken_limit, bad_projection, bad_sort, bad_page_state, out_of_memory}
use Rattle.reply_env.specs.declared.reply.ErrorItem.{ErrorItem}
use Rattle.reply_env.specs.declared.request.Place.{Place}
use Rattle.cmd_grammar.specs.First.{first_of, first_by}
use Rattle.cmd_grammar.specs.Names.{command_named, command_text, is_on_documents}
use Rattle.cmd_grammar.specs.Parts.{member_in, page_text, name_text, documents_of, IsNoPage}
use Rattle.cmd_grammar.specs.Rows.{row}
use Rattle.cmd_grammar.specs.Fields.{members_refusal, paging_refusal, limits_refusal}
use Rattle.cmd_grammar.specs.Documents.{document_refusal, replacing_refusal}
use Rattle.cmd_grammar.specs.declared.name.Name.{Name}
use Rattle.cmd_grammar.specs.declared.name.Name.TheVariants.{CreateCollection, DeleteCollection}

-- ---- the command and its value

-- a command on documents stands under the path of a collection, one on collections under that of the keyspace alone
abbrev pub at_level : Option (List ℕ) → Name → Option Name
at_level (Some collection) name = if is_on_documents name then Some name else None
at_level None name = if is_on_documents name then None else Some name

-- the body is an object whose one member has the name of a command of the path's level
abbrev pub command_at : Option (List ℕ) → Tree → Option (Name × Tree)
command_at collection (object (member name t no_members)) = option_map (λ command. (command, t)) (option_and_then (at_level collection) (command_named name))
command_at collection t = None

-- the text of its page state, where it has one
abbrev pub page_at : Place → Tree → Option (List ℕ)
page_at place value = option_and_then (λ command. page_text command.1) (command_at place.collection value)

-- the text that names the collection to be made or deleted, or else the path's collection
abbrev pub collection_named : Option (List ℕ) → Name × Tree → Option (List ℕ)
collection_named collection (CreateCollection, t) = name_text t
collection_named collection (DeleteCollection, t) = name_text t
collection_named collection (name, t) = collection

-- ---- the tests

abbrev pub no_command_refusal : Option (Name × Tree) → Option ErrorItem
no_command_refusal None = Some no_command
no_command_refusal (Some command) = None

-- the path's keyspace is another one
abbrev pub keyspace_refusal : List ℕ → List ℕ → Option ErrorItem
keyspace_refusal keyspace name = if bytes_eq name keyspace then None else Some (no_keyspace name)

-- no collection can have the name
abbrev pub collection_refusal : Option (List ℕ) → Option ErrorItem
collection_refusal None = None
collection_refusal (Some name) = if is_collection_name name then None else Some (bad_collection_name name)

-- the command's value is no object, or one of its members is wrong or missing
abbrev pub fields_refusal : Name × Tree → Option ErrorItem
fields_refusal (name, object ms) = members_refusal (row name) (list_of_members ms)
fields_refusal (name, t) = Some (bad_field (command_text name))

abbrev pub filter_error : FilterFault → ErrorItem
filter_error (filter_faults.Invalid path) = bad_filter path
filter_error (filter_faults.UnknownOperator name) = no_filter_operator name
filter_error (filter_faults.TooManyOperands found) = many_operands found
filter_error filter_faults.NoMemory = out_of_memory 0

-- the filter can't be read
abbrev pub filter_refusal : Tree → Option ErrorItem
filter_refusal t = option_map filter_error (option_and_then first_fault (member_in (codes "filter") t))

-- what is wrong with an update, or with what it makes of a document
abbrev pub update_error : UpdateFault → ErrorItem
update_error (update_faults.UnknownOperator name) = no_update_operator name
update_error (update_faults.BadOperand operator path) = bad_update_operand operator path
update_error (update_faults.Overlap one other) = update_conflict one other
update_error update_faults.TouchesId = id_unchangeable
update_error (update_faults.WrongTarget path) = wrong_update_target path
update_error (update_faults.NumberRange path) = number_out_of_range path
update_error (update_faults.Broken b) = broken_limit b.limit b.bound b.found
update_error update_faults.NoMemory = out_of_memory 0

-- the update can't be read
abbrev pub update_refusal : Tree → Option ErrorItem
update_refusal t = option_map update_error (option_and_then updates.first_fault (member_in (codes "update") t))

abbrev pub view_error : ViewFault → ErrorItem
view_error (view_faults.BadProjection path) = bad_projection path
view_error (view_faults.BadSort path) = bad_sort path
view_error view_faults.BadPageState = bad_page_state
view_error view_faults.NoMemory = out_of_memory 0

-- the projection can't be read
abbrev pub projection_refusal : Tree → Option ErrorItem
projection_refusal t = option_map view_error (option_and_then projection_fault (member_in (codes "projection") t))

-- the sort can't be read
abbrev pub sort_refusal : Tree → Option ErrorItem
sort_refusal t = option_map view_error (option_and_then sort_fault (member_in (codes "sort") t))

-- the document may not be stored
abbrev pub inserted_refusal : Tree → Option ErrorItem
inserted_refusal t = option_and_then document_refusal (member_in (codes "document") t)

-- the first of the documents that may not be stored
abbrev pub many_inserted_refusal : Tree → Option ErrorItem
many_inserted_refusal t = first_by document_refusal (documents_of t)

-- the replacement may not stand for a document
abbrev pub replacement_refusal : Tree → Option ErrorItem
replacement_refusal t = option_and_then replacing_refusal (member_in (codes "replacement") t)

-- a command has one of these at most
abbrev pub contents_refusal : Tree → Option ErrorItem
contents_refusal t = first_of (inserted_refusal t ∷ many_inserted_refusal t ∷ replacement_refusal t ∷ [])

-- the tests of what the members spell, in their order
abbrev pub parts_refusal : Tree → Option ErrorItem
parts_refusal t = first_of (filter_refusal t ∷ update_refusal t ∷ projection_refusal t ∷ sort_refusal t ∷ contents_refusal t ∷ [])

-- the tests of a command and its value, in their order
abbrev pub command_refusal : Name × Tree → Option ErrorItem
command_refusal command = first_of (fields_refusal command ∷ paging_refusal command.1 ∷ limits_refusal command.1 ∷ parts_refusal command.1 ∷ [])

-- the tests of a request, in their order, but for that of the page state
abbrev pub refused : List ℕ → Place → Tree → Option ErrorItem
refused keyspace place value =
    first_of
    (no_command_refusal (command_at place.collection value)
    ∷ keyspace_refusal keyspace place.keyspace
    ∷ collection_refusal (option_and_then (collection_named place.collection) (command_at place.collection value))
    ∷ option_and_then command_refusal (command_at place.collection value)
    ∷ [])

-- This is the first refusal. That the text of a page state spells none is tested last: a command with a page state has no
-- document and no replacement.
abbrev pub IsFirst : Option ErrorItem → Option (List ℕ) → ErrorItem → Type 0
IsFirst refusal page error = (refusal ≡ Some error) ⊎ ((refusal ≡ None) × IsNoPage page × (error ≡ bad_page_state))

-- the first refusal that the place and the value show
abbrev pub IsRefusedBy : List ℕ → Place → Tree → ErrorItem → Type 0
IsRefusedBy keyspace place value error = IsFirst (refused keyspace place value) (page_at place value) error
