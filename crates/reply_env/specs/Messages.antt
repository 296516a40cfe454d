-- The errors of replies: each with its code and its message. A client's own text stands in a message as it is.
use Rattle.std.specs.Prelude.{ℕ, List, [], ◌∷◌, ◌++◌, Option, Some, None, codes, decimal}
use Rattle.std.specs.List.{flat_map}
use Rattle.json_tree.specs.Tree.{Tree}
use Rattle.json_text.specs.Print.{text_of}
use Rattle.json_text.specs.declared.read.TextFault.{TextFault}
use Rattle.json_text.specs.declared.read.TextFault.TheVariants.{Syntax, NotUtf8, TooDeep, Number, NoMemory}
use Rattle.name_tables.specs.declared.code.Code.TheVariants.{InvalidJson, NoCommandMatched, CommandFieldInvalid, InvalidFilterExpression, UnsupportedFilterOperation, UnsupportedUpdateOperation, UnsupportedUpdateOperationParam, UnsupportedUpdateForDocId, UnsupportedUpdateOperationTarget, ShredBadDocidType, ShredBadDocidEmptyString, ShredDocKeyNameViolation, ShredDocLimitViolation, NumberOutOfRange, UnsupportedProjectionParam, InvalidSortClause, InvalidPageState, DatasetTooBig, CommandLimitViolation, DocumentAlreadyExists, CollectionNotExist, InvalidCollectionName, TooManyCollections, KeyspaceNotExist, ConcurrencyFailure, StoreFault, VersionsSpent, OutOfMemory}
use Rattle.reply_env.specs.declared.reply.ErrorItem.{ErrorItem}
use Rattle.reply_env.specs.declared.update_errors.Loss.{Loss}

-- ---- the body

abbrev pub not_json : ℕ → ErrorItem
not_json at = record { code = InvalidJson; message = codes "Body is not JSON at byte " ++ decimal at }

abbrev pub not_utf8 : ℕ → ErrorItem
not_utf8 at = record { code = InvalidJson; message = codes "Body is not UTF-8 at byte " ++ decimal at }

abbrev pub too_deep : ℕ → ErrorItem
too_deep at = record { code = InvalidJson; message = codes "Body is nested too deep at byte " ++ decimal at }

abbrev pub numeral_out_of_range : ℕ → ErrorItem
numeral_out_of_range at = record { code = NumberOutOfRange; message = codes "Number is out of range at byte " ++ decimal at }

-- memory ran out after so many accepted writes of the request
abbrev pub out_of_memory : ℕ → ErrorItem
out_of_memory accepted = record { code = OutOfMemory; message = codes "Out of memory after " ++ decimal accepted ++ codes " accepted writes" }

-- the bytes of a body spell no value
abbrev pub unread : TextFault → ErrorItem
unread (Syntax at) = not_json at
unread (NotUtf8 at) = not_utf8 at
unread (TooDeep at) = too_deep at
unread (Number at) = numeral_out_of_range at
unread NoMemory = out_of_memory 0

-- ---- the command

abbrev pub no_command : ErrorItem
no_command = record { code = NoCommandMatched; message = codes "No command matched" }

abbrev pub no_keyspace : List ℕ → ErrorItem
no_keyspace name = record { code = KeyspaceNotExist; message = codes "Keyspace " ++ name ++ codes " does not exist" }

abbrev pub bad_collection_name : List ℕ → ErrorItem
bad_collection_name name = record { code = InvalidCollectionName; message = codes "Collection name is invalid: " ++ name }

abbrev pub bad_field : List ℕ → ErrorItem
bad_field field = record { code = CommandFieldInvalid; message = codes "Command field invalid: " ++ field }

abbrev pub bad_option : List ℕ → ErrorItem
bad_option name = bad_field (codes "options." ++ name)

-- ---- the filter

abbrev pub bad_filter : List ℕ → ErrorItem
bad_filter path = record { code = InvalidFilterExpression; message = codes "Filter is invalid at " ++ path }

abbrev pub many_operands : ℕ → ErrorItem
many_operands found = record { code = InvalidFilterExpression; message = codes "Filter has " ++ decimal found ++ codes " operands, at most 100" }

abbrev pub no_filter_operator : List ℕ → ErrorItem
no_filter_operator name = record { code = UnsupportedFilterOperation; message = codes "Filter operator " ++ name ++ codes " is not supported" }

-- ---- an update

abbrev pub no_update_operator : List ℕ → ErrorItem
no_update_operator name = record { code = UnsupportedUpdateOperation; message = codes "Update operator " ++ name ++ codes " is not supported" }

abbrev pub bad_update_operand : List ℕ → List ℕ → ErrorItem
bad_update_operand operator path = record { code = UnsupportedUpdateOperationParam; message = codes "Update operand is invalid for " ++ operator ++ codes " at " ++ path }

-- one of the two paths leads through the other, or both are the same
abbrev pub update_conflict : List ℕ → List ℕ → ErrorItem
update_conflict one other = record { code = UnsupportedUpdateOperationParam; message = codes "Update paths conflict: " ++ one ++ codes " and " ++ other }

abbrev pub id_unchangeable : ErrorItem
id_unchangeable = record { code = UnsupportedUpdateForDocId; message = codes "Field _id is not changeable" }

abbrev pub wrong_update_target : List ℕ → ErrorItem
wrong_update_target path = record { code = UnsupportedUpdateOperationTarget; message = codes "Update target is of the wrong kind at " ++ path }

abbrev pub number_out_of_range : List ℕ → ErrorItem
number_out_of_range path = record { code = NumberOutOfRange; message = codes "Number is out of range at " ++ path }

-- the number that stood in the place of the one that was read
abbrev pub found_text : Option ℕ → List ℕ
found_text None = codes "gone"
found_text (Some tx) = decimal tx

abbrev pub loss_text : Loss → List ℕ
loss_text loss = decimal loss.read ++ codes ">" ++ found_text loss.found

abbrev pub losses_text : List Loss → List ℕ
losses_text [] = []
losses_text (loss ∷ losses) = loss_text loss ++ flat_map (λ l. codes ", " ++ loss_text l) losses

-- writes that were lost to other writers, in the order of the attempts
abbrev pub lost_writes : List Loss → ErrorItem
lost_writes losses = record { code = ConcurrencyFailure; message = codes "Lost to other writers: " ++ losses_text losses }

-- ---- what is shown, and in which order

abbrev pub bad_projection : List ℕ → ErrorItem
bad_projection path = record { code = UnsupportedProjectionParam; message = codes "Projection is invalid at " ++ path }

abbrev pub bad_sort : List ℕ → ErrorItem
bad_sort path = record { code = InvalidSortClause; message = codes "Sort is invalid at " ++ path }

abbrev pub bad_page_state : ErrorItem
bad_page_state = record { code = InvalidPageState; message = codes "Page state is invalid" }

-- a member or an option of a command is more than its bound
abbrev pub command_limit : List ℕ → ℕ → ℕ → ErrorItem
command_limit field bound found =
    record { code = CommandLimitViolation; message = codes "Command limit " ++ field ++ codes " is " ++ decimal bound ++ codes ", found " ++ decimal found }

abbrev pub too_many_to_sort : ErrorItem
too_many_to_sort = record { code = DatasetTooBig; message = codes "More than 10000 documents to sort" }

-- ---- a document

abbrev pub bad_id_kind : ErrorItem
bad_id_kind = record { code = ShredBadDocidType; message = codes "Field _id is of the wrong kind" }

abbrev pub empty_id : ErrorItem
empty_id = record { code = ShredBadDocidEmptyString; message = codes "Field _id is an empty text" }

abbrev pub bad_member_name : List ℕ → ErrorItem
bad_member_name name = record { code = ShredDocKeyNameViolation; message = codes "Member name is not allowed: " ++ name }

abbrev pub broken_limit : ℕ → ℕ → ℕ → ErrorItem
broken_limit limit bound found =
    record { code = ShredDocLimitViolation; message = codes "Document limit " ++ decimal limit ++ codes " is " ++ decimal bound ++ codes ", found " ++ decimal found }

-- ---- the store

-- a document with the id stands there, under this version
abbrev pub already_exists : Tree → ℕ → ErrorItem
already_exists id tx = record { code = DocumentAlreadyExists; message = codes "Document " ++ text_of id ++ codes " already exists at version " ++ decimal tx }

abbrev pub no_collection : List ℕ → ErrorItem
no_collection name = record { code = CollectionNotExist; message = codes "Collection " ++ name ++ codes " does not exist" }

-- as many collections live as may
abbrev pub too_many_collections : ErrorItem
too_many_collections = record { code = TooManyCollections; message = codes "At most 100 collections" }

-- the keeper's count of faults before and after the call that failed
abbrev pub store_fault : ℕ → ℕ → ErrorItem
store_fault before after = record { code = StoreFault; message = codes "Store fault: " ++ decimal before ++ codes " then " ++ decimal after }

abbrev pub versions_spent : ErrorItem
versions_spent = record { code = VersionsSpent; message = codes "No version numbers are left" }
