-- The texts of the codes.
use Rattle.std.specs.Prelude.{ℕ, List, codes}
use Rattle.name_tables.specs.declared.code.Code.{Code}
use Rattle.name_tables.specs.declared.code.Code.TheVariants.{InvalidJson, NoCommandMatched, CommandFieldInvalid, InvalidFilterExpression, UnsupportedFilterOperation, UnsupportedUpdateOperation, UnsupportedUpdateOperationParam, UnsupportedUpdateForDocId, UnsupportedUpdateOperationTarget, UnsupportedProjectionParam, InvalidSortClause, InvalidPageState, ShredBadDocidType, ShredBadDocidEmptyString, ShredDocKeyNameViolation, ShredDocLimitViolation, NumberOutOfRange, DocumentAlreadyExists, CollectionNotExist, InvalidCollectionName, TooManyCollections, KeyspaceNotExist, ConcurrencyFailure, DatasetTooBig, CommandLimitViolation, StoreFault, VersionsSpent, OutOfMemory}

-- the text by which answers name the code
abbrev pub code_text : Code → List ℕ
code_text InvalidJson = codes "INVALID_JSON"
code_text NoCommandMatched = codes "NO_COMMAND_MATCHED"
code_text CommandFieldInvalid = codes "COMMAND_FIELD_INVALID"
code_text InvalidFilterExpression = codes "INVALID_FILTER_EXPRESSION"
code_text UnsupportedFilterOperation = codes "UNSUPPORTED_FILTER_OPERATION"
code_text UnsupportedUpdateOperation = codes "UNSUPPORTED_UPDATE_OPERATION"
code_text UnsupportedUpdateOperationParam = codes "UNSUPPORTED_UPDATE_OPERATION_PARAM"
code_text UnsupportedUpdateForDocId = codes "UNSUPPORTED_UPDATE_FOR_DOC_ID"
code_text UnsupportedUpdateOperationTarget = codes "UNSUPPORTED_UPDATE_OPERATION_TARGET"
code_text UnsupportedProjectionParam = codes "UNSUPPORTED_PROJECTION_PARAM"
code_text InvalidSortClause = codes "INVALID_SORT_CLAUSE"
code_text InvalidPageState = codes "INVALID_PAGE_STATE"
code_text ShredBadDocidType = codes "SHRED_BAD_DOCID_TYPE"
code_text ShredBadDocidEmptyString = codes "SHRED_BAD_DOCID_EMPTY_STRING"
code_text ShredDocKeyNameViolation = codes "SHRED_DOC_KEY_NAME_VIOLATION"
code_text ShredDocLimitViolation = codes "SHRED_DOC_LIMIT_VIOLATION"
code_text NumberOutOfRange = codes "NUMBER_OUT_OF_RANGE"
code_text DocumentAlreadyExists = codes "DOCUMENT_ALREADY_EXISTS"
code_text CollectionNotExist = codes "COLLECTION_NOT_EXIST"
code_text InvalidCollectionName = codes "INVALID_COLLECTION_NAME"
code_text TooManyCollections = codes "TOO_MANY_COLLECTIONS"
code_text KeyspaceNotExist = codes "KEYSPACE_NOT_EXIST"
code_text ConcurrencyFailure = codes "CONCURRENCY_FAILURE"
code_text DatasetTooBig = codes "DATASET_TOO_BIG"
code_text CommandLimitViolation = codes "COMMAND_LIMIT_VIOLATION"
code_text StoreFault = codes "STORE_FAULT"
code_text VersionsSpent = codes "VERSIONS_SPENT"
code_text OutOfMemory = codes "OUT_OF_MEMORY"

-- the row of the code's text in the table of the codes
abbrev pub code_row : Code → ℕ
code_row InvalidJson = 0
code_row NoCommandMatched = 1
code_row CommandFieldInvalid = 2
code_row InvalidFilterExpression = 3
code_row UnsupportedFilterOperation = 4
code_row UnsupportedUpdateOperation = 5
code_row UnsupportedUpdateOperationParam = 6
code_row UnsupportedUpdateForDocId = 7
code_row UnsupportedUpdateOperationTarget = 8
code_row UnsupportedProjectionParam = 9
code_row InvalidSortClause = 10
code_row InvalidPageState = 11
code_row ShredBadDocidType = 12
code_row ShredBadDocidEmptyString = 13
code_row ShredDocKeyNameViolation = 14
code_row ShredDocLimitViolation = 15
code_row NumberOutOfRange = 16
code_row DocumentAlreadyExists = 17
code_row CollectionNotExist = 18
code_row InvalidCollectionName = 19
code_row TooManyCollections = 20
code_row KeyspaceNotExist = 21
code_row ConcurrencyFailure = 22
code_row DatasetTooBig = 23
code_row CommandLimitViolation = 24
code_row StoreFault = 25
code_row VersionsSpent = 26
code_row OutOfMemory = 27
