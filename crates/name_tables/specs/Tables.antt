-- The rows of the four tables, in their order.
use Rattle.std.specs.Prelude.{List, ℕ, [], ◌∷◌, codes}

-- the commands on the documents of a collection, then those on collections
abbrev pub command_names : List (List ℕ)
command_names =
    codes "insertOne" ∷
    codes "insertMany" ∷
    codes "findOne" ∷
    codes "find" ∷
    codes "countDocuments" ∷
    codes "updateOne" ∷
    codes "updateMany" ∷
    codes "deleteOne" ∷
    codes "deleteMany" ∷
    codes "findOneAndUpdate" ∷
    codes "findOneAndReplace" ∷
    codes "findOneAndDelete" ∷
    codes "createCollection" ∷
    codes "findCollections" ∷
    codes "deleteCollection" ∷
    []

-- the operators of a filter
abbrev pub filter_op_names : List (List ℕ)
filter_op_names =
    codes "$eq" ∷
    codes "$ne" ∷
    codes "$gt" ∷
    codes "$gte" ∷
    codes "$lt" ∷
    codes "$lte" ∷
    codes "$in" ∷
    codes "$nin" ∷
    codes "$exists" ∷
    codes "$all" ∷
    codes "$size" ∷
    codes "$and" ∷
    codes "$or" ∷
    codes "$not" ∷
    []

-- the operators of an update, in the order in which they are applied
abbrev pub update_op_names : List (List ℕ)
update_op_names =
    codes "$set" ∷
    codes "$unset" ∷
    codes "$inc" ∷
    codes "$mul" ∷
    codes "$min" ∷
    codes "$max" ∷
    codes "$rename" ∷
    codes "$push" ∷
    codes "$pop" ∷
    codes "$addToSet" ∷
    codes "$setOnInsert" ∷
    codes "$currentDate" ∷
    []

-- the texts of the codes
abbrev pub code_names : List (List ℕ)
code_names =
    codes "INVALID_JSON" ∷
    codes "NO_COMMAND_MATCHED" ∷
    codes "COMMAND_FIELD_INVALID" ∷
    codes "INVALID_FILTER_EXPRESSION" ∷
    codes "UNSUPPORTED_FILTER_OPERATION" ∷
    codes "UNSUPPORTED_UPDATE_OPERATION" ∷
    codes "UNSUPPORTED_UPDATE_OPERATION_PARAM" ∷
    codes "UNSUPPORTED_UPDATE_FOR_DOC_ID" ∷
    codes "UNSUPPORTED_UPDATE_OPERATION_TARGET" ∷
    codes "UNSUPPORTED_PROJECTION_PARAM" ∷
    codes "INVALID_SORT_CLAUSE" ∷
    codes "INVALID_PAGE_STATE" ∷
    codes "SHRED_BAD_DOCID_TYPE" ∷
    codes "SHRED_BAD_DOCID_EMPTY_STRING" ∷
    codes "SHRED_DOC_KEY_NAME_VIOLATION" ∷
    codes "SHRED_DOC_LIMIT_VIOLATION" ∷
    codes "NUMBER_OUT_OF_RANGE" ∷
    codes "DOCUMENT_ALREADY_EXISTS" ∷
    codes "COLLECTION_NOT_EXIST" ∷
    codes "INVALID_COLLECTION_NAME" ∷
    codes "TOO_MANY_COLLECTIONS" ∷
    codes "KEYSPACE_NOT_EXIST" ∷
    codes "CONCURRENCY_FAILURE" ∷
    codes "DATASET_TOO_BIG" ∷
    codes "COMMAND_LIMIT_VIOLATION" ∷
    codes "STORE_FAULT" ∷
    codes "VERSIONS_SPENT" ∷
    codes "OUT_OF_MEMORY" ∷
    []
