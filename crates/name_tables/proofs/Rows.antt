-- The rows of the codes.
use Rattle.std.proofs.Common.{◌≡◌, ◌↔◌, ℕ, List, map, Some, None, slice_get, refl, sym, ◌∙◌, ap}
use Rattle.std.specs.Option.{option_map}
use Rattle.std.proofs.lemmas.Option.{slice_get-map}
use Rattle.name_tables.specs.declared.code.Code.{Code}
use Rattle.name_tables.specs.declared.code.Code.TheVariants.{InvalidJson, NoCommandMatched, CommandFieldInvalid, InvalidFilterExpression, UnsupportedFilterOperation, UnsupportedUpdateOperation, UnsupportedUpdateOperationParam, UnsupportedUpdateForDocId, UnsupportedUpdateOperationTarget, UnsupportedProjectionParam, InvalidSortClause, InvalidPageState, ShredBadDocidType, ShredBadDocidEmptyString, ShredDocKeyNameViolation, ShredDocLimitViolation, NumberOutOfRange, DocumentAlreadyExists, CollectionNotExist, InvalidCollectionName, TooManyCollections, KeyspaceNotExist, ConcurrencyFailure, DatasetTooBig, CommandLimitViolation, StoreFault, VersionsSpent, OutOfMemory}
use Rattle.name_tables.specs.declared.code.TheConstants.{IN_ORDER}
use Rattle.name_tables.specs.Code.{code_text, code_row}
use Rattle.name_tables.specs.Tables.{code_names}

-- each code's text stands in its row
pub text-row : (c : Code) → slice_get code_names (code_row c) ≡ Some (code_text c)
text-row InvalidJson = refl
text-row NoCommandMatched = refl
text-row CommandFieldInvalid = refl
text-row InvalidFilterExpression = refl
text-row UnsupportedFilterOperation = refl
text-row UnsupportedUpdateOperation = refl
text-row UnsupportedUpdateOperationParam = refl
text-row UnsupportedUpdateForDocId = refl
text-row UnsupportedUpdateOperationTarget = refl
text-row UnsupportedProjectionParam = refl
text-row InvalidSortClause = refl
text-row InvalidPageState = refl
text-row ShredBadDocidType = refl
text-row ShredBadDocidEmptyString = refl
text-row ShredDocKeyNameViolation = refl
text-row ShredDocLimitViolation = refl
text-row NumberOutOfRange = refl
text-row DocumentAlreadyExists = refl
text-row CollectionNotExist = refl
text-row InvalidCollectionName = refl
text-row TooManyCollections = refl
text-row KeyspaceNotExist = refl
text-row ConcurrencyFailure = refl
text-row DatasetTooBig = refl
text-row CommandLimitViolation = refl
text-row StoreFault = refl
text-row VersionsSpent = refl
text-row OutOfMemory = refl

-- each code stands in its row
code-row : (c : Code) → slice_get IN_ORDER (code_row c) ≡ Some c
code-row InvalidJson = refl
code-row NoCommandMatched = refl
code-row CommandFieldInvalid = refl
code-row InvalidFilterExpression = refl
code-row UnsupportedFilterOperation = refl
code-row UnsupportedUpdateOperation = refl
code-row UnsupportedUpdateOperationParam = refl
code-row UnsupportedUpdateForDocId = refl
code-row UnsupportedUpdateOperationTarget = refl
code-row UnsupportedProjectionParam = refl
code-row InvalidSortClause = refl
code-row InvalidPageState = refl
code-row ShredBadDocidType = refl
code-row ShredBadDocidEmptyString = refl
code-row ShredDocKeyNameViolation = refl
code-row ShredDocLimitViolation = refl
code-row NumberOutOfRange = refl
code-row DocumentAlreadyExists = refl
code-row CollectionNotExist = refl
code-row InvalidCollectionName = refl
code-row TooManyCollections = refl
code-row KeyspaceNotExist = refl
code-row ConcurrencyFailure = refl
code-row DatasetTooBig = refl
code-row CommandLimitViolation = refl
code-row StoreFault = refl
code-row VersionsSpent = refl
code-row OutOfMemory = refl

-- the table has the codes' texts
names-in_order : code_names ≡ map code_text IN_ORDER
names-in_order = refl

-- the code in the row of a text is the one that has the text
pub code-at : (row : ℕ) (text : List ℕ) (code : Code) → slice_get IN_ORDER row ≡ Some code → ((i : ℕ) → (Some row ≡ Some i) ↔ (slice_get code_names i ≡ Some text)) → (c : Code) → (Some code ≡ Some c) ↔ (code_text c ≡ text)
code-at row text code here found c = (
  λ is. let name : slice_get code_names row ≡ Some (code_text code) = ap (λ names. slice_get names row) names-in_order ∙ slice_get-map code_text IN_ORDER row ∙ ap (option_map code_text) here in
      let its : slice_get code_names row ≡ Some text = (found row).0 refl in
      cc,
  λ its. let same : Some row ≡ Some (code_row c) = (found (code_row c)).1 (text-row c ∙ ap Some its) in
      let place : row ≡ code_row c = cc in
      sym here ∙ ap (slice_get IN_ORDER) place ∙ code-row c,
)

-- a text that stands in no row is no code's
pub no_code-at : (text : List ℕ) → ((i : ℕ) → (None ≡ Some i) ↔ (slice_get code_names i ≡ Some text)) → (c : Code) → (None ≡ Some c) ↔ (code_text c ≡ text)
no_code-at text found c = (
  λ none. absurd (cc),
  λ its. let none = (found (code_row c)).1 (text-row c ∙ ap Some its) in absurd (cc),
)
