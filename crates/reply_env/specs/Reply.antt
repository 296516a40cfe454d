-- The text of a reply.
use Rattle.std.specs.Prelude.{◌≡◌, ◌≢◌, ℕ, Bool, true, false, List, [], ◌∷◌, ◌++◌, Option, Some, None, codes, decimal}
use Rattle.std.specs.List.{flat_map}
use Rattle.json_tree.specs.Tree.{Tree}
use Rattle.json_tree.specs.View.{tree}
use Rattle.json_tree.specs.declared.value.Value.{Value}
use Rattle.json_text.specs.Print.{text_of, string_text}
use Rattle.name_tables.specs.Code.{code_text}
use Rattle.reply_env.specs.Messages.{out_of_memory}
use Rattle.reply_env.specs.declared.reply.ErrorItem.{ErrorItem}
use Rattle.reply_env.specs.declared.reply.SoFar.{SoFar}
use Rattle.reply_env.specs.declared.reply.SoFar.TheVariants as so_far
use Rattle.reply_env.specs.declared.reply.Reply.{Reply}
use Rattle.reply_env.specs.declared.reply.Reply.TheVariants.{Inserted, Found, Listed, Counted, Updated, UpdatedMany, Deleted, DeletedMany, FoundAndChanged, FoundAndDeleted, Done, Names, Refused, NoMemory}

-- the texts of the parts, with commas between
abbrev pub with_commas : {X : Type 0} → (X → List ℕ) → List X → List ℕ
with_commas part [] = []
with_commas part (x ∷ xs) = part x ++ flat_map (λ y. 44 ∷ part y) xs

-- a document that was looked for, as it is shown
abbrev pub view_text : Option Value → List ℕ
view_text None = codes "null"
view_text (Some view) = text_of (tree view)

-- where the next page begins, if there is one
abbrev pub state_text : Option (List ℕ) → List ℕ
state_text None = codes "null"
state_text (Some state) = string_text state

-- documents that were looked for, as they are shown, in their order
abbrev pub listed_text : List Value → Option (List ℕ) → List ℕ
listed_text views state = codes "{\"documents\":[" ++ with_commas (λ view. text_of (tree view)) views ++ codes "],\"nextPageState\":" ++ state_text state ++ codes "}"

-- stands only where more matched than were counted
abbrev pub more_text : Bool → List ℕ
more_text true = codes ",\"moreData\":true"
more_text false = []

-- the ids of inserted documents, in the order of insertion
abbrev pub inserted_text : List Tree → List ℕ
inserted_text ids = codes "{\"insertedIds\":[" ++ with_commas text_of ids ++ codes "]}"

-- stands only where more matched than are counted: the page state with which the next page begins
abbrev pub next_text : Option (List ℕ) → List ℕ
next_text None = []
next_text (Some state) = codes ",\"moreData\":true,\"nextPageState\":" ++ string_text state

-- stands only where none matched and a document was inserted: its id
abbrev pub upserted_text : Option Tree → List ℕ
upserted_text None = []
upserted_text (Some id) = codes ",\"upsertedId\":" ++ text_of id

-- how many documents matched, how many of them were changed, what was inserted, and where the next page begins
abbrev pub updated_text : ℕ → ℕ → Option Tree → Option (List ℕ) → List ℕ
updated_text matched modified upserted state =
    codes "{\"matchedCount\":" ++ decimal matched ++ codes ",\"modifiedCount\":" ++ decimal modified ++ upserted_text upserted ++ next_text state ++ codes "}"

-- how many documents were deleted, and whether more matched
abbrev pub deleted_text : ℕ → Bool → List ℕ
deleted_text deleted more = codes "{\"deletedCount\":" ++ decimal deleted ++ more_text more ++ codes "}"

-- ---- errors

abbrev pub error_text : ErrorItem → List ℕ
error_text error = codes "{\"message\":" ++ string_text error.message ++ codes ",\"errorCode\":" ++ string_text (code_text error.code) ++ codes "}"

abbrev pub errors_text : List ErrorItem → List ℕ
errors_text errors = codes "\"errors\":[" ++ with_commas error_text errors ++ codes "]}"

-- what the accepted writes of a refused request did: it stands before the errors
abbrev pub so_far_text : SoFar → List ℕ
so_far_text (so_far.Inserted ids) = inserted_text ids.items
so_far_text (so_far.Updated matched modified) = updated_text matched modified None None
so_far_text (so_far.Deleted deleted) = deleted_text deleted false

abbrev pub status_text : Option SoFar → List ℕ
status_text None = codes "{"
status_text (Some done) = codes "{\"status\":" ++ so_far_text done ++ codes ","

-- ---- replies

abbrev pub reply_text : Reply → List ℕ
reply_text (Inserted ids) = codes "{\"status\":" ++ inserted_text ids.items ++ codes "}"
reply_text (Found view) = codes "{\"data\":{\"document\":" ++ view_text view ++ codes "}}"
reply_text (Listed views state) = codes "{\"data\":" ++ listed_text views.items state ++ codes "}"
reply_text (Counted count more) = codes "{\"status\":{\"count\":" ++ decimal count ++ more_text more ++ codes "}}"
reply_text (Updated matched modified upserted) = codes "{\"status\":" ++ updated_text matched modified upserted None ++ codes "}"
reply_text (UpdatedMany matched modified upserted state) = codes "{\"status\":" ++ updated_text matched modified upserted state ++ codes "}"
reply_text (Deleted deleted) = codes "{\"status\":" ++ deleted_text deleted false ++ codes "}"
reply_text (DeletedMany deleted more) = codes "{\"status\":" ++ deleted_text deleted more ++ codes "}"
reply_text (FoundAndChanged view matched modified upserted) =
    codes "{\"data\":{\"document\":" ++ view_text view ++ codes "},\"status\":" ++ updated_text matched modified upserted None ++ codes "}"
reply_text (FoundAndDeleted view deleted) = codes "{\"data\":{\"document\":" ++ view_text view ++ codes "},\"status\":" ++ deleted_text deleted false ++ codes "}"
reply_text Done = codes "{\"status\":{\"ok\":1}}"
reply_text (Names names) = codes "{\"status\":{\"collections\":[" ++ with_commas string_text names.items ++ codes "]}}"
reply_text (Refused errors done) = status_text done ++ errors_text errors.items
reply_text (NoMemory accepted) = codes "{" ++ errors_text (out_of_memory accepted ∷ [])

-- tells that these documents were inserted, in this order: nothing where there are none, else their ids
abbrev pub TellsInserted : List Tree → Option SoFar → Type 0
TellsInserted ids None = ids ≡ []
TellsInserted ids (Some (so_far.Inserted told)) = (told.items ≡ ids) × (ids ≢ [])
TellsInserted ids (Some done) = ⊥

-- the reply refuses by exactly these errors, in this order, and what it tells of what was written before is so
abbrev pub IsRefusalOf : List ErrorItem → (Option SoFar → Type 0) → Reply → Type 0
IsRefusalOf errors Tells (Refused listed done) = (listed.items ≡ errors) × Tells done
IsRefusalOf errors Tells reply = ⊥

-- the reply refuses by this error alone, and tells this of what was written before
abbrev pub IsRefusalAfter : Option SoFar → ErrorItem → Reply → Type 0
IsRefusalAfter so_far error reply = IsRefusalOf (error ∷ []) (λ done. done ≡ so_far) reply

-- the reply refuses by this error alone, and nothing was written before
abbrev pub IsRefusal : ErrorItem → Reply → Type 0
IsRefusal error reply = IsRefusalAfter None error reply
