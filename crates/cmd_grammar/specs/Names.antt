-- The names of the commands.
use Rattle.std.specs.Prelude.{ℕ, Bool, true, false, List, [], ◌∷◌, Option, Some, None, codes, if◌then◌else◌}
use Rattle.std.specs.Str.{bytes_eq}
use Rattle.cmd_grammar.specs.declared.name.Name.{Name}
use Rattle.cmd_grammar.specs.declared.name.Name.TheVariants.{InsertOne, InsertMany, FindOne, Find, CountDocuments, UpdateOne, UpdateMany, DeleteOne, DeleteMany, FindOneAndUpdate, FindOneAndReplace, FindOneAndDelete, CreateCollection, FindCollections, DeleteCollection}

abbrev pub command_text : Name → List ℕ
command_text InsertOne = codes "insertOne"
command_text InsertMany = codes "insertMany"
command_text FindOne = codes "findOne"
command_text Find = codes "find"
command_text CountDocuments = codes "countDocuments"
command_text UpdateOne = codes "updateOne"
command_text UpdateMany = codes "updateMany"
command_text DeleteOne = codes "deleteOne"
command_text DeleteMany = codes "deleteMany"
command_text FindOneAndUpdate = codes "findOneAndUpdate"
command_text FindOneAndReplace = codes "findOneAndReplace"
command_text FindOneAndDelete = codes "findOneAndDelete"
command_text CreateCollection = codes "createCollection"
command_text FindCollections = codes "findCollections"
command_text DeleteCollection = codes "deleteCollection"

abbrev pub named_among : List Name → List ℕ → Option Name
named_among [] text = None
named_among (name ∷ names) text = if bytes_eq (command_text name) text then Some name else named_among names text

-- the commands on the documents of a collection, then those on collections
abbrev pub commands : List Name
commands =
    InsertOne
    ∷ InsertMany
    ∷ FindOne
    ∷ Find
    ∷ CountDocuments
    ∷ UpdateOne
    ∷ UpdateMany
    ∷ DeleteOne
    ∷ DeleteMany
    ∷ FindOneAndUpdate
    ∷ FindOneAndReplace
    ∷ FindOneAndDelete
    ∷ CreateCollection
    ∷ FindCollections
    ∷ DeleteCollection
    ∷ []

-- the command of this name
abbrev pub command_named : List ℕ → Option Name
command_named text = named_among commands text

abbrev pub is_on_documents : Name → Bool
is_on_documents CreateCollection = false
is_on_documents FindCollections = false
is_on_documents DeleteCollection = false
is_on_documents name = true
