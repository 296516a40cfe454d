-- The table of the commands: which members each may have, and which it has to have.
use Rattle.std.specs.Prelude.{ℕ, Bool, true, false, not, ◌&&◌, ◌||◌, ◌==◌, List, [], ◌∷◌, length, Option, Some, None, codes, is_some, map}
use Rattle.std.specs.Str.{bytes_eq}
use Rattle.std.specs.List.{list_all, list_any}
use Rattle.std.specs.Option.{option_map}
use Rattle.json_tree.specs.Tree.{Tree, null, text, list, list_of_elements}
use Rattle.update_ops.specs.Faults.{is_object}
use Rattle.cmd_grammar.specs.Parts.{whole_in, boolean_in, text_in, is_text}
use Rattle.cmd_grammar.specs.declared.name.Name.{Name}
use Rattle.cmd_grammar.specs.declared.name.Name.TheVariants.{InsertOne, InsertMany, FindOne, Find, CountDocuments, UpdateOne, UpdateMany, DeleteOne, DeleteMany, FindOneAndUpdate, FindOneAndReplace, FindOneAndDelete, CreateCollection, FindCollections, DeleteCollection}
use Rattle.cmd_grammar.specs.declared.kind.Kind.{Kind}
use Rattle.cmd_grammar.specs.declared.kind.Kind.TheVariants as kinds
use Rattle.cmd_grammar.specs.declared.row.Field as declared_field
use Rattle.cmd_grammar.specs.declared.row.Row as declared_row

-- a member that a command may have, the kind of its value, and whether it has to be there
pub record Field : Type 0 where
  pub name : List ℕ
  pub kind : Kind
  pub required : Bool

-- a command's members, and its options, where it has any
pub record Row : Type 0 where
  pub members : List Field
  pub options : Option (List Field)

abbrev pub field_of : declared_field.Field → Field
field_of f = record { name = f.name.now; kind = f.kind; required = f.required }

abbrev pub row_of : declared_row.Row → Row
row_of r = record { members = map field_of r.members.now; options = option_map (λ o. map field_of o.now) r.options }

-- ---- members

abbrev pub document : Field
document = record { name = codes "document"; kind = kinds.Object; required = true }

abbrev pub documents : Field
documents = record { name = codes "documents"; kind = kinds.Objects; required = true }

abbrev pub filter : Field
filter = record { name = codes "filter"; kind = kinds.Object; required = false }

abbrev pub update : Field
update = record { name = codes "update"; kind = kinds.Object; required = true }

abbrev pub replacement : Field
replacement = record { name = codes "replacement"; kind = kinds.Object; required = true }

abbrev pub sort : Field
sort = record { name = codes "sort"; kind = kinds.Object; required = false }

abbrev pub projection : Field
projection = record { name = codes "projection"; kind = kinds.Object; required = false }

abbrev pub collection_name : Field
collection_name = record { name = codes "name"; kind = kinds.Text; required = true }

-- ---- options

abbrev pub ordered : Field
ordered = record { name = codes "ordered"; kind = kinds.Boolean; required = false }

abbrev pub limit : Field
limit = record { name = codes "limit"; kind = kinds.Whole; required = false }

abbrev pub skip : Field
skip = record { name = codes "skip"; kind = kinds.Whole; required = false }

abbrev pub page_state : Field
page_state = record { name = codes "pageState"; kind = kinds.TextOrNull; required = false }

abbrev pub upsert : Field
upsert = record { name = codes "upsert"; kind = kinds.Boolean; required = false }

abbrev pub return_document : Field
return_document = record { name = codes "returnDocument"; kind = kinds.BeforeOrAfter; required = false }

-- one row for each command
abbrev pub row : Name → Row
row InsertOne = record { members = document ∷ []; options = None }
row InsertMany = record { members = documents ∷ []; options = Some (ordered ∷ []) }
row FindOne = record { members = filter ∷ sort ∷ projection ∷ []; options = None }
row Find = record { members = filter ∷ sort ∷ projection ∷ []; options = Some (limit ∷ skip ∷ page_state ∷ []) }
row CountDocuments = record { members = filter ∷ []; options = None }
row UpdateOne = record { members = filter ∷ update ∷ sort ∷ []; options = Some (upsert ∷ []) }
row UpdateMany = record { members = filter ∷ update ∷ []; options = Some (upsert ∷ page_state ∷ []) }
row DeleteOne = record { members = filter ∷ sort ∷ []; options = None }
row DeleteMany = record { members = filter ∷ []; options = None }
row FindOneAndUpdate = record { members = filter ∷ update ∷ sort ∷ projection ∷ []; options = Some (upsert ∷ return_document ∷ []) }
row FindOneAndReplace = record { members = filter ∷ replacement ∷ sort ∷ projection ∷ []; options = Some (upsert ∷ return_document ∷ []) }
row FindOneAndDelete = record { members = filter ∷ sort ∷ projection ∷ []; options = None }
row CreateCollection = record { members = collection_name ∷ []; options = None }
row FindCollections = record { members = []; options = None }
row DeleteCollection = record { members = collection_name ∷ []; options = None }

-- ---- kinds

-- a list of one or more objects
abbrev pub are_objects : Tree → Bool
are_objects (list ts) = not (length (list_of_elements ts) == 0) && list_all is_object (list_of_elements ts)
are_objects t = false

abbrev pub is_text_or_null : Tree → Bool
is_text_or_null null = true
is_text_or_null (text s) = true
is_text_or_null t = false

abbrev pub has_kind : Kind → Tree → Bool
has_kind kinds.Object t = is_object t
has_kind kinds.Objects t = are_objects t
has_kind kinds.Boolean t = is_some (boolean_in t)
has_kind kinds.Whole t = is_some (whole_in t)
has_kind kinds.Text t = is_some (text_in t)
has_kind kinds.TextOrNull t = is_text_or_null t
has_kind kinds.BeforeOrAfter t = is_text (codes "before") t || is_text (codes "after") t

-- a member of this name and value is one of these fields
abbrev pub fits : List Field → List ℕ → Tree → Bool
fits fields name t = list_any (λ f. bytes_eq f.name name && has_kind f.kind t) fields
