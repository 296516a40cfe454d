-- The table of the names.
use Rattle.std.proofs.Common.{◌≡◌, ◌↔◌, ℕ, Bool, true, false, List, [], ◌∷◌, map, Option, Some, None, slice_get, refl, sym, ◌∙◌, ap, subst, if◌then◌else◌}
use Rattle.std.specs.Str.{bytes_eq}
use Rattle.std.specs.Option.{option_map}
use Rattle.std.proofs.lemmas.Option.{slice_get-map}
use Rattle.std.proofs.lemmas.Slice.Eq.{bytes_eq-Decides}
use Rattle.name_tables.specs.Tables.{command_names}
use Rattle.cmd_grammar.specs.declared.name.Name.{Name}
use Rattle.cmd_grammar.specs.declared.name.Name.TheVariants.{InsertOne, InsertMany, FindOne, Find, CountDocuments, UpdateOne, UpdateMany, DeleteOne, DeleteMany, FindOneAndUpdate, FindOneAndReplace, FindOneAndDelete, CreateCollection, FindCollections, DeleteCollection}
use Rattle.cmd_grammar.specs.declared.name.TheConstants.{IN_ORDER}
use Rattle.cmd_grammar.specs.Names.{command_text, command_named, named_among, commands}

rows-in_order : map command_named command_names ≡ map (λ (name : Name). Some name) IN_ORDER
rows-in_order = refl

pub command-at : (row : ℕ) (name : List ℕ) (at : Name) → slice_get IN_ORDER row ≡ Some at → ((i : ℕ) → (Some row ≡ Some i) ↔ (slice_get command_names i ≡ Some name)) → Some at ≡ command_named name
command-at row name at here found =
    let its : slice_get command_names row ≡ Some name = (found row).0 refl in
    let a : slice_get (map command_named command_names) row ≡ Some (command_named name) = slice_get-map command_named command_names row ∙ ap (option_map command_named) its in
    let b : slice_get (map (λ (n : Name). Some n) IN_ORDER) row ≡ Some (Some at) = slice_get-map (λ (n : Name). Some n) IN_ORDER row ∙ ap (option_map (λ (n : Name). Some n)) here in
    let e : Some (Some at) ≡ Some (command_named name) = sym b ∙ ap (λ (l : List (Option Name)). slice_get l row) (sym rows-in_order) ∙ a in
    cc

neither : (b : Bool) (x : Name) (o : Option Name) → (b ≡ true → ⊥) → (b ≡ false → o ≡ None) → (if b then Some x else o) ≡ None
neither true x o p q = absurd (p refl)
neither false x o p q = q refl

-- the rows in which the commands stand
row_of : Name → ℕ
row_of InsertOne = 0
row_of InsertMany = 1
row_of FindOne = 2
row_of Find = 3
row_of CountDocuments = 4
row_of UpdateOne = 5
row_of UpdateMany = 6
row_of DeleteOne = 7
row_of DeleteMany = 8
row_of FindOneAndUpdate = 9
row_of FindOneAndReplace = 10
row_of FindOneAndDelete = 11
row_of CreateCollection = 12
row_of FindCollections = 13
row_of DeleteCollection = 14

names-at : (name : Name) → slice_get command_names (row_of name) ≡ Some (command_text name)
unfolding row_of
names-at InsertOne = refl
names-at InsertMany = refl
names-at FindOne = refl
names-at Find = refl
names-at CountDocuments = refl
names-at UpdateOne = refl
names-at UpdateMany = refl
names-at DeleteOne = refl
names-at DeleteMany = refl
names-at FindOneAndUpdate = refl
names-at FindOneAndReplace = refl
names-at FindOneAndDelete = refl
names-at CreateCollection = refl
names-at FindCollections = refl
names-at DeleteCollection = refl

named_none : (names : List Name) (text : List ℕ) → ((i : ℕ) → slice_get command_names i ≡ Some text → ⊥) → named_among names text ≡ None
named_none [] text h = refl
named_none (name ∷ names) text h =
    neither (bytes_eq (command_text name) text) name (named_among names text) (λ e. h (row_of name) (names-at name ∙ ap Some ((bytes_eq-Decides (command_text name) text).0 e))) (λ e. named_none names text h)

pub no_command-at : (name : List ℕ) → ((i : ℕ) → (None ≡ Some i) ↔ (slice_get command_names i ≡ Some name)) → None ≡ command_named name
no_command-at name found = sym (named_none commands name (λ i q. let none = (found i).1 q in Prim.cc none))

-- a text of which a command has the name is the command's
either : (b : Bool) (x name : Name) (o : Option Name) (P : Name → Type 0) → (b ≡ true → P x) → (o ≡ Some name → P name) → (if b then Some x else o) ≡ Some name → P name
either true x name o P p q e = let same : x ≡ name = Prim.cc e in subst P same (p refl)
either false x name o P p q e = q e

pub named_text : (names : List Name) (text : List ℕ) (name : Name) → named_among names text ≡ Some name → command_text name ≡ text
named_text [] text name e = absurd (Prim.cc e)
named_text (n ∷ names) text name e =
    either (bytes_eq (command_text n) text) n name (named_among names text) (λ m. command_text m ≡ text) (λ t. (bytes_eq-Decides (command_text n) text).0 t) (λ q. named_text names text name q) e
