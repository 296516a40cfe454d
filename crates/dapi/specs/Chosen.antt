-- What the code has of the options. Only the crate's private clauses cite it.
use Rattle.std.specs.Prelude.{◌≡◌, ℕ, ◌<◌, List, [], ◌∷◌, ◌++◌, length, Option, Some, None, map, IsTrue}
use Rattle.doc_paths.specs.Name.{is_collection_name}
use Rattle.dapi.specs.Words.{Choice, of_keyspace, of_collection, word_of, AreChoices, keyspaces_in, collections_in}
use Rattle.dapi.specs.declared.words.Chosen.{Chosen}
use Rattle.dapi.specs.declared.words.Chosen.TheVariants.{Keyspace, Collection}
use Rattle.dapi.specs.declared.words.Choices.{Choices}

abbrev pub choice_of : Chosen → Choice
choice_of (Keyspace name) = of_keyspace name.now
choice_of (Collection name) = of_collection name.now

abbrev pub kept_keyspace : Option (List ℕ) → List (List ℕ)
kept_keyspace None = []
kept_keyspace (Some name) = name ∷ []

-- these words are options, and these are what they choose
pub record HasChosen (words : List (List ℕ)) (kept : Choices) : Type 0 where
  pub choices : List Choice
  pub words_are : words ≡ map word_of choices
  pub allowed : AreChoices choices
  pub keyspaces : keyspaces_in choices ≡ kept_keyspace kept.keyspace
  pub collections : collections_in choices ≡ kept.collections.items

-- the options so far allow one more
abbrev pub Allows : Choice → Choices → Type 0
Allows (of_keyspace name) kept = IsTrue (is_collection_name name) × (kept.keyspace ≡ None)
Allows (of_collection name) kept = IsTrue (is_collection_name name) × (length kept.collections.items < 100)

-- and are kept with it
abbrev pub Adds : Choice → Choices → Choices → Type 0
Adds (of_keyspace name) old new = (new.keyspace ≡ Some name) × (new.collections.items ≡ old.collections.items)
Adds (of_collection name) old new = (new.keyspace ≡ old.keyspace) × (new.collections.items ≡ old.collections.items ++ name ∷ [])

-- the word is an option that they allow, and they are kept with it
abbrev pub Chooses : List ℕ → Choices → Choices → Type 0
Chooses word old new = (choice : Choice) × (word ≡ word_of choice) × Allows choice old × Adds choice old new

-- it is none that they allow
abbrev pub IsNoChoice : List ℕ → Choices → Type 0
IsNoChoice word kept = (choice : Choice) → word ≡ word_of choice → Allows choice kept → ⊥
