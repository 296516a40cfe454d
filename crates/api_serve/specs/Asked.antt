-- What the code reads of a line. Only the crate's private clauses cite it.
use Rattle.std.specs.Prelude.{◌≡◌, ℕ, List, ◌++◌, Option, IsTrue, option_map}
use Rattle.api_serve.specs.Request.{Parts, collection_path, is_part, is_collection_part}
use Rattle.api_serve.specs.declared.request.Asked.{Asked}

-- its parts, as the definitions see them
abbrev pub parts_in : Asked → Parts
parts_in asked = record { keyspace = asked.keyspace.now; collection = option_map (λ c. c.now) asked.collection; body = asked.body.now }

-- the path behind `/v1/` has these parts
pub record IsPlace (path keyspace : List ℕ) (collection : Option (List ℕ)) : Type 0 where
  pub text : path ≡ keyspace ++ collection_path collection
  pub first : IsTrue (is_part keyspace)
  pub second : IsTrue (is_collection_part collection)
