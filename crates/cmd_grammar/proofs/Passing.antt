-- What is left where no test has fired.
use Rattle.std.proofs.Common.{◌≡◌, ◌≤◌, ℕ, Bool, true, false, List, [], ◌∷◌, length, Option, Some, None, refl, sym, ◌∙◌, codes, if◌then◌else◌, arith}
use Rattle.std.specs.Prelude.{nat_le}
use Rattle.std.specs.Option.{option_or}
use Rattle.json_tree.specs.Tree.{Tree}
use Rattle.reply_env.specs.Messages.{command_limit}
use Rattle.reply_env.specs.declared.reply.ErrorItem.{ErrorItem}
use Rattle.reply_env.specs.declared.request.Place.{Place}
use Rattle.cmd_grammar.specs.First.{first_of}
use Rattle.cmd_grammar.specs.Parts.{sort_of, skip_of, documents_of}
use Rattle.cmd_grammar.specs.Fields.{paging_refusal, at_most, limits_refusal}
use Rattle.cmd_grammar.specs.Refused.{command_at, collection_named, refused, keyspace_refusal, collection_refusal, fields_refusal, filter_refusal, update_refusal, projection_refusal, sort_refusal, inserted_refusal, many_inserted_refusal, replacement_refusal, contents_refusal, parts_refusal, command_refusal}
use Rattle.cmd_grammar.specs.Judged.{place_refusal}
use Rattle.cmd_grammar.specs.declared.name.Name.{Name}
use Rattle.cmd_grammar.proofs.Judging.{is_named}
use Rattle.cmd_grammar.proofs.Order.{neither_fires}

-- ---- no test has fired

pub record Passed (keyspace : List ℕ) (place : Place) (name : Name) (t : Tree) : Type 0 where
  pub own_keyspace : keyspace_refusal keyspace place.keyspace ≡ None
  pub right_name : collection_refusal (collection_named place.collection (name, t)) ≡ None
  pub fields : fields_refusal (name, t) ≡ None
  pub limits : limits_refusal t ≡ None
  pub contents : contents_refusal t ≡ None

last : {E : Type 0} (a : Option E) → option_or a None ≡ None → a ≡ None
last a e = (neither_fires a None e).0

pub contents_pass : (t : Tree) → parts_refusal t ≡ None → contents_refusal t ≡ None
contents_pass t h =
    let a = neither_fires (filter_refusal t) (first_of (update_refusal t ∷ projection_refusal t ∷ sort_refusal t ∷ contents_refusal t ∷ [])) h in
    let b = neither_fires (update_refusal t) (first_of (projection_refusal t ∷ sort_refusal t ∷ contents_refusal t ∷ [])) a.1 in
    let c = neither_fires (projection_refusal t) (first_of (sort_refusal t ∷ contents_refusal t ∷ [])) b.1 in
    let d = neither_fires (sort_refusal t) (first_of (contents_refusal t ∷ [])) c.1 in
    last (contents_refusal t) d.1

pub passed : (keyspace : List ℕ) (place : Place) (t inner : Tree) (name : Name) → command_at place.collection t ≡ Some (name, inner) → refused keyspace place t ≡ None → Passed keyspace place name inner
passed keyspace place t inner name e h =
    let a = neither_fires (place_refusal keyspace place (name, inner)) (command_refusal (name, inner)) (is_named keyspace place t (name, inner) (sym e) ∙ h) in
    let p = neither_fires (keyspace_refusal keyspace place.keyspace) (first_of (collection_refusal (collection_named place.collection (name, inner)) ∷ [])) a.0 in
    let b = neither_fires (fields_refusal (name, inner)) (first_of (paging_refusal inner ∷ limits_refusal inner ∷ parts_refusal inner ∷ [])) a.1 in
    let c = neither_fires (paging_refusal inner) (first_of (limits_refusal inner ∷ parts_refusal inner ∷ [])) b.1 in
    let d = neither_fires (limits_refusal inner) (first_of (parts_refusal inner ∷ [])) c.1 in
    record {
      own_keyspace = p.0;
      right_name = last (collection_refusal (collection_named place.collection (name, inner))) p.1;
      fields = b.0;
      limits = d.0;
      contents = contents_pass inner (last (parts_refusal inner) d.1);
    }

-- ---- what the limits leave

few : (field : List ℕ) (bound found : ℕ) → at_most field bound found ≡ None → found ≤ bound
few field bound found h = go (nat_le found bound) refl h
  where
    go : (b : Bool) → nat_le found bound ≡ b → (if b then None else Some (command_limit field bound found)) ≡ None → found ≤ bound
    go true e h = grind (arith, e)
    go false e h = absurd (Prim.cc h)

pub record Few (t : Tree) : Type 0 where
  pub documents : length (documents_of t) ≤ 100
  pub skip : skip_of t ≤ 480

pub limited : (t : Tree) → limits_refusal t ≡ None → Few t
limited t h =
    let D : Option ErrorItem = at_most (codes "documents") 100 (length (documents_of t)) in
    let S : Option ErrorItem = at_most (codes "skip") 480 (skip_of t) in
    let P : Option ErrorItem = at_most (codes "sort") 8 (length (sort_of t)) in
    let a = neither_fires D (first_of (S ∷ P ∷ [])) h in
    let b = neither_fires S (first_of (P ∷ [])) a.1 in
    record { documents = few (codes "documents") 100 (length (documents_of t)) a.0; skip = few (codes "skip") 480 (skip_of t) b.0 }

-- ---- what the tests of the content leave

pub record Untouched (t : Tree) : Type 0 where
  pub inserted : inserted_refusal t ≡ None
  pub many : many_inserted_refusal t ≡ None
  pub replacement : replacement_refusal t ≡ None

pub untouched : (t : Tree) → contents_refusal t ≡ None → Untouched t
untouched t h =
    let a = neither_fires (inserted_refusal t) (first_of (many_inserted_refusal t ∷ replacement_refusal t ∷ [])) h in
    let b = neither_fires (many_inserted_refusal t) (first_of (replacement_refusal t ∷ [])) a.1 in
    record { inserted = a.0; many = b.0; replacement = last (replacement_refusal t) b.1 }
