-- New documents: replacements, and what is inserted where nothing matches.
use Rattle.std.specs.Prelude.{◌≡◌, ℕ, ℤ, true, false, codes, List, [], ◌∷◌, Option, Some, None, Result, Ok, Err, if◌then◌else◌, unwrap_or}
use Rattle.std.specs.Str.{bytes_eq}
use Rattle.json_tree.specs.Tree.{Tree, null, object, no_members, member}
use Rattle.json_tree.specs.Doc.{id_in, id_fault_in, has_dollar_name}
use Rattle.json_tree.specs.Id.{id_fault}
use Rattle.json_tree.specs.Same.{same}
use Rattle.update_ops.specs.Clauses.{Clause}
use Rattle.update_ops.specs.declared.fault.UpdateFault.{UpdateFault}
use Rattle.update_ops.specs.declared.fault.UpdateFault.TheVariants.{WrongTarget, TouchesId}
use Rattle.update_ops.specs.Forms.{is_storable}
use Rattle.update_ops.specs.Faults.{is_object, of_id}
use Rattle.update_ops.specs.Apply.{put_at, onward, applied, within_limits}

abbrev pub with_id : Tree → Tree → Tree
with_id id (object ms) = object (member (codes "_id") id ms)
with_id id t = t

-- the id that a replacement has, or else this one in front; another id is refused
abbrev pub under_id : Tree → Tree → Option Tree → Result Tree UpdateFault
under_id id r None = within_limits (with_id id r)
under_id id r (Some own) = if same own id then within_limits r else Err TouchesId

abbrev pub or_null : Option Tree → Tree
or_null None = null
or_null (Some t) = t

-- the replacement of a document
abbrev pub replaced : Tree → Tree → Result Tree UpdateFault
replaced r d = under_id (or_null (id_in d)) r (id_in r)

-- ---- upserts: a filter counts by the equalities that it asks for, each a path and the operand of a `$eq` that has to
-- hold whenever the filter does, in written order

-- the first operand on `_id`
abbrev pub id_operand : List (List ℕ × Tree) → Option Tree
id_operand [] = None
id_operand (p ∷ ps) = if bytes_eq p.0 (codes "_id") then Some p.1 else id_operand ps

abbrev pub if_right : {F : Type 0} → Option F → Tree → Option Tree
if_right None x = Some x
if_right (Some f) x = None

abbrev pub if_id : Option Tree → Option Tree
if_id None = None
if_id (Some x) = if_right (id_fault x) x

-- the id that the filter gives, where that operand is one
abbrev pub filter_id : List (List ℕ × Tree) → Option Tree
filter_id equalities = if_id (id_operand equalities)

-- an operand put at its path, one on `_id` or below it aside
abbrev pub put_equality : List ℕ × Tree → Tree → Result Tree UpdateFault
put_equality p d = if of_id p.0 then Ok d else if is_storable p.1 then put_at p.0 p.1 d else Err (WrongTarget p.0)

-- the other operands put, in order
abbrev pub put_equalities : List (List ℕ × Tree) → Tree → Result Tree UpdateFault
put_equalities [] d = Ok d
put_equalities (p ∷ ps) d = onward (put_equality p d) (put_equalities ps)

-- the new document of an update that inserts
abbrev pub upsert : List (List ℕ × Tree) → List Clause → ℤ → Tree → Result Tree UpdateFault
upsert equalities cs moment generated =
    onward (put_equalities equalities (object (member (codes "_id") (unwrap_or (filter_id equalities) generated) no_members)))
    (λ d. onward (applied moment true cs d) within_limits)

-- what may replace a document
pub record IsReplacement (t : Tree) : Type 0 where
  pub object : is_object t ≡ true
  pub names : has_dollar_name t ≡ false
  pub id : id_fault_in t ≡ None

-- an object under its own id, which is refused where the filter gives another
abbrev pub under_given : Tree → Tree → Option Tree → Result Tree UpdateFault
under_given own r None = within_limits r
under_given own r (Some given) = if same own given then within_limits r else Err TouchesId

-- its own id counts first, then the one that the filter gives, then the generated one
abbrev pub own_id : Option Tree → Option Tree → Tree → Tree → Result Tree UpdateFault
own_id None given generated r = within_limits (with_id (unwrap_or given generated) r)
own_id (Some own) given generated r = under_given own r given

-- the new document of a replacement that inserts
abbrev pub upsert_replacement : List (List ℕ × Tree) → Tree → Tree → Result Tree UpdateFault
upsert_replacement equalities r generated = own_id (id_in r) (filter_id equalities) generated r
