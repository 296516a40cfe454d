-- Documents: objects with an id, in which no member name begins with '$'.
use Rattle.std.specs.Prelude.{◌≡◌, ℕ, Bool, false, ◌||◌, ◌==◌, List, [], ◌∷◌, Option, None, MatchOption, option_and_then, codes}
use Rattle.json_tree.specs.Tree.{Tree, null, boolean, number, text, date, list, object, Elements, no_elements, element, Members, no_members, member, list_of_members}
use Rattle.json_tree.specs.Members.{member_at}
use Rattle.json_tree.specs.Id.{IsId, id_fault}
use Rattle.json_tree.specs.declared.fault.TreeFault.{TreeFault}

-- a name that begins with '$'
abbrev pub is_dollar : List ℕ → Bool
is_dollar [] = false
is_dollar (x ∷ name) = x == 36

-- a member name at any depth begins with '$'
abbrev mutual
  pub has_dollar_name : Tree → Bool
  has_dollar_name null = false
  has_dollar_name (boolean b) = false
  has_dollar_name (number n) = false
  has_dollar_name (text t) = false
  has_dollar_name (date d) = false
  has_dollar_name (list ts) = elements_dollar_name ts
  has_dollar_name (object ps) = members_dollar_name ps

  pub elements_dollar_name : Elements → Bool
  elements_dollar_name no_elements = false
  elements_dollar_name (element t ts) = has_dollar_name t || elements_dollar_name ts

  pub members_dollar_name : Members → Bool
  members_dollar_name no_members = false
  members_dollar_name (member name t ps) = is_dollar name || has_dollar_name t || members_dollar_name ps

-- the member `_id` of an object
abbrev pub id_in : Tree → Option Tree
id_in (object ps) = member_at (codes "_id") (list_of_members ps)
id_in null = None
id_in (boolean b) = None
id_in (number n) = None
id_in (text t) = None
id_in (date d) = None
id_in (list ts) = None

-- why the member `_id` is no id
abbrev pub id_fault_in : Tree → Option TreeFault
id_fault_in t = option_and_then id_fault (id_in t)

pub record IsDocument (t : Tree) : Type 0 where
  pub id : MatchOption (id_in t) ⊥ IsId
  pub names : has_dollar_name t ≡ false
