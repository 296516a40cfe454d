-- What may be wrong with a document that is to be inserted, or with one that is to replace another.
use Rattle.std.specs.Prelude.{ℕ, List, [], ◌∷◌, Option, Some, None}
use Rattle.std.specs.Option.{option_map}
use Rattle.json_tree.specs.Tree.{Tree, text, list, object}
use Rattle.json_tree.specs.Doc.{id_in}
use Rattle.doc_limits.specs.Names.{first_bad_name}
use Rattle.doc_limits.specs.Limits.{broken}
use Rattle.doc_limits.specs.declared.limits.Broken.{Broken}
use Rattle.reply_env.specs.Messages.{bad_id_kind, empty_id, bad_member_name, broken_limit}
use Rattle.reply_env.specs.declared.reply.ErrorItem.{ErrorItem}
use Rattle.cmd_grammar.specs.First.{first_of}
use Rattle.cmd_grammar.specs.Commands.{stand_in, under}

-- `_id` is a list or an object
abbrev pub id_kind_refusal : Option Tree → Option ErrorItem
id_kind_refusal (Some (list ts)) = Some bad_id_kind
id_kind_refusal (Some (object ms)) = Some bad_id_kind
id_kind_refusal id = None

-- `_id` is the empty text
abbrev pub empty_id_refusal : Option Tree → Option ErrorItem
empty_id_refusal (Some (text [])) = Some empty_id
empty_id_refusal id = None

-- a member's name at any depth has a byte outside the alphabet
abbrev pub name_refusal : Option (List ℕ) → Option ErrorItem
name_refusal bad = option_map bad_member_name bad

-- a limit is broken
abbrev pub limit_refusal : Option Broken → Option ErrorItem
limit_refusal broken = option_map (λ b. broken_limit b.limit b.bound b.found) broken

-- its `_id`, if it has one, is no id, or a name isn't allowed
abbrev pub replacing_refusal : Tree → Option ErrorItem
replacing_refusal t = first_of (id_kind_refusal (id_in t) ∷ empty_id_refusal (id_in t) ∷ name_refusal (first_bad_name t) ∷ [])

-- the same, or it breaks a limit, under the id that stands for its own if it has none
abbrev pub document_refusal : Tree → Option ErrorItem
document_refusal t = first_of (replacing_refusal t ∷ limit_refusal (broken (under stand_in t)) ∷ [])
