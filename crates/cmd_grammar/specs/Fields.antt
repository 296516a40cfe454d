-- What may be wrong with the members of a command, and with their numbers.
use Rattle.std.specs.Prelude.{ℕ, ◌==◌, nat_le, Bool, not, ◌&&◌, List, [], ◌∷◌, length, Option, Some, None, codes, is_none, is_some, if◌then◌else◌}
use Rattle.std.specs.Str.{bytes_eq}
use Rattle.std.specs.Option.{option_or}
use Rattle.json_tree.specs.Tree.{Tree, object, list_of_members}
use Rattle.json_tree.specs.Members.{member_at}
use Rattle.reply_env.specs.Messages.{bad_field, bad_option, command_limit}
use Rattle.reply_env.specs.declared.reply.ErrorItem.{ErrorItem}
use Rattle.cmd_grammar.specs.First.{first_of, first_by}
use Rattle.cmd_grammar.specs.Parts.{sort_of, skip_of, page_text, documents_of}
use Rattle.cmd_grammar.specs.Rows.{Field, Row, fits}

-- an option that the command doesn't have, or of a wrong kind
abbrev pub option_refusal : List Field → List ℕ × Tree → Option ErrorItem
option_refusal fields p = if fits fields p.0 p.1 then None else Some (bad_option p.0)

-- the member `options`: it has to be an object, and is itself unknown where the command has no options
abbrev pub options_refusal : Option (List Field) → Tree → Option ErrorItem
options_refusal (Some fields) (object ms) = first_by (option_refusal fields) (list_of_members ms)
options_refusal fields t = Some (bad_field (codes "options"))

-- a member that the command doesn't have, or of a wrong kind
abbrev pub member_refusal : Row → List ℕ × Tree → Option ErrorItem
member_refusal row p =
    if bytes_eq p.0 (codes "options") then options_refusal row.options p.1
    else (if fits row.members p.0 p.1 then None else Some (bad_field p.0))

-- a member that has to be there and isn't
abbrev pub missing_refusal : List (List ℕ × Tree) → Field → Option ErrorItem
missing_refusal ms field = if field.required && is_none (member_at field.name ms) then Some (bad_field field.name) else None

-- the members in written order, then those that are missing, in the order of the table
abbrev pub members_refusal : Row → List (List ℕ × Tree) → Option ErrorItem
members_refusal row ms = option_or (first_by (member_refusal row) ms) (first_by (missing_refusal ms) row.members)

-- ---- sorts and pages

-- a sort of no paths is none
abbrev pub is_sorted : Tree → Bool
is_sorted t = not (length (sort_of t) == 0)

-- documents are skipped under a sort alone
abbrev pub skip_refusal : Tree → Option ErrorItem
skip_refusal t = if not (is_sorted t) && not (skip_of t == 0) then Some (bad_option (codes "skip")) else None

-- a page state goes with no sort
abbrev pub page_refusal : Tree → Option ErrorItem
page_refusal t = if is_sorted t && is_some (page_text t) then Some (bad_option (codes "pageState")) else None

-- in this order
abbrev pub paging_refusal : Tree → Option ErrorItem
paging_refusal t = first_of (skip_refusal t ∷ page_refusal t ∷ [])

-- ---- limits

-- so many are more than may be
abbrev pub at_most : List ℕ → ℕ → ℕ → Option ErrorItem
at_most field bound found = if nat_le found bound then None else Some (command_limit field bound found)

-- the documents that are to be inserted, those that are skipped, and the paths of the sort, in this order
abbrev pub limits_refusal : Tree → Option ErrorItem
limits_refusal t =
    first_of
    (at_most (codes "documents") 100 (length (documents_of t))
    ∷ at_most (codes "skip") 480 (skip_of t)
    ∷ at_most (codes "sort") 8 (length (sort_of t))
    ∷ [])
