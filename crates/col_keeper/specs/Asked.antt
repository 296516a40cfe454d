-- What a probe asks of a document.
use Rattle.std.specs.Prelude.{ℕ, ℤ, ◌^◌, Bool, true, false, ◌&&◌, ◌||◌, ◌==◌, nat_lt, List, Option, Some, None, length}
use Rattle.std.specs.List.{list_any}
use Rattle.json_tree.specs.Tree.{Tree, number, text, date, list, list_of_elements}
use Rattle.doc_paths.specs.Text.{parts, path_fault}
use Rattle.doc_paths.specs.At.{at}
use Rattle.doc_paths.specs.declared.fault.PathFault.{PathFault}
use Rattle.shred_cols.specs.Entry.{kept_of, key_of, elements_in}
use Rattle.shred_cols.specs.Probe.{same_kept, number_within, text_within, date_within}
use Rattle.shred_cols.specs.declared.forms.Kept.{Kept}
use Rattle.shred_cols.specs.declared.probe.Probe.{Probe}
use Rattle.shred_cols.specs.declared.probe.Probe.TheVariants as p

-- the value at a path, where the text is one
abbrev pub value_at : Option PathFault → List ℕ → Tree → Option Tree
value_at None path d = at d (parts path)
value_at (Some fault) path d = None

abbrev pub passes : (Tree → Bool) → Option Tree → Bool
passes test None = false
passes test (Some x) = test x

-- there is a value at the path, and it passes the test
abbrev pub has_at : List ℕ → (Tree → Bool) → Tree → Bool
has_at path test d = passes test (value_at (path_fault path) path d)

-- the value is a list of n elements, fewer than 2^32
abbrev pub has_size : ℕ → Tree → Bool
has_size n (list ts) = (length (list_of_elements ts) == n) && nat_lt n (2 ^ 32)
has_size n x = false

-- the value, or an element of it, is kept so
abbrev pub is_kept : Kept → Tree → Bool
is_kept k x = same_kept k (kept_of x) || list_any (λ y. same_kept k (kept_of y)) (elements_in x)

-- the value is a number within the ends
abbrev pub is_number_within : Option ℤ → Option ℤ → Tree → Bool
is_number_within low high (number n) = number_within low high n
is_number_within low high x = false

-- the value is a text, whose kept form is within the ends
abbrev pub is_text_within : Option (List ℕ × Option (List ℕ)) → Option (List ℕ × Option (List ℕ)) → Tree → Bool
is_text_within low high (text t) = text_within low high (key_of t)
is_text_within low high x = false

-- the value is a date within the ends
abbrev pub is_date_within : Option ℤ → Option ℤ → Tree → Bool
is_date_within low high (date n) = date_within low high n
is_date_within low high x = false

-- whether a document's columns meet the probe
unfoldable pub meets_document : Probe → Tree → Bool
meets_document p.All d = true
meets_document (p.Exists path) d = has_at path (λ x. true) d
meets_document (p.Size path n) d = has_at path (has_size n) d
meets_document (p.Has path k) d = has_at path (is_kept k) d
meets_document (p.NumRange path low high) d = has_at path (is_number_within low high) d
meets_document (p.TextRange path low high) d = has_at path (is_text_within low high) d
meets_document (p.DateRange path low high) d = has_at path (is_date_within low high) d
