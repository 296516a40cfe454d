-- The counts that the walk keeps. Only the crate's private clauses cite it.
use Rattle.std.specs.Prelude.{ℕ, ◌+◌, max, List, [], ◌∷◌, false, ◌||◌, length, map, nat_eq, ◌-◌, Option, Some, None}
use Rattle.std.specs.List.{list_any}
use Rattle.json_tree.specs.Tree.{Tree, Elements, Members, list, object}
use Rattle.json_text.specs.Print.{capped}
use Rattle.doc_limits.specs.declared.counts.Counts.{Counts}
use Rattle.doc_limits.specs.declared.limits.Broken.{Broken}
use Rattle.doc_limits.specs.Names.{names_in, names_in_elements, names_in_members}
use Rattle.doc_limits.specs.Values.{values_in, values_in_elements, values_in_members, levels, levels_of_elements, levels_of_members, elements_count, members_count, text_bytes}
use Rattle.doc_limits.specs.Paths.{paths_in, paths_in_elements, paths_in_members}
use Rattle.doc_limits.specs.Limits.{greatest, at_most, at_least_one, first_of}

-- of a name of so many bytes
abbrev pub name_counts : ℕ → Counts
name_counts n = record { levels = 0; empty_name = nat_eq n 0; name = n; path = 0; object = 0; members = 1; list = 0; text = 0 }

-- the counts of two values
abbrev pub both : Counts → Counts → Counts
both a b = record {
  levels = max a.levels b.levels;
  empty_name = a.empty_name || b.empty_name;
  name = max a.name b.name;
  path = max a.path b.path;
  object = max a.object b.object;
  members = a.members + b.members;
  list = max a.list b.list;
  text = max a.text b.text;
}

-- the same, stopping at the end of 64 bits
abbrev pub joined : Counts → Counts → Counts
joined a b = record {
  levels = capped (max a.levels b.levels);
  empty_name = a.empty_name || b.empty_name;
  name = capped (max a.name b.name);
  path = capped (max a.path b.path);
  object = capped (max a.object b.object);
  members = capped (a.members + b.members);
  list = capped (max a.list b.list);
  text = capped (max a.text b.text);
}

-- the bytes of a path's parts, each with a dot behind it
abbrev pub dotted : List (List ℕ) → ℕ
dotted [] = 0
dotted (n ∷ ns) = length n + 1 + dotted ns

-- the bytes of a path that is one part longer: a whole value has no path of its own
abbrev pub longer : Option ℕ → ℕ → ℕ
longer None n = n
longer (Some p) n = p + 1 + n

-- the bytes of a path and of parts behind it
abbrev pub reached : Option ℕ → ℕ → ℕ
reached None d = d - 1
reached (Some p) d = p + d

-- of a value with no content
abbrev pub place_counts : ℕ → Option ℕ → Counts
place_counts deep at = record { levels = deep; empty_name = false; name = 0; path = reached at 0; object = 0; members = 0; list = 0; text = 0 }

-- of names, values and paths inside a value that has this path
abbrev pub counts : ℕ → Option ℕ → List (List ℕ) → List Tree → List (List (List ℕ)) → Counts
counts deep at names values paths = record {
  levels = deep;
  empty_name = list_any (λ n. nat_eq (length n) 0) names;
  name = greatest (map length names);
  path = reached at (greatest (map dotted paths));
  object = greatest (map members_count values);
  members = length names;
  list = greatest (map elements_count values);
  text = greatest (map text_bytes values);
}

-- of a value with so many levels around it, and so many bytes in its path
abbrev pub tree_counts : ℕ → Option ℕ → Tree → Counts
tree_counts above at t = counts (above + levels t) at (names_in t) (values_in t) (paths_in t)

-- the first limit that such counts break, the text having so many bytes
abbrev pub of_counts : ℕ → Counts → Option Broken
of_counts n c =
    first_of
    (at_most 1 1000000 n
    ∷ at_most 2 16 c.levels
    ∷ at_least_one 3 c.empty_name
    ∷ at_most 4 100 c.name
    ∷ at_most 5 1000 c.path
    ∷ at_most 6 1000 c.object
    ∷ at_most 7 2000 c.members
    ∷ at_most 8 1000 c.list
    ∷ at_most 9 8000 c.text
    ∷ [])

-- of the list of all elements, of which the last ones ts, from the place i on, are left to count
abbrev pub list_counts : ℕ → Option ℕ → Elements → ℕ → Elements → Counts
list_counts above at all i ts = counts (above + (1 + levels_of_elements ts)) at (names_in_elements ts) (list all ∷ values_in_elements ts) (paths_in_elements i ts)

-- of the object of all members, of which the last ones ms are left to count
abbrev pub object_counts : ℕ → Option ℕ → Members → Members → Counts
object_counts above at all ms = counts (above + (1 + levels_of_members ms)) at (names_in_members ms) (object all ∷ values_in_members ms) (paths_in_members ms)
