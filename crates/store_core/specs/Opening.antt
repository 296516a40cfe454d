-- The opening of a store over a keeper.
use Rattle.std.specs.Prelude.{◌≡◌, ℕ, ◌+◌, ◌^◌, ◌<◌, ◌≤◌, List, [], ◌∷◌, ◌++◌, length, take, Bool, ◌||◌, Option, Some, None, if◌then◌else◌}
use Rattle.std.specs.Option.{option_map, ForSome}
use Rattle.std.specs.List.{list_any}
use Rattle.std.specs.Str.{bytes_eq}
use Rattle.outside_io.specs.Causes.{Rose}
use Rattle.shred_cols.specs.Rows.{Rows}
use Rattle.col_keeper.specs.Tables.{Name, Tables, rows_in, names_of, created}
use Rattle.store_core.specs.declared.open.OpenFault.{OpenFault}
use Rattle.store_core.specs.declared.open.OpenFault.TheVariants.{KeeperFault, TooMany, NoMemory}
use Rattle.store_core.specs.declared.open.Prepared.{Prepared}
use Rattle.store_core.specs.declared.open.Prepared.TheVariants as p

-- the name is one of the list
abbrev pub is_among : Name → List Name → Bool
is_among n ns = list_any (λ m. bytes_eq m n) ns

-- of these names, those that aren't listed and weren't found before, each once, in order, behind those found before
abbrev pub missing : List Name → List Name → List Name → List Name
missing listed found [] = found
missing listed found (n ∷ ns) = if is_among n listed || is_among n found then missing listed found ns else missing listed (found ++ n ∷ []) ns

-- the names that the tables miss
abbrev pub missed : List Name → Tables → List Name
missed names t = missing (names_of t.collections) [] names

-- the tables with a collection of that name, which is empty where none lived
abbrev pub with_name_if : Option Rows → Name → Tables → Tables
with_name_if None name t = created name t
with_name_if (Some rows) name t = t

abbrev pub with_name : Name → Tables → Tables
with_name name t = with_name_if (rows_in name t.collections) name t

-- the tables with collections of these names, in order
abbrev pub with_names : List Name → Tables → Tables
with_names [] t = t
with_names (n ∷ ns) t = with_names ns (with_name n t)

-- the tables with the first of the missing collections
abbrev pub begun_with : ℕ → List Name → Tables → Tables
begun_with n names t = with_names (take n (missed names t)) t

-- the tables with all of them
abbrev pub opened_with : List Name → Tables → Tables
opened_with names t = with_names (missed names t) t

-- how many collections would live
abbrev pub would_live : List Name → Tables → ℕ
would_live names t = length t.collections + length (missed names t)

module _ {K : Type 0} (tables : K → Option Tables) where
  -- a beginning of the missing collections was made
  abbrev pub IsBegun : List Name → K → K → Type 0
  IsBegun names old new = (n : ℕ) × (tables new ≡ option_map (begun_with n names) (tables old))

  -- over 100 collections would live, of which none was made
  abbrev pub IsOver : List Name → K → K → Type 0
  IsOver names old new = ForSome (tables old) (λ t. (100 < would_live names t) × (tables new ≡ tables old))

  -- a keeper before and after it was prepared for a store, whose first write has that number
  abbrev pub Prepares : List Name → K → K → Prepared → Type 0
  Prepares names old new (p.At first) =
      (tables new ≡ option_map (opened_with names) (tables old)) × (1 ≤ first) × (first < 2 ^ 63)
      × ForSome (tables old) (λ t. (first ≡ t.last + 1) × (would_live names t ≤ 100))
  Prepares names old new p.TooMany = IsOver names old new
  Prepares names old new p.Failed = IsBegun names old new
  Prepares names old new p.NoMemory = IsBegun names old new

-- the keeper that is handed back where no store is opened
abbrev pub keeper_in : {K : Type 0} → OpenFault K → K
keeper_in (KeeperFault keeper before after) = keeper
keeper_in (TooMany keeper) = keeper
keeper_in (NoMemory keeper) = keeper

module _ {K : Type 0} (tables : K → Option Tables) (failed : K → ℕ) where
  -- why a store isn't opened over a keeper, and how that is handed back
  abbrev pub Refuses : List Name → K → OpenFault K → Type 0
  Refuses names old (KeeperFault new before after) =
      (before ≡ failed old) × (after ≡ failed new) × Rose before after × IsBegun tables names old new
  Refuses names old (TooMany new) = IsOver tables names old new
  Refuses names old (NoMemory new) = IsBegun tables names old new
