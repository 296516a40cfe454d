-- What a judgement of columns promises.
use Rattle.std.specs.Prelude.{◌≡◌, ◌⊎◌, ℕ, Bool, true, false, not, ◌&&◌, ◌||◌, List, is_some}
use Rattle.std.specs.List.{list_any}
use Rattle.std.specs.Str.{bytes_eq}
use Rattle.json_tree.specs.Tree.{Tree, text}
use Rattle.doc_paths.specs.At.{at}
use Rattle.doc_paths.specs.Text.{parts}
use Rattle.shred_cols.specs.Entry.{kept_of, key_of}
use Rattle.filter_plan.specs.Steps.{is_whole}
use Rattle.shred_cols.specs.Probe.{meets}
use Rattle.shred_cols.specs.declared.entry.Entry.{Entry}
use Rattle.shred_cols.specs.declared.entry.Entry.TheVariants as e
use Rattle.shred_cols.specs.declared.probe.Probe.TheVariants.{Has}
use Rattle.filter_tree.specs.Filters.{TestTree, eq, ne, gt, gte, lt, lte, among, not_among, exists, every, size, FilterTree, all, any, negated, on, FilterTrees, no_filters, filter}
use Rattle.filter_tree.specs.Matches.{holds, matches}
use Rattle.filter_plan.specs.declared.step.Verdict.{Verdict}
use Rattle.filter_plan.specs.declared.step.Verdict.TheVariants.{Yes, No, Look}

-- ---- open conditions

-- the operand's digest stands at the path
abbrev pub digest_stands : List Entry → List ℕ → Tree → Bool
digest_stands c path x = not (is_whole (kept_of x)) && meets (Has path (kept_of x)) c

-- the entry is of a text at the path that has the operand's front, and one of the two isn't kept whole
abbrev pub is_like : List ℕ → List ℕ → Entry → Bool
is_like path t (e.Text p k) = bytes_eq p path && (bytes_eq k.0 (key_of t).0 && (is_some k.1 || is_some (key_of t).1))
is_like path t entry = false

abbrev pub front_stands : List Entry → List ℕ → Tree → Bool
front_stands c path (text t) = list_any (is_like path t) c
front_stands c path x = false

-- the columns don't tell whether the test holds at the path
abbrev pub is_open : List Entry → List ℕ → TestTree → Bool
is_open c path (eq x) = digest_stands c path x
is_open c path (ne x) = digest_stands c path x
is_open c path (gt x) = front_stands c path x
is_open c path (gte x) = front_stands c path x
is_open c path (lt x) = front_stands c path x
is_open c path (lte x) = front_stands c path x
is_open c path (among xs) = list_any (digest_stands c path) xs
is_open c path (not_among xs) = list_any (digest_stands c path) xs
is_open c path (every xs) = list_any (digest_stands c path) xs
is_open c path (exists b) = false
is_open c path (size n) = false

-- some condition of the filter is open
abbrev mutual
  pub has_open : List Entry → FilterTree → Bool
  has_open c (all fs) = have_open c fs
  has_open c (any fs) = have_open c fs
  has_open c (negated f) = has_open c f
  has_open c (on path test) = is_open c path test

  pub have_open : List Entry → FilterTrees → Bool
  have_open c no_filters = false
  have_open c (filter f fs) = has_open c f || have_open c fs

-- the filter's value on the document can be b, where each occurrence of an open condition may be read either way
abbrev mutual
  pub CanBe : Tree → List Entry → FilterTree → Bool → Type 0
  CanBe d c (all fs) b = AllCanBe d c fs b
  CanBe d c (any fs) b = AnyCanBe d c fs b
  CanBe d c (negated f) b = CanBe d c f (not b)
  CanBe d c (on path test) b = (is_open c path test ≡ true) ⊎ (holds test (at d (parts path)) ≡ b)

  pub AllCanBe : Tree → List Entry → FilterTrees → Bool → Type 0
  AllCanBe d c no_filters b = b ≡ true
  AllCanBe d c (filter f fs) b = (x : Bool) × (y : Bool) × CanBe d c f x × AllCanBe d c fs y × ((x && y) ≡ b)

  pub AnyCanBe : Tree → List Entry → FilterTrees → Bool → Type 0
  AnyCanBe d c no_filters b = b ≡ false
  AnyCanBe d c (filter f fs) b = (x : Bool) × (y : Bool) × CanBe d c f x × AnyCanBe d c fs y × ((x || y) ≡ b)

-- ---- the promise

abbrev pub Judged : Tree → List Entry → FilterTree → Verdict → Type 0
Judged d c f Yes = matches f d ≡ true
Judged d c f No = matches f d ≡ false
Judged d c f Look = CanBe d c f true × CanBe d c f false
