-- Keys of both directions as one order. Only the crate's private clauses cite it.
use Rattle.std.specs.Prelude.{◌≡◌, ℕ, Bool, true, false, List, map, take}
use Rattle.std.specs.List.Sorted.{IsPermutation, IsSorted}
use Rattle.std.specs.declared.cmp.Ordering.{Ordering}
use Rattle.std.specs.Cmp.Lexicographic.{slice_cmp}
use Rattle.std.specs.Ordering.{on, then_cmp, flip_args}
use Rattle.std.specs.Cmp.{IsTotalOrder, then_total, on_total, back_total, nat_cmp_total, int_cmp_total}
use Rattle.std.specs.Cmp.Lexicographic.{lists_total}
use Rattle.json_tree.specs.Tree.{Tree}
use Rattle.json_tree.specs.Id.{id_cmp, id_tag, id_text, id_number}
use Rattle.shred_cols.specs.SortKey.{key_cmp, kind_of, number_of, text_of_key}
use Rattle.shred_cols.specs.declared.sort.SortKey.{SortKey}
use Rattle.shred_cols.specs.declared.sort.SortKey.TheVariants as k
use Rattle.shred_cols.specs.Row.{Version, id_of}
use Rattle.view_sort.specs.Sort.{key_at}

-- a key that ascends, and one that descends, of which one is `Other`
abbrev pub sided_key : Bool → SortKey → SortKey × SortKey
sided_key true key = (key, k.Other)
sided_key false key = (k.Other, key)

abbrev pub sided_cmp : SortKey × SortKey → SortKey × SortKey → Ordering
sided_cmp = then_cmp (on (λ p. p.0) key_cmp) (flip_args (on (λ p. p.1) key_cmp))

abbrev pub all_keys : List (List ℕ × Bool) → Tree → List (SortKey × SortKey)
all_keys sort d = map (λ key. sided_key key.1 (key_at key.0 d)) sort

abbrev pub rank_of : List (List ℕ × Bool) → Version → List (SortKey × SortKey) × Version
rank_of sort f = (all_keys sort f.doc, f)

abbrev pub ranked_cmp : List (SortKey × SortKey) × Version → List (SortKey × SortKey) × Version → Ordering
ranked_cmp = then_cmp (on (λ r. r.0) (slice_cmp sided_cmp)) (on (λ r. id_of r.1.doc) id_cmp)

pub key_total : IsTotalOrder key_cmp
key_total = then_total (on_total kind_of nat_cmp_total) (then_total (on_total number_of int_cmp_total) (on_total text_of_key (lists_total nat_cmp_total)))

pub id_total : IsTotalOrder id_cmp
id_total = then_total (on_total id_tag nat_cmp_total) (then_total (on_total id_text (lists_total nat_cmp_total)) (on_total id_number int_cmp_total))

pub sided_total : IsTotalOrder sided_cmp
sided_total = then_total (on_total (λ p. p.0) key_total) (back_total (on_total (λ p. p.1) key_total))

pub ranked_total : IsTotalOrder ranked_cmp
ranked_total = then_total (on_total (λ r. r.0) (lists_total sided_total)) (on_total (λ r. id_of r.1.doc) id_total)

-- ys is the first `keep` of xs, sorted
pub record IsLeast {X : Type 0} (cmp : X → X → Ordering) (keep : ℕ) (xs ys : List X) : Type 0 where
  pub sorted : List X
  pub same : IsPermutation xs sorted
  pub ascending : IsSorted cmp sorted
  pub first : ys ≡ take keep sorted

-- ys is what was found, of the ranks xs sorted
pub record IsSortedFound (xs : List (List (SortKey × SortKey) × Version)) (ys : List Version) : Type 0 where
  pub sorted : List (List (SortKey × SortKey) × Version)
  pub same : IsPermutation xs sorted
  pub ascending : IsSorted ranked_cmp sorted
  pub found : ys ≡ map (λ r. r.1) sorted

-- ys is what was found, of the first `keep` of the ranks xs sorted
pub record IsLeastFound (keep : ℕ) (xs : List (List (SortKey × SortKey) × Version)) (ys : List Version) : Type 0 where
  pub ranks : List (List (SortKey × SortKey) × Version)
  pub least : IsLeast ranked_cmp keep xs ranks
  pub found : ys ≡ map (λ r. r.1) ranks
