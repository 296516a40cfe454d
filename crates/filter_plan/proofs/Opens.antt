-- Open conditions: what they leave open, and that there are none while nothing is digested.
use Rattle.std.proofs.Common.{◌≡◌, inl, inr, ℕ, Bool, true, false, ◌&&◌, ◌||◌, not, List, [], ◌∷◌, Option, is_some, refl, sym, ◌∙◌, ap, ap₂, subst}
use Rattle.std.specs.List.{list_any}
use Rattle.std.specs.Str.{bytes_eq}
use Rattle.std.proofs.lemmas.Bool.{and_parts}
use Rattle.json_tree.specs.Tree.{Tree, null, boolean, number, text, date, list, object}
use Rattle.shred_cols.specs.Entry.{key_of}
use Rattle.shred_cols.specs.Columns.{IsColumns, Belongs}
use Rattle.shred_cols.specs.declared.entry.Entry.{Entry}
use Rattle.shred_cols.specs.declared.entry.Entry.TheVariants as e
use Rattle.filter_tree.specs.Filters.{TestTree, eq, ne, gt, gte, lt, lte, among, not_among, exists, every, size, FilterTree, all, any, negated, on, FilterTrees, no_filters, filter}
use Rattle.filter_tree.specs.Matches.{matches, all_match, any_matches}
use Rattle.filter_plan.specs.Judging.{is_like, front_stands, digest_stands, is_open, has_open, have_open, CanBe, AllCanBe, AnyCanBe, Judged}
use Rattle.filter_plan.specs.declared.step.Verdict.TheVariants.{Look}
use Rattle.filter_plan.proofs.Found.{a_member, not_true}

-- ---- a filter without open conditions has its own value alone

neither : (a b : Bool) → (a || b) ≡ false → (a ≡ false) × (b ≡ false)
neither false b h = (refl, h)
neither true b h = Prim.cc h

back : (a b : Bool) → a ≡ not b → not a ≡ b
back a true h = ap not h
back a false h = ap not h

mutual
  only : (d : Tree) (c : List Entry) (f : FilterTree) (b : Bool) → has_open c f ≡ false → CanBe d c f b → matches f d ≡ b
  only d c (all fs) b h can = only_all d c fs b h can
  only d c (any fs) b h can = only_any d c fs b h can
  only d c (negated f) b h can = back (matches f d) b (only d c f (not b) h can)
  only d c (on path test) b h (inl o) = let clash : true ≡ false = sym o ∙ h in Prim.cc clash
  only d c (on path test) b h (inr v) = v

  only_all : (d : Tree) (c : List Entry) (fs : FilterTrees) (b : Bool) → have_open c fs ≡ false → AllCanBe d c fs b → all_match fs d ≡ b
  only_all d c no_filters b h can = sym can
  only_all d c (filter f fs) b h (x, y, p, q, r) =
      let n = neither (has_open c f) (have_open c fs) h in ap₂ (λ v w. v && w) (only d c f x n.0 p) (only_all d c fs y n.1 q) ∙ r

  only_any : (d : Tree) (c : List Entry) (fs : FilterTrees) (b : Bool) → have_open c fs ≡ false → AnyCanBe d c fs b → any_matches fs d ≡ b
  only_any d c no_filters b h can = sym can
  only_any d c (filter f fs) b h (x, y, p, q, r) =
      let n = neither (has_open c f) (have_open c fs) h in ap₂ (λ v w. v || w) (only d c f x n.0 p) (only_any d c fs y n.1 q) ∙ r

pub no_look : (d : Tree) (c : List Entry) (f : FilterTree) → has_open c f ≡ false → Judged d c f Look → ⊥
no_look d c f h look = let clash : true ≡ false = sym (only d c f true h look.0) ∙ only d c f false h look.1 in Prim.cc clash

-- ---- while nothing is digested

none : (c : List Entry) (path : List ℕ) (xs : List Tree) → list_any (digest_stands c path) xs ≡ false
none c path [] = refl
none c path (x ∷ xs) = none c path xs

like_entry : (path t : List ℕ) (x : Entry) → is_like path t x ≡ true → (p : List ℕ) × (k : List ℕ × Option (List ℕ)) × (x ≡ e.Text p k) × ((is_some k.1 || false) ≡ true)
like_entry path t (e.Text p k) h =
    let m = and_parts (bytes_eq p path) (bytes_eq k.0 (key_of t).0 && (is_some k.1 || is_some (key_of t).1)) h in
    (p, k, refl, (and_parts (bytes_eq k.0 (key_of t).0) (is_some k.1 || is_some (key_of t).1) m.1).1)
like_entry path t x h = cc

no_front : (d : Tree) (c : List Entry) (path t : List ℕ) → IsColumns d c → list_any (is_like path t) c ≡ false
no_front d c path t are = not_true (list_any (is_like path t) c) (λ h.
    let m = a_member (is_like path t) c h in
    let l = like_entry path t m.0 m.2 in
    let b : Belongs d (e.Text l.0 l.1) = subst (Belongs d) l.2 ((are.exact m.0).0 m.1) in
    let clash : false ≡ true = sym (ap (λ (k : List ℕ × Option (List ℕ)). is_some k.1 || false) b.says.2) ∙ l.3 in
    Prim.cc clash)

no_text : (d : Tree) (c : List Entry) (path : List ℕ) (x : Tree) → IsColumns d c → front_stands c path x ≡ false
no_text d c path (text t) are = no_front d c path t are
no_text d c path null are = refl
no_text d c path (boolean b) are = refl
no_text d c path (number n) are = refl
no_text d c path (date n) are = refl
no_text d c path (list ts) are = refl
no_text d c path (object ms) are = refl

no_test : (d : Tree) (c : List Entry) (path : List ℕ) (test : TestTree) → IsColumns d c → is_open c path test ≡ false
no_test d c path (eq x) are = refl
no_test d c path (ne x) are = refl
no_test d c path (gt x) are = no_text d c path x are
no_test d c path (gte x) are = no_text d c path x are
no_test d c path (lt x) are = no_text d c path x are
no_test d c path (lte x) are = no_text d c path x are
no_test d c path (among xs) are = none c path xs
no_test d c path (not_among xs) are = none c path xs
no_test d c path (every xs) are = none c path xs
no_test d c path (exists b) are = refl
no_test d c path (size n) are = refl

mutual
  pub no_open : (d : Tree) (c : List Entry) (f : FilterTree) → IsColumns d c → has_open c f ≡ false
  no_open d c (all fs) are = no_opens d c fs are
  no_open d c (any fs) are = no_opens d c fs are
  no_open d c (negated f) are = no_open d c f are
  no_open d c (on path test) are = no_test d c path test are

  no_opens : (d : Tree) (c : List Entry) (fs : FilterTrees) → IsColumns d c → have_open c fs ≡ false
  no_opens d c no_filters are = refl
  no_opens d c (filter f fs) are = ap₂ (λ v w. v || w) (no_open d c f are) (no_opens d c fs are)
