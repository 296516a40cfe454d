-- Rules by names.
use Rattle.std.proofs.Common.{◌≡◌, ◌++◌, ℕ, Bool, true, false, cond, List, [], ◌∷◌, Option, Some, None, IfSome, option_map, sym, refl, subst, ◌∙◌, ap, append_assoc, BTreeMap}
use Rattle.std.specs.BTreeMap.{get_by}
use Rattle.std.specs.Cmp.Lexicographic.{slice_cmp}
use Rattle.std.specs.Ordering.{nat_cmp}
use Rattle.std.specs.Str.{bytes_eq}
use Rattle.std.proofs.lemmas.Slice.Eq.{bytes_eq-Decides}
use Rattle.std.proofs.lemmas.List.{append-nil}
use denote.Ref.{Bor}
use Rattle.doc_paths.specs.Text.{parts, base_parts}
use Rattle.view_sort.specs.View.{step, under}
use Rattle.view_sort.specs.Walk.{IsGrouped}
use Rattle.view_sort.specs.declared.show.Show.{Show}

abbrev Rules : Type 0
Rules = List (List (List ℕ) × Show)

under_last : (q : List ℕ) (rs : Rules) (r : List (List ℕ) × Show) → under q (rs ++ r ∷ []) ≡ under q rs ++ step q r
under_last q [] r = append-nil (step q r)
under_last q (s ∷ rs) r = ap (λ l. step q s ++ l) (under_last q rs r) ∙ sym (append_assoc (step q s) (under q rs) (step q r))

-- what is left of a rule, as it is seen
pub left_none : (left : Option (Bor (List ℕ))) (show : Show) (r : List (List ℕ) × Show) → left ≡ None → (base_parts (option_map (λ t. t.now) left), show) ≡ r → ([], show) ≡ r
left_none left show r e v = ap (λ (o : Option (Bor (List ℕ))). (base_parts (option_map (λ t. t.now) o), show)) (sym e) ∙ v

pub left_some : (left : Option (Bor (List ℕ))) (text : Bor (List ℕ)) (show : Show) (ps : List (List ℕ)) (r : List (List ℕ) × Show) → left ≡ Some text → parts text.now ≡ ps → (base_parts (option_map (λ t. t.now) left), show) ≡ r
    → (ps, show) ≡ r
left_some left text show ps r e p v = ap (λ l. (l, show)) (sym p) ∙ ap (λ (o : Option (Bor (List ℕ))). (base_parts (option_map (λ t. t.now) o), show)) (sym e) ∙ v

module _ {V : Type 0} (items : V → Rules) where
  abbrev look : List ℕ → BTreeMap (Bor (List ℕ)) V → Option V
  look q m = get_by (λ k. slice_cmp nat_cmp q k.now) m

  abbrev Has : Rules → Option V → Type 0
  Has rs o = IfSome o (λ v. items v ≡ rs)

  -- what a name has
  pub group_is : (m : BTreeMap (Bor (List ℕ)) V) (rs : Rules) (q : List ℕ) (v : V) → IsGrouped items m rs → Some v ≡ look q m → items v ≡ under q rs
  group_is m rs q v g e = subst (Has (under q rs)) (sym e) (g.at q)

  -- a name that is taken out, or one that has no rules
  pub without : (m n : BTreeMap (Bor (List ℕ)) V) (rs : Rules) (bs : List ℕ) → ((q : List ℕ) → look q n ≡ cond (bytes_eq bs q) None (look q m)) → IsGrouped items m rs → IsGrouped items n rs
  without m n rs bs u g = record { at = λ q. subst (Has (under q rs)) (sym (u q)) (go q (bytes_eq bs q)) }
    where
      go : (q : List ℕ) (b : Bool) → Has (under q rs) (cond b None (look q m))
      go q true = tt
      go q false = g.at q

  pub with_none : (m n : BTreeMap (Bor (List ℕ)) V) (bs : List ℕ) (v : V) → items v ≡ [] → ((q : List ℕ) → look q n ≡ cond (bytes_eq bs q) (Some v) (look q m)) → IsGrouped items m [] → IsGrouped items n []
  with_none m n bs v e u g = record { at = λ q. subst (Has []) (sym (u q)) (go q (bytes_eq bs q)) }
    where
      go : (q : List ℕ) (b : Bool) → Has [] (cond b (Some v) (look q m))
      go q true = e
      go q false = g.at q

  -- one more rule, which leads nowhere, into no name that the map has, or into one
  pub added_here : (m : BTreeMap (Bor (List ℕ)) V) (rs : Rules) (s : Show) → IsGrouped items m rs → IsGrouped items m (rs ++ ([], s) ∷ [])
  added_here m rs s g = record { at = λ q. subst (λ l. Has l (look q m)) (sym (under_last q rs ([], s) ∙ append-nil (under q rs))) (g.at q) }

  pub added_none : (m : BTreeMap (Bor (List ℕ)) V) (rs : Rules) (part : List ℕ) (more : List (List ℕ)) (s : Show) → None ≡ look part m → IsGrouped items m rs → IsGrouped items m (rs ++ (part ∷ more, s) ∷ [])
  added_none m rs part more s e g = record { at = λ q. subst (λ l. Has l (look q m)) (sym (under_last q rs (part ∷ more, s))) (go q (bytes_eq part q) refl) }
    where
      go : (q : List ℕ) (b : Bool) → bytes_eq part q ≡ b → Has (under q rs ++ cond b ((more, s) ∷ []) []) (look q m)
      go q true h = subst (Has (under q rs ++ (more, s) ∷ [])) (e ∙ ap (λ l. look l m) ((bytes_eq-Decides part q).0 h)) tt
      go q false h = subst (λ l. Has l (look q m)) (sym (append-nil (under q rs))) (g.at q)

  pub added : (m n : BTreeMap (Bor (List ℕ)) V) (rs : Rules) (part : List ℕ) (more : List (List ℕ)) (s : Show) (v w : V) → Some v ≡ look part m → items w ≡ items v ++ (more, s) ∷ []
      → ((q : List ℕ) → look q n ≡ cond (bytes_eq part q) (Some w) (look q m)) → IsGrouped items m rs → IsGrouped items n (rs ++ (part ∷ more, s) ∷ [])
  added m n rs part more s v w e i u g =
      record { at = λ q. subst (λ l. Has l (look q n)) (sym (under_last q rs (part ∷ more, s))) (subst (Has (under q rs ++ step q (part ∷ more, s))) (sym (u q)) (go q (bytes_eq part q) refl)) }
    where
      go : (q : List ℕ) (b : Bool) → bytes_eq part q ≡ b → Has (under q rs ++ cond b ((more, s) ∷ []) []) (cond b (Some w) (look q m))
      go q true h = i ∙ ap (λ l. l ++ (more, s) ∷ []) (group_is m rs part v g e ∙ ap (λ l. under l rs) ((bytes_eq-Decides part q).0 h))
      go q false h = subst (λ l. Has l (look q m)) (sym (append-nil (under q rs))) (g.at q)
