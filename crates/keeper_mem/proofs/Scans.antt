-- The rows that meet a probe: where a walk begins, and what holds of them.
use Rattle.std.proofs.Common.{zero, suc, ◌≡◌, ◌↔◌, ℕ, ◌<◌, ◌≤◌, Bool, true, false, cond, ◌&&◌, List, [], ◌∷◌, length, map, take, min, ⊎_elim, Option, refl, sym, ap, ◌∙◌, subst, arith}
use Rattle.std.specs.List.{AllByRecursion as Each, filter}
use Rattle.json_tree.specs.Tree.{Tree}
use Rattle.json_tree.specs.Id.{id_cmp}
use Rattle.shred_cols.specs.declared.probe.Probe.{Probe}
use Rattle.shred_cols.specs.Row.{Version}
use Rattle.shred_cols.specs.Rows.{Rows, ascends, keyed, is_after}
use Rattle.column_table.specs.After.{rows_after}
use Rattle.col_keeper.specs.Asked.{meets_document}
use Rattle.std.proofs.lemmas.List.{length-map, length-take}
use Rattle.std.proofs.lemmas.Bool.{and_parts, cases_lt}
use Rattle.std.specs.FinMap.Entries.{below_all}
use Rattle.col_keeper.specs.Tables.{IsEntry, IsCollection, IsShort}
use Rattle.col_keeper.specs.Pages.{IsPage, IsEnd, page_of, met_after}
use Rattle.keeper_mem.specs.Scans.{meeting}

-- ---- lists

each_filter : (P : Tree × Version → Type 0) (p : Tree × Version → Bool) (rows : Rows) → Each P rows → Each P (filter p rows)
each_filter P p [] h = tt
each_filter P p (e ∷ rows) h = elim (p e) as (λ b. Each P (cond b (e ∷ filter p rows) (filter p rows))) [ true ↦ (h.0, each_filter P p rows h.1) | false ↦ each_filter P p rows h.1 ]

each_take : (P : Tree × Version → Type 0) (n : ℕ) (rows : Rows) → Each P rows → Each P (take n rows)
each_take P zero rows h = tt
each_take P (suc n) [] h = tt
each_take P (suc n) (e ∷ rows) h = (h.0, each_take P n rows h.1)

both : (a b : Bool) → a ≡ true → b ≡ true → (a && b) ≡ true
both true b p q = q
both false b p q = p

below_filter : (x : Tree) (p : Tree × Version → Bool) (rows : Rows) → below_all id_cmp x rows ≡ true → below_all id_cmp x (filter p rows) ≡ true
below_filter x p [] h = refl
below_filter x p (e ∷ rows) h =
    let rest = below_filter x p rows (and_parts _ _ h).1 in
    elim (p e) as (λ b. below_all id_cmp x (cond b (e ∷ filter p rows) (filter p rows)) ≡ true) [ true ↦ both _ _ (and_parts _ _ h).0 rest | false ↦ rest ]

ascends_filter : (p : Tree × Version → Bool) (rows : Rows) → ascends rows ≡ true → ascends (filter p rows) ≡ true
ascends_filter p [] h = refl
ascends_filter p (e ∷ rows) h =
    let rest = ascends_filter p rows (and_parts _ _ h).1 in
    elim (p e) as (λ b. ascends (cond b (e ∷ filter p rows) (filter p rows)) ≡ true) [ true ↦ both _ _ (below_filter e.0 p rows (and_parts _ _ h).0) rest | false ↦ rest ]

below_take : (x : Tree) (n : ℕ) (rows : Rows) → below_all id_cmp x rows ≡ true → below_all id_cmp x (take n rows) ≡ true
below_take x zero rows h = refl
below_take x (suc n) [] h = refl
below_take x (suc n) (e ∷ rows) h = both _ _ (and_parts _ _ h).0 (below_take x n rows (and_parts _ _ h).1)

ascends_take : (n : ℕ) (rows : Rows) → ascends rows ≡ true → ascends (take n rows) ≡ true
ascends_take zero rows h = refl
ascends_take (suc n) [] h = refl
ascends_take (suc n) (e ∷ rows) h = both _ _ (below_take e.0 n rows (and_parts _ _ h).0) (ascends_take n rows (and_parts _ _ h).1)

-- ---- where the loop begins

met_split : (probe : Probe) (a : Option Tree) (rows : Rows) → met_after probe a rows ≡ meeting probe (filter (λ e. is_after a e.0) rows)
met_split probe a [] = refl
met_split probe a (e ∷ rows) =
    elim (is_after a e.0) as (λ b. cond (b && meets_document probe e.1.doc) (e ∷ met_after probe a rows) (met_after probe a rows) ≡ meeting probe (cond b (e ∷ filter (λ e. is_after a e.0) rows) (filter (λ e. is_after a e.0) rows))) [
      | true ↦ ap (λ l. cond (meets_document probe e.1.doc) (e ∷ l) l) (met_split probe a rows)
      | false ↦ met_split probe a rows
    ]

pub scan_starts : (probe : Probe) (rows next : Rows) (a : Option Tree) → next ≡ rows_after a rows → meeting probe next ≡ met_after probe a rows
scan_starts probe rows next a e = ap (meeting probe) e ∙ sym (met_split probe a rows)

-- ---- the rows of a walk, whatever the keeper tells

each_unkeyed : (P : Tree × Version → Type 0) (vs : List Version) → Each P (map keyed vs) → Each (λ v. P (keyed v)) vs
each_unkeyed P [] h = tt
each_unkeyed P (v ∷ vs) h = (h.0, each_unkeyed P vs h.1)

pub page_sound : (last : ℕ) (rows : Rows) (probe : Probe) (after : Option Tree) (n : ℕ) (vs : List Version) (end : Bool) → IsCollection last rows → 1 ≤ n → map keyed vs ≡ page_of probe after n rows → ((end ≡ true) ↔ IsEnd probe after n rows) → IsPage after n vs end
page_sound last rows probe after n vs end h one is ends =
    let test : Tree × Version → Bool = λ e. is_after after e.0 && meets_document probe e.1.doc in
    let entries : Each (IsEntry last) (take n (met_after probe after rows)) = each_take (IsEntry last) n (met_after probe after rows) (each_filter (IsEntry last) (λ e. is_after after e.0 && meets_document probe e.1.doc) rows h.entries) in
    let len : length vs ≡ min n (length (met_after probe after rows)) = sym (length-map vs keyed) ∙ ap length is ∙ length-take n (met_after probe after rows) in
    record {
      most = omega arith;
      ascends = ap ascends is ∙ ascends_take n (met_after probe after rows) (ascends_filter (λ e. is_after after e.0 && meets_document probe e.1.doc) rows h.ascends);
      above = each_unkeyed (λ e. is_after after e.0 ≡ true) vs (subst (Each (λ e. is_after after e.0 ≡ true)) (sym is) (each_take (λ e. is_after after e.0 ≡ true) n (met_after probe after rows) (met_are_after rows)));
      goes_on = λ f. (let more : n < length (met_after probe after rows) = lt_from_not (length (met_after probe after rows)) n (λ l. no f (ends.1 l)) in omega arith);
      short = each_unkeyed (λ e. IsShort e.0) vs (subst (Each (λ e. IsShort e.0)) (sym is) (shorts (take n (met_after probe after rows)) entries));
    }
  where
    no : {b : Bool} → b ≡ false → b ≡ true → ⊥
    no p q = cc

    lt_from_not : (a b : ℕ) → (a ≤ b → ⊥) → b < a
    lt_from_not a b h = ⊎_elim (λ l. l) (λ l. absurd (h l)) (cases_lt b a)

    shorts : (es : Rows) → Each (IsEntry last) es → Each (λ e. IsShort e.0) es
    shorts [] a = tt
    shorts (e ∷ es) a = (a.0.2, shorts es a.1)

    met_are_after : (rows : Rows) → Each (λ e. is_after after e.0 ≡ true) (met_after probe after rows)
    met_are_after [] = tt
    met_are_after (e ∷ rows) =
        elim (is_after after e.0) as (λ b. is_after after e.0 ≡ b → Each (λ e. is_after after e.0 ≡ true) (cond (b && meets_document probe e.1.doc) (e ∷ met_after probe after rows) (met_after probe after rows))) [
          | true ↦ λ p. elim (meets_document probe e.1.doc) as (λ m. Each (λ e. is_after after e.0 ≡ true) (cond m (e ∷ met_after probe after rows) (met_after probe after rows))) [ true ↦ (p, met_are_after rows) | false ↦ met_are_after rows ]
          | false ↦ λ p. met_are_after rows
        ] refl
