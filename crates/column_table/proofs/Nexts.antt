-- What comes after an id in chunks, and chunks without an empty one.
use Rattle.std.proofs.Common.{◌≡◌, ℕ, suc, ◌+◌, ◌<◌, ◌≤◌, true, List, [], ◌∷◌, ◌++◌, length, take, drop, get_or, Some, None, refl, sym, ap, ◌∙◌, subst, arith, add-one}
use Rattle.std.specs.List.{AllByRecursion as Each, filter, remove}
use Rattle.std.proofs.lemmas.List.Elements.{filter-append}
use Rattle.json_tree.specs.Tree.{Tree}
use Rattle.json_tree.specs.Id.{id_cmp}
use Rattle.std.specs.declared.cmp.Ordering.TheVariants.{Less, Greater}
use Rattle.std.proofs.lemmas.List.{append-nil, drop_all, take-append-drop}
use Rattle.shred_cols.specs.Row.{Version, id_of}
use Rattle.shred_cols.specs.Rows.{Rows, keyed, ascends, with_version, is_after}
use Rattle.column_table.specs.Spot.{joined, IsChunkOf, Below}
use Rattle.column_table.specs.After.{rows_after}
use Rattle.column_table.proofs.Order.{split_at, each-append, each_right, sorted_split, under_less, before_reversed, put_after}
use Rattle.column_table.proofs.Cuts.{ids_total}
use Rattle.column_table.proofs.Spots.{none_after, all_after}
use Rattle.column_table.proofs.Chunks.{joined-append, around, sorted_chunk}

module _ (id : Tree) (cs : List Rows) (at : ℕ) (of : IsChunkOf id cs at) (c : Rows) (here : c ≡ get_or cs at c) where
  pub rest_after : filter (λ e. is_after (Some id) e.0) (joined cs) ≡ filter (λ e. is_after (Some id) e.0) c ++ joined (drop (at + 1) cs)
  rest_after =
      ap (filter (λ e. is_after (Some id) e.0)) (around cs at c of.within here)
      ∙ filter-append (λ e. is_after (Some id) e.0) (joined (take at cs)) (c ++ joined (drop (at + 1) cs))
      ∙ ap (λ l. l ++ filter (λ e. is_after (Some id) e.0) (c ++ joined (drop (at + 1) cs))) (none_after id (joined (take at cs)) of.below)
      ∙ filter-append (λ e. is_after (Some id) e.0) c (joined (drop (at + 1) cs))
      ∙ ap (λ l. filter (λ e. is_after (Some id) e.0) c ++ l) (all_after id (joined (drop (at + 1) cs)) of.above)

-- chunks from a place on aren't empty either
pub filled_from : (cs ds : List Rows) (at : ℕ) → ds ≡ drop at cs → Each (λ c. 1 ≤ length c) cs → Each (λ c. 1 ≤ length c) ds
filled_from cs ds at is h =
    subst (Each (λ c. 1 ≤ length c)) (sym is) (each_right (λ c. 1 ≤ length c) (take at cs) (drop at cs) (subst (Each (λ c. 1 ≤ length c)) (sym (take-append-drop at cs)) h))

-- where no id is given all rows come
pub after_none : (rows : Rows) → rows_after None rows ≡ rows
after_none [] = refl
after_none (e ∷ rows) = ap (λ l. e ∷ l) (after_none rows)

-- a table that has nothing before or after a chunk has its rows alone, and these are before an id that is after the last
pub past_all : (id : Tree) (cs : List Rows) (at : ℕ) (c front : Rows) (v : Version) (k : Tree) → IsChunkOf id cs at → ascends (joined cs) ≡ true → c ≡ get_or cs at c → length cs ≤ at + 1 → c ≡ front ++ keyed v ∷ [] → k ≡ id_of v.doc → Greater ≡ id_cmp id k → Below id (joined cs)
past_all id cs at c front v k of sorted here end is key greater =
    let less : id_cmp (id_of v.doc) id ≡ Less = before_reversed id_cmp ids_total id (id_of v.doc) (ap (id_cmp id) (sym key) ∙ sym greater) in
    let chunk : ascends (front ++ keyed v ∷ []) ≡ true = ap ascends (sym is) ∙ sorted_chunk cs at c of.within here sorted in
    let under : Below (id_of v.doc) front = (sorted_split id_cmp ids_total front (keyed v) [] chunk).0 in
    let rows : Below id (front ++ keyed v ∷ []) = each-append (λ e. id_cmp e.0 id ≡ Less) front (keyed v ∷ []) (under_less id_cmp ids_total (id_of v.doc) id less front under) (less, tt) in
    let none : joined (drop (at + 1) cs) ≡ [] = ap joined (drop_all (at + 1) cs end) in
    let rest : Below id (c ++ joined (drop (at + 1) cs)) = subst (Below id) (sym (ap (λ l. c ++ l) none ∙ append-nil c ∙ is)) rows in
    subst (Below id) (sym (around cs at c of.within here)) (each-append (λ e. id_cmp e.0 id ≡ Less) (joined (take at cs)) (c ++ joined (drop (at + 1) cs)) of.below rest)

-- a chunk of one row behind all others
pub behind_all : (v : Version) (cs cs' : List Rows) (c : Rows) → Below (id_of v.doc) (joined cs) → c ≡ keyed v ∷ [] → cs' ≡ cs ++ c ∷ [] → joined cs' ≡ with_version (id_of v.doc) v (joined cs)
behind_all v cs cs' c below is more =
    ap joined more ∙ joined-append cs (c ∷ []) ∙ ap (λ l. joined cs ++ (l ++ [])) is
    ∙ sym (put_after id_cmp ids_total (id_of v.doc) v (joined cs) [] below)
    ∙ ap (with_version (id_of v.doc) v) (append-nil (joined cs))

no_rows : (c : Rows) → length c ≡ 0 → c ≡ []
no_rows [] e = refl
no_rows (x ∷ c) e = absurd (omega arith)

pub without_empty : (cs : List Rows) (at : ℕ) (c : Rows) → at < length cs → c ≡ get_or cs at c → length c ≡ 0 → joined (remove cs at) ≡ joined cs
without_empty cs at c l e n =
    joined-append (take at cs) (drop (suc at) cs)
    ∙ ap (λ m. joined (take at cs) ++ joined (drop m cs)) (sym (add-one at))
    ∙ ap (λ z. joined (take at cs) ++ (z ++ joined (drop (at + 1) cs))) (sym (no_rows c n))
    ∙ sym (around cs at c l e)

pub all_filled : (cs : List Rows) (at : ℕ) (c : Rows) → at < length cs → c ≡ get_or cs at c → Each (λ c. 1 ≤ length c) (take at cs) → 1 ≤ length c → Each (λ c. 1 ≤ length c) (drop (at + 1) cs) → Each (λ c. 1 ≤ length c) cs
all_filled cs at c l e a b h =
    subst (Each (λ c. 1 ≤ length c)) (sym (split_at cs at c l e)) (each-append (λ c. 1 ≤ length c) (take at cs) (c ∷ drop (at + 1) cs) a (b, h))
