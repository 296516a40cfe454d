-- Rows stay in the order of their ids, whatever is written.
use Rattle.std.proofs.Common.{◌≡◌, ℕ, zero, suc, List, [], ◌∷◌, ◌++◌, map, take, reverse, Bool, true, false, cond, Option, Some, None, refl, sym, subst}
use Rattle.std.specs.Prelude.{T}
use Rattle.std.specs.List.{AllByRecursion as Each}
use Rattle.std.specs.Str.{bytes_eq}
use Rattle.std.specs.FinMap.Entries as entries
use Rattle.std.proofs.lemmas.List.{reverse-append}
use Rattle.json_tree.specs.Tree.{Tree}
use Rattle.json_tree.specs.Id.{id_cmp}
use Rattle.shred_cols.specs.Row.{Version}
use Rattle.shred_cols.specs.Rows.{Rows, ascends, is_other}
use Rattle.col_keeper.specs.Tables.{Name, Collections, rows_in, with_rows, without_collection}
use Rattle.store_core.specs.State.{State}
use Rattle.store_core.specs.Journal.{put, new_doc, after, replay}
use Rattle.store_core.specs.declared.entry.Entry.{Entry}
use Rattle.store_core.specs.declared.entry.Entry.TheVariants.{Opened, Created, Dropped, Changed, Failed}
use Rattle.cmd_tasks.specs.Trace.{Sight, sight, point, rows_now}
use Rattle.cmd_tasks.specs.Served.{sights}
use Rattle.cmd_tasks.specs.declared.trace.Item.{Item}
use Rattle.cmd_tasks.proofs.Listing.{ids_total}

holds : (b : Bool) → b ≡ true → T b
holds true e = tt
holds false e = cc

held : (b : Bool) → T b → b ≡ true
held true t = refl
held false t = absurd t

pub each_append : {A : Type 0} (P : A → Type 0) (xs ys : List A) → Each P xs → Each P ys → Each P (xs ++ ys)
each_append P [] ys h more = more
each_append P (x ∷ xs) ys h more = (h.0, each_append P xs ys h.1 more)

pub each_take : {A : Type 0} (P : A → Type 0) (n : ℕ) (xs : List A) → Each P xs → Each P (take n xs)
each_take P zero xs h = tt
each_take P (suc n) [] h = tt
each_take P (suc n) (x ∷ xs) h = (h.0, each_take P n xs h.1)

-- ---- rows

abbrev Ascend : Rows → Type 0
Ascend r = ascends r ≡ true

put_ascends : (id : Tree) (tx : ℕ) (doc : Option Tree) (r : Rows) → Ascend r → Ascend (put id tx doc r)
put_ascends id tx None r h = held _ (entries.is_sorted-where_key id_cmp (is_other id) r (holds _ h))
put_ascends id tx (Some d) r h = let v : Version = record { tx = tx; doc = d } in held _ (entries.is_sorted-put id_cmp ids_total id v r (holds _ h))

-- ---- collections

abbrev pub InOrder : Collections → Type 0
InOrder cs = Each (λ c. ascends c.rows ≡ true) cs

order_with : (coll : Name) (g : Rows → Rows) (cs : Collections) → ((r : Rows) → Ascend r → Ascend (g r)) → InOrder cs → InOrder (with_rows coll g cs)
order_with coll g [] keeps h = tt
order_with coll g (c ∷ cs) keeps h =
    elim (bytes_eq coll c.name) as (λ b. InOrder (cond b (record c { rows = g c.rows } ∷ cs) (c ∷ with_rows coll g cs))) [ true ↦ (keeps c.rows h.0, h.1) | false ↦ (h.0, order_with coll g cs keeps h.1) ]

order_without : (coll : Name) (cs : Collections) → InOrder cs → InOrder (without_collection coll cs)
order_without coll [] h = tt
order_without coll (c ∷ cs) h = elim (bytes_eq coll c.name) as (λ b. InOrder (cond b cs (c ∷ without_collection coll cs))) [ true ↦ h.1 | false ↦ (h.0, order_without coll cs h.1) ]

order_after : (s : State) (e : Entry) → InOrder s.collections → InOrder (after s e).collections
order_after s (Opened k) h = h
order_after s (Created by coll) h = each_append _ s.collections _ h (refl, tt)
order_after s (Dropped by coll) h = order_without coll s.collections h
order_after s (Changed by coll id change before tx) h = order_with coll (put id tx (new_doc change)) s.collections (put_ascends id tx (new_doc change)) h
order_after s (Failed by before count) h = h

order_replay : (s : State) (es : List Entry) → InOrder s.collections → InOrder (replay s es).collections
order_replay s [] h = h
order_replay s (e ∷ es) h = order_replay (after s e) es (order_after s e h)

rows_there : (coll : Name) (cs : Collections) → InOrder cs → Ascend (elim (rows_in coll cs) as (λ _. Rows) [ None ↦ [] | Some r ↦ r ])
rows_there coll [] h = refl
rows_there coll (c ∷ cs) h =
    elim (bytes_eq coll c.name) as (λ b. Ascend (elim (cond b (Some c.rows) (rows_in coll cs)) as (λ _. Rows) [ None ↦ [] | Some r ↦ r ])) [ true ↦ h.0 | false ↦ rows_there coll cs h.1 ]

-- ---- sights

each_reverse : {A : Type 0} (P : A → Type 0) (xs : List A) → Each P xs → Each P (reverse xs)
each_reverse P [] h = tt
each_reverse P (x ∷ xs) h = subst (Each P) (sym (reverse-append (x ∷ []) xs)) (each_append P (reverse xs) (x ∷ []) (each_reverse P xs h.1) (h.0, tt))

each_map : {A B : Type 0} (P : B → Type 0) (g : A → B) (xs : List A) → Each (λ x. P (g x)) xs → Each P (map g xs)
each_map P g [] h = tt
each_map P g (x ∷ xs) h = (h.0, each_map P g xs h.1)

pub each_sight : (P : Sight → Type 0) (H : List Entry) (trace : List Item) → Each (λ i. P (sight H i)) trace → Each P (sights H trace)
each_sight P H trace h = each_reverse P (map (sight H) trace) (each_map P (sight H) trace h)

module _ (base : State) (H : List Entry) (coll : Name) (sorted : InOrder base.collections) where
  seen_rows : (trace : List Item) → Each (λ i. ascends (rows_now base coll (sight H i)) ≡ true) trace
  seen_rows [] = tt
  seen_rows (i ∷ trace) = (rows_there coll _ (order_replay base (take (point i) H) sorted), seen_rows trace)

  -- each item saw rows in order
  pub sights_rows : (trace : List Item) → Each (λ s. ascends (rows_now base coll s) ≡ true) (sights H trace)
  sights_rows trace = each_sight (λ s. ascends (rows_now base coll s) ≡ true) H trace (seen_rows trace)
