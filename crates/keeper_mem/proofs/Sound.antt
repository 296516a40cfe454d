-- Tables stay sound under the writes of a keeper.
use Rattle.col_keeper.specs.declared.answer.Dropped.{Dropped}
use Rattle.col_keeper.specs.declared.answer.Dropped.TheVariants as d
use Rattle.std.proofs.Common.{◌≡◌, ◌≢◌, ℕ, ◌-◌, ◌^◌, ◌<◌, ◌≤◌, Bool, true, false, cond, [], ◌∷◌, Some, None, refl, sym, ap, ◌∙◌, subst, arith}
use Rattle.std.proofs.lemmas.Slice.Eq.{bytes_eq-Decides}
use Rattle.col_keeper.specs.declared.answer.Made.{Made}
use Rattle.col_keeper.specs.declared.answer.Made.TheVariants as m
use Rattle.col_keeper.specs.Answers.{CreateAnswers}
use Rattle.std.specs.Prelude.{T}
use Rattle.std.specs.List.{AllByRecursion as Each}
use Rattle.std.specs.Str.{bytes_eq}
use Rattle.std.specs.Cmp.{IsTotalOrder}
use Rattle.std.specs.Ordering.{eq_by_cmp}
use Rattle.std.specs.declared.cmp.Ordering.TheVariants.{Less, Equal, Greater}
use Rattle.std.specs.FinMap.Entries.{by_order, is_sorted-put, is_sorted-where_key}
use Rattle.json_tree.specs.Tree.{Tree}
use Rattle.json_tree.specs.Id.{IsId, id_cmp}
use Rattle.shred_cols.specs.Row.{Version, id_of}
use Rattle.shred_cols.specs.Rows.{Rows, version_of, with_version, without, is_other}
use Rattle.col_keeper.specs.Tables.{Name, Collection, Collections, Tables, AreApart, IsEntry, IsCollection, IsTables, IsShort, rows_in, with_rows, with_collection, without_collection, written, created, dropped}

passes : (b : Bool) → T b → b ≡ true
passes true t = refl
passes false t = absurd t

each_raised : (a b : ℕ) (rows : Rows) → a ≤ b → Each (IsEntry a) rows → Each (IsEntry b) rows
each_raised a b [] l h = tt
each_raised a b (e ∷ rows) l h = let x = h.0.3 in ((h.0.0, h.0.1, h.0.2, omega arith), each_raised a b rows l h.1)

pub raised : (a b : ℕ) (rows : Rows) → a ≤ b → IsCollection a rows → IsCollection b rows
raised a b rows l h = record { ascends = h.ascends; entries = each_raised a b rows l h.entries }

module _ (total : IsTotalOrder id_cmp) (apart : (x y : Tree) → IsId x → IsId y → id_cmp x y ≡ Equal → x ≡ y) where
  each_put : (last : ℕ) (v : Version) (rows : Rows) → IsId (id_of v.doc) → IsShort (id_of v.doc) → v.tx ≤ last → Each (IsEntry last) rows → Each (IsEntry last) (with_version (id_of v.doc) v rows)
  each_put last v [] i s l h = ((refl, i, s, l), tt)
  each_put last v (e ∷ rows) i s l h =
      elim (id_cmp (id_of v.doc) e.0) as (λ r. id_cmp (id_of v.doc) e.0 ≡ r → Each (IsEntry last) (by_order r ((id_of v.doc, v) ∷ e ∷ rows) ((e.0, v) ∷ rows) (e ∷ with_version (id_of v.doc) v rows))) [
        | Less ↦ λ _. ((refl, i, s, l), (h.0, h.1))
        | Equal ↦ λ t. ((apart (id_of v.doc) e.0 i h.0.1 t, h.0.1, h.0.2, l), h.1)
        | Greater ↦ λ _. (h.0, each_put last v rows i s l h.1)
      ] refl

  pub collection_put : (last : ℕ) (v : Version) (rows : Rows) → IsId (id_of v.doc) → IsShort (id_of v.doc) → last ≤ v.tx → IsCollection last rows → IsCollection v.tx (with_version (id_of v.doc) v rows)
  collection_put last v rows i s l h = record {
    ascends = passes _ (is_sorted-put id_cmp total (id_of v.doc) v rows (subst T (sym h.ascends) tt));
    entries = each_put v.tx v rows i s (omega arith) (each_raised last v.tx rows l h.entries);
  }

each_without : (last : ℕ) (id : Tree) (rows : Rows) → Each (IsEntry last) rows → Each (IsEntry last) (without id rows)
each_without last id [] h = tt
each_without last id (e ∷ rows) h =
    elim (is_other id e.0) as (λ b. Each (IsEntry last) (cond b (e ∷ without id rows) (without id rows))) [ true ↦ (h.0, each_without last id rows h.1) | false ↦ each_without last id rows h.1 ]

pub collection_without : (last tx : ℕ) (id : Tree) (rows : Rows) → last ≤ tx → IsCollection last rows → IsCollection tx (without id rows)
collection_without last tx id rows l h = record {
  ascends = passes _ (is_sorted-where_key id_cmp (is_other id) rows (subst T (sym h.ascends) tt));
  entries = each_raised last tx (without id rows) l (each_without last id rows h.entries);
}

-- ---- the names differ

none_written : (m name : Name) (f : Rows → Rows) (cs : Collections) → rows_in m cs ≡ None → rows_in m (with_rows name f cs) ≡ None
none_written m name f [] h = refl
none_written m name f (c ∷ cs) h =
    elim (bytes_eq name c.name) as (λ b. rows_in m (cond b (record { name = c.name; rows = f c.rows } ∷ cs) (c ∷ with_rows name f cs)) ≡ None) [
      | true ↦ elim (bytes_eq m c.name) as (λ x. cond x (Some c.rows) (rows_in m cs) ≡ None → cond x (Some (f c.rows)) (rows_in m cs) ≡ None) [ true ↦ λ e. cc | false ↦ λ e. e ] h
      | false ↦ elim (bytes_eq m c.name) as (λ x. cond x (Some c.rows) (rows_in m cs) ≡ None → cond x (Some c.rows) (rows_in m (with_rows name f cs)) ≡ None) [ true ↦ λ e. cc | false ↦ λ e. none_written m name f cs e ] h
    ]

apart_written : (name : Name) (f : Rows → Rows) (cs : Collections) → AreApart cs → AreApart (with_rows name f cs)
apart_written name f [] h = tt
apart_written name f (c ∷ cs) h =
    elim (bytes_eq name c.name) as (λ b. AreApart (cond b (record { name = c.name; rows = f c.rows } ∷ cs) (c ∷ with_rows name f cs))) [
      | true ↦ h
      | false ↦ (none_written c.name name f cs h.0, apart_written name f cs h.1)
    ]

none_appended : (m name : Name) (cs : Collections) → bytes_eq m name ≡ false → rows_in m cs ≡ None → rows_in m (with_collection name cs) ≡ None
none_appended m name [] other h = ap (λ b. cond b (Some []) None) other
none_appended m name (c ∷ cs) other h =
    elim (bytes_eq m c.name) as (λ x. cond x (Some c.rows) (rows_in m cs) ≡ None → cond x (Some c.rows) (rows_in m (with_collection name cs)) ≡ None) [ true ↦ λ e. cc | false ↦ λ e. none_appended m name cs other e ] h

-- a name that isn't there is another than the first, and isn't among the rest
other_name : (name : Name) (c : Collection) (cs : Collections) → rows_in name (c ∷ cs) ≡ None → (bytes_eq c.name name ≡ false) × (rows_in name cs ≡ None)
other_name name c cs h =
    elim (bytes_eq name c.name) as (λ x. bytes_eq name c.name ≡ x → cond x (Some c.rows) (rows_in name cs) ≡ None → (bytes_eq c.name name ≡ false) × (rows_in name cs ≡ None)) [
      | true ↦ λ q e. cc
      | false ↦ λ q e. (turned q (bytes_eq c.name name) refl, e)
    ] refl h
  where
    no : true ≡ false → ⊥
    no e = cc

    turned : bytes_eq name c.name ≡ false → (b : Bool) → bytes_eq c.name name ≡ b → bytes_eq c.name name ≡ false
    turned q false e = e
    turned q true e = absurd (no (sym ((bytes_eq-Decides name c.name).1 (sym ((bytes_eq-Decides c.name name).0 e))) ∙ q))

apart_created : (name : Name) (cs : Collections) → rows_in name cs ≡ None → AreApart cs → AreApart (with_collection name cs)
apart_created name [] new h = (refl, tt)
apart_created name (c ∷ cs) new h =
    let other = other_name name c cs new in
    (none_appended c.name name cs other.0 h.0, apart_created name cs other.1 h.1)

none_dropped : (m name : Name) (cs : Collections) → rows_in m cs ≡ None → rows_in m (without_collection name cs) ≡ None
none_dropped m name [] h = refl
none_dropped m name (c ∷ cs) h =
    elim (bytes_eq m c.name) as (λ x. bytes_eq m c.name ≡ x → cond x (Some c.rows) (rows_in m cs) ≡ None → rows_in m (cond (bytes_eq name c.name) cs (c ∷ without_collection name cs)) ≡ None) [
      | true ↦ λ q e. cc
      | false ↦ λ q e. elim (bytes_eq name c.name) as (λ b. rows_in m (cond b cs (c ∷ without_collection name cs)) ≡ None) [
        | true ↦ e
        | false ↦ ap (λ x. cond x (Some c.rows) (rows_in m (without_collection name cs))) q ∙ none_dropped m name cs e
      ]
    ] refl h

apart_dropped : (name : Name) (cs : Collections) → AreApart cs → AreApart (without_collection name cs)
apart_dropped name [] h = tt
apart_dropped name (c ∷ cs) h =
    elim (bytes_eq name c.name) as (λ b. AreApart (cond b cs (c ∷ without_collection name cs))) [
      | true ↦ h.1
      | false ↦ (none_dropped c.name name cs h.0, apart_dropped name cs h.1)
    ]

-- ---- tables after a write

each_with : (last tx : ℕ) (name : Name) (f : Rows → Rows) (cs : Collections) → last ≤ tx → ((rows : Rows) → IsCollection last rows → IsCollection tx (f rows)) → Each (λ c. IsCollection last c.rows) cs → Each (λ c. IsCollection tx c.rows) (with_rows name f cs)
each_with last tx name f [] l g h = tt
each_with last tx name f (c ∷ cs) l g h =
    let rest : Each (λ c. IsCollection tx c.rows) cs = up cs h.1 in
    elim (bytes_eq name c.name) as (λ b. Each (λ c. IsCollection tx c.rows) (cond b (record { name = c.name; rows = f c.rows } ∷ cs) (c ∷ with_rows name f cs))) [
      | true ↦ (g c.rows h.0, rest)
      | false ↦ (raised last tx c.rows l h.0, each_with last tx name f cs l g h.1)
    ]
  where
    up : (cs : Collections) → Each (λ c. IsCollection last c.rows) cs → Each (λ c. IsCollection tx c.rows) cs
    up [] h = tt
    up (c ∷ cs) h = (raised last tx c.rows l h.0, up cs h.1)

pub tables_written : (name : Name) (f : Rows → Rows) (tx : ℕ) (t : Tables) → t.last < tx → tx < 2 ^ 63 - 1 → ((rows : Rows) → IsCollection t.last rows → IsCollection tx (f rows)) → IsTables t → IsTables (written name f tx t)
tables_written name f tx t l b g h = record { bounded = b; rows = each_with t.last tx name f t.collections (omega arith) g h.rows; apart = apart_written name f t.collections h.apart }

each_more : (last : ℕ) (name : Name) (cs : Collections) → Each (λ c. IsCollection last c.rows) cs → Each (λ c. IsCollection last c.rows) (with_collection name cs)
each_more last name [] h = (record { ascends = refl; entries = tt }, tt)
each_more last name (c ∷ cs) h = (h.0, each_more last name cs h.1)

pub tables_created : (name : Name) (t : Tables) → rows_in name t.collections ≡ None → IsTables t → IsTables (created name t)
tables_created name t new h = record { bounded = h.bounded; rows = each_more t.last name t.collections h.rows; apart = apart_created name t.collections new h.apart }

each_less : (last : ℕ) (name : Name) (cs : Collections) → Each (λ c. IsCollection last c.rows) cs → Each (λ c. IsCollection last c.rows) (without_collection name cs)
each_less last name [] h = tt
each_less last name (c ∷ cs) h = elim (bytes_eq name c.name) as (λ b. Each (λ c. IsCollection last c.rows) (cond b cs (c ∷ without_collection name cs))) [ true ↦ h.1 | false ↦ (h.0, each_less last name cs h.1) ]

pub tables_dropped : (name : Name) (t : Tables) → IsTables t → IsTables (dropped name t)
tables_dropped name t h = record { bounded = h.bounded; rows = each_less t.last name t.collections h.rows; apart = apart_dropped name t.collections h.apart }

-- ---- what the rows of a sound collection are

pub sound_rows : (last : ℕ) (name : Name) (cs : Collections) (rows : Rows) → Some rows ≡ rows_in name cs → Each (λ c. IsCollection last c.rows) cs → IsCollection last rows
sound_rows last name [] rows e h = cc
sound_rows last name (c ∷ cs) rows e h =
    elim (bytes_eq name c.name) as (λ b. Some rows ≡ cond b (Some c.rows) (rows_in name cs) → IsCollection last rows) [
      | true ↦ λ e. subst (IsCollection last) (same c.rows rows (sym e)) h.0
      | false ↦ λ e. sound_rows last name cs rows e h.1
    ] e
  where
    same : (a b : Rows) → Some a ≡ Some b → a ≡ b
    same a b q = cc

pub sound_version : (last : ℕ) (id : Tree) (rows : Rows) (v : Version) → version_of id rows ≡ Some v → Each (IsEntry last) rows → IsShort (id_of v.doc)
sound_version last id [] v e h = cc
sound_version last id (x ∷ rows) v e h =
    elim (eq_by_cmp id_cmp id x.0) as (λ b. cond b (Some x.1) (version_of id rows) ≡ Some v → IsShort (id_of v.doc)) [
      | true ↦ λ e. subst (λ (v : Version). IsShort (id_of v.doc)) (same x.1 v e) (subst IsShort (sym h.0.0) h.0.2)
      | false ↦ λ e. sound_version last id rows v e h.1
    ] e
  where
    same : (a b : Version) → Some a ≡ Some b → a ≡ b
    same a b q = cc

-- dropped or not
pub dropping_sound : (r : Dropped) (name : Name) (old new : Collections) (last : ℕ) → (r ≡ d.Done → new ≡ without_collection name old) → (r ≢ d.Done → new ≡ old) → IsTables (record { collections = old; last = last }) → IsTables (record { collections = new; last = last })
dropping_sound d.Done name old new last f g h = subst (λ (cs : Collections). IsTables (record { collections = cs; last = last })) (sym (f refl)) (tables_dropped name (record { collections = old; last = last }) h)
dropping_sound d.Absent name old new last f g h = subst (λ (cs : Collections). IsTables (record { collections = cs; last = last })) (sym (g (λ e. cc))) h
dropping_sound d.Failed name old new last f g h = subst (λ (cs : Collections). IsTables (record { collections = cs; last = last })) (sym (g (λ e. cc))) h
dropping_sound d.NoMemory name old new last f g h = subst (λ (cs : Collections). IsTables (record { collections = cs; last = last })) (sym (g (λ e. cc))) h

-- made or not
pub creating_sound : (r : Made) (name : Name) (old new : Collections) (last most : ℕ) → CreateAnswers old name most r → (r ≡ m.Done → new ≡ with_collection name old) → (r ≢ m.Done → new ≡ old) → IsTables (record { collections = old; last = last }) → IsTables (record { collections = new; last = last })
creating_sound m.Done name old new last most a f g h = subst (λ (cs : Collections). IsTables (record { collections = cs; last = last })) (sym (f refl)) (tables_created name (record { collections = old; last = last }) a.0 h)
creating_sound m.There name old new last most a f g h = subst (λ (cs : Collections). IsTables (record { collections = cs; last = last })) (sym (g (λ e. cc))) h
creating_sound (m.Full found) name old new last most a f g h = subst (λ (cs : Collections). IsTables (record { collections = cs; last = last })) (sym (g (λ e. cc))) h
creating_sound m.Failed name old new last most a f g h = subst (λ (cs : Collections). IsTables (record { collections = cs; last = last })) (sym (g (λ e. cc))) h
creating_sound m.NoMemory name old new last most a f g h = subst (λ (cs : Collections). IsTables (record { collections = cs; last = last })) (sym (g (λ e. cc))) h
