-- The versions under an id, from entry to entry.
use Rattle.std.proofs.Common.{◌≡◌, ◌≢◌, ℕ, zero, suc, ◌+◌, ◌<◌, ◌≤◌, List, [], ◌∷◌, ◌++◌, take, drop, length, Bool, true, false, not, ◌&&◌, ◌||◌, cond, if◌then◌else◌, Option, Some, None, refl, sym, ap, ◌∙◌, subst, arith, inl, inr, ⊎_elim, ◌⊎◌}
use Rattle.std.specs.Prelude.{option_and_then, slice_get}
use Rattle.std.specs.Option.{option_map}
use Rattle.std.specs.List.{list_any}
use Rattle.std.specs.declared.cmp.Ordering.{Ordering}
use Rattle.std.specs.declared.cmp.Ordering.TheVariants.{Equal}
use Rattle.std.specs.FinMap.Entries.{find-put, find-where_key}
use Rattle.std.specs.Str.{bytes_eq}
use Rattle.std.proofs.lemmas.List.{take-append-drop}
use Rattle.std.proofs.lemmas.Slice.Eq.{bytes_eq-Decides}
use Rattle.store_core.proofs.Histories.{replay-append}
use Rattle.json_tree.specs.Tree.{Tree}
use Rattle.json_tree.specs.Id.{id_cmp}
use Rattle.shred_cols.specs.Row.{Version}
use Rattle.shred_cols.specs.Rows.{Rows, version_of, is_other}
use Rattle.col_keeper.specs.Tables.{Name, Collection, Collections, AreApart, rows_in, version_at, with_rows, with_collection, without_collection}
use Rattle.store_core.specs.State.{State, IsOld, IsGone, version, number_at}
use Rattle.store_core.specs.Journal.{after, put, new_doc, Legal, LegalChange, FitsVersion, replay, IsJournal, state_at}
use Rattle.store_core.specs.Numbers.{is_at, touches, left_by, leaves, last_number}
use Rattle.store_core.specs.declared.entry.Change.{Change}
use Rattle.store_core.specs.declared.entry.Change.TheVariants.{Insert, Replace, Update, Delete}
use Rattle.store_core.specs.declared.entry.Entry.{Entry}
use Rattle.store_core.specs.declared.entry.Entry.TheVariants.{Opened, Created, Dropped, Changed, Failed}
use Rattle.std.specs.Ordering.{eq_by_cmp, is_eq}
use Rattle.std.specs.Cmp.{IsTotalOrder, alike_right, eq_by_cmp_equiv}
use Rattle.std.proofs.lemmas.Cmp.{then_total, on_total, nat_cmp_total, int_cmp_total, lists_total}
use Rattle.json_tree.specs.Id.{id_tag, id_text, id_number}

ids_total : IsTotalOrder id_cmp
ids_total = then_total (on_total id_tag nat_cmp_total) (then_total (on_total id_text (lists_total nat_cmp_total)) (on_total id_number int_cmp_total))

same_some : {A : Type 0} (a b : A) → Some a ≡ Some b → a ≡ b
same_some a b e = cc

not_none : {A : Type 0} (a : A) → ◌≡◌ {A = Option A} None (Some a) → ⊥
not_none a e = cc

-- ---- names

name_same : (a b : Name) → bytes_eq a b ≡ true → a ≡ b
name_same a b e = (bytes_eq-Decides a b).0 e

names_apart : (coll c n : Name) → bytes_eq c n ≡ false → bytes_eq coll n ≡ true → bytes_eq coll c ≡ false
names_apart coll c n e q = go (bytes_eq coll c) refl
  where
    no : bytes_eq c n ≡ true → ⊥
    no z = cc

    go : (t : Bool) → bytes_eq coll c ≡ t → t ≡ false
    go true t = absurd (no (subst (λ (m : Name). bytes_eq m n ≡ true) (name_same coll c t) q))
    go false t = refl

name_turned : (a b : Name) → bytes_eq a b ≡ false → bytes_eq b a ≡ false
name_turned a b e = go (bytes_eq b a) refl
  where
    no : bytes_eq a b ≡ true → ⊥
    no z = cc

    go : (t : Bool) → bytes_eq b a ≡ t → t ≡ false
    go true t = absurd (no ((bytes_eq-Decides a b).1 (sym (name_same b a t))))
    go false t = refl

-- ---- the rows of a collection

none_either : (b : Bool) (f : Rows → Rows) → ◌≡◌ {A = Option Rows} None (cond b (option_map f None) None)
none_either true f = refl
none_either false f = refl

rows_with : (c coll : Name) (f : Rows → Rows) (cs : Collections) → rows_in coll (with_rows c f cs) ≡ cond (bytes_eq coll c) (option_map f (rows_in coll cs)) (rows_in coll cs)
rows_with c coll f [] = none_either (bytes_eq coll c) f
rows_with c coll f (d ∷ ds) = elim (bytes_eq c d.name) as (λ t. bytes_eq c d.name ≡ t → rows_in coll (if t then record d { rows = f d.rows } ∷ ds else d ∷ with_rows c f ds) ≡ cond (bytes_eq coll c) (option_map f (rows_in coll (d ∷ ds))) (rows_in coll (d ∷ ds))) [
  | true ↦ λ e. here (bytes_eq coll d.name) (bytes_eq coll c) (ap (bytes_eq coll) (sym (name_same c d.name e)))
  | false ↦ λ e. elim (bytes_eq coll d.name) as (λ t. bytes_eq coll d.name ≡ t → (if t then Some d.rows else rows_in coll (with_rows c f ds)) ≡ cond (bytes_eq coll c) (option_map f (if t then Some d.rows else rows_in coll ds)) (if t then Some d.rows else rows_in coll ds)) [
    | true ↦ λ q. ap (λ (b : Bool). cond b (Some (f d.rows)) (Some d.rows)) (sym (names_apart coll c d.name e q))
    | false ↦ λ q. rows_with c coll f ds
  ] refl
] refl
  where
    here : (a b : Bool) → a ≡ b → (if a then Some (f d.rows) else rows_in coll ds) ≡ cond b (option_map f (if a then Some d.rows else rows_in coll ds)) (if a then Some d.rows else rows_in coll ds)
    here true true e = refl
    here true false e = cc
    here false true e = cc
    here false false e = refl

rows_without : (c coll : Name) (cs : Collections) → bytes_eq coll c ≡ false → rows_in coll (without_collection c cs) ≡ rows_in coll cs
rows_without c coll [] e = refl
rows_without c coll (d ∷ ds) e = elim (bytes_eq c d.name) as (λ t. bytes_eq c d.name ≡ t → rows_in coll (if t then ds else d ∷ without_collection c ds) ≡ rows_in coll (d ∷ ds)) [
  | true ↦ λ q. ap (λ (b : Bool). if b then Some d.rows else rows_in coll ds) (sym (subst (λ (n : Name). bytes_eq coll n ≡ false) (name_same c d.name q) e))
  | false ↦ λ q. ap (λ (o : Option Rows). if bytes_eq coll d.name then Some d.rows else o) (rows_without c coll ds e)
] refl

none_without : (c coll : Name) (cs : Collections) → AreApart cs → bytes_eq coll c ≡ true → rows_in coll (without_collection c cs) ≡ None
none_without c coll [] apart e = refl
none_without c coll (d ∷ ds) apart e = elim (bytes_eq c d.name) as (λ t. bytes_eq c d.name ≡ t → rows_in coll (if t then ds else d ∷ without_collection c ds) ≡ None) [
  | true ↦ λ q. subst (λ (n : Name). rows_in n ds ≡ None) (sym (name_same coll c e ∙ name_same c d.name q)) apart.0
  | false ↦ λ q. ap (λ (b : Bool). if b then Some d.rows else rows_in coll (without_collection c ds)) (ap (λ (n : Name). bytes_eq n d.name) (name_same coll c e) ∙ q) ∙ none_without c coll ds apart.1 e
] refl

version_more : (coll c : Name) (x : Tree) (cs : Collections) → version_at coll x (with_collection c cs) ≡ version_at coll x cs
version_more coll c x [] = elim (bytes_eq coll c) as (λ t. ◌≡◌ {A = Option Version} (option_and_then {U = Version} (version_of x) (if t then Some [] else None)) None) [ true ↦ refl | false ↦ refl ]
version_more coll c x (d ∷ ds) = elim (bytes_eq coll d.name) as (λ t. option_and_then (version_of x) (if t then Some d.rows else rows_in coll (with_collection c ds)) ≡ option_and_then (version_of x) (if t then Some d.rows else rows_in coll ds)) [ true ↦ refl | false ↦ version_more coll c x ds ]

-- ---- the names stay apart

rest_none : (b : Bool) (r : Rows) (o : Option Rows) → (if b then Some r else o) ≡ None → (b ≡ false) × (o ≡ None)
rest_none true r o e = cc
rest_none false r o e = (refl, e)

none_stays : (n c : Name) (cs : Collections) → rows_in n cs ≡ None → rows_in n (without_collection c cs) ≡ None
none_stays n c [] e = refl
none_stays n c (d ∷ ds) e = let h = rest_none (bytes_eq n d.name) d.rows (rows_in n ds) e in elim (bytes_eq c d.name) as (λ t. rows_in n (if t then ds else d ∷ without_collection c ds) ≡ None) [
  | true ↦ h.1
  | false ↦ ap (λ (b : Bool). if b then Some d.rows else rows_in n (without_collection c ds)) h.0 ∙ none_stays n c ds h.1
]

none_more : (n c : Name) (cs : Collections) → bytes_eq n c ≡ false → rows_in n cs ≡ None → rows_in n (with_collection c cs) ≡ None
none_more n c [] q e = ap (λ (b : Bool). if b then Some [] else None) q
none_more n c (d ∷ ds) q e = let h = rest_none (bytes_eq n d.name) d.rows (rows_in n ds) e in ap (λ (b : Bool). if b then Some d.rows else rows_in n (with_collection c ds)) h.0 ∙ none_more n c ds q h.1

none_with : (n c : Name) (f : Rows → Rows) (cs : Collections) → rows_in n cs ≡ None → rows_in n (with_rows c f cs) ≡ None
none_with n c f cs e = rows_with c n f cs ∙ (ap (λ (o : Option Rows). cond (bytes_eq n c) (option_map f o) o) e ∙ sym (none_either (bytes_eq n c) f))

apart_with : (c : Name) (f : Rows → Rows) (cs : Collections) → AreApart cs → AreApart (with_rows c f cs)
apart_with c f [] h = tt
apart_with c f (d ∷ ds) h = elim (bytes_eq c d.name) as (λ t. AreApart (if t then record d { rows = f d.rows } ∷ ds else d ∷ with_rows c f ds)) [
  | true ↦ h
  | false ↦ (none_with d.name c f ds h.0, apart_with c f ds h.1)
]

apart_more : (c : Name) (cs : Collections) → rows_in c cs ≡ None → AreApart cs → AreApart (with_collection c cs)
apart_more c [] e h = (refl, tt)
apart_more c (d ∷ ds) e h = let r = rest_none (bytes_eq c d.name) d.rows (rows_in c ds) e in (none_more d.name c ds (name_turned c d.name r.0) h.0, apart_more c ds r.1 h.1)

apart_without : (c : Name) (cs : Collections) → AreApart cs → AreApart (without_collection c cs)
apart_without c [] h = tt
apart_without c (d ∷ ds) h = elim (bytes_eq c d.name) as (λ t. AreApart (if t then ds else d ∷ without_collection c ds)) [
  | true ↦ h.1
  | false ↦ (none_stays d.name c ds h.0, apart_without c ds h.1)
]

apart_after : (s : State) (e : Entry) → Legal s e → AreApart s.collections → AreApart (after s e).collections
apart_after s (Opened k) l h = h
apart_after s (Created by c) l h = apart_more c s.collections l.1 h
apart_after s (Dropped by c) l h = apart_without c s.collections h
apart_after s (Changed by c i change before tx) l h = apart_with c (put i tx (new_doc change)) s.collections h
apart_after s (Failed by before count) l h = h

-- ---- the version under an id after an entry

abbrev pub versioned : ℕ → Option Tree → Option Version
versioned tx doc = option_map (λ d. record { tx = tx; doc = d }) doc

abbrev pub made_by : Entry → Option Version
made_by (Opened k) = None
made_by (Created by c) = None
made_by (Dropped by c) = None
made_by (Changed by c i change before tx) = versioned tx (new_doc change)
made_by (Failed by before count) = None

turned : (x i : Tree) → eq_by_cmp id_cmp i x ≡ eq_by_cmp id_cmp x i
turned x i = (eq_by_cmp_equiv ids_total).symm i x

not_turned : (b : Bool) (o : Option Version) → cond (not b) o None ≡ cond b None o
not_turned true o = refl
not_turned false o = refl

version_put : (i x : Tree) (tx : ℕ) (new : Option Tree) (rows : Rows) → version_of x (put i tx new rows) ≡ cond (eq_by_cmp id_cmp x i) (versioned tx new) (version_of x rows)
version_put i x tx None rows =
    find-where_key id_cmp (is_other i) x (λ y e. ap (λ (r : Ordering). not (is_eq r)) (sym (alike_right ids_total x y i e))) rows
    ∙ (ap (λ (b : Bool). cond (not b) (version_of x rows) None) (turned x i) ∙ not_turned (eq_by_cmp id_cmp x i) (version_of x rows))
version_put i x tx (Some d) rows = find-put id_cmp ids_total x i (record { tx = tx; doc = d }) rows

-- in the collection of that name, which lives
changed_rows : (i x : Tree) (tx : ℕ) (new : Option Tree) (a : Bool) (o : Option Rows) → ((r : Rows) × (o ≡ Some r)) ⊎ (a ≡ false)
    → option_and_then (version_of x) (cond a (option_map (put i tx new) o) o) ≡ cond (a && eq_by_cmp id_cmp x i) (versioned tx new) (option_and_then (version_of x) o)
changed_rows i x tx new false o lives = refl
changed_rows i x tx new true None lives = ⊎_elim (λ h. absurd (not_none h.0 h.1)) (λ e. cc) lives
changed_rows i x tx new true (Some r) lives = version_put i x tx new r

lives_or : (c coll : Name) (cs : Collections) (a : Bool) → bytes_eq coll c ≡ a → ((r : Rows) × (rows_in c cs ≡ Some r)) → ((r : Rows) × (rows_in coll cs ≡ Some r)) ⊎ (a ≡ false)
lives_or c coll cs true e h = inl (h.0, ap (λ (n : Name). rows_in n cs) (name_same coll c e) ∙ h.1)
lives_or c coll cs false e h = inr refl

pub version_after : (s : State) (e : Entry) (coll : Name) (x : Tree) → Legal s e → AreApart s.collections → version (after s e) coll x ≡ cond (touches coll x e) (made_by e) (version s coll x)
version_after s (Opened k) coll x l apart = refl
version_after s (Created by c) coll x l apart = version_more coll c x s.collections
version_after s (Dropped by c) coll x l apart = elim (bytes_eq coll c) as (λ t. bytes_eq coll c ≡ t → version_at coll x (without_collection c s.collections) ≡ cond t None (version s coll x)) [
  | true ↦ λ e. ap (option_and_then (version_of x)) (none_without c coll s.collections apart e)
  | false ↦ λ e. ap (option_and_then (version_of x)) (rows_without c coll s.collections e)
] refl
version_after s (Changed by c i change before tx) coll x l apart =
    ap (option_and_then (version_of x)) (rows_with c coll (put i tx (new_doc change)) s.collections)
    ∙ changed_rows i x tx (new_doc change) (bytes_eq coll c) (rows_in coll s.collections) (lives_or c coll s.collections (bytes_eq coll c) refl l.1.lives)
version_after s (Failed by before count) coll x l apart = refl

-- ---- numbers

number_versioned : (tx : ℕ) (new : Option Tree) → option_map (λ (v : Version). v.tx) (versioned tx new) ≡ option_map (λ d. tx) new
number_versioned tx None = refl
number_versioned tx (Some d) = refl

left_so : (e : Entry) → option_map (λ (v : Version). v.tx) (made_by e) ≡ leaves e
left_so (Opened k) = refl
left_so (Created by c) = refl
left_so (Dropped by c) = refl
left_so (Changed by c i change before tx) = number_versioned tx (new_doc change)
left_so (Failed by before count) = refl

either_number : (b : Bool) (o p : Option Version) (n : Option ℕ) → option_map (λ (v : Version). v.tx) o ≡ n → option_map (λ (v : Version). v.tx) (cond b o p) ≡ (if b then n else option_map (λ (v : Version). v.tx) p)
either_number true o p n e = e
either_number false o p n e = refl

number_after : (s : State) (e : Entry) (coll : Name) (x : Tree) → Legal s e → AreApart s.collections → number_at (after s e) coll x ≡ (if touches coll x e then leaves e else number_at s coll x)
number_after s e coll x l apart = ap (option_map (λ (v : Version). v.tx)) (version_after s e coll x l apart) ∙ either_number (touches coll x e) (made_by e) (version s coll x) (leaves e) (left_so e)

pub number_told : (s : State) (es : List Entry) (coll : Name) (x : Tree) → IsJournal s es → AreApart s.collections → number_at (replay s es) coll x ≡ last_number coll x (number_at s coll x) es
number_told s [] coll x j apart = refl
number_told s (e ∷ es) coll x j apart = number_told (after s e) es coll x j.1 (apart_after s e j.0 apart) ∙ ap (λ (n : Option ℕ). last_number coll x n es) (number_after s e coll x j.0 apart)

fits_number : (change : Change) (found : Option Version) (before : Option ℕ) → FitsVersion change found before → before ≡ option_map (λ (v : Version). v.tx) found
fits_number (Insert doc) found before h = h.1 ∙ ap (option_map (λ (v : Version). v.tx)) (sym h.0)
fits_number (Replace doc) found before h = h.2 ∙ ap (option_map (λ (v : Version). v.tx)) (sym h.1)
fits_number (Update updates moment doc) found before h = h.2 ∙ ap (option_map (λ (v : Version). v.tx)) (sym h.1)
fits_number Delete found before h = h.2 ∙ ap (option_map (λ (v : Version). v.tx)) (sym h.1)

legal_number : (s : State) (e : Entry) (by : ℕ) (coll : Name) (x : Tree) (change : Change) (before : Option ℕ) (tx : ℕ) → Legal s e → Some e ≡ Some (Changed by coll x change before tx) → before ≡ number_at s coll x
legal_number s e by coll x change before tx l is = let h : Legal s (Changed by coll x change before tx) = subst (Legal s) (same_some e (Changed by coll x change before tx) is) l in fits_number change (version s coll x) before h.1.found

pub follows : (s : State) (es : List Entry) (n by : ℕ) (coll : Name) (x : Tree) (change : Change) (before : Option ℕ) (tx : ℕ) → IsJournal s es → AreApart s.collections
    → slice_get es n ≡ Some (Changed by coll x change before tx) → before ≡ last_number coll x (number_at s coll x) (take n es)
follows s [] n by coll x change before tx j apart e = cc
follows s (e ∷ es) zero by coll x change before tx j apart is = legal_number s e by coll x change before tx j.0 is
follows s (e ∷ es) (suc n) by coll x change before tx j apart is =
    follows (after s e) es n by coll x change before tx j.1 (apart_after s e j.0 apart) is ∙ ap (λ (m : Option ℕ). last_number coll x m (take n es)) (number_after s e coll x j.0 apart)

-- ---- numbers are given once

made_next : (s : State) (e : Entry) (v : Version) → Legal s e → made_by e ≡ Some v → (v.tx ≡ s.next) × ((after s e).next ≡ s.next + 1)
made_next s (Opened k) v l m = cc
made_next s (Created by c) v l m = cc
made_next s (Dropped by c) v l m = cc
made_next s (Changed by c i change before tx) v l m = (versioned_tx (new_doc change) m ∙ l.1.next, refl)
  where
    versioned_tx : (o : Option Tree) → versioned tx o ≡ Some v → v.tx ≡ tx
    versioned_tx None e = cc
    versioned_tx (Some d) e = sym (ap (λ (w : Version). w.tx) (same_some _ v e))
made_next s (Failed by before count) v l m = cc

next_grows : (s : State) (e : Entry) → s.next ≤ (after s e).next
next_grows s (Opened k) = omega arith
next_grows s (Created by c) = omega arith
next_grows s (Dropped by c) = omega arith
next_grows s (Changed by c i change before tx) = omega arith
next_grows s (Failed by before count) = omega arith

-- a version after an entry stood before it, or the entry made it
split : (b : Bool) (o p : Option Version) (v : Version) → cond b o p ≡ Some v → (o ≡ Some v) ⊎ (p ≡ Some v)
split true o p v e = inl e
split false o p v e = inr e

came : (s : State) (e : Entry) (coll : Name) (x : Tree) (v : Version) → Legal s e → AreApart s.collections → version (after s e) coll x ≡ Some v → (made_by e ≡ Some v) ⊎ (version s coll x ≡ Some v)
came s e coll x v l apart g = split (touches coll x e) (made_by e) (version s coll x) v (sym (version_after s e coll x l apart) ∙ g)

old_next : (s : State) (e : Entry) → Legal s e → AreApart s.collections → IsOld s → IsOld (after s e)
old_next s e l apart old coll x v g = ⊎_elim (λ m. let n = made_next s e v l m in let a = n.0 in let b = n.1 in omega arith) (λ h. let a = old coll x v h in let b = next_grows s e in omega arith) (came s e coll x v l apart g)

pub old_after : (s : State) (es : List Entry) → IsJournal s es → AreApart s.collections → IsOld s → IsOld (replay s es)
old_after s [] j apart old = old
old_after s (e ∷ es) j apart old = old_after (after s e) es j.1 (apart_after s e j.0 apart) (old_next s e j.0 apart old)

pub names_after : (s : State) (es : List Entry) → IsJournal s es → AreApart s.collections → AreApart (replay s es).collections
names_after s [] j apart = apart
names_after s (e ∷ es) j apart = names_after (after s e) es j.1 (apart_after s e j.0 apart)

pub given_once : (s : State) (es : List Entry) (coll : Name) (x : Tree) (v w : Version) → IsJournal s es → AreApart s.collections → IsOld s → version s coll x ≡ Some v → version (replay s es) coll x ≡ Some w → w.tx ≡ v.tx → w ≡ v
given_once s es coll x v w j apart old here there same = go s es (old coll x v here) j apart (λ u q r. same_some u v (sym q ∙ here)) w there same
  where
    go : (s : State) (es : List Entry) → v.tx < s.next → IsJournal s es → AreApart s.collections → ((u : Version) → version s coll x ≡ Some u → u.tx ≡ v.tx → u ≡ v) → (w : Version) → version (replay s es) coll x ≡ Some w → w.tx ≡ v.tx → w ≡ v
    go s [] lt j apart one w z q = one w z q
    go s (e ∷ es) lt j apart one w z q = go (after s e) es (let n = next_grows s e in omega arith) j.1 (apart_after s e j.0 apart)
        (λ u g r. ⊎_elim (λ m. let n = made_next s e u j.0 m in let a = n.0 in absurd (omega arith)) (λ h. one u h r) (came s e coll x u j.0 apart g)) w z q

-- where nothing touches it, the version stays
pub stays : (s : State) (es : List Entry) (coll : Name) (x : Tree) → IsJournal s es → AreApart s.collections → list_any (touches coll x) es ≡ false → version (replay s es) coll x ≡ version s coll x
stays s [] coll x j apart none = refl
stays s (e ∷ es) coll x j apart none = let p = neither (touches coll x e) _ none in
    stays (after s e) es coll x j.1 (apart_after s e j.0 apart) p.1 ∙ (version_after s e coll x j.0 apart ∙ ap (λ (b : Bool). cond b (made_by e) (version s coll x)) p.0)
  where
    neither : (a b : Bool) → a || b ≡ false → (a ≡ false) × (b ≡ false)
    neither true b z = cc
    neither false b z = (refl, z)

-- ---- from a point to the end

halves : (s : State) (xs ys : List Entry) → IsJournal s (xs ++ ys) → IsJournal s xs × IsJournal (replay s xs) ys
halves s [] ys j = (tt, j)
halves s (e ∷ xs) ys j = let h = halves (after s e) xs ys j.1 in ((j.0, h.0), h.1)

module _ (start : State) (journal : List Entry) (place : ℕ) (lawful : IsJournal start journal) (apart : AreApart start.collections) where
  whole : replay start journal ≡ replay (state_at start journal place) (drop place journal)
  whole = ap (replay start) (sym (take-append-drop place journal)) ∙ replay-append start (take place journal) (drop place journal)

  parts : IsJournal start (take place journal) × IsJournal (state_at start journal place) (drop place journal)
  parts = halves start (take place journal) (drop place journal) (subst (IsJournal start) (sym (take-append-drop place journal)) lawful)

  there : AreApart (state_at start journal place).collections
  there = names_after start (take place journal) parts.0 apart

  pub once_from : (coll : Name) (x : Tree) (v w : Version) → IsOld start → version (state_at start journal place) coll x ≡ Some v → version (replay start journal) coll x ≡ Some w → w.tx ≡ v.tx → w ≡ v
  once_from coll x v w old here now same =
      given_once (state_at start journal place) (drop place journal) coll x v w parts.1 there (old_after start (take place journal) parts.0 apart old) here (ap (λ (s : State). version s coll x) (sym whole) ∙ now) same

  pub touched_since : (coll : Name) (x : Tree) (v : Version) → version (state_at start journal place) coll x ≡ Some v → number_at (replay start journal) coll x ≢ Some v.tx → list_any (touches coll x) (drop place journal) ≡ true
  touched_since coll x v here other = go (list_any (touches coll x) (drop place journal)) refl
    where
      go : (b : Bool) → list_any (touches coll x) (drop place journal) ≡ b → b ≡ true
      go true e = refl
      go false e = absurd (other (ap (λ (s : State). number_at s coll x) whole ∙ ap (option_map (λ (u : Version). u.tx)) (stays (state_at start journal place) (drop place journal) coll x parts.1 there e ∙ here)))
