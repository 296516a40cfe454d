-- What is written over a document, and what is inserted: it breaks no limit, and keeps the id.
use Rattle.std.specs.Prelude.{IfOk, IfErr}
use Rattle.std.proofs.Common.{◌≡◌, ◌↔◌, IsTrue, ℕ, ℤ, List, Bool, true, false, Option, Some, None, Result, Ok, Err, cond, if◌then◌else◌, refl, sym, ◌∙◌, ap, inl, unwrap_or}
use Rattle.json_tree.specs.Tree.{Tree, null, boolean, number, text, date, list, object}
use Rattle.json_tree.specs.Doc.{id_in}
use Rattle.json_tree.specs.Same.{same}
use Rattle.doc_limits.specs.Limits.{broken}
use Rattle.doc_limits.specs.declared.limits.Broken.{Broken}
use Rattle.shred_cols.specs.Row.{id_of}
use Rattle.filter_tree.specs.Filters.{FilterTree}
use Rattle.filter_tree.specs.Equalities.{equalities}
use Rattle.update_ops.specs.Clauses.{Clause}
use Rattle.update_ops.specs.Faults.{is_object}
use Rattle.update_ops.specs.Apply.{Gives, apply, onward, applied, unbroken, within_limits}
use Rattle.update_ops.specs.Upsert.{with_id, under_id, under_given, own_id, or_null, replaced, filter_id, upsert, upsert_replacement}
use Rattle.update_ops.specs.declared.fault.UpdateFault.{UpdateFault}
use Rattle.update_ops.specs.declared.fault.UpdateFault.TheVariants.{TouchesId}
use Rattle.update_ops.specs.declared.fault.UpdateFault.TheVariants as faults
use Rattle.store_core.specs.declared.entry.Change.{Change}
use Rattle.store_core.specs.declared.entry.Change.TheVariants.{Update}
use Rattle.cmd_tasks.specs.Doing.{Making, updates, replaces, upserted, change_to}

-- ---- limits

unbroken_is : (t d : Tree) (b : Option Broken) → broken t ≡ b → unbroken b t ≡ Ok d → (t ≡ d) × (broken d ≡ None)
unbroken_is t d None q e = let same : t ≡ d = Prim.cc e in (same, ap broken (sym same) ∙ q)
unbroken_is t d (Some b) q e = Prim.cc e

-- what is within the limits is the same value, and breaks none
within_is : (t d : Tree) → within_limits t ≡ Ok d → (t ≡ d) × (broken d ≡ None)
within_is t d e = unbroken_is t d (broken t) refl e

onward_keeps : (r : Result Tree UpdateFault) (f : Tree → Result Tree UpdateFault) → ((x d : Tree) → f x ≡ Ok d → broken d ≡ None)
    → (d : Tree) → onward r f ≡ Ok d → broken d ≡ None
onward_keeps (Ok x) f h d e = h x d e
onward_keeps (Err r) f h d e = Prim.cc e

upsert_keeps : (es : List (List ℕ × Tree)) (cs : List Clause) (moment : ℤ) (id d : Tree) → upsert es cs moment id ≡ Ok d → broken d ≡ None
upsert_keeps es cs moment id d e =
    onward_keeps _ _ (λ x y q. onward_keeps (applied moment true cs x) within_limits (λ z w r. (within_is z w r).1) y q) d e

given_keeps : (own r d : Tree) (given : Option Tree) → under_given own r given ≡ Ok d → broken d ≡ None
given_keeps own r d None e = (within_is r d e).1
given_keeps own r d (Some x) e = go (same own x) e
  where
    go : (b : Bool) → cond b (within_limits r) (Err TouchesId) ≡ Ok d → broken d ≡ None
    go true q = (within_is r d q).1
    go false q = Prim.cc q

own_keeps : (own given : Option Tree) (id r d : Tree) → own_id own given id r ≡ Ok d → broken d ≡ None
own_keeps None given id r d e = (within_is (with_id (unwrap_or given id) r) d e).1
own_keeps (Some own) given id r d e = given_keeps own r d given e

replacement_keeps : (es : List (List ℕ × Tree)) (r id d : Tree) → upsert_replacement es r id ≡ Ok d → broken d ≡ None
replacement_keeps es r id d e = own_keeps (id_in r) (filter_id es) id r d e

pub upserted_keeps : (f : FilterTree) (m : Making) (id d : Tree) → upserted f m id ≡ Ok d → broken d ≡ None
upserted_keeps f (updates u moment) id d e = upsert_keeps (equalities f) u moment id d e
upserted_keeps f (replaces r) id d e = replacement_keeps (equalities f) r id d e

-- ---- replacements keep the id

null_or : (o : Option Tree) → or_null o ≡ unwrap_or o null
null_or None = refl
null_or (Some t) = refl

id_in_front : (id r : Tree) → is_object r ≡ true → id_of (with_id id r) ≡ id
id_in_front id (object ms) o = refl
id_in_front id null o = Prim.cc o
id_in_front id (boolean b) o = Prim.cc o
id_in_front id (number n) o = Prim.cc o
id_in_front id (text t) o = Prim.cc o
id_in_front id (date t) o = Prim.cc o
id_in_front id (list ts) o = Prim.cc o

abbrev SameDecides : Type 0
SameDecides = (a b : Tree) → IsTrue (same a b) ↔ (a ≡ b)

under_fits : SameDecides → (id r new : Tree) (own : Option Tree) → is_object r ≡ true → id_in r ≡ own → under_id id r own ≡ Ok new → (id_of new ≡ id) × (broken new ≡ None)
under_fits decides id r new None o q e =
    let w = within_is (with_id id r) new e in (ap id_of (sym w.0) ∙ id_in_front id r o, w.1)
under_fits decides id r new (Some own) o q e = go (same own id) refl e
  where
    go : (b : Bool) → same own id ≡ b → cond b (within_limits r) (Err TouchesId) ≡ Ok new → (id_of new ≡ id) × (broken new ≡ None)
    go true s e =
        let w = within_is r new e in (ap id_of (sym w.0) ∙ ap (λ (x : Option Tree). unwrap_or x null) q ∙ (decides own id).0 s, w.1)
    go false s e = Prim.cc e

pub replaced_fits : SameDecides → (r d new : Tree) → is_object r ≡ true → replaced r d ≡ Ok new → (id_of new ≡ id_of d) × (broken new ≡ None)
replaced_fits decides r d new o e =
    let k = under_fits decides (or_null (id_in d)) r new (id_in r) o refl e in (k.0 ∙ null_or (id_in d), k.1)

-- ---- what is written

pub writes_another : (u : List Clause) (moment : ℤ) (d new : Tree) (o : Result (Option Change) UpdateFault) → apply u d moment false ≡ Ok new → same d new ≡ false → IfOk o (λ written. written ≡ Some (Update u moment new)) → IfErr o (λ fault. fault ≡ faults.NoMemory)
    → Gives (λ (written : Option Change). written) o (change_to (updates u moment) d (apply u d moment false))
writes_another u moment d new (Ok written) makes other ok err = ap (change_to (updates u moment) d) makes ∙ (ap (λ (b : Bool). Ok (if b then None else Some (Update u moment new))) other ∙ ap Ok (sym ok))
writes_another u moment d new (Err fault) makes other ok err = inl err

pub writes_nothing : (u : List Clause) (moment : ℤ) (d new : Tree) → apply u d moment false ≡ Ok new → same d new ≡ true → change_to (updates u moment) d (apply u d moment false) ≡ Ok None
writes_nothing u moment d new makes unchanged = ap (change_to (updates u moment) d) makes ∙ ap (λ (b : Bool). Ok (if b then None else Some (Update u moment new))) unchanged
