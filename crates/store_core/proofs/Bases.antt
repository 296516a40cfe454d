-- In sound tables no document's number lies over the last one.
use Rattle.std.proofs.Common.{◌≡◌, ℕ, ◌+◌, ◌<◌, ◌≤◌, List, [], ◌∷◌, Bool, true, false, cond, if◌then◌else◌, Option, Some, None, refl, sym, ap, ◌∙◌, subst, arith}
use Rattle.std.specs.Prelude.{option_and_then}
use Rattle.std.specs.List.{AllByRecursion as Each}
use Rattle.std.specs.Ordering.{eq_by_cmp}
use Rattle.std.specs.Str.{bytes_eq}
use Rattle.json_tree.specs.Tree.{Tree}
use Rattle.json_tree.specs.Id.{id_cmp}
use Rattle.shred_cols.specs.Row.{Version}
use Rattle.shred_cols.specs.Rows.{Rows, version_of}
use Rattle.col_keeper.specs.Tables.{Name, Collection, Collections, Tables, IsEntry, IsCollection, IsTables, rows_in, version_at}
use Rattle.store_core.specs.State.{IsOld, start_of}

same_version : (v u : Version) → Some v ≡ Some u → v ≡ u
same_version v u e = cc

row_case : (b : Bool) (r : Tree × Version) (rest : Option Version) (last : ℕ) (v : Version) → r.1.tx ≤ last → (rest ≡ Some v → v.tx ≤ last) → cond b (Some r.1) rest ≡ Some v → v.tx ≤ last
row_case true r rest last v le rec e = subst (λ (u : Version). u.tx ≤ last) (same_version r.1 v e) le
row_case false r rest last v le rec e = rec e

row_old : (id : Tree) (rows : Rows) (last : ℕ) (v : Version) → Each (IsEntry last) rows → version_of id rows ≡ Some v → v.tx ≤ last
row_old id [] last v h e = cc
row_old id (r ∷ rs) last v h e = let entry = h.0 in row_case (eq_by_cmp id_cmp id r.0) r (version_of id rs) last v entry.3 (row_old id rs last v h.1) e

coll_case : (b : Bool) (c : Collection) (id : Tree) (rest : Option Rows) (last : ℕ) (v : Version) → (version_of id c.rows ≡ Some v → v.tx ≤ last) → (option_and_then (version_of id) rest ≡ Some v → v.tx ≤ last) → option_and_then (version_of id) (if b then Some c.rows else rest) ≡ Some v → v.tx ≤ last
coll_case true c id rest last v here rec e = here e
coll_case false c id rest last v here rec e = rec e

all_old : (cs : Collections) (last : ℕ) (coll : Name) (id : Tree) (v : Version) → Each (λ c. IsCollection last c.rows) cs → version_at coll id cs ≡ Some v → v.tx ≤ last
all_old [] last coll id v h e = cc
all_old (c ∷ cs) last coll id v h e = let s = h.0 in coll_case (bytes_eq coll c.name) c id (rows_in coll cs) last v (row_old id c.rows last v s.entries) (all_old cs last coll id v h.1) e

pub base_old : (t : Tables) (count : ℕ) → IsTables t → IsOld (start_of count t)
base_old t count sound coll id v e = let x = all_old t.collections t.last coll id v sound.rows e in omega arith
