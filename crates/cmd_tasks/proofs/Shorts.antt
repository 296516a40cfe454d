-- Rows whose ids are short stay so where they are picked out, joined, sorted and cut.
use Rattle.std.proofs.Common.{◌≡◌, ℕ, zero, suc, Bool, true, false, cond, List, [], ◌∷◌, ◌++◌, take, sym, subst, Result, Ok, Err, Vec, Global, Option}
use Rattle.std.specs.Prelude.{IfOk}
use Rattle.std.specs.List.{filter}
use Rattle.std.proofs.lemmas.List.Elements.{All-from_recursion, recursion_from_All}
use Rattle.std.proofs.lemmas.List.Sorted.{All-permutation}
use Rattle.json_tree.specs.Tree.{Tree}
use Rattle.shred_cols.specs.Row.{Version, id_of}
use Rattle.col_keeper.specs.Tables.{IsShort}
use Rattle.filter_tree.specs.Filters.{FilterTree}
use Rattle.filter_tree.specs.Matches.{matches}
use Rattle.reply_env.specs.declared.reply.Reply.{Reply}
use Rattle.view_sort.specs.Sort.{SortKeys, IsFirstOf}
use Rattle.view_sort.specs.declared.fault.ViewFault.{ViewFault}
use Rattle.cmd_tasks.specs.Looking.{AreShort, ShowsShort, ShowsRows, ShowsNothing, StopsWith}
use Rattle.cmd_tasks.specs.declared.trace.Item.{Item}
use Rattle.cmd_tasks.specs.declared.work.Glance.{Glance}
use Rattle.cmd_tasks.specs.declared.work.Glance.TheVariants as g

-- what holds of one row's id
abbrev P : Version → Type 0
P v = IsShort (id_of v.doc)

filter_short : (p : Version → Bool) (vs : List Version) → AreShort vs → AreShort (filter p vs)
filter_short p [] h = tt
filter_short p (v ∷ vs) h = elim (p v) as (λ b. AreShort (cond b (v ∷ filter p vs) (filter p vs))) [
  | true ↦ (h.0, filter_short p vs h.1)
  | false ↦ filter_short p vs h.1
]

pub join_short : (vs ws : List Version) → AreShort vs → AreShort ws → AreShort (vs ++ ws)
join_short [] ws h t = t
join_short (v ∷ vs) ws h t = (h.0, join_short vs ws h.1 t)

pub take_short : (n : ℕ) (vs : List Version) → AreShort vs → AreShort (take n vs)
take_short zero [] h = tt
take_short zero (v ∷ vs) h = tt
take_short (suc n) [] h = tt
take_short (suc n) (v ∷ vs) h = (h.0, take_short n vs h.1)

-- the first of them, in the order of a sort
pub sorted_short : (sort : SortKeys) (keep : ℕ) (vs all : List Version) (o : Result (Vec Version Global) ViewFault) → all ≡ vs → AreShort vs → IfOk o (λ first. IsFirstOf sort keep all first.items) → IfOk o (λ first. AreShort first.items)
sorted_short sort keep vs all (Ok first) is h f =
    let sorted : AreShort f.sorted = recursion_from_All P f.sorted (All-permutation P all f.sorted f.sorts.same (All-from_recursion P all (subst AreShort (sym is) h))) in
    subst AreShort (sym f.first) (take_short keep f.sorted sorted)
sorted_short sort keep vs all (Err fault) is h f = tt

-- a page
pub shown_short : (f : FilterTree) (at : ℕ) (after : Option Tree) (page : List Version) (end : Bool) (o : Glance) → AreShort page → ShowsRows f at after page end o → ShowsShort o
shown_short f at after page end (g.Shown item rows up) h is = subst AreShort (sym is.0) (filter_short (λ v. matches f v.doc) page h)
shown_short f at after page end (g.Ended item reply) h is = tt
shown_short f at after page end g.NoMemory h is = tt

pub nothing_short : (at : ℕ) (after : Option Tree) (Q : Reply → Type 0) (o : Glance) → ShowsNothing at after Q o → ShowsShort o
nothing_short at after Q (g.Shown item rows up) is = absurd is
nothing_short at after Q (g.Ended item reply) is = tt
nothing_short at after Q g.NoMemory is = tt

pub stopped_short : (item : Item) (Q : Reply → Type 0) (o : Glance) → StopsWith item Q o → ShowsShort o
stopped_short item Q (g.Shown i rows up) is = absurd is
stopped_short item Q (g.Ended i reply) is = tt
stopped_short item Q g.NoMemory is = tt
