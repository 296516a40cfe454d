-- A page shows no more rows than a page of the store has.
use Rattle.std.proofs.Common.{ℕ, ◌≤◌, Bool, true, false, cond, List, [], ◌∷◌, length, ap, arith, Option}
use Rattle.std.specs.List.{filter}
use Rattle.json_tree.specs.Tree.{Tree}
use Rattle.shred_cols.specs.Row.{Version}
use Rattle.filter_tree.specs.Filters.{FilterTree}
use Rattle.filter_tree.specs.Matches.{matches}
use Rattle.reply_env.specs.declared.reply.Reply.{Reply}
use Rattle.cmd_tasks.specs.Looking.{ShowsFew, ShowsRows, ShowsNothing, StopsWith}
use Rattle.cmd_tasks.specs.declared.trace.Item.{Item}
use Rattle.cmd_tasks.specs.declared.work.Glance.{Glance}
use Rattle.cmd_tasks.specs.declared.work.Glance.TheVariants as g

filter_few : {A : Type 0} (p : A → Bool) (xs : List A) → length (filter p xs) ≤ length xs
filter_few p [] = omega arith
filter_few p (x ∷ xs) = let l = filter_few p xs in elim (p x) as (λ b. length (cond b (x ∷ filter p xs) (filter p xs)) ≤ length (x ∷ xs)) [
  | true ↦ omega arith
  | false ↦ omega arith
]

pub shown_few : (f : FilterTree) (at : ℕ) (after : Option Tree) (page : List Version) (end : Bool) (o : Glance) → length page ≤ 64 → ShowsRows f at after page end o → ShowsFew o
shown_few f at after page end (g.Shown item rows up) h is = let l = filter_few (λ v. matches f v.doc) page in let e = ap length is.0 in omega arith
shown_few f at after page end (g.Ended item reply) h is = tt
shown_few f at after page end g.NoMemory h is = tt

pub nothing_few : (at : ℕ) (after : Option Tree) (Q : Reply → Type 0) (o : Glance) → ShowsNothing at after Q o → ShowsFew o
nothing_few at after Q (g.Shown item rows up) is = absurd is
nothing_few at after Q (g.Ended item reply) is = tt
nothing_few at after Q g.NoMemory is = tt

pub stopped_few : (item : Item) (Q : Reply → Type 0) (o : Glance) → StopsWith item Q o → ShowsFew o
stopped_few item Q (g.Shown i rows up) is = absurd is
stopped_few item Q (g.Ended i reply) is = tt
stopped_few item Q g.NoMemory is = tt
