-- What is left of a command that takes many documents: each step lowers it.
use Rattle.std.proofs.Common.{◌≡◌, ℕ, ◌+◌, ◌-◌, ◌*◌, ◌<◌, ◌≤◌, List, [], ◌∷◌, length, Bool, false, Option, Some, None, refl, sym, ap, ◌∙◌, subst, arith, length-append, Vec, Global, reverse}
use Rattle.std.specs.Prelude.{is_none, IfSome}
use Rattle.std.proofs.lemmas.List.{length-reverse, reverse-append}
use Rattle.json_tree.specs.Tree.{Tree}
use Rattle.shred_cols.specs.Row.{Version, id_of}
use Rattle.col_keeper.specs.Tables.{IsShort}
use Rattle.reply_env.specs.declared.update_errors.Loss.{Loss}
use Rattle.store_core.specs.declared.entry.Entry.{Entry}
use Rattle.cmd_tasks.specs.Looking.{Made, GoesUp, AreShort}
use Rattle.cmd_tasks.specs.Many.{taking, IsStand, pages_left, stand_left, tries_left}
use Rattle.cmd_tasks.specs.Going.{IsCounted, waiting_left, unsettled_left, GoesReady}
use Rattle.cmd_tasks.specs.ManySteps.{HasPage, HasFirst, LosesOne, EndsAfter}
use Rattle.cmd_tasks.specs.Moves.{asked, IsReady, left, Steps}
use Rattle.cmd_tasks.specs.declared.work.Doing as declared_doing
use Rattle.cmd_tasks.specs.declared.work.Many.{Many}
use Rattle.cmd_tasks.specs.declared.work.Stand.{Stand}
use Rattle.cmd_tasks.specs.declared.work.Attempt.{Attempt}
use Rattle.cmd_tasks.specs.declared.work.State.{State}
use Rattle.cmd_tasks.specs.declared.work.State.TheVariants.{Paging, Trying, Retrying}
use Rattle.cmd_tasks.specs.declared.work.Moved.{Moved}
use Rattle.cmd_tasks.specs.declared.work.Moved.TheVariants as m
use Rattle.cmd_tasks.specs.declared.trace.Item.{Item}
use Rattle.cmd_tasks.proofs.Glances.{lost_here}
use Rattle.cmd_tasks.proofs.Shorts.{join_short}

-- ---- what waits

waiting_most : (rows : List Version) (tries : ℕ) → tries ≤ 8 → waiting_left rows tries ≤ length rows * 8
waiting_most [] tries l = omega arith
waiting_most (v ∷ rest) tries l = omega arith

waiting_one : (rows : List Version) (n tries : ℕ) → length rows ≡ n + 1 → waiting_left rows tries ≡ n * 8 + tries
waiting_one [] n tries e = absurd (omega arith)
waiting_one (v ∷ rest) n tries e = omega arith

tries_most : (stand : Stand) → tries_left stand ≤ 8
tries_most stand = omega arith

-- a page's end is no further than where it began
pages_fall : (from up : Option Tree) → GoesUp from up → pages_left (is_none up) up + 520 ≤ pages_left false from
pages_fall from None h = omega arith
pages_fall from (Some u) h = omega (arith, h)

reverse_short : (rows : List Version) → AreShort rows → AreShort (reverse rows)
reverse_short [] h = tt
reverse_short (v ∷ rows) h = subst AreShort (sym (reverse-append (v ∷ []) rows)) (join_short (reverse rows) (v ∷ []) (reverse_short rows h.1) (h.0, tt))

-- ---- steps that go on behind an item with no more than this

on_steps : (k low high : ℕ) (H H' : List Entry) (w : State) (many : Many) (item : Item) (new : Stand) (o : Moved) → asked w ≡ Some (taking many) → Made k low high H H' item → unsettled_left new < left w → GoesReady many item new o → Steps k low high w H H' o
on_steps k low high H H' w many item new (m.Goes i w') is made less ready = (subst (Made k low high H H') (sym ready.0) made, ready.1 ∙ sym is, ready.2, (let a = ready.3 in omega arith))
on_steps k low high H H' w many item new (m.Ends i reply) is made less ready = subst (Made k low high H H') (sym ready) made
on_steps k low high H H' w many item new m.NoMemory is made less ready = absurd ready

-- ---- a page

pub page_stand : (stand new : Stand) (rows : List Version) (last : Option Tree) → HasPage stand rows last new → IsStand stand → length rows ≤ 64 → AreShort rows → IsStand new
page_stand stand new rows last h is few short = record {
  few = let a = is.few in let b = h.matched_is in omega arith;
  changed = let a = is.changed in let b = h.matched_is in let c = h.modified_is in omega arith;
  waiting = let a = ap length h.queue_is in let b = length-reverse rows in omega arith;
  short = subst AreShort (sym h.queue_is) (reverse_short rows short);
  lost = let a = is.lost in let b = ap length h.lost_is in omega arith;
}

pub page_steps : (k low high : ℕ) (H H' : List Entry) (many : Many) (stand new : Stand) (item : Item) (rows : List Version) (up : Option Tree) (o : Moved) → stand.is_whole ≡ false → Made k low high H H' item → GoesUp stand.from up → length rows ≤ 64
    → HasPage stand rows up new → GoesReady many item new o → Steps k low high (Paging many stand) H H' o
page_steps k low high H H' many stand new item rows up o unlisted made rises few has ready = on_steps k low high H H' (Paging many stand) many item new o refl made less ready
  where
    size : length new.queue.items ≤ 64
    size = let a = ap length has.queue_is in let b = length-reverse rows in omega arith

    pages : pages_left new.is_whole new.from + 520 ≤ pages_left stand.is_whole stand.from
    pages = subst (λ (b : Bool). pages_left new.is_whole new.from + 520 ≤ pages_left b stand.from) (sym unlisted)
        (subst (λ (z : Bool × Option Tree). pages_left z.0 z.1 + 520 ≤ pages_left false stand.from) (λ j. (sym has.whole_is j, sym has.from_is j)) (pages_fall stand.from up rises))

    less : unsettled_left new < stand_left stand
    less = let a = waiting_most new.queue.items (tries_left new) (tries_most new) in let b = pages in let c = size in omega arith

-- ---- an attempt

pub counted_stand : (stand new : Stand) (id : Tree) → IsCounted stand id 1 new → IsStand stand → stand.matched < 20 → IsStand new
counted_stand stand new id h is few = record {
  few = let b = h.matched in omega arith;
  changed = let a = is.changed in let b = h.matched in let c = h.modified in omega arith;
  waiting = let a = is.waiting in let b = ap length h.queue in omega arith;
  short = subst AreShort (sym h.queue) is.short;
  lost = let b = ap length h.lost in omega arith;
}

counted_less : (stand new : Stand) (id : Tree) → IsCounted stand id 1 new → IsStand stand → unsettled_left new < stand_left stand + tries_left stand
counted_less stand new id h is =
    let a = waiting_most new.queue.items (tries_left new) (tries_most new) in
    let b = ap length h.queue in
    let c : pages_left new.is_whole new.from ≡ pages_left stand.is_whole stand.from = λ j. pages_left (h.is_whole j) (h.from j) in
    let l = is.lost in
    omega arith

pub won_steps : (k low high : ℕ) (H H' : List Entry) (many : Many) (stand new : Stand) (attempt : Attempt) (item : Item) (id : Tree) (o : Moved) → IsStand stand → Made k low high H H' item → IsCounted stand id 1 new → GoesReady many item new o → Steps k low high (Trying many stand attempt) H H' o
won_steps k low high H H' many stand new attempt item id o is made counted ready = on_steps k low high H H' (Trying many stand attempt) many item new o refl made (counted_less stand new id counted is) ready

pub lost_steps : (k low high : ℕ) (H H' : List Entry) (many : Many) (stand : Stand) (attempt : Attempt) (at : ℕ) (id : Tree) (loss : Loss) (o : Moved) → IsReady (Trying many stand attempt) → id ≡ attempt.id → H' ≡ H → at ≡ length H → LosesOne at many stand id loss o
    → Steps k low high (Trying many stand attempt) H H' o
lost_steps k low high H H' many stand attempt at id loss (m.Goes i w) ready id_is same here t =
    let more : Vec Loss Global = t.0 in
    let size : length more.items ≡ length stand.lost.items + 1 = ap length t.1 ∙ length-append stand.lost.items (loss ∷ []) in
    subst (λ (z : Item × State). Steps k low high (Trying many stand attempt) H H' (m.Goes z.0 z.1)) (λ j. (sym t.3 j, sym t.4 j)) (
      lost_here k low high H H' at loss.read loss.found same here,
      refl,
      (ready.0, record { few = ready.1.few; changed = ready.1.changed; waiting = ready.1.waiting; short = ready.1.short; lost = t.2 }, ready.2, subst IsShort (sym id_is) ready.3.short, ready.4),
      (let a = t.2 in omega arith),
    )
lost_steps k low high H H' many stand attempt at id loss (m.Ends i reply) ready id_is same here t = subst (Made k low high H H') (sym t.0) (lost_here k low high H H' at loss.read loss.found same here)
lost_steps k low high H H' many stand attempt at id loss m.NoMemory ready id_is same here t = absurd t

-- ---- a look at one alone

pub first_stand : (stand new : Stand) (row : Option Version) → HasFirst stand row new → IsStand stand → length stand.queue.items < 64 → IfSome row (λ v. IsShort (id_of v.doc)) → IsStand new
first_stand stand new None h is room short = record {
  few = let a = is.few in let b = h.matched_is in omega arith;
  changed = let a = is.changed in let b = h.matched_is in let c = h.modified_is in omega arith;
  waiting = let b = ap length h.queue_is in omega arith;
  short = subst AreShort (sym h.queue_is) is.short;
  lost = let b = ap length h.lost_is in omega arith;
}
first_stand stand new (Some v) h is room short = record {
  few = let a = is.few in let b = h.matched_is in omega arith;
  changed = let a = is.changed in let b = h.matched_is in let c = h.modified_is in omega arith;
  waiting = let b = ap length h.queue_is in let c = length-append stand.queue.items (v ∷ []) in omega arith;
  short = subst AreShort (sym h.queue_is) (join_short stand.queue.items (v ∷ []) is.short (short, tt));
  lost = let a = is.lost in let b = ap length h.lost_is in omega arith;
}

first_less : (stand new : Stand) (row : Option Version) → HasFirst stand row new → unsettled_left new < stand_left stand + (tries_left stand + 1)
first_less stand new None h =
    let a = waiting_most new.queue.items (tries_left new) (tries_most new) in
    let b = ap length h.queue_is in
    let c : pages_left new.is_whole new.from ≡ pages_left stand.is_whole stand.from = λ j. pages_left (h.whole_is j) (h.from_is j) in
    omega arith
first_less stand new (Some v) h =
    let b : length new.queue.items ≡ length stand.queue.items + 1 = ap length h.queue_is ∙ length-append stand.queue.items (v ∷ []) in
    let a = waiting_one new.queue.items (length stand.queue.items) (tries_left new) b in
    let c : pages_left new.is_whole new.from ≡ pages_left stand.is_whole stand.from = λ j. pages_left (h.whole_is j) (h.from_is j) in
    let d : tries_left new ≡ tries_left stand = ap (λ (l : List Loss). (4 - length l) * 2) h.lost_is in
    omega arith

pub again_steps : (k low high : ℕ) (H H' : List Entry) (many : Many) (stand new : Stand) (id : Tree) (item : Item) (row : Option Version) (o : Moved) → Made k low high H H' item → HasFirst stand row new → GoesReady many item new o → Steps k low high (Retrying many stand id) H H' o
again_steps k low high H H' many stand new id item row o made has ready = on_steps k low high H H' (Retrying many stand id) many item new o refl made (first_less stand new row has) ready

-- ---- errors

pub ended_steps : (k low high : ℕ) (H H' : List Entry) (w : State) (doing : declared_doing.Doing) (stand : Stand) (o told : Moved) → Steps k low high w H H' o → EndsAfter doing stand o told → Steps k low high w H H' told
ended_steps k low high H H' w doing stand (m.Goes i w') told steps t = subst (Steps k low high w H H') (sym t) steps
ended_steps k low high H H' w doing stand (m.Ends i r) (m.Goes j w') steps t = absurd t
ended_steps k low high H H' w doing stand (m.Ends i r) (m.Ends j r') steps t = subst (Made k low high H H') (sym t.0) steps
ended_steps k low high H H' w doing stand (m.Ends i r) m.NoMemory steps t = absurd t
ended_steps k low high H H' w doing stand m.NoMemory told steps t = subst (Steps k low high w H H') (sym t) steps
