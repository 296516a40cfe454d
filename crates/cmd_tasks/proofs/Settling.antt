-- What waits is settled: documents that would stay as they are are counted, up to the first that wouldn't.
use Rattle.std.proofs.Common.{◌≡◌, ℕ, ◌+◌, ◌*◌, ◌<◌, ◌≤◌, List, [], ◌∷◌, ◌++◌, map, reverse, length, Bool, true, false, Some, None, Ok, Err, refl, sym, ap, ◌∙◌, subst, arith, inl, inr, ⊎_elim, length-append, Vec, Global}
use Rattle.std.specs.Prelude.{◌&&◌, nat_lt, if◌then◌else◌}
use Rattle.std.proofs.lemmas.Bool.{lt-ltb, le-ltb, and_from, and_left, and_right}
use Rattle.std.proofs.lemmas.List.{reverse-append}
use Rattle.json_tree.specs.Tree.{Tree}
use Rattle.shred_cols.specs.Row.{Version, id_of}
use Rattle.col_keeper.specs.Tables.{IsShort}
use Rattle.update_ops.specs.declared.fault.UpdateFault.{UpdateFault}
use Rattle.update_ops.specs.declared.fault.UpdateFault.TheVariants as faults
use Rattle.store_core.specs.declared.entry.Change.{Change}
use Rattle.cmd_tasks.specs.Trace.{Found}
use Rattle.cmd_tasks.specs.Pages.{found_row}
use Rattle.cmd_tasks.specs.Looking.{AreShort}
use Rattle.cmd_tasks.specs.Doing.{Doing, change_of}
use Rattle.cmd_tasks.specs.Taking.{Shown, Standing, count, is_unchanged, settled, settle}
use Rattle.cmd_tasks.specs.Many.{IsStand, IsStanding, pages_left, stand_left, tries_left}
use Rattle.cmd_tasks.specs.Going.{IsCounted, Meets, Settles, SettlesReady, waiting_left, unsettled_left}
use Rattle.cmd_tasks.specs.declared.work.Stand.{Stand}
use Rattle.cmd_tasks.specs.declared.work.Attempt.{Attempt}
use Rattle.cmd_tasks.specs.declared.meeting.Met.TheVariants as met
use Rattle.cmd_tasks.specs.declared.taking.Settled.TheVariants as s
use Rattle.cmd_tasks.proofs.Kept.{settled_modified}

-- ---- the first that waits

no_cons : {A : Type 0} (x : A) (xs : List A) → x ∷ xs ≡ [] → ⊥
no_cons x xs e = cc

heads : {A : Type 0} (x y : A) (xs ys : List A) → x ∷ xs ≡ y ∷ ys → x ≡ y
heads x y xs ys e = cc

tails : {A : Type 0} (x y : A) (xs ys : List A) → x ∷ xs ≡ y ∷ ys → xs ≡ ys
tails x y xs ys e = cc

-- the row is the first of what waits, and these are behind it
pub record IsFirst (more : List Version) (v : Version) (waiting : List Shown) : Type 0 where
  pub first : Shown
  pub rest : List Shown
  pub waiting_is : waiting ≡ first ∷ rest
  pub row : found_row v ≡ first.x
  pub others : map found_row (reverse more) ≡ map (λ s. s.x) rest

first_shown : (more : List Version) (v : Version) (waiting : List Shown) → found_row v ∷ map found_row (reverse more) ≡ map (λ s. s.x) waiting → IsFirst more v waiting
first_shown more v [] e = absurd (no_cons (found_row v) (map found_row (reverse more)) e)
first_shown more v (t ∷ rest) e = record { first = t; rest = rest; waiting_is = refl; row = heads _ _ _ _ e; others = tails _ _ _ _ e }

pub first_waits : (rows more : List Version) (v : Version) (waiting : List Shown) → rows ≡ more ++ v ∷ [] → map found_row (reverse rows) ≡ map (λ s. s.x) waiting → IsFirst more v waiting
first_waits rows more v waiting is e = first_shown more v waiting (sym (ap (λ (l : List Version). map found_row (reverse l)) is ∙ ap (map found_row) (reverse-append more (v ∷ []))) ∙ e)

pub none_waits : (rows : List Version) (waiting : List Shown) → rows ≡ [] → map found_row (reverse rows) ≡ map (λ s. s.x) waiting → waiting ≡ []
none_waits rows [] is e = refl
none_waits rows (t ∷ rest) is e = absurd (no_cons t.x (map (λ s. s.x) rest) (sym e ∙ ap (λ (l : List Version). map found_row (reverse l)) is))

-- without the row that is taken off the end
abbrev pub without_first : Stand → Vec Version Global → Stand
without_first stand left = record stand { queue = left }

pub first_stands : (stand : Stand) (left : Vec Version Global) (v : Version) (st : Standing) (waiting : List Shown) (t : IsFirst left.items v waiting) → IsStanding stand st waiting → IsStanding (without_first stand left) st t.rest
first_stands stand left v st waiting t h = record { from = h.from; is_whole = h.is_whole; queue = t.others; lost = h.lost; matched = h.matched; modified = h.modified; last = h.last; unput = h.unput }

short_parts : (vs : List Version) (v : Version) → AreShort (vs ++ v ∷ []) → AreShort vs × IsShort (id_of v.doc)
short_parts [] v h = (tt, h.0)
short_parts (w ∷ vs) v h = let more = short_parts vs v h.1 in ((h.0, more.0), more.1)

pub first_short : (stand : Stand) (left : Vec Version Global) (v : Version) → IsStand stand → stand.queue.items ≡ left.items ++ v ∷ [] → IsShort (id_of v.doc)
first_short stand left v h is = (short_parts left.items v (subst AreShort is h.short)).1

pub first_stand : (stand : Stand) (left : Vec Version Global) (v : Version) → IsStand stand → stand.queue.items ≡ left.items ++ v ∷ [] → IsStand (without_first stand left)
first_stand stand left v h is = record {
  few = h.few;
  changed = h.changed;
  waiting = let e = ap length is in let m = length-append left.items (v ∷ []) in let w = h.waiting in omega arith;
  short = (short_parts left.items v (subst AreShort is h.short)).0;
  lost = h.lost;
}

fewer_wait : (stand : Stand) (left : Vec Version Global) (v : Version) → IsStand stand → stand.queue.items ≡ left.items ++ v ∷ [] → length left.items < 64
fewer_wait stand left v h is = let e = ap length is in let m = length-append left.items (v ∷ []) in let w = h.waiting in omega arith

-- ---- one more is counted

pub counted_stands : (stand new : Stand) (id : Tree) (changed : ℕ) (st : Standing) (t : Shown) (rest : List Shown) → t.x.id ≡ id → IsStanding stand st rest → IsCounted stand id changed new → IsStanding new (count t.x changed rest st) rest
counted_stands stand new id changed st t rest same h n = record {
  from = n.from ∙ h.from;
  is_whole = n.is_whole ∙ h.is_whole;
  queue = ap (λ (l : List Version). map found_row (reverse l)) n.queue ∙ h.queue;
  lost = ap reverse n.lost;
  matched = n.matched ∙ ap (λ (k : ℕ). k + 1) h.matched;
  modified = n.modified ∙ ap (λ (k : ℕ). k + changed) h.modified;
  last = n.last ∙ ap (λ (i : Tree). Some i) (sym same);
  unput = h.unput;
}

pub counted_stand : (stand new : Stand) (id : Tree) (changed : ℕ) → stand.matched < 20 → changed ≤ 1 → IsStand stand → IsCounted stand id changed new → IsStand new
counted_stand stand new id changed fewer one h n = record {
  few = let e = n.matched in omega arith;
  changed = let e = n.matched in let m = n.modified in let c = h.changed in omega arith;
  waiting = let e = ap length n.queue in let w = h.waiting in omega arith;
  short = subst AreShort (sym n.queue) h.short;
  lost = let e = ap length n.lost in omega arith;
}

-- ---- what a standing settles to

-- the first one is counted
abbrev goes : Doing → Shown → Standing → Bool
goes doing t st = nat_lt st.matched 20 && is_unchanged (change_of doing t.x.doc)

abbrev settles_by : Doing → Shown → List Shown → Standing → Bool → Standing
settles_by doing t rest st b = if b then settled doing rest (count t.x 0 rest st) else record st { queue = t ∷ rest }

queue_is : (st : Standing) (q : List Shown) → st.queue ≡ q → st ≡ record st { queue = q }
queue_is st q e = λ i. record st { queue = e i }

unfolds : (doing : Doing) (st : Standing) (t : Shown) (rest : List Shown) → st.queue ≡ t ∷ rest → settle doing st ≡ settles_by doing t rest st (goes doing t st)
unfolds doing st t rest e = ap (λ (q : List Shown). settled doing q st) e

counts_first : (doing : Doing) (st : Standing) (t : Shown) (rest : List Shown) → st.queue ≡ t ∷ rest → st.matched < 20 → change_of doing t.x.doc ≡ Ok None → settle doing (count t.x 0 rest st) ≡ settle doing st
counts_first doing st t rest e few same = sym (unfolds doing st t rest e ∙ ap (settles_by doing t rest st) (and_from _ _ (lt-ltb st.matched 20 few) (ap is_unchanged same)))

stops_first : (doing : Doing) (st : Standing) (t : Shown) (rest : List Shown) → st.queue ≡ t ∷ rest → goes doing t st ≡ false → settle doing st ≡ st
stops_first doing st t rest e stops = unfolds doing st t rest e ∙ (ap (settles_by doing t rest st) stops ∙ sym (queue_is st (t ∷ rest) e))

stops_empty : (doing : Doing) (st : Standing) → st.queue ≡ [] → settle doing st ≡ st
stops_empty doing st e = ap (λ (q : List Shown). settled doing q st) e ∙ sym (queue_is st [] e)

stops_changed : (doing : Doing) (st : Standing) (t : Shown) (rest : List Shown) (change : Change) → st.queue ≡ t ∷ rest → change_of doing t.x.doc ≡ Ok (Some change) → settle doing st ≡ st
stops_changed doing st t rest change e is = stops_first doing st t rest e (and_right _ _ (ap is_unchanged is))

stops_refused : (doing : Doing) (st : Standing) (t : Shown) (rest : List Shown) (fault : UpdateFault) → st.queue ≡ t ∷ rest → change_of doing t.x.doc ≡ Err fault → settle doing st ≡ st
stops_refused doing st t rest fault e is = stops_first doing st t rest e (and_right _ _ (ap is_unchanged is))

stops_full : (doing : Doing) (st : Standing) → 20 ≤ st.matched → settle doing st ≡ st
stops_full doing st full = go st.queue refl
  where
    go : (q : List Shown) → st.queue ≡ q → settle doing st ≡ st
    go [] e = stops_empty doing st e
    go (t ∷ rest) e = stops_first doing st t rest e (and_left _ _ (le-ltb st.matched 20 full))

-- ---- as far as it has come

-- a standing that settles to the same, with these still waiting
pub record Reaches (doing : Doing) (stand : Stand) (goal : Standing) : Type 0 where
  pub now : Standing
  pub stands : IsStanding stand now now.queue
  pub first_time : now.again ≡ false
  pub same : settle doing now ≡ goal

pub record Settling (doing : Doing) (begun stand : Stand) : Type 0 where
  pub ready : IsStand stand
  pub left : unsettled_left stand ≤ unsettled_left begun
  pub reaches : (st : Standing) → IsStanding begun st st.queue → st.again ≡ false → Reaches doing stand (settle doing st)

pub settling_begins : (doing : Doing) (begun : Stand) → IsStand begun → Settling doing begun begun
settling_begins doing begun h = record { ready = h; left = omega arith; reaches = λ st stands first. record { now = st; stands = stands; first_time = first; same = refl } }

-- ---- what is left

left_first : (xs : List Version) (v : Version) (tries : ℕ) → waiting_left (xs ++ v ∷ []) tries ≡ length xs * 8 + tries
left_first [] v tries = refl
left_first (x ∷ xs) v tries = let e = length-append xs (v ∷ []) in omega arith

left_most : (xs : List Version) (tries : ℕ) → tries ≤ 8 → waiting_left xs tries ≤ length xs * 8
left_most [] tries h = omega arith
left_most (x ∷ xs) tries h = omega arith

few_tries : (stand : Stand) → tries_left stand ≤ 8
few_tries stand = omega arith

counts_left : (stand new : Stand) (left : Vec Version Global) (v : Version) (id : Tree) → stand.queue.items ≡ left.items ++ v ∷ [] → IsCounted (without_first stand left) id 0 new → unsettled_left new ≤ unsettled_left stand
counts_left stand new left v id is n =
    let pages : pages_left new.is_whole new.from ≡ pages_left stand.is_whole stand.from = λ i. pages_left (n.is_whole i) (n.from i) in
    let rows = left_most new.queue.items (tries_left new) (few_tries new) in
    let many = ap length n.queue in
    let was : waiting_left stand.queue.items (tries_left stand) ≡ length left.items * 8 + tries_left stand = ap (λ (l : List Version). waiting_left l (tries_left stand)) is ∙ left_first left.items v (tries_left stand) in
    omega arith

takes_left : (stand : Stand) (left : Vec Version Global) (v : Version) → stand.queue.items ≡ left.items ++ v ∷ [] → stand_left (without_first stand left) + tries_left (without_first stand left) ≡ unsettled_left stand
takes_left stand left v is =
    let was : waiting_left stand.queue.items (tries_left stand) ≡ length left.items * 8 + tries_left stand = ap (λ (l : List Version). waiting_left l (tries_left stand)) is ∙ left_first left.items v (tries_left stand) in
    omega arith

-- ---- the first row is met

module _ (doing : Doing) (begun stand : Stand) (h : Settling doing begun stand) where
  module _ (left : Vec Version Global) (v : Version) (is : stand.queue.items ≡ left.items ++ v ∷ []) where
    module _ (st : Standing) (stands : IsStanding begun st st.queue) (first_time : st.again ≡ false) where
      abbrev r : Reaches doing stand (settle doing st)
      r = h.reaches st stands first_time

      abbrev t : IsFirst left.items v r.now.queue
      t = first_waits stand.queue.items left.items v r.now.queue is r.stands.queue

      rest_stands : IsStanding (without_first stand left) r.now t.rest
      rest_stands = first_stands stand left v r.now r.now.queue t r.stands

      fewer : stand.matched < 20 → r.now.matched < 20
      fewer few = let e = r.stands.matched in omega arith

      reaches_more : (id : Tree) (new : Stand) → stand.matched < 20 → Meets doing v (met.Unchanged id) → IsCounted (without_first stand left) id 0 new → Reaches doing new (settle doing st)
      reaches_more id new few meets n = record {
        now = count t.first.x 0 t.rest r.now;
        stands = counted_stands (without_first stand left) new id 0 r.now t.first t.rest (sym (ap (λ (x : Found). x.id) t.row) ∙ sym meets.0) rest_stands n;
        first_time = r.first_time;
        same = counts_first doing r.now t.first t.rest t.waiting_is (fewer few) (ap (λ (x : Found). change_of doing x.doc) (sym t.row) ∙ meets.1) ∙ r.same;
      }

      pub takes : (attempt : Attempt) → stand.matched < 20 → Meets doing v (met.Changed attempt) → Settles doing (settle doing st) (s.Taken (without_first stand left) attempt)
      takes attempt few meets =
          let change = ap (λ (x : Found). change_of doing x.doc) (sym t.row) ∙ meets.2 in
          let same = sym (stops_changed doing r.now t.first t.rest attempt.change t.waiting_is change) ∙ r.same in
          subst (λ (z : Standing). Settles doing z (s.Taken (without_first stand left) attempt)) same (
            fewer few,
            record {
              first = t.first;
              rest = t.rest;
              queue = t.waiting_is;
              first_time = r.first_time;
              id = sym (ap (λ (x : Found). x.id) t.row) ∙ sym meets.0;
              read = sym (ap (λ (x : Found). x.tx) t.row) ∙ sym meets.1;
              change = change;
              stands = rest_stands;
            },
          )

      pub refuses : (fault : UpdateFault) → stand.matched < 20 → Meets doing v (met.Refused fault) → Settles doing (settle doing st) (s.Refused (without_first stand left) fault)
      refuses fault few meets = ⊎_elim
          (λ (cut : fault ≡ faults.NoMemory). inl (cut, r.stands.modified ∙ (sym (settled_modified doing r.now.queue r.now) ∙ ap (λ (z : Standing). z.modified) r.same)))
          (λ (no : change_of doing v.doc ≡ Err fault).
          let refused = ap (λ (x : Found). change_of doing x.doc) (sym t.row) ∙ no in
          subst (λ (z : Standing). Settles doing z (s.Refused (without_first stand left) fault)) (sym (stops_refused doing r.now t.first t.rest fault t.waiting_is refused) ∙ r.same) (inr (record {
            first = t.first;
            rest = t.rest;
            queue = t.waiting_is;
            first_time = r.first_time;
            few = fewer few;
            refused = refused;
            stands = rest_stands;
          })))
          meets

    pub settling_counts : (id : Tree) (new : Stand) → stand.matched < 20 → Meets doing v (met.Unchanged id) → IsCounted (without_first stand left) id 0 new → Settling doing begun new
    settling_counts id new few meets n = record {
      ready = counted_stand (without_first stand left) new id 0 few (omega arith) (first_stand stand left v h.ready is) n;
      left = let a = counts_left stand new left v id is n in let b = h.left in omega arith;
      reaches = λ st stands first. reaches_more st stands first id new few meets n;
    }

    pub takes_ready : (attempt : Attempt) → stand.matched < 20 → Meets doing v (met.Changed attempt) → SettlesReady begun (s.Taken (without_first stand left) attempt)
    takes_ready attempt few meets = (first_stand stand left v h.ready is, few, meets.3, fewer_wait stand left v h.ready is, (let a = takes_left stand left v is in let b = h.left in omega arith))

  -- nothing waits, or as many are counted as may be
  pub ends_empty : (left : Vec Version Global) → stand.queue.items ≡ [] → left.items ≡ [] → (st : Standing) → IsStanding begun st st.queue → st.again ≡ false → Settles doing (settle doing st) (s.Untaken (without_first stand left))
  ends_empty left none still st stands first =
      let r = h.reaches st stands first in
      let empty = none_waits stand.queue.items r.now.queue none r.stands.queue in
      subst (λ (z : Standing). Settles doing z (s.Untaken (without_first stand left))) (sym (stops_empty doing r.now empty) ∙ r.same)
      (record { from = r.stands.from; is_whole = r.stands.is_whole; queue = ap (λ (l : List Version). map found_row (reverse l)) (still ∙ sym none) ∙ r.stands.queue; lost = r.stands.lost; matched = r.stands.matched; modified = r.stands.modified; last = r.stands.last; unput = r.stands.unput }, r.first_time, inl empty)

  pub empty_ready : (left : Vec Version Global) → stand.queue.items ≡ [] → left.items ≡ [] → SettlesReady begun (s.Untaken (without_first stand left))
  empty_ready left none still =
      let same : left.items ≡ stand.queue.items = still ∙ sym none in (
        record { few = h.ready.few; changed = h.ready.changed; waiting = (let e = ap length same in let w = h.ready.waiting in omega arith); short = subst AreShort (sym same) h.ready.short; lost = h.ready.lost },
        (let e = ap (λ (l : List Version). waiting_left l (tries_left stand)) same in let b = h.left in omega arith),
      )

  pub ends_full : 20 ≤ stand.matched → (st : Standing) → IsStanding begun st st.queue → st.again ≡ false → Settles doing (settle doing st) (s.Untaken stand)
  ends_full full st stands first =
      let r = h.reaches st stands first in
      let enough : 20 ≤ r.now.matched = let e = r.stands.matched in omega arith in
      subst (λ (z : Standing). Settles doing z (s.Untaken stand)) (sym (stops_full doing r.now enough) ∙ r.same) (r.stands, r.first_time, inr enough)

  pub full_ready : SettlesReady begun (s.Untaken stand)
  full_ready = (h.ready, h.left)
