-- A step of a task, and the entries of others between two steps, keep where it stands.
use Rattle.std.proofs.Common.{◌≡◌, ℕ, ℤ, zero, suc, ◌+◌, ◌<◌, ◌≤◌, List, [], ◌∷◌, ◌++◌, map, drop, reverse, length, Bool, true, false, Option, Some, None, refl, sym, ap, ◌∙◌, subst, arith, inl, length-append, length-drop, Vec, Global}
use Rattle.std.specs.Prelude.{IfSome, IsSome, slice_get}
use Rattle.std.specs.Option.{ForSome, option_map}
use Rattle.std.proofs.lemmas.List.{length-map, length-reverse}
use Rattle.json_tree.specs.Tree.{Tree}
use Rattle.json_tree.specs.View.{tree}
use Rattle.shred_cols.specs.Row.{Version}
use Rattle.col_keeper.specs.Tables.{Name}
use Rattle.filter_tree.specs.Filters.{FilterTree}
use Rattle.filter_tree.specs.View.{filter_tree}
use Rattle.view_sort.specs.Sort.{SortKeys}
use Rattle.store_core.specs.State.{State as Base}
use Rattle.store_core.specs.declared.entry.Entry.{Entry}
use Rattle.cmd_grammar.specs.Commands.{CommandTree, command_tree, IsAskable, insert_one, insert_many, find_one, find, count_documents, update_one, update_many, delete_one, delete_many, find_one_and_update, find_one_and_replace, find_one_and_delete, create_collection, find_collections, delete_collection}
use Rattle.reply_env.specs.declared.reply.Reply.{Reply}
use Rattle.reply_env.specs.declared.reply.Reply.TheVariants.{NoMemory}
use Rattle.cmd_tasks.specs.Trace.{Sight, sight, point, IsWithin}
use Rattle.cmd_tasks.specs.Searches.{first_of}
use Rattle.cmd_tasks.specs.Part.{from_of}
use Rattle.cmd_tasks.specs.Pages.{found_row}
use Rattle.cmd_tasks.specs.Doing.{Doing, updates, replaces, makes, deletes}
use Rattle.cmd_tasks.specs.Jobs.{Job, finds_one, finds, counts, under_ids, upsert_id, job_of}
use Rattle.cmd_tasks.specs.Insertions.{next_document}
use Rattle.cmd_tasks.specs.Taking.{not_put, at_start}
use Rattle.cmd_tasks.specs.Served.{IsOpen, IsOpenOne, IsPartOf, Serves, IsServed, accepted, sights}
use Rattle.cmd_tasks.specs.Session.{AreWithin, places, written, NoWork, Records, name_of}
use Rattle.cmd_tasks.specs.Looking.{Made}
use Rattle.cmd_tasks.specs.Many.{doing_of, taking, put_for, IsStart, IsWaiting, IsStanding}
use Rattle.cmd_tasks.specs.Moves.{paging, documents_of, Promises, stands_at, asked, IsReady, Begins, Steps, IsBegun, IsUnderWay, accepted_by}
use Rattle.cmd_tasks.specs.Placed.{OwnFrom, IsPlaced}
use Rattle.cmd_tasks.specs.Stands.{StandsOn, HasCollection, IsTargeted, IfDone, ids_of, job}
use Rattle.cmd_tasks.specs.declared.task.Task.{Task}
use Rattle.cmd_tasks.specs.declared.work.Many.{Many}
use Rattle.cmd_tasks.specs.declared.work.Stand.{Stand}
use Rattle.cmd_tasks.specs.declared.work.State.{State}
use Rattle.cmd_tasks.specs.declared.work.State.TheVariants.{Inserting, Selecting, Listing, Counting, Choosing, Changing, Putting, Paging, Trying, Retrying, PuttingMany, Creating, Dropping, Naming, Unready, Done}
use Rattle.cmd_tasks.specs.declared.work.Moved.TheVariants as m
use Rattle.cmd_tasks.specs.declared.trace.Item.{Item}
use Rattle.cmd_tasks.specs.declared.trace.Item.TheVariants.{Looked, Wrote, Lost, Faulted}
use Rattle.cmd_tasks.proofs.Extension.{sights_more, within_longer, places_more}
use Rattle.cmd_tasks.proofs.Requests.{accepts, cut_off}
use Rattle.cmd_tasks.proofs.Inserting.{inserts_accepts}
use Rattle.cmd_tasks.proofs.Accepted.{unput_accepts}
use Rattle.cmd_tasks.proofs.Drawing.{length_under}
use Rattle.cmd_tasks.proofs.Turnings.{to_put}
use Rattle.cmd_tasks.proofs.Fresh.{fresh_searching, none_first, match_none}
use Rattle.cmd_tasks.proofs.Sessions.{sights_snoc, ordered_snoc, within_snoc, written_snoc, places-append}

pub point_within : (n : ℕ) (i : Item) → IsWithin n i → point i ≤ n
point_within n (Looked at after up shown) h = h
point_within n (Wrote at) h = omega arith
point_within n (Lost at read found) h = h
point_within n (Faulted at before count) h = omega arith

drop_more : {A : Type 0} (n : ℕ) (xs ys : List A) → n ≤ length xs → drop n (xs ++ ys) ≡ drop n xs ++ ys
drop_more zero xs ys h = refl
drop_more (suc n) [] ys h = absurd (omega arith)
drop_more (suc n) (x ∷ xs) ys h = drop_more n xs ys (omega arith)

drop_front : {A : Type 0} (xs ys : List A) → drop (length xs) (xs ++ ys) ≡ ys
drop_front [] ys = refl
drop_front (x ∷ xs) ys = drop_front xs ys

-- Others' entries change nothing
own_more : (k : ℕ) (H more : List Entry) (trace : List Item) → AreWithin (length H) trace → NoWork k more → OwnFrom k H trace → OwnFrom k (H ++ more) trace
own_more k H more [] w none h = tt
own_more k H more (i ∷ is) w none h = ap (places k (point i)) (drop_more (point i) H more (point_within (length H) i w.0)) ∙ (places_more k (point i) (drop (point i) H) more none ∙ h)

pub placed_more : (k : ℕ) (H more : List Entry) (trace : List Item) → NoWork k more → IsPlaced k H trace → IsPlaced k (H ++ more) trace
placed_more k H more trace none p = record {
  ordered = p.ordered;
  within = within_longer (length H) (length (H ++ more)) trace (let e = length-append H more in omega arith) p.within;
  own = own_more k H more trace p.within none p.own;
}

-- An item and its entry
own_snoc : (k : ℕ) (H more : List Entry) (trace : List Item) (i : Item) → AreWithin (length H) trace → Records k (length H) i more → OwnFrom k H trace → OwnFrom k (H ++ more) (trace ++ i ∷ [])
own_snoc k H more [] i w g h = (λ j. places k (g.here j) (drop (g.here j) (H ++ more))) ∙ (ap (places k (length H)) (drop_front H more) ∙ g.own)
own_snoc k H more (x ∷ xs) i w g h =
    let p = point x in
    let le = point_within (length H) x w.0 in
    ap (places k p) (drop_more p H more le)
    ∙ (places-append k p (drop p H) more
    ∙ ((λ j. h j ++ places k (sum p le j) more)
    ∙ (ap (λ (ps : List ℕ). written (x ∷ xs) ++ ps) g.own ∙ sym (written_snoc (x ∷ xs) i))))
  where
    sum : (p : ℕ) → p ≤ length H → p + length (drop p H) ≡ length H
    sum p le = let e = length-drop p H in omega arith

placed_item : (k : ℕ) (H more : List Entry) (trace : List Item) (i : Item) → Records k (length H) i more → IsPlaced k H trace → IsPlaced k (H ++ more) (trace ++ i ∷ [])
placed_item k H more trace i g p = let size = length-append H more in record {
  ordered = ordered_snoc 0 (length H) trace i p.ordered p.within (omega arith) (omega (arith, g.here));
  within = within_snoc (length (H ++ more)) trace i (within_longer (length H) (length (H ++ more)) trace (omega arith) p.within) (subst (λ (n : ℕ). IsWithin n i) (sym size) g.stands);
  own = own_snoc k H more trace i p.within g p.own;
}

pub placed_made : (k low high : ℕ) (H H' : List Entry) (trace trace' : List Item) (i : Item) → Made k low high H H' i → trace' ≡ trace ++ i ∷ [] → IsPlaced k H trace → IsPlaced k H' trace'
placed_made k low high H H' trace trace' i made longer p = subst (λ (z : List Entry × List Item). IsPlaced k z.0 z.1) (λ j. (sym made.longer j, sym longer j)) (placed_item k H made.more trace i made.records p)

pub sights_made : (k low high : ℕ) (H H' : List Entry) (trace trace' : List Item) (i : Item) → Made k low high H H' i → trace' ≡ trace ++ i ∷ [] → AreWithin (length H) trace → sights H' trace' ≡ sight H' i ∷ sights H trace
sights_made k low high H H' trace trace' i made longer w =
    ap (sights H') longer ∙ (sights_snoc H' trace i
    ∙ ap (λ (z : List Sight). sight H' i ∷ reverse z) (ap (λ (h : List Entry). map (sight h) trace) made.longer ∙ sights_more H made.more trace w))

-- a task is done with this reply
pub done_so : (s : State) (P : Reply → Type 0) (r : Reply) → s ≡ Done r → P r → IfDone s P
done_so s P r is h = subst (λ (z : State). IfDone z P) (sym is) h

asked_so : (o : Option Job) (j : Job) (P : Job → Type 0) → o ≡ Some j → IfSome o P → P j
asked_so o j P e h = subst (λ (z : Option Job). IfSome z P) e h

-- ---- a request that was just begun

-- the first of some documents comes first
some_get : (xs : List Tree) → 0 < length xs → IsSome (slice_get xs 0)
some_get [] h = absurd (omega arith)
some_get (x ∷ xs) h = refl

first_next : (ds : List Tree) (ordered : Bool) → 0 < length ds → IsSome (next_document ds ordered [])
first_next ds true some = some_get ds some
first_next ds false some = some_get ds some

nothing_waits : (base : Base) (coll : Name) (from : Option Tree) → IsWaiting base coll (at_start from) []
nothing_waits base coll from = record { stood = tt; ascends = tt; passed = tt; written = λ id e. absurd (no e) }
  where
    no : false ≡ true → ⊥
    no e = cc

stands_at_start : (stand : Stand) (from : Option Tree) → IsStart from stand → IsStanding stand (at_start from) []
stands_at_start stand from h = record {
  from = h.from_is;
  is_whole = h.unlisted;
  queue = ap (λ (l : List Version). map found_row (reverse l)) h.queue;
  lost = ap reverse h.lost;
  matched = h.matched;
  modified = h.modified;
  last = h.last;
  unput = refl;
}

module _ (base : Base) (coll : Name) (k : ℕ) where
  one_open : (f : FilterTree) (sort : SortKeys) (doing : Doing) → IsOpenOne base coll k f sort doing []
  one_open f sort doing = (refl, omega arith, refl, match_none (first_of sort [] []) _ _ (none_first sort) (inl tt))

  -- a command that may be asked for isn't answered before anything was looked at
  open_at_once : (moment : ℤ) (ids : List Tree) (c : CommandTree) → IsAskable c → IsOpen base coll k (job_of moment ids c) []
  open_at_once moment ids (insert_one d) h = first_next (under_ids ids (d ∷ [])) true (omega arith)
  open_at_once moment ids (insert_many ds ordered) h = first_next (under_ids ids ds) ordered (omega (arith, h.1, length_under ds ids))
  open_at_once moment ids (find_one f sort p) h = tt
  open_at_once moment ids (find f sort p paging) h = tt
  open_at_once moment ids (count_documents f) h = tt
  open_at_once moment ids (update_one f u sort upsert) h = one_open f sort (makes (updates u moment) (upsert_id upsert ids))
  open_at_once moment ids (update_many f u upsert page) h = tt
  open_at_once moment ids (delete_one f sort) h = one_open f sort deletes
  open_at_once moment ids (delete_many f) h = tt
  open_at_once moment ids (find_one_and_update f u sort p upsert after) h = one_open f sort (makes (updates u moment) (upsert_id upsert ids))
  open_at_once moment ids (find_one_and_replace f r sort p upsert after) h = one_open f sort (makes (replaces r) (upsert_id upsert ids))
  open_at_once moment ids (find_one_and_delete f sort p) h = one_open f sort deletes
  open_at_once moment ids (create_collection name) h = refl
  open_at_once moment ids find_collections h = refl
  open_at_once moment ids (delete_collection name) h = refl

  begins_way : (asked_for : Job) (w : State) → Begins asked_for w → IsUnderWay base coll k w []
  begins_way j (Inserting i) h =
      let size : length i.left.items ≡ length i.all.value.items = ap length h.first.all in
      let same : length (documents_of i.all.value) ≡ length i.all.value.items = length-map (reverse i.all.value.items) tree ∙ length-reverse i.all.value.items in (
        (tt, first_next (documents_of i.all.value) i.ordered (let some = h.ready.some in omega (arith, size, same, some))),
        record { all = omega (arith, size); ids_are = h.first.ids; errors_are = h.first.errors },
      )
  begins_way j (Selecting search p shows) h = ((tt, tt), fresh_searching base coll None search p h.first)
  begins_way j (Listing search p part) h = ((tt, tt), fresh_searching base coll (from_of (paging part)) search p h.first)
  begins_way j (Counting w last n) h = ((tt, tt), h.first)
  begins_way j (Choosing one p) h = (
    (tt, one_open (filter_tree one.search.wanted.filter) one.search.sort (doing_of one.doing)),
    record { searching = fresh_searching base coll None one.search p h.first.0; none_yet = none_first one.search.sort; goes_on = tt; lost_are = ap reverse h.first.1 },
  )
  begins_way j (Changing one attempt reply) h = absurd h.first
  begins_way j (Putting one doc reply) h = absurd h.first
  begins_way j (Paging many stand) h =
      let from : Option Tree = option_map (λ p. p.last) many.page.value in ((tt, tt), (nothing_waits base coll from, refl, refl, stands_at_start stand from h.first))
  begins_way j (Trying many stand attempt) h = absurd h.first
  begins_way j (Retrying many stand id) h = absurd h.first
  begins_way j (PuttingMany many stand doc reply) h = absurd h.first
  begins_way j Creating h = ((tt, refl), tt)
  begins_way j Dropping h = ((tt, refl), tt)
  begins_way j Naming h = ((tt, refl), tt)
  begins_way j (Unready command moment ids) h = ((tt, open_at_once moment _ (command_tree command.value) h.ready), refl)
  begins_way j (Done reply) h = absurd h.first

  -- ---- as many writes were accepted as the state tells

  -- of a command that takes many, as many as it counts as changed
  many_so : (many : Many) (n : ℕ) (sights : List Sight) → n ≡ (stands_at base coll k many sights).modified → (stands_at base coll k many sights).put ≡ not_put → IsPartOf base coll k (taking many) sights → accepted sights ≡ n
  many_so many n sights modified unput part = unput_accepts base coll k (filter_tree many.wanted.filter) (doing_of many.doing) many.page.value sights part unput ∙ sym modified

  way_accepts : (w : State) (sights : List Sight) → IsReady w → IsUnderWay base coll k w sights → accepted sights ≡ accepted_by w
  way_accepts (Inserting i) sights ready way = inserts_accepts base coll k (documents_of i.all.value) i.ordered sights way.0.0 ∙ ap length (sym way.1.ids_are)
  way_accepts (Selecting search p shows) sights ready way = accepts base coll k (finds_one (filter_tree search.wanted.filter) search.sort shows) tt sights way.0
  way_accepts (Listing search p part) sights ready way = accepts base coll k (finds (filter_tree search.wanted.filter) search.sort part.projection (paging part)) tt sights way.0
  way_accepts (Counting w last n) sights ready way = accepts base coll k (counts (filter_tree w.filter)) tt sights way.0
  way_accepts (Choosing one p) sights ready way = way.0.1.0
  way_accepts (Changing one attempt reply) sights ready way = way.0.1.0
  way_accepts (Putting one doc reply) sights ready way = way.0.1.0
  way_accepts (Paging many stand) sights ready way = many_so many stand.modified sights way.1.3.modified way.1.3.unput way.0.0
  way_accepts (Trying many stand attempt) sights ready way = many_so many stand.modified sights way.1.1.stands.modified way.1.1.stands.unput way.0.0
  way_accepts (Retrying many stand id) sights ready way = many_so many stand.modified sights way.1.1.stands.modified way.1.1.stands.unput way.0.0
  way_accepts (PuttingMany many stand doc reply) sights ready way =
      many_so many 0 sights (sym way.1.none_written) (to_put (put_for many) (doing_of many.doing) (stands_at base coll k many sights) doc way.1.is).unput way.0.0
  way_accepts Creating sights ready way = ap accepted way.0.1
  way_accepts Dropping sights ready way = ap accepted way.0.1
  way_accepts Naming sights ready way = ap accepted way.0.1
  way_accepts (Unready command moment ids) sights ready way = ap accepted way.1
  way_accepts (Done reply) sights ready way = absurd ready

-- ---- tasks

-- entries of others
pub stands_longer : (start : Option Base) (H more : List Entry) (task : Task) → NoWork task.session more → StandsOn start H task → StandsOn start (H ++ more) task
stands_longer start H more task none h = record {
  asks = h.asks;
  ready = h.ready;
  has_collection = h.has_collection;
  placed = placed_more task.session H more task.trace.items.items none h.placed;
  under_way = λ base told. subst (IsUnderWay base (name_of task.coll) task.session task.state) (ap reverse (sym (sights_more H more task.trace.items.items h.placed.within))) (h.under_way base told);
}

-- a command on a collection has one
pub targeted : (coll : Option Name) (moment : ℤ) (ids : List Tree) (c : CommandTree) → IsTargeted coll c → HasCollection coll (job_of moment ids c)
targeted coll moment ids (insert_one d) h = h
targeted coll moment ids (insert_many ds ordered) h = h
targeted coll moment ids (find_one f sort p) h = h
targeted coll moment ids (find f sort p paging) h = h
targeted coll moment ids (count_documents f) h = h
targeted coll moment ids (update_one f u sort upsert) h = h
targeted coll moment ids (update_many f u upsert page) h = h
targeted coll moment ids (delete_one f sort) h = h
targeted coll moment ids (delete_many f) h = h
targeted coll moment ids (find_one_and_update f u sort p upsert after) h = h
targeted coll moment ids (find_one_and_replace f r sort p upsert after) h = h
targeted coll moment ids (find_one_and_delete f sort p) h = h
targeted coll moment ids (create_collection name) h = h
targeted coll moment ids find_collections h = tt
targeted coll moment ids (delete_collection name) h = h

-- a task that was just made
pub begun_stands : (start : Option Base) (H : List Entry) (task : Task) → task.trace.items.items ≡ [] → IsTargeted task.coll (command_tree task.command.value) → Begins (job task) task.state → StandsOn start H task
begun_stands start H task none on begins = record {
  asks = begins.asks;
  ready = begins.ready;
  has_collection = targeted task.coll task.trace.moment (ids_of task) (command_tree task.command.value) on;
  placed = subst (IsPlaced task.session H) (sym none) (record { ordered = tt; within = tt; own = tt });
  under_way = λ base told. subst (λ (z : List Item). IsUnderWay base (name_of task.coll) task.session task.state (sights H z)) (sym none) (begins_way base (name_of task.coll) task.session (job task) task.state begins);
}

-- a step that goes on
pub stands_on : (start : Option Base) (low high : ℕ) (H H' : List Entry) (task : Task) (w w' : State) (item : Item) (items : Vec Item Global) → StandsOn start H task → w ≡ task.state → items.items ≡ task.trace.items.items ++ item ∷ []
    → Steps task.session low high w H H' (m.Goes item w') → Promises start (name_of task.coll) task.session H H' w (m.Goes item w') → StandsOn start H' (record task { trace = record task.trace { items = items }; state = w' })
stands_on start low high H H' task w w' item items h w_is longer steps leads = record {
  asks = steps.1 ∙ (ap asked w_is ∙ h.asks);
  ready = steps.2;
  has_collection = h.has_collection;
  placed = placed_made task.session low high H H' task.trace.items.items items.items item steps.0 longer h.placed;
  under_way = λ base told. subst (IsUnderWay base (name_of task.coll) task.session w') (sym (sights_made task.session low high H H' task.trace.items.items items.items item steps.0 longer h.placed.within))
      (leads base told task.trace.items.items h.placed (subst (λ (z : State). IsUnderWay base (name_of task.coll) task.session z (sights H task.trace.items.items)) (sym w_is) (h.under_way base told)));
}

-- the task was served, with this trace and this reply
abbrev pub IsServedAs : Option Base → List Entry → Task → List Item → Reply → Type 0
IsServedAs start H task trace reply = ForSome start (λ base. IsServed base H (name_of task.coll) task.session task.trace.moment (ids_of task) (command_tree task.command.value) trace reply)

-- a step that answers the request
pub served_so : (start : Option Base) (low high : ℕ) (H H' : List Entry) (task : Task) (w : State) (item : Item) (reply : Reply) (trace : List Item) → StandsOn start H task → w ≡ task.state → trace ≡ task.trace.items.items ++ item ∷ []
    → Steps task.session low high w H H' (m.Ends item reply) → Promises start (name_of task.coll) task.session H H' w (m.Ends item reply) → IsServedAs start H' task trace reply
served_so start low high H H' task w item reply trace h w_is longer steps leads = λ base told.
    let coll = name_of task.coll in
    let seen = sights H task.trace.items.items in
    subst (λ (z : List Sight). Serves base coll task.session (job task) z reply) (sym (sights_made task.session low high H H' task.trace.items.items trace item steps longer h.placed.within))
    (asked_so (asked w) (job task) (λ j. Serves base coll task.session j (sight H' item ∷ seen) reply) (ap asked w_is ∙ h.asks)
    (leads base told task.trace.items.items h.placed (subst (λ (z : State). IsUnderWay base coll task.session z seen) (sym w_is) (h.under_way base told))))

-- want of memory
pub cut_so : (start : Option Base) (H H' : List Entry) (task : Task) (trace : List Item) (n : ℕ) → StandsOn start H task → H' ≡ H → trace ≡ task.trace.items.items → n ≡ accepted_by task.state → IsServedAs start H' task trace (NoMemory n)
cut_so start H H' task trace n h same same_trace accepted_is = λ base told.
    let coll = name_of task.coll in
    let way = h.under_way base told in
    let seen = sights H task.trace.items.items in
    subst (λ (z : List Entry × List Item). Serves base coll task.session (job task) (sights z.0 z.1) (NoMemory n)) (λ j. (sym same j, sym same_trace j))
    (subst (λ (m : ℕ). Serves base coll task.session (job task) seen (NoMemory m)) (way_accepts base coll task.session task.state seen h.ready way ∙ sym accepted_is)
    (cut_off base coll task.session (job task) seen (asked_so (asked task.state) (job task) (λ j. IsBegun base coll task.session j seen) h.asks way.0)))

-- the trace of a task that stands, with the reply for want of memory, was served
pub stands_served : (start : Option Base) (H : List Entry) (task : Task) → StandsOn start H task → IsServedAs start H task task.trace.items.items (NoMemory (accepted_by task.state))
stands_served start H task h = cut_so start H H task task.trace.items.items (accepted_by task.state) h refl refl refl
