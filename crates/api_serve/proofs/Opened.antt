-- A session that was opened, and the lines that it served.
use Rattle.std.proofs.Common.{◌≡◌, ◌≤◌, ◌^◌, refl, map, ◌++◌, ◌∷◌, [], ℕ, ℤ, List, Option, sym, ◌∙◌, ap, subst, append_assoc}
use Rattle.std.specs.Option.{ForSome}
use Rattle.outside_io.specs.Told.{Reading, Writing}
use Rattle.store_core.specs.State.{State, IsOld}
use Rattle.store_core.specs.Journal.{IsJournal}
use Rattle.store_core.specs.Store.{Stored, IsLawful}
use Rattle.store_core.specs.Counts.{opened_in}
use Rattle.store_core.specs.declared.entry.Entry.{Entry}
use Rattle.store_core.specs.declared.entry.Entry.TheVariants.{Opened}
use Rattle.cmd_tasks.specs.Session.{IsSession, AreCounted}
use Rattle.cmd_tasks.specs.declared.trace.Trace.{Trace}
use Rattle.rand_core.specs.Stream.{Stream}
use Rattle.cmd_tasks.specs.Ids.{begins}
use Rattle.api_serve.specs.Session.{Service, Serving, Stage, AreTraces, AreMoments, AreDrawn}
use Rattle.api_serve.specs.Shown.{service_of, serving_of, stage_of, seen}
use Rattle.api_serve.specs.Run.{Serves, ServesLines, ServesWholeLines, ServesFirst}
use Rattle.api_serve.specs.Ends.{EndsRun}
use Rattle.api_serve.specs.declared.run.RunHow.{RunHow}
use Rattle.api_serve.specs.declared.run.RunHow.TheVariants.{Done, ReadFault, WriteFault, TooLong, WrongLine, NoMemory}

-- what an opened session served, from before it was opened
pub opened_lines : (keyspace seed : List ℕ) (start : Option State) (first number : ℕ) (before : Serving) (opened after : Stage) (lines : List (List ℕ)) (output : List ℕ) → number ≡ opened_in before.journal
    → opened.journal ≡ before.journal ++ Opened number ∷ [] → opened.failed ≡ before.failed → opened.traces ≡ [] → opened.times ≡ before.times → opened.ids ≡ begins seed first number → ForSome start (λ base. IsSession base opened.journal number [])
    → Serves (service_of keyspace start number) opened lines output after → ServesLines keyspace seed start first before (seen after) lines output
opened_lines keyspace seed start first number before opened after lines output number_is journal failed traces times ids begun s =
    let more = s.made.grown.more in
    record {
      requests = s.requests;
      exchanges = s.exchanges;
      requested = s.requested;
      asked = s.asked;
      number = number;
      number_is = number_is;
      more = more;
      journal = s.made.grown.journal_is ∙ ap (λ xs. xs ++ more) journal ∙ append_assoc before.journal (Opened number ∷ []) more;
      alone = s.made.grown.alone;
      counted = subst (λ (n : ℕ). AreCounted n after.failed more) failed s.made.grown.counted;
      session = λ base told. s.made.session base told [] (begun base told);
      traces = subst (λ (ts : List Trace). AreTraces ts s.exchanges) (sym (s.made.traces ∙ ap (λ ts. ts ++ s.made.more) traces)) s.made.kept;
      moments = subst (λ (o : Option (List ℤ)). ForSome o (λ ts. AreMoments ts s.exchanges)) times s.made.moments;
      drawn = subst (λ (z : Stream). AreDrawn z s.exchanges) ids s.made.drawn;
      text = s.text;
    }

-- an end, with another word on the lines that were served
module _ (P Q : List (List ℕ) → List ℕ → Type 0) (said : (lines : List (List ℕ)) (output : List ℕ) → P lines output → Q lines output) (from to : Reading) (before after : Writing) where
  whole_as : (count : ℕ) → ServesWholeLines P from to before after count → ServesWholeLines Q from to before after count
  whole_as count h = record { input = h.input; lines = h.lines; part = h.part; output = h.output; read = h.read; size = h.size; split = h.split; served = said h.lines h.output h.served; written = h.written }

  first_as : ServesFirst P from to before after → ServesFirst Q from to before after
  first_as h = record { input = h.input; lines = h.lines; output = h.output; count = h.count; read = h.read; first = h.first; served = said h.lines h.output h.served; written = h.written }

  pub ends_as : (how : RunHow) → EndsRun P from to before after how → EndsRun Q from to before after how
  unfolding first_as
  ends_as Done h = record { input = h.input; lines = h.lines; output = h.output; read = h.read; size = h.size; ended = h.ended; has_lines = h.has_lines; served = said h.lines h.output h.served; written = h.written }
  ends_as (ReadFault b a) h = (h.0, (h.1.0, h.1.1, whole_as h.1.0 h.1.2))
  ends_as (WriteFault b a nothing) h = (h.0, record { first = first_as h.1.first; cut = h.1.cut })
  ends_as TooLong h = whole_as (2 ^ 40) h
  ends_as (WrongLine number) h = record { lines = h.lines; output = h.output; number_is = h.number_is; wrong = h.wrong; served = said h.lines h.output h.served; written = h.written }
  ends_as NoMemory h = first_as h

-- what holds of all lines that may have been served holds at the end
module _ (P : List (List ℕ) → List ℕ → Type 0) (X : Type 0) (gives : (lines : List (List ℕ)) (output : List ℕ) → P lines output → X) (from to : Reading) (before after : Writing) where
  pub ends_give : (how : RunHow) → EndsRun P from to before after how → X
  ends_give Done h = gives h.lines h.output h.served
  ends_give (ReadFault b a) h = gives h.1.2.lines h.1.2.output h.1.2.served
  ends_give (WriteFault b a nothing) h = gives h.1.first.lines h.1.first.output h.1.first.served
  ends_give TooLong h = gives h.lines h.output h.served
  ends_give (WrongLine number) h = gives h.lines h.output h.served
  ends_give NoMemory h = gives h.lines h.output h.served

-- the count of the keeper's faults never falls
pub ends_grow : (keyspace : List ℕ) (start : Option State) (number : ℕ) (opened later : Stage) (from to : Reading) (before after : Writing) (how : RunHow)
    → EndsRun (λ lines output. Serves (service_of keyspace start number) opened lines output later) from to before after how → opened.failed ≤ later.failed
ends_grow keyspace start number opened later from to before after how h =
    ends_give (λ lines output. Serves (service_of keyspace start number) opened lines output later) (opened.failed ≤ later.failed) (λ lines output s. s.made.grown.grows) from to before after how h

-- the traces of a session that was just opened were none, and its ids are drawn from a generator that was just made
pub ends_begun : (service : Service) (journal : List Entry) (failed : ℕ) (traces : List Trace) (times : Option (List ℤ)) (ids given : Stream) (later : Stage) (from to : Reading) (before after : Writing) (how : RunHow) → traces ≡ [] → ids ≡ given
    → EndsRun (λ lines output. Serves service (stage_of journal failed traces times ids) lines output later) from to before after how
    → EndsRun (λ lines output. Serves service (stage_of journal failed [] times given) lines output later) from to before after how
ends_begun service journal failed traces times ids given later from to before after how none is h =
    subst (λ (z : List Trace × Stream). EndsRun (λ lines output. Serves service (stage_of journal failed z.0 times z.1) lines output later) from to before after how) (λ j. (none j, is j)) h

-- an opened session's end, from before it was opened
pub ends_opened : (keyspace seed : List ℕ) (start : Option State) (first number : ℕ) (before_journal opened_journal : List Entry) (failed : ℕ) (times : Option (List ℤ)) (ids : Stream) (later : Stage) (from to : Reading) (before after : Writing) (how : RunHow)
    → number ≡ opened_in before_journal → opened_journal ≡ before_journal ++ Opened number ∷ [] → ids ≡ begins seed first number → ForSome start (λ base. IsSession base opened_journal number [])
    → EndsRun (λ lines output. Serves (service_of keyspace start number) (stage_of opened_journal failed [] times ids) lines output later) from to before after how
    → EndsRun (ServesLines keyspace seed start first (serving_of before_journal failed [] times) (seen later)) from to before after how
ends_opened keyspace seed start first number before_journal opened_journal failed times ids later from to before after how number_is journal ids_are begun h =
    ends_as (λ lines output. Serves (service_of keyspace start number) (stage_of opened_journal failed [] times ids) lines output later) (ServesLines keyspace seed start first (serving_of before_journal failed [] times) (seen later))
    (λ lines output s. opened_lines keyspace seed start first number (serving_of before_journal failed [] times) (stage_of opened_journal failed [] times ids) later lines output number_is journal refl refl refl ids_are begun s)
    from to before after how h

-- the store in which a session was just opened
pub ends_in_store : {K : Type 0} (failed : K → ℕ) (keyspace seed : List ℕ) (old opened : Stored K) (number : ℕ) (times : Option (List ℤ)) (ids : Stream) (later : Stage) (from to : Reading) (before after : Writing) (how : RunHow) → number ≡ opened_in old.journal
    → opened ≡ record old { journal = old.journal ++ Opened number ∷ [] } → ids ≡ begins seed opened.first number → ForSome old.start (λ b. b.sessions ≡ 0) → IsLawful opened
    → ((base : State) (history : List Entry) (k : ℕ) → base.sessions ≡ 0 → k ≡ opened_in history → IsJournal base (history ++ Opened k ∷ []) → IsSession base (history ++ Opened k ∷ []) k [])
    → EndsRun (λ lines output. Serves (service_of keyspace opened.start number) (stage_of opened.journal (failed opened.keeper) [] times ids) lines output later) from to before after how
    → EndsRun (ServesLines keyspace seed old.start old.first (serving_of old.journal (failed old.keeper) [] times) (seen later)) from to before after how
ends_in_store {K = K} failed keyspace seed old opened number times ids later from to before after how number_is is ids_are none lawful opens h =
    let legal : ForSome old.start (λ b. IsJournal b (old.journal ++ Opened number ∷ []) × IsOld b) = subst (λ (s : Stored K). IsLawful s) is lawful in
    ends_opened keyspace seed old.start old.first number old.journal (old.journal ++ Opened number ∷ []) (failed old.keeper) times ids later from to before after how number_is refl
    (ids_are ∙ ap (λ (s : Stored K). begins seed s.first number) is)
    (λ base told. opens base old.journal number (none base told) number_is (legal base told).0)
    (subst (λ (s : Stored K). EndsRun (λ lines output. Serves (service_of keyspace s.start number) (stage_of s.journal (failed s.keeper) [] times ids) lines output later) from to before after how) is h)

-- what was put into an empty list is all
pub only_one : {A B : Type 0} (f : A → B) (before after : List A) (x : A) → before ≡ [] → after ≡ before ++ x ∷ [] → map f after ≡ f x ∷ []
only_one f before after x none is = ap (map f) (is ∙ ap (λ xs. xs ++ x ∷ []) none)

-- the count of faults of a keeper in whose store a session was opened and served lines
pub store_grows : {K : Type 0} (failed : K → ℕ) (keyspace : List ℕ) (old opened : Stored K) (number : ℕ) (times : Option (List ℤ)) (ids : Stream) (later : Stage) (from to : Reading) (before after : Writing) (how : RunHow)
    → opened ≡ record old { journal = old.journal ++ Opened number ∷ [] }
    → EndsRun (λ lines output. Serves (service_of keyspace opened.start number) (stage_of opened.journal (failed opened.keeper) [] times ids) lines output later) from to before after how
    → failed old.keeper ≤ later.failed
store_grows {K = K} failed keyspace old opened number times ids later from to before after how is h =
    subst (λ (s : Stored K). failed s.keeper ≤ later.failed) is (ends_grow keyspace opened.start number (stage_of opened.journal (failed opened.keeper) [] times ids) later from to before after how h)
