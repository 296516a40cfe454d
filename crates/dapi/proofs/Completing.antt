-- Where nothing stands in a run's way it ends whole, want of memory apart; and nobody disturbs its requests.
use Rattle.std.proofs.Common.{◌≡◌, ◌≤◌, ◌^◌, ◌⊎◌, ◌++◌, ◌∷◌, [], ℕ, ℤ, List, Bool, true, false, Option, Some, None, length, sym, ◌∙◌, ap, subst, arith, inl, inr, length-append}
use Rattle.std.specs.List.{AllByRecursion as Each}
use Rattle.outside_io.specs.Causes.{Rose, Rose-earlier}
use Rattle.outside_io.specs.Told.{Reading, Writing, then_left, IsHindered}
use Rattle.col_keeper.specs.Tables.{Tables}
use Rattle.store_core.specs.State.{State}
use Rattle.store_core.specs.Store.{Stored}
use Rattle.store_core.specs.Counts.{AllBy}
use Rattle.store_core.specs.Opening.{would_live, keeper_in, Refuses}
use Rattle.store_core.specs.declared.entry.Entry.{Entry}
use Rattle.store_core.specs.declared.entry.Entry.TheVariants.{Opened}
use Rattle.store_core.specs.declared.open.OpenFault.{OpenFault}
use Rattle.store_core.specs.declared.open.OpenFault.TheVariants as opens
use Rattle.reply_env.specs.declared.reply.ErrorItem.{ErrorItem}
use Rattle.reply_env.specs.declared.request.Request.{Request}
use Rattle.cmd_grammar.specs.Requests.{IsRefused}
use Rattle.cmd_tasks.specs.Session.{Asking, asks_for, is_refused, is_unread, Exchange, IsSession, AreCounted}
use Rattle.cmd_tasks.specs.Undisturbed.{IsUncontested, IsUnfailed, IsOwn, BlamesItself}
use Rattle.api_serve.specs.Answered.{IsAskedBy}
use Rattle.api_serve.specs.Session.{AreAsked}
use Rattle.api_serve.specs.Lines.{HasLines}
use Rattle.api_serve.specs.Request.{IsRightLine, AreRightLines}
use Rattle.api_serve.specs.Run.{ServesInput, ServesWholeLines, ServesBefore}
use Rattle.api_serve.specs.Ends.{IsWriteFault, EndsRun}
use Rattle.api_serve.specs.declared.run.RunHow.{RunHow}
use Rattle.api_serve.specs.declared.run.RunHow.TheVariants.{Done, ReadFault, WriteFault, TooLong, WrongLine, NoMemory}
use Rattle.dapi.specs.Words.{RunsOn}
use Rattle.dapi.specs.Note.{status_of, open_status}
use Rattle.dapi.specs.Ended.{EndsStore}
use Rattle.dapi.specs.Top.{Runs}
use Rattle.dapi.specs.Complete.{IsUnhindered, RunsUndisturbed}
use Rattle.dapi.proofs.Choosing.{same_collections}

-- laws of the crates below
abbrev pub LinesAreOne : Type 0
LinesAreOne = (input : List ℕ) (lines others : List (List ℕ)) → HasLines input lines → HasLines input others → lines ≡ others

abbrev pub AloneLosesNothing : Type 0
AloneLosesNothing = (base : State) (before more : List Entry) (k : ℕ) (exchanges : List Exchange) → AllBy k more → Each (λ x. BlamesItself x.asking) exchanges
    → IsSession base (before ++ Opened k ∷ more) k exchanges → Each (IsUncontested base (before ++ Opened k ∷ more) k) exchanges

abbrev pub StillHasNoFault : Type 0
StillHasNoFault = (base : State) (before more : List Entry) (k low high : ℕ) (exchanges : List Exchange) → AreCounted low high more → (Rose low high → ⊥) → Each (λ x. BlamesItself x.asking) exchanges
    → IsSession base (before ++ Opened k ∷ more) k exchanges → Each IsUnfailed exchanges

abbrev pub RefusalsAreOwn : Type 0
RefusalsAreOwn = (keyspace : List ℕ) (request : Request) (error : ErrorItem) → IsRefused keyspace request error → IsOwn error

-- what was read is no longer than what was there
read_fits : (whole input : List ℕ) (left : Option (List ℕ)) → Some whole ≡ then_left input left → length input ≤ length whole
read_fits whole input None e = cc
read_fits whole input (Some rest) e = let is : whole ≡ input ++ rest = cc in let l = ap length is in omega (arith, l, length-append input rest)

right_there : (lines : List (List ℕ)) (line : List ℕ) (behind : List (List ℕ)) → AreRightLines (lines ++ line ∷ behind) → IsRightLine line
right_there [] line behind h = h.0
right_there (l ∷ lines) line behind h = right_there lines line behind h.1

hindered_so : (before after : Writing) (b a : ℕ) (nothing : Bool) → IsWriteFault before after b a nothing → IsHindered before after
hindered_so before after b a false h = inl (Rose-earlier before.failed b after.failed h.0 (subst (Rose b) h.2 h.1))
hindered_so before after b a true h = inr h.1

-- requests that are refused by themselves are refused by errors of their own
own_one : RefusalsAreOwn → (keyspace : List ℕ) (request : Request) (asking : Asking) → IsAskedBy keyspace request asking → BlamesItself asking
own_one law keyspace request (asks_for coll c) asked = tt
own_one law keyspace request (is_refused error) asked = law keyspace request error asked
own_one law keyspace request is_unread asked = tt

own_each : RefusalsAreOwn → (keyspace : List ℕ) (requests : List Request) (xs : List Exchange) → AreAsked keyspace requests xs → Each (λ x. BlamesItself x.asking) xs
own_each law keyspace requests [] asked = tt
own_each law keyspace [] (x ∷ xs) asked = absurd asked
own_each law keyspace (request ∷ requests) (x ∷ xs) asked = (own_one law keyspace request x.asking asked.0, own_each law keyspace requests xs asked.1)

module _ {K : Type 0} (tables : K → Option Tables) (failed : K → ℕ) (words : List (List ℕ)) (given kept : K) (from to : Reading) (before after : Writing) where
  -- ---- where nothing stands in the way

  module _ (one : LinesAreOne) (u : IsUnhindered tables failed words given kept from to before after) where
    never_long : (P : List (List ℕ) → List ℕ → Type 0) → ServesWholeLines P from to before after (2 ^ 40) → ⊥
    never_long P h = let l = read_fits u.input h.input to.left (sym u.bytes ∙ h.read) in omega (arith, l, h.size, u.size)

    never_wrong : (P : List (List ℕ) → List ℕ → Type 0) (line : ℕ) → ServesBefore P from to before after line → ⊥
    never_wrong P line h =
        let w = h.wrong u.input u.bytes in
        let same : u.lines ≡ h.lines ++ w.line ∷ w.after = one u.input u.lines (h.lines ++ w.line ∷ w.after) u.has_lines w.has_lines in
        w.wrong (right_there h.lines w.line w.after (subst AreRightLines same u.right))

    ends_complete : (P : List (List ℕ) → List ℕ → Type 0) (how : RunHow) (status : ℕ) → status ≡ status_of how → EndsRun P from to before after how → (status ≡ 0) ⊎ (status ≡ 9)
    ends_complete P Done status is h = inl is
    ends_complete P (ReadFault b a) status is h = absurd (u.source (Rose-earlier from.failed b to.failed h.0.0 (subst (Rose b) h.0.2 h.0.1)))
    ends_complete P (WriteFault b a nothing) status is h = absurd (u.sink (hindered_so before after b a nothing h.0))
    ends_complete P TooLong status is h = absurd (never_long P h)
    ends_complete P (WrongLine line) status is h = absurd (never_wrong P line h)
    ends_complete P NoMemory status is h = inr is

    pub run_complete : (keyspace seed : List ℕ) (store : Stored K) (times : Option (List ℤ)) (how : RunHow) (status : ℕ) (A B C : Type 0) → status ≡ status_of how
        → EndsStore tables failed keyspace seed store times kept from to before after how ⊎ ((how ≡ NoMemory) × A × B × C) → (status ≡ 0) ⊎ (status ≡ 9)
    run_complete keyspace seed store times how status A B C is (inl e) = ends_complete _ how status is e.ended
    run_complete keyspace seed store times how status A B C is (inr none) = inr (is ∙ ap status_of none.0)

  -- where the store wasn't opened
  pub unopened_complete : IsUnhindered tables failed words given kept from to before after → (keyspace : List ℕ) (collections : List (List ℕ)) (status : ℕ) → RunsOn words keyspace collections
      → (fault : OpenFault K) → status ≡ open_status fault → kept ≡ keeper_in fault → Refuses tables failed collections given fault → (status ≡ 0) ⊎ (status ≡ 9)
  unopened_complete u keyspace collections status asked (opens.KeeperFault keeper b a) is back refuses =
      absurd (u.keeper (subst (λ (k : K). Rose (failed given) (failed k)) (sym back) (subst (λ (n : ℕ). Rose (failed given) n) refuses.1 (subst (λ (n : ℕ). Rose n a) refuses.0 refuses.2))))
  unopened_complete u keyspace collections status asked (opens.TooMany keeper) is back refuses =
      let over = refuses u.start u.told in
      let few : would_live collections u.start ≤ 100 = subst (λ (ns : List (List ℕ)). would_live ns u.start ≤ 100) (same_collections words u.keyspace keyspace u.collections collections u.asked asked) u.few in
      absurd (omega (arith, few, over.0))
  unopened_complete u keyspace collections status asked (opens.NoMemory keeper) is back refuses = inr is

  -- ---- nobody disturbs a request

  module _ (alone : AloneLosesNothing) (still : StillHasNoFault) (refusals : RefusalsAreOwn) (seed : List ℕ) (times : Option (List ℤ)) (run : Runs tables failed words given kept seed times (λ Served. ServesInput Served from to before after)) where
    own : Each (λ x. BlamesItself x.asking) run.ended.served.exchanges
    own = own_each refusals run.keyspace run.ended.served.requests run.ended.served.exchanges run.ended.served.asked

    history_is : run.history ≡ Opened run.ended.served.number ∷ run.ended.served.more
    history_is = run.ended.served.journal

    session : (base : State) → run.start ≡ Some base → IsSession base (Opened run.ended.served.number ∷ run.ended.served.more) run.ended.served.number run.ended.served.exchanges
    session base told = subst (λ (H : List Entry). IsSession base H run.ended.served.number run.ended.served.exchanges) history_is (run.ended.served.session base told)

    pub run_undisturbed : RunsUndisturbed tables failed words given kept from to before after seed times
    run_undisturbed =
        let s = run.ended.served in record {
          run = run;
          uncontested = λ base told. subst (λ (H : List Entry). Each (IsUncontested base H s.number) s.exchanges) (sym history_is) (alone base [] s.more s.number s.exchanges s.alone own (session base told));
          unfailed = λ quiet base told. still base [] s.more s.number run.count (failed kept) s.exchanges s.counted (λ rose. quiet (Rose-earlier (failed given) run.count (failed kept) run.counts rose)) own (session base told);
        }
