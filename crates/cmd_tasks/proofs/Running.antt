-- One request of a session, from its first step to its last.
use Rattle.std.proofs.Common.{◌≡◌, ◌≤◌, ◌<◌, ℕ, Option, List, [], ◌∷◌, ◌++◌, length, refl, sym, ap, ◌∙◌, subst, append_assoc, ⊎_elim, arith}
use Rattle.std.proofs.lemmas.List.{append-nil}
use Rattle.std.specs.Prelude.{⊤}
use Rattle.std.specs.Option.{ForSome}
use Rattle.store_core.specs.State.{State as Base}
use Rattle.store_core.specs.Journal.{IsJournal}
use Rattle.store_core.specs.Counts.{AllBy, opened_in}
use Rattle.store_core.specs.Store.{Stored, IsLawful, SameBase}
use Rattle.store_core.specs.declared.entry.Entry.{Entry}
use Rattle.store_core.specs.declared.entry.Entry.TheVariants.{Opened, Created, Dropped, Changed, Failed}
use Rattle.reply_env.specs.declared.reply.Reply.{Reply}
use Rattle.reply_env.specs.declared.reply.Reply.TheVariants.{NoMemory}
use Rattle.cmd_grammar.specs.Commands.{command_tree}
use Rattle.cmd_tasks.specs.Served.{IsServed}
use Rattle.cmd_tasks.specs.Session.{Exchange, asks_for, name_of, IsSession, IsAnswered, Records, AreCounted}
use Rattle.cmd_tasks.specs.Looking.{Risen}
use Rattle.cmd_tasks.specs.Moves.{ids_for, accepted_by}
use Rattle.cmd_tasks.specs.Stands.{StandsOn, IsSame, Adds, IfDone, ids_of, exchange, answered_by}
use Rattle.cmd_tasks.specs.declared.task.Task.{Task}
use Rattle.cmd_tasks.specs.declared.task.Served.{Served}
use Rattle.cmd_tasks.specs.declared.trace.Item.{Item}
use Rattle.cmd_tasks.specs.declared.work.State.{State}
use Rattle.cmd_tasks.specs.declared.work.State.TheVariants.{Inserting, Selecting, Listing, Counting, Choosing, Changing, Putting, Paging, Trying, Retrying, PuttingMany, Creating, Dropping, Naming, Unready, Done}
use Rattle.cmd_tasks.proofs.Sessions.{session_begins, session_steps, session_ends}
use Rattle.cmd_tasks.proofs.Standing.{IsServedAs, stands_served}

pub opened_more : (H more : List Entry) → opened_in H ≤ opened_in (H ++ more)
opened_more [] more = omega arith
opened_more (Opened k ∷ H) more = omega (arith, opened_more H more)
opened_more (Created by coll ∷ H) more = opened_more H more
opened_more (Dropped by coll ∷ H) more = opened_more H more
opened_more (Changed by coll id change before tx ∷ H) more = opened_more H more
opened_more (Failed by before count ∷ H) more = opened_more H more

by_append : (k : ℕ) (xs ys : List Entry) → AllBy k xs → AllBy k ys → AllBy k (xs ++ ys)
by_append k [] ys p q = q
by_append k (x ∷ xs) ys p q = (p.0, by_append k xs ys p.1 q)

counted_wider : (low high below above : ℕ) (xs : List Entry) → below ≤ low → high ≤ above → AreCounted low high xs → AreCounted below above xs
counted_wider low high below above [] p q h = tt
counted_wider low high below above (Opened k ∷ xs) p q h = counted_wider low high below above xs p q h
counted_wider low high below above (Created by coll ∷ xs) p q h = counted_wider low high below above xs p q h
counted_wider low high below above (Dropped by coll ∷ xs) p q h = counted_wider low high below above xs p q h
counted_wider low high below above (Changed by coll id change before tx ∷ xs) p q h = counted_wider low high below above xs p q h
counted_wider low high below above (Failed by b a ∷ xs) p q h = (omega (arith, p, h.0), omega (arith, q, h.1), counted_wider low high below above xs p q h.2)

counted_append : (low high : ℕ) (xs ys : List Entry) → AreCounted low high xs → AreCounted low high ys → AreCounted low high (xs ++ ys)
counted_append low high [] ys p q = q
counted_append low high (Opened k ∷ xs) ys p q = counted_append low high xs ys p q
counted_append low high (Created by coll ∷ xs) ys p q = counted_append low high xs ys p q
counted_append low high (Dropped by coll ∷ xs) ys p q = counted_append low high xs ys p q
counted_append low high (Changed by coll id change before tx ∷ xs) ys p q = counted_append low high xs ys p q
counted_append low high (Failed by b a ∷ xs) ys p q = (p.0, p.1, counted_append low high xs ys p.2 q)

-- the journal has more entries by the session, and the failed calls among them have counts between these
abbrev pub IsGrown : ℕ → List Entry → ℕ → List Entry → ℕ → Type 0
IsGrown k H low H' high = (more : List Entry) × (H' ≡ H ++ more) × AllBy k more × AreCounted low high more

grown_by : (k low high : ℕ) (H H' : List Entry) (trace trace' : List Item) → Adds k low high H H' trace trace' → IsGrown k H low H' high
grown_by k low high H H' trace trace' a = ⊎_elim
    (λ (z : (trace' ≡ trace) × (H' ≡ H)). ([], z.1 ∙ sym (append-nil H), tt, tt))
    (λ (z : (i : Item) × (more : List Entry) × (trace' ≡ trace ++ i ∷ []) × (H' ≡ H ++ more) × Records k (length H) i more × Risen i × AllBy k more × AreCounted low high more). (z.1, z.3, z.6, z.7)) a

grown_then : (k a b c : ℕ) (H I J : List Entry) → a ≤ b → b ≤ c → IsGrown k H a I b → IsGrown k I b J c → IsGrown k H a J c
grown_then k a b c H I J p q g h = (
  g.0 ++ h.0,
  h.1 ∙ ap (λ xs. xs ++ h.0) g.1 ∙ append_assoc H g.0 h.0,
  by_append k g.0 h.0 g.2 h.2,
  counted_append a c g.0 h.0 (counted_wider a b a c g.0 (omega arith) q g.3) (counted_wider b c a c h.0 p (omega arith) h.3),
)

-- a step of the session's last request
adds_session : (base : Base) (low high : ℕ) (H H' : List Entry) (k : ℕ) (xs : List Exchange) (x y : Exchange) → Adds k low high H H' x.trace y.trace → IsJournal base H' → IsAnswered base H' k y
    → IsSession base H k (xs ++ x ∷ []) → IsSession base H' k (xs ++ y ∷ [])
adds_session base low high H H' k xs x y a journal serves h = ⊎_elim
    (λ (z : (y.trace ≡ x.trace) × (H' ≡ H)). session_ends base H' k xs x y (subst (λ (l : List Entry). IsSession base l k (xs ++ x ∷ [])) (sym z.1) h) z.0 serves)
    (λ (z : (i : Item) × (more : List Entry) × (y.trace ≡ x.trace ++ i ∷ []) × (H' ≡ H ++ more) × Records k (length H) i more × Risen i × AllBy k more × AreCounted low high more).
    subst (λ (l : List Entry). IsSession base l k (xs ++ y ∷ [])) (sym z.3)
    (session_steps base H z.1 k xs x y z.0 h (subst (IsJournal base) z.3 journal) z.2 z.4 (subst (λ (l : List Entry). IsAnswered base l k y) z.3 serves))) a

same_then : (a b c : Task) → IsSame a b → IsSame b c → IsSame a c
same_then a b c p q = record { session = q.session ∙ p.session; coll = q.coll ∙ p.coll; moment = q.moment ∙ p.moment; ids = q.ids ∙ p.ids; command = q.command ∙ p.command }

module _ {K : Type 0} (failed : K → ℕ) where
  -- the request that began with the task t₀ on the store s₀ has come as far as the task t on the store s
  pub record IsServing (s₀ s : Stored K) (t₀ t : Task) : Type 0 where
    pub known : t₀.session < opened_in s.journal
    pub stands : StandsOn s.start s.journal t
    pub same : IsSame t₀ t
    pub base : SameBase s₀ s
    pub lawful : IsLawful s
    pub grown : IsGrown t₀.session s₀.journal (failed s₀.keeper) s.journal (failed s.keeper)
    pub faults : failed s₀.keeper ≤ failed s.keeper
    pub session : ForSome s₀.start (λ base. (xs : List Exchange) → IsSession base s₀.journal t₀.session xs → IsSession base s.journal t₀.session (xs ++ exchange t (NoMemory (accepted_by t.state)) ∷ []))

  pub serving_begins : (s : Stored K) (t : Task) → t.session < opened_in s.journal → t.trace.items.items ≡ [] → StandsOn s.start s.journal t → IsLawful s → IsServing s s t t
  serving_begins s t known none stands lawful = record {
    known = known;
    stands = stands;
    same = record { session = refl; coll = refl; moment = refl; ids = refl; command = refl };
    base = (refl, refl, refl);
    lawful = lawful;
    grown = ([], sym (append-nil s.journal), tt, tt);
    faults = omega arith;
    session = λ base told xs h. session_begins base s.journal t.session xs (exchange t (NoMemory (accepted_by t.state))) none (stands_served s.start s.journal t stands base told) h;
  }

  module _ (s₀ s s' : Stored K) (t₀ t t' : Task) (v : IsServing s₀ s t₀ t) (same : IsSame t t') (adds : Adds t.session (failed s.keeper) (failed s'.keeper) s.journal s'.journal t.trace.items.items t'.trace.items.items) (base' : SameBase s s') (faults : failed s.keeper ≤ failed s'.keeper) (lawful : IsLawful s') where
    by_session : Adds t₀.session (failed s.keeper) (failed s'.keeper) s.journal s'.journal t.trace.items.items t'.trace.items.items
    by_session = subst (λ (k : ℕ). Adds k (failed s.keeper) (failed s'.keeper) s.journal s'.journal t.trace.items.items t'.trace.items.items) v.same.session adds

    pub grown_after : IsGrown t₀.session s₀.journal (failed s₀.keeper) s'.journal (failed s'.keeper)
    grown_after = grown_then t₀.session (failed s₀.keeper) (failed s.keeper) (failed s'.keeper) s₀.journal s.journal s'.journal v.faults faults v.grown
        (grown_by t₀.session (failed s.keeper) (failed s'.keeper) s.journal s'.journal t.trace.items.items t'.trace.items.items by_session)

    pub known_after : t₀.session < opened_in s'.journal
    known_after = let g = grown_by t₀.session (failed s.keeper) (failed s'.keeper) s.journal s'.journal t.trace.items.items t'.trace.items.items by_session in
        omega (arith, v.known, opened_more s.journal g.0, ap opened_in g.1)

    pub base_after : SameBase s₀ s'
    base_after = (base'.0 ∙ v.base.0, base'.1 ∙ v.base.1, base'.2 ∙ v.base.2)

    pub same_after : IsSame t₀ t'
    same_after = same_then t₀ t t' v.same same

    pub faults_after : failed s₀.keeper ≤ failed s'.keeper
    faults_after = omega (arith, v.faults, faults)

    -- what a step makes of the session
    pub session_after : (reply : Reply) → IsServedAs s.start s'.journal t' t'.trace.items.items reply
        → ForSome s₀.start (λ base. (xs : List Exchange) → IsSession base s₀.journal t₀.session xs → IsSession base s'.journal t₀.session (xs ++ exchange t' reply ∷ []))
    session_after reply serves = λ base told xs h.
        let now = v.base.1 ∙ told in
        adds_session base (failed s.keeper) (failed s'.keeper) s.journal s'.journal t₀.session xs (exchange t (NoMemory (accepted_by t.state))) (exchange t' reply) by_session (lawful base (base'.1 ∙ now)).0
        (subst (λ (k : ℕ). IsServed base s'.journal (name_of t'.coll) k t'.trace.moment (ids_of t') (command_tree t'.command.value) t'.trace.items.items reply) (same.session ∙ v.same.session) (serves base now)) (v.session base told xs h)

    pub serving_goes_on : StandsOn s'.start s'.journal t' → IsServing s₀ s' t₀ t'
    serving_goes_on stands = record {
      known = known_after;
      stands = stands;
      same = same_after;
      base = base_after;
      lawful = lawful;
      grown = grown_after;
      faults = faults_after;
      session = session_after (NoMemory (accepted_by t'.state)) (λ base told. stands_served s'.start s'.journal t' stands base (base'.1 ∙ told));
    }

pub done_more : (s : State) (P Q : Reply → Type 0) → ((r : Reply) → P r → Q r) → IfDone s P → IfDone s Q
done_more (Inserting i) P Q f h = h
done_more (Selecting search p shows) P Q f h = h
done_more (Listing search p part) P Q f h = h
done_more (Counting w last n) P Q f h = h
done_more (Choosing one p) P Q f h = h
done_more (Changing one attempt reply) P Q f h = h
done_more (Putting one doc reply) P Q f h = h
done_more (Paging many stand) P Q f h = h
done_more (Trying many stand attempt) P Q f h = h
done_more (Retrying many stand id) P Q f h = h
done_more (PuttingMany many stand doc reply) P Q f h = h
done_more Creating P Q f h = h
done_more Dropping P Q f h = h
done_more Naming P Q f h = h
done_more (Unready command moment ids) P Q f h = h
done_more (Done r) P Q f h = f r h

done_with : (s : State) (P : Reply → Type 0) → IfDone s P → (r : Reply) × (s ≡ Done r) × P r
done_with (Inserting i) P h = absurd h
done_with (Selecting search p shows) P h = absurd h
done_with (Listing search p part) P h = absurd h
done_with (Counting w last n) P h = absurd h
done_with (Choosing one p) P h = absurd h
done_with (Changing one attempt reply) P h = absurd h
done_with (Putting one doc reply) P h = absurd h
done_with (Paging many stand) P h = absurd h
done_with (Trying many stand attempt) P h = absurd h
done_with (Retrying many stand id) P h = absurd h
done_with (PuttingMany many stand doc reply) P h = absurd h
done_with Creating P h = absurd h
done_with Dropping P h = absurd h
done_with Naming P h = absurd h
done_with (Unready command moment ids) P h = absurd h
done_with (Done r) P h = (r, refl, h)

-- a task that is done hands back what its session was told
pub handed_back : (start : Option Base) (H H' : List Entry) (k : ℕ) (t t' : Task) (s : Served) → IsSame t t' → IfDone t'.state (λ reply. s.reply ≡ reply) → s.trace ≡ t'.trace
    → IfDone t'.state (λ reply. ForSome start (λ base. (xs : List Exchange) → IsSession base H k xs → IsSession base H' k (xs ++ exchange t' reply ∷ [])))
    → ForSome start (λ base. (xs : List Exchange) → IsSession base H k xs → IsSession base H' k (xs ++ answered_by t s ∷ []))
handed_back start H H' k t t' s same reply trace served = λ base told xs h.
    let d = done_with t'.state _ served in
    let is : s.reply ≡ d.0 = let P : State → Type 0 = λ z. IfDone z (λ r. s.reply ≡ r) in subst P d.1 reply in
    let one : exchange t' d.0 ≡ answered_by t s = λ i. record { asking = asks_for (same.coll i) (command_tree (same.command i)); moment = (sym trace i).moment; ids = ids_for (same.ids i) (command_tree (same.command i)); trace = (sym trace i).items.items; reply = sym is i } in
    subst (λ (x : Exchange). IsSession base H' k (xs ++ x ∷ [])) one (d.2 base told xs h)

-- it is done
pub is_done : (s : State) (P : Reply → Type 0) → IfDone s P → IfDone s (λ reply. ⊤)
is_done s P h = done_more s P _ (λ r p. tt) h
