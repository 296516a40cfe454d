-- One step of one session, with all the others beside it.
use Rattle.std.proofs.Common.{◌≡◌, ◌≢◌, ℕ, zero, suc, ◌+◌, ◌<◌, List, [], ◌∷◌, ◌++◌, set, false, refl, sym, ◌∙◌, subst, arith, ne_eqb}
use Rattle.store_core.specs.State.{State}
use Rattle.store_core.specs.Journal.{IsJournal}
use Rattle.store_core.specs.Counts.{by_of}
use Rattle.store_core.specs.Counts.{AllBy}
use Rattle.cmd_tasks.specs.Session.{Exchange, is_work, NoWork, IsSession, AreSessions}
use Rattle.store_core.specs.declared.entry.Entry.{Entry}
use Rattle.store_core.specs.declared.entry.Entry.TheVariants.{Opened, Created, Dropped, Changed, Failed}
use Rattle.cmd_tasks.proofs.Extension.{session_more}

other_work : (k : ℕ) (e : Entry) → by_of e ≢ k → is_work k e ≡ false
other_work k (Opened j) n = refl
other_work k (Created b c) n = ne_eqb b k n
other_work k (Dropped b c) n = ne_eqb b k n
other_work k (Changed b c i x f t) n = ne_eqb b k n
other_work k (Failed b c d) n = ne_eqb b k n

pub others_idle : (j k : ℕ) (es : List Entry) → k ≢ j → AllBy j es → NoWork k es
others_idle j k [] n h = tt
others_idle j k (e ∷ es) n h = (other_work k e (λ q. n (sym q ∙ h.0)), others_idle j k es n h.1)

-- the sessions from k on, to none of which the step belongs
later_stay : (base : State) (H more : List Entry) (j k : ℕ) (xss : List (List Exchange)) → IsJournal base (H ++ more) → AllBy j more → j < k → AreSessions base H k xss → AreSessions base (H ++ more) k xss
later_stay base H more j k [] journal own lt h = tt
later_stay base H more j k (xs ∷ xss) journal own lt h = (
  session_more base H more k xs journal (others_idle j k more (λ e. omega arith) own) h.0,
  later_stay base H more j (k + 1) xss journal own (omega arith) h.1,
)

-- the step of the session k + i: it has the exchanges ys afterwards
pub one_steps : (base : State) (H more : List Entry) (k i : ℕ) (xss : List (List Exchange)) (ys : List Exchange) → IsJournal base (H ++ more) → AllBy (k + i) more → IsSession base (H ++ more) (k + i) ys → AreSessions base H k xss → AreSessions base (H ++ more) k (set xss i ys)
one_steps base H more k i [] ys journal own made h = tt
one_steps base H more k zero (xs ∷ xss) ys journal own made h =
    let same : k + 0 ≡ k = omega arith in
    (subst (λ n. IsSession base (H ++ more) n ys) same made, later_stay base H more k (k + 1) xss journal (subst (λ n. AllBy n more) same own) (omega arith) h.1)
one_steps base H more k (suc i) (xs ∷ xss) ys journal own made h =
    let same : k + suc i ≡ (k + 1) + i = omega arith in (
      session_more base H more k xs journal (others_idle (k + suc i) k more (λ e. omega arith) own) h.0,
      one_steps base H more (k + 1) i xss ys journal (subst (λ n. AllBy n more) same own) (subst (λ n. IsSession base (H ++ more) n ys) same made) h.1,
    )
