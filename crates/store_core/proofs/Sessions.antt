-- A session that was opened is one of those that the journal opened.
use Rattle.std.proofs.Common.{◌≡◌, ℕ, ◌+◌, ◌<◌, List, [], ◌∷◌, ◌++◌, refl, ap, arith}
use Rattle.std.specs.Prelude.{IfOk, Result, Ok, Err}
use Rattle.store_core.specs.Counts.{opened_in}
use Rattle.store_core.specs.Store.{Stored}
use Rattle.store_core.specs.declared.entry.Entry.{Entry}
use Rattle.store_core.specs.declared.entry.Entry.TheVariants.{Opened, Created, Dropped, Changed, Failed}

opened_more : (es : List Entry) (k : ℕ) → opened_in (es ++ Opened k ∷ []) ≡ opened_in es + 1
opened_more [] k = omega arith
opened_more (Opened n ∷ es) k = let h = opened_more es k in omega arith
opened_more (Created b c ∷ es) k = opened_more es k
opened_more (Dropped b c ∷ es) k = opened_more es k
opened_more (Changed b c i x f t ∷ es) k = opened_more es k
opened_more (Failed b c d ∷ es) k = opened_more es k

pub session_known : {K E : Type 0} (r : Result ℕ E) (old new : Stored K) → IfOk r (λ k. (k ≡ opened_in old.journal) × (new ≡ record old { journal = old.journal ++ Opened k ∷ [] })) → IfOk r (λ k. k < opened_in new.journal)
session_known (Ok k) old new h =
    let number = h.0 in
    let more = opened_more old.journal k in
    let journal : opened_in new.journal ≡ opened_in (old.journal ++ Opened k ∷ []) = ap (λ s. opened_in s.journal) h.1 in
    omega arith
session_known (Err e) old new h = tt
