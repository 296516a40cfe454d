use Rattle.std.proofs.Common.{◌≡◌, ◌∙◌, ◌+◌, ℕ, sym, ap}
use Rattle.col_keeper.specs.Tables.{Tables}
use Rattle.store_core.specs.Opening.{missed, opened_with}
use Rattle.store_core.proofs.Histories.{told_back}
use Rattle.store_core.proofs.Openings.{last_same}
use Rattle.store_core.proofs.store.Store.open.Goals as goal

pub begin-requires-clause-next : goal.begin-requires-clause-next
begin-requires-clause-next g c = λ t told.
    let made = c.in-At.ensures.prepares in
    let b = told_back _ (opened_with c.args.names.now) t (sym made.0 ∙ told) in
    let first = made.3 b.0 b.1 in
    first.0 ∙ ap (λ (n : ℕ). n + 1) (sym (last_same (missed c.args.names.now b.0) b.0) ∙ ap (λ (t : Tables). t.last) b.2)
