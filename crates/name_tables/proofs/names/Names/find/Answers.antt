use Rattle.std.proofs.Common.{◌≡◌, [], bytes_eq, rules, tests, position}
use Rattle.std.proofs.lemmas.Iterator.{YieldsList-from_slice}
use Rattle.std.proofs.lemmas.Iterator.Search.{position_from_yields_List}
use Rattle.name_tables.proofs.names.Names.find.Goals as goal
use Rattle.name_tables.proofs.Places.{position-place}

pub returns-clause-found : goal.returns-clause-found
returns-clause-found g c =
    let found : c.position.result ≡ position (λ row. bytes_eq row.now c.args.name.now) c.self.inside.rows.now = position_from_yields_List (λ row. bytes_eq row.now c.args.name.now) _ _ c.position.result c.position.ensures.ran (YieldsList-from_slice _ c.iter.ensures.rest) (λ x b q k. search (rules, tests)) in
    λ i. rw (found, ← c.self.view_is) (position-place (λ row. row.now) c.self.inside.rows.now (record { ref_ptr = (0, 0); now = [] }) c.args.name.now i c.self.invariant.1)
