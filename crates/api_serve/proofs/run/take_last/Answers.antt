use Rattle.api_serve.specs.declared.one.LineStop.{LineStop}
use Rattle.std.proofs.Common.{Err, ◌≡◌, length, refl, sym, ◌∙◌, ap, arith}
use Rattle.api_serve.proofs.Waits.{last_none, last_served, last_short, served_as, short_as, length_none}
use Rattle.api_serve.proofs.run.take_last.Goals as goal

pub returns-then-is_empty-clause-taken : goal.returns-then-is_empty-clause-taken
returns-then-is_empty-clause-taken g c =
    let none : length c.part-part.result.now ≡ 0 = grind arith in
    last_none _ _ c.args.run.now _ (sym c.part-part.ensures ∙ length_none c.part-part.result.now none) refl

pub returns-in-Ok-clause-taken : goal.returns-in-Ok-clause-taken
returns-in-Ok-clause-taken g c =
    let some : length c.args.run.now.lines ≡ 0 → ⊥ = λ (e : length c.args.run.now.lines ≡ 0). let t = c.if-is_empty.ensures in let same = ap length c.part-part.ensures in grind arith in
    let told = c.in-Ok.ensures.served in
    last_served _ _ c.args.run.now _ _ told.0 some (served_as _ _ told.0 _ c.part-part.result.now c.args.run.now.lines c.part-part.ensures told.2) told.1

pub returns-in-Err-NoMemory-clause-stopped : goal.returns-in-Err-NoMemory-clause-stopped
returns-in-Err-NoMemory-clause-stopped g c =
    let some : length c.args.run.now.lines ≡ 0 → ⊥ = λ (e : length c.args.run.now.lines ≡ 0). let t = c.if-is_empty.ensures in let same = ap length c.part-part.ensures in grind arith in
    last_short _ _ c.args.run.now _ _ some (short_as _ _ _ c.part-part.result.now c.args.run.now.lines c.part-part.ensures (c.in-Err-NoMemory.ensures.short (ap (λ (s : LineStop). Err s) c.in-Err-NoMemory.field-0-is))) c.in-Err-NoMemory.ensures.kept
