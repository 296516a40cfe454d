use Rattle.std.proofs.Common.{◌≡◌, ◌+◌, ◌-◌, ◌/◌, ◌≤◌, ◌<◌, ℕ, false, length, get_or, arith, sym, subst, ◌∙◌}
use Rattle.shred_cols.specs.Search.{is_before}
use Rattle.shred_cols.specs.declared.entry.Entry.{Entry}
use Rattle.shred_cols.proofs.Started.{halved_before, halved_after, in_column, start_before, end_after}
use Rattle.shred_cols.proofs.search.seek.Goals.{then-front-back+then-not-is_short_of, else-front-back}
use Rattle.shred_cols.proofs.search.seek.Goals as goal

pub halves-preserved-then-is_short_of : goal.halves-preserved-then-is_short_of
halves-preserved-then-is_short_of c =
    let middle = c.halves.low + (c.halves.high - c.halves.low) / 2 in
    let within = in_column c.args.entries.now c.args.column c.front-front.result c.back-back.result middle c.args.path.now c.args.bytes.now c.args.end c.index-entries-middle.result c.front-front.ensures c.back-back.ensures (omega (arith, c.halves.invariant.front)) (omega (arith, c.halves-test.true, c.halves.invariant.back)) c.index-entries-middle.is in
    record {
      front = omega (arith, c.halves.invariant.front);
      back = c.halves.invariant.back;
      low = omega (arith, c.halves-test.true, c.halves.invariant.high);
      high = c.halves.invariant.high;
      before = halved_before c.args.entries.now c.args.column middle c.args.path.now c.args.bytes.now c.args.end c.index-entries-middle.result c.requires.sorted (omega (arith, c.halves-test.true, c.halves.invariant.high)) c.index-entries-middle.is (within ∙ sym c.is_short_of-in-halves.ensures ∙ c.if-is_short_of.true);
      after = c.halves.invariant.after;
    }

pub halves-preserved : goal.halves-preserved
halves-preserved c =
    let middle = c.halves.low + (c.halves.high - c.halves.low) / 2 in
    let within = in_column c.args.entries.now c.args.column c.front-front.result c.back-back.result middle c.args.path.now c.args.bytes.now c.args.end c.index-entries-middle.result c.front-front.ensures c.back-back.ensures (omega (arith, c.halves.invariant.front)) (omega (arith, c.halves-test.true, c.halves.invariant.back)) c.index-entries-middle.is in
    record {
      front = c.halves.invariant.front;
      back = omega (arith, c.halves-test.true, c.halves.invariant.back);
      low = c.halves.invariant.low;
      high = omega (arith, c.halves-test.true, c.halves.invariant.high);
      before = c.halves.invariant.before;
      after = halved_after c.args.entries.now c.args.column middle c.args.path.now c.args.bytes.now c.args.end c.index-entries-middle.result c.requires.sorted (omega (arith, c.halves-test.true, c.halves.invariant.high)) c.index-entries-middle.is (within ∙ sym c.is_short_of-in-halves.ensures ∙ c.if-is_short_of.false);
    }

pub halves-init : goal.halves-init
halves-init c =
    let es = c.args.entries.now in
    let front = c.front-front.result in
    let before = start_before es c.args.column front c.args.path.now c.args.bytes.now c.args.end c.front-front.ensures in
    elim c.if-front-back.branch [
      | then-front-back+then-not-is_short_of w ↦
          let within = in_column es c.args.column front c.back-back.result (front + 1) c.args.path.now c.args.bytes.now c.args.end w.index-entries-front.result c.front-front.ensures c.back-back.ensures (omega arith) w.if-front-back.true w.index-entries-front.is in
          record {
            front = omega arith;
            back = omega (arith, w.high-is, w.if-front-back.true);
            low = c.front-front.ensures.within;
            high = omega (arith, w.high-is, w.if-front-back.true, c.back-back.ensures.within);
            before = before;
            after = subst (λ n. (k : ℕ) (d : Entry) → n ≤ k → k < length es → is_before c.args.column c.args.path.now c.args.end c.args.bytes.now (get_or es k d) ≡ false) (sym w.high-is) (halved_after es c.args.column (front + 1) c.args.path.now c.args.bytes.now c.args.end w.index-entries-front.result c.requires.sorted (omega (arith, w.if-front-back.true, c.back-back.ensures.within)) w.index-entries-front.is (within ∙ sym w.is_short_of.ensures ∙ w.if-not-is_short_of.true));
          }
      | else-front-back w ↦ record {
        front = omega arith;
        back = omega (arith, w.high-is);
        low = c.front-front.ensures.within;
        high = omega (arith, w.high-is, c.back-back.ensures.within);
        before = before;
        after = subst (λ n. (k : ℕ) (d : Entry) → n ≤ k → k < length es → is_before c.args.column c.args.path.now c.args.end c.args.bytes.now (get_or es k d) ≡ false) (sym w.high-is) (end_after es c.args.column c.back-back.result c.args.path.now c.args.bytes.now c.args.end c.back-back.ensures);
      }
    ]
