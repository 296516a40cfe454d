use Rattle.std.proofs.Common.{◌≡◌, ◌+◌, true, false, refl, nat_eq, arith, sym, ap, ◌∙◌}
use Rattle.std.specs.List.{list_any}
use Rattle.outside_io.specs.Calls.{failed_calls}
use Rattle.outside_io.proofs.Counting.{failed_of-listed, failed_of-not_listed, failed_of-le}
use Rattle.outside_io.proofs.calls.Calls.fails_next.Goals as goal

pub overflow_add-self : goal.overflow_add-self
overflow_add-self c =
    let s = c.self.inside in
    omega (arith, failed_of-le s.fails.items s.made, c.self.invariant, c.if-fails.ensures.within refl)

pub invariant_of-self : goal.invariant_of-self
invariant_of-self c =
    let s = c.self.inside in
    let is : list_any (λ k. nat_eq k (s.made + 1)) s.fails.items ≡ true =
    sym (c.if-fails.ensures.value ∙ ap (list_any (λ k. nat_eq k (s.made + 1))) c.as_slice.ensures.value) in
    ap (λ n. n + 1) c.self.invariant
    ∙ sym (failed_of-listed s.fails.items s.made _ is (c.if-fails.ensures.within refl) c.saturating_add-self-inside.ensures)

pub invariant_of-self-else-fails : goal.invariant_of-self-else-fails
invariant_of-self-else-fails c =
    let s = c.self.inside in
    let is : list_any (λ k. nat_eq k (s.made + 1)) s.fails.items ≡ false =
    sym (c.if-fails.ensures.value ∙ ap (list_any (λ k. nat_eq k (s.made + 1))) c.as_slice.ensures.value) in
    c.self.invariant
    ∙ sym (failed_of-not_listed s.fails.items s.made _ is (omega arith) c.saturating_add-self-inside.ensures)

pub returns-then-fails-clause-failed : goal.returns-then-fails-clause-failed
returns-then-fails-clause-failed c =
    let s = c.self.inside in
    let is : list_any (λ k. nat_eq k (s.made + 1)) s.fails.items ≡ true =
    sym (c.if-fails.ensures.value ∙ ap (list_any (λ k. nat_eq k (s.made + 1))) c.as_slice.ensures.value) in
    rw c.if-fails.true
    (failed_of-listed s.fails.items s.made _ is (c.if-fails.ensures.within refl) c.saturating_add-self-inside.ensures
    ∙ ap (λ v. failed_calls v + 1) c.self.view_is)

pub returns-then-fails-clause-bounded : goal.returns-then-fails-clause-bounded
returns-then-fails-clause-bounded c =
    omega (arith, failed_of-le c.self.inside.fails.items c.saturating_add-self-inside.result, c.saturating_add-self-inside.type_inv)

pub returns-else-fails-clause-failed : goal.returns-else-fails-clause-failed
returns-else-fails-clause-failed c =
    let s = c.self.inside in
    let is : list_any (λ k. nat_eq k (s.made + 1)) s.fails.items ≡ false =
    sym (c.if-fails.ensures.value ∙ ap (list_any (λ k. nat_eq k (s.made + 1))) c.as_slice.ensures.value) in
    rw c.if-fails.false
    (failed_of-not_listed s.fails.items s.made _ is (omega arith) c.saturating_add-self-inside.ensures
    ∙ ap failed_calls c.self.view_is)

pub returns-else-fails-clause-bounded : goal.returns-else-fails-clause-bounded
returns-else-fails-clause-bounded c =
    omega (arith, failed_of-le c.self.inside.fails.items c.saturating_add-self-inside.result, c.saturating_add-self-inside.type_inv)
