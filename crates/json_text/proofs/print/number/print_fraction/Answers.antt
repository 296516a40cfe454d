use Rattle.std.proofs.Common.{◌≡◌, [], ◌∷◌, ◌++◌, arith, rules, ap, sym, ◌∙◌, append_assoc}
use Rattle.json_text.specs.Print.{padded, trimmed, with_point}
use Rattle.json_text.proofs.PrintSteps.{no_point, some_point}
use Rattle.json_text.proofs.print.number.print_fraction.Goals as goal

pub returns-then-fraction-eq0-clause-ok : goal.returns-then-fraction-eq0-clause-ok
returns-then-fraction-eq0-clause-ok c =
    let none : with_point (trimmed 18 c.args.n) ≡ [] = no_point _ _ _ (omega arith) c.trimmed_fraction-fraction.ensures.digits in
    search (rules, none)

pub returns-clause-ok : goal.returns-clause-ok
returns-clause-ok c =
    let f = c.trimmed_fraction-fraction.result in
    c.in_ok-print_digits.ensures.ok ∙ ap (λ l. l ++ padded f.digits f.left) c.in_ok-push.ensures.items ∙ append_assoc c.args.out.now.items (46 ∷ []) (padded f.digits f.left)
    ∙ ap (λ l. c.args.out.now.items ++ l) (sym (some_point f.digits f.left _ (omega arith) c.trimmed_fraction-fraction.ensures.digits))
