use Rattle.std.proofs.Common.{length, refl, sym, ap, ◌∙◌, arith, fold, ◌∷◌}
use Rattle.json_tree.specs.Bytes.{step}
use Rattle.json_tree.proofs.Ids.{no_number, length-number_bytes, number_bytes-read, number_bytes-written}
use Rattle.json_tree.proofs.key.number_id.Goals as goal

pub returns-then-rest-ne16 : goal.returns-then-rest-ne16
returns-then-rest-ne16 c = no_number c.args.rest.now (λ n h e. absurd (omega (arith, length-number_bytes n, ap length e)))

pub returns-in-Some : goal.returns-in-Some
returns-in-Some c =
    let bits = c.in-Some.ensures ∙ c.read_bytes.ensures.value in
    rw c.of_number.ensures.value (ap (λ bs. 2 ∷ bs) (number_bytes-written c.args.rest.now c.in-Some.n (omega arith) (λ i. (c.type_inv.rest i).fits) bits), refl, c.of_number.ensures.range)

pub returns-in-None : goal.returns-in-None
returns-in-None c = no_number c.args.rest.now (λ n h e. c.in-None.ensures n h (sym (number_bytes-read n h) ∙ ap (fold step 0) e ∙ sym c.read_bytes.ensures.value))
