use Rattle.std.proofs.Common.{◌≡◌, length, refl, ap, ◌∙◌, arith, rules, ◌∷◌, to_z, of_z, w64}
use Rattle.std.proofs.lemmas.Int.{ints}
use Rattle.json_tree.specs.Id.{top_inverted}
use Rattle.json_tree.proofs.Ids.{no_date, length-date_bytes, date_bytes-written}
use Rattle.json_tree.proofs.key.date_id.Goals as goal

pub returns-then-rest-ne8 : goal.returns-then-rest-ne8
returns-then-rest-ne8 c = no_date c.args.rest.now (λ d h e. absurd (omega (arith, length-date_bytes d, ap length e)))

pub returns : goal.returns
returns c =
    let d = to_z w64 (of_z w64 c.date_at.result) in
    let same : d ≡ c.date_at.result = omega (arith, ints) in
    let bits = ap (top_inverted 63) same ∙ c.date_at.ensures ∙ c.read_bytes.ensures.value in
    (ap (λ bs. 5 ∷ bs) (date_bytes-written c.args.rest.now d (omega arith) (λ i. (c.type_inv.rest i).fits) bits), refl, search rules)
