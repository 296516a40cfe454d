use Rattle.std.proofs.Common.{◌∙◌, sym, ap, option_map, slice_get}
use Rattle.json_tree.proofs.Names.{member_is}
use Rattle.json_tree.proofs.value.Members.get.Goals as goal

pub returns-in-Some : goal.returns-in-Some
returns-in-Some c =
    ap (option_map (λ p. p.1)) c.in-Some.ensures ∙ ap (λ k. option_map (λ p. p.1) (slice_get c.args.self.now k)) c.place.ensures.value ∙ sym (member_is c.args.name.now c.args.self.now)

pub returns-in-None : goal.returns-in-None
returns-in-None c =
    ap (option_map (λ p. p.1)) c.in-None.ensures ∙ ap (λ k. option_map (λ p. p.1) (slice_get c.args.self.now k)) c.place.ensures.value ∙ sym (member_is c.args.name.now c.args.self.now)
