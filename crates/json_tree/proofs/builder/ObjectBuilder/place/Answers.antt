use Rattle.std.proofs.Common.{Option, unwrap_or, option_copied, length, ap, sym, subst, ◌∙◌, ℕ}
use Rattle.json_tree.specs.Places.{IsPlaces}
use Rattle.json_tree.specs.Members.{place_of}
use Rattle.json_tree.proofs.Places.{located}
use Rattle.json_tree.proofs.builder.ObjectBuilder.place.Goals as goal

pub returns-in-Some-get : goal.returns-in-Some-get
returns-in-Some-get c =
    let boxed : IsPlaces c.in-Some.places.value c.self.inside.members = rw c.in-Some.is at c.self.invariant in
    let places : IsPlaces c.deref.result.now c.self.inside.members = subst (λ m. IsPlaces m c.self.inside.members) (sym c.deref.ensures) boxed in
    let found = ap option_copied (sym c.in-Some-get.is) ∙ c.get.ensures.value in
    ap (λ (o : Option ℕ). unwrap_or o (length c.self.inside.members)) found ∙ located c.deref.result.now c.self.inside.members c.args.name.now places ∙ ap (place_of c.args.name.now) c.self.view_is

pub returns-in-None-get : goal.returns-in-None-get
returns-in-None-get c =
    let boxed : IsPlaces c.in-Some.places.value c.self.inside.members = rw c.in-Some.is at c.self.invariant in
    let places : IsPlaces c.deref.result.now c.self.inside.members = subst (λ m. IsPlaces m c.self.inside.members) (sym c.deref.ensures) boxed in
    let found = ap option_copied (sym c.in-None-get.is) ∙ c.get.ensures.value in
    c.len.ensures.value ∙ ap (λ (o : Option ℕ). unwrap_or o (length c.self.inside.members)) found ∙ located c.deref.result.now c.self.inside.members c.args.name.now places
    ∙ ap (place_of c.args.name.now) c.self.view_is
