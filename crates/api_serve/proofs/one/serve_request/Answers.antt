use Rattle.std.proofs.Common.{◌≡◌, ◌+◌, ◌<◌, ◌≤◌, ◌++◌, ◌∷◌, [], ap, ◌∙◌, rules, ℕ, true, Result, Ok, Err, arith}
use Rattle.std.specs.Prelude.{OnOk, is_ok}
use Rattle.api_serve.proofs.Makes.{one_made, known_later}
use Rattle.api_serve.proofs.one.serve_request.Goals as goal

pub returns-clause-made : goal.returns-clause-made
returns-clause-made g c =
    one_made c.args.keyspace.now c.args.store.now.start c.args.session c.now_ms-moment.result _ c.args.request.now _ _ c.answer-reply.result (search rules) c.answer-reply.ensures.answers c.answer-reply.ensures.grown
    (c.push_reserved.ensures.items ∙ ap (λ ts. ts ++ c.answer-reply.result.trace ∷ []) c.reserve.ensures.items) c.now_ms-moment.ensures.gives c.now_ms-moment.ensures.later

pub returns-clause-known : goal.returns-clause-known
returns-clause-known g c = known_later c.args.session c.args.store.now.journal _ _ _ c.answer-reply.ensures.grown c.requires.known

room : {X E : Type 0} (r : Result X E) (n cap : ℕ) → is_ok r ≡ true → OnOk r (n + 1 ≤ cap) → n < cap
room (Ok x) n cap e h = omega (arith, h)
room (Err z) n cap e h = cc

pub push_reserved-requires : goal.push_reserved-requires
push_reserved-requires g c = room c.reserve.result _ _ c.if-is_err.ensures.negation c.reserve.ensures.ok
