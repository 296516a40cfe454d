use Rattle.api_serve.proofs.Places.{part_utf8}
use Rattle.api_serve.proofs.request.part_text.Goals as goal

pub unreachable-requires : goal.unreachable-requires
unreachable-requires c = c.in_default.ensures.cases.0 (part_utf8 c.args.part.now c.requires)
