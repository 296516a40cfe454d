use Rattle.std.proofs.Common.{[], ◌∷◌}
use Rattle.json_tree.specs.View.{tree}
use Rattle.cmd_grammar.specs.Parts.{page_text}
use Rattle.cmd_grammar.specs.Refused.{filter_refusal, update_refusal, projection_refusal, sort_refusal, contents_refusal, parts_refusal}
use Rattle.cmd_grammar.proofs.Judging.{listing_fires, parts_pass}
use Rattle.cmd_grammar.proofs.Order.{fires, refuses_before}
use Rattle.cmd_grammar.proofs.parts.read_parts.Goals as goal

pub returns-in-Err-clause-answers : goal.returns-in-Err-clause-answers
returns-in-Err-clause-answers c = let t = tree c.args.command.now in
    refuses_before (parts_refusal t) (page_text t) c.in-Err.fault (fires [] (filter_refusal t) (update_refusal t ∷ projection_refusal t ∷ sort_refusal t ∷ contents_refusal t ∷ []) c.in-Err.fault tt c.in-Err.ensures.answers)

pub returns-in-Err-read_updates-clause-answers : goal.returns-in-Err-read_updates-clause-answers
returns-in-Err-read_updates-clause-answers c = let t = tree c.args.command.now in
    refuses_before (parts_refusal t) (page_text t) c.in-Err-read_updates.fault
    (fires (filter_refusal t ∷ []) (update_refusal t) (projection_refusal t ∷ sort_refusal t ∷ contents_refusal t ∷ []) c.in-Err-read_updates.fault (c.in-Ok.ensures.answers.0, tt) c.in-Err-read_updates.ensures)

pub returns-in-Err-read_listing-clause-answers : goal.returns-in-Err-read_listing-clause-answers
returns-in-Err-read_listing-clause-answers c = listing_fires (tree c.args.command.now) c.in-Err-read_listing.fault c.in-Ok.ensures.answers.0 c.in-Ok-read_updates.ensures.0 c.in-Err-read_listing.ensures

pub returns-in-Ok-read_listing-clause-answers : goal.returns-in-Ok-read_listing-clause-answers
returns-in-Ok-read_listing-clause-answers c = (
  parts_pass (tree c.args.command.now) c.in-Ok.ensures.answers.0 c.in-Ok-read_updates.ensures.0 c.in-Ok-read_listing.ensures.0,
  record { filter = c.in-Ok.ensures.answers.1; updates = c.in-Ok-read_updates.ensures.1; listing = c.in-Ok-read_listing.ensures.1; choices = c.choices_in-choices.ensures },
)
