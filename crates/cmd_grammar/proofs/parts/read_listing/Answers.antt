use Rattle.std.proofs.Common.{[], ◌∷◌, sym, subst}
use Rattle.json_tree.specs.View.{tree}
use Rattle.cmd_grammar.specs.Parts.{page_text}
use Rattle.cmd_grammar.specs.Refused.{projection_refusal, sort_refusal, contents_refusal}
use Rattle.cmd_grammar.specs.Answers.{RefusesFirst}
use Rattle.cmd_grammar.specs.Judged.{listing_refusal}
use Rattle.cmd_grammar.proofs.Order.{fires, none_of, refuses_before}
use Rattle.cmd_grammar.proofs.parts.read_listing.Goals as goal

pub returns-in-Err : goal.returns-in-Err
returns-in-Err c = let t = tree c.args.command.now in
    refuses_before (listing_refusal t) (page_text t) c.in-Err.fault (fires [] (projection_refusal t) (sort_refusal t ∷ contents_refusal t ∷ []) c.in-Err.fault tt c.in-Err.ensures)

pub returns-in-Err-read_sort : goal.returns-in-Err-read_sort
returns-in-Err-read_sort c = let t = tree c.args.command.now in
    refuses_before (listing_refusal t) (page_text t) c.in-Err-read_sort.fault (fires (projection_refusal t ∷ []) (sort_refusal t) (contents_refusal t ∷ []) c.in-Err-read_sort.fault (c.in-Ok.ensures.0, tt) c.in-Err-read_sort.ensures)

pub returns-in-Err-check_contents : goal.returns-in-Err-check_contents
returns-in-Err-check_contents c = let t = tree c.args.command.now in
    refuses_before (listing_refusal t) (page_text t) c.in-Err-check_contents.fault
    (fires (projection_refusal t ∷ sort_refusal t ∷ []) (contents_refusal t) [] c.in-Err-check_contents.fault (c.in-Ok.ensures.0, (c.in-Ok-read_sort.ensures.0, tt)) c.in-Err-check_contents.ensures)

pub returns-in-Err-read_page : goal.returns-in-Err-read_page
returns-in-Err-read_page c = let t = tree c.args.command.now in
    subst (λ o. RefusesFirst o (page_text t) c.in-Err-read_page.fault)
    (sym (none_of (projection_refusal t ∷ sort_refusal t ∷ contents_refusal t ∷ []) (c.in-Ok.ensures.0, (c.in-Ok-read_sort.ensures.0, (c.in-Ok-check_contents.ensures.0, tt)))))
    c.in-Err-read_page.ensures

pub returns-in-Ok-read_page : goal.returns-in-Ok-read_page
returns-in-Ok-read_page c = let t = tree c.args.command.now in (
  none_of (projection_refusal t ∷ sort_refusal t ∷ contents_refusal t ∷ []) (c.in-Ok.ensures.0, (c.in-Ok-read_sort.ensures.0, (c.in-Ok-check_contents.ensures.0, tt))),
  record {
    projection = c.in-Ok.ensures.1;
    sort = c.in-Ok-read_sort.ensures.1;
    limit = c.number_in-limit.ensures;
    skip = c.number_in-skip.ensures;
    page = c.in-Ok-read_page.ensures.1;
  },
)
