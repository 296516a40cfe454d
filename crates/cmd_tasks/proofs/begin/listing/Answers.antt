use Rattle.std.proofs.Common.{refl, sym, ap}
use Rattle.filter_tree.specs.View.{filter_tree}
use Rattle.cmd_tasks.proofs.Beginnings.{listing_begins}
use Rattle.cmd_tasks.proofs.begin.listing.Goals as goal

pub returns : goal.returns
returns c = listing_begins _ c.begin.result _ (filter_tree c.args.filter) (record { limit = c.args.limit; skip = c.args.skip; page = c.args.page }) c.last_before.result c.most_shown-most.result
    (ap filter_tree c.new.ensures.filter) (λ i. record { limit = c.args.limit; skip = c.args.skip; page = c.of-snapshot.ensures i }) c.new.ensures.wanted
    c.begin.ensures c.last_before.ensures refl (c.most_shown-most.ensures.most (record { limit = c.args.limit; skip = c.args.skip; page = c.args.page }) refl (sym c.given_before-given.ensures)) c.most_shown-most.ensures.few
    c.requires.paging c.given_before-given.ensures
