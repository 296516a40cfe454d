use Rattle.std.proofs.Common.{◌∙◌, sym, ap, subst, rules}
use Rattle.std.specs.Prelude.{is_none}
use Rattle.std.specs.Option.{option_map}
use Rattle.filter_tree.specs.View.{filter_tree}
use Rattle.cmd_grammar.specs.Commands.{IsAskablePage}
use Rattle.cmd_tasks.specs.Jobs.{changes_many}
use Rattle.cmd_tasks.specs.Many.{doing_of}
use Rattle.cmd_tasks.specs.Part.{given_of}
use Rattle.cmd_tasks.proofs.Beginnings.{none_so, many_begins}
use Rattle.cmd_tasks.proofs.begin.paging_over.Goals as goal

pub returns : goal.returns
returns c = many_begins _ _ c.last_before.result c.stand_at.result
    (λ i. changes_many (filter_tree (c.new.ensures.filter i)) (doing_of c.args.doing) (c.of-snapshot.ensures i))
    (record {
      wanted = c.new.ensures.wanted;
      page = subst IsAskablePage (sym c.of-snapshot.ensures) c.requires.page;
      given = c.given_before-given.ensures ∙ ap given_of (sym c.of-snapshot.ensures);
      is_first = none_so _ c.is_none-is_first.result c.is_none-is_first.ensures ∙ ap is_none (sym c.of-snapshot.ensures);
    })
    c.stand_at.ensures (c.last_before.ensures ∙ ap (option_map (λ p. p.last)) (sym c.of-snapshot.ensures))
