use Rattle.cmd_tasks.proofs.Searching.{adds_searches, adds_seeks, ended_seeks}
use Rattle.cmd_tasks.proofs.search.search.Goals as goal

pub returns-in-Shown-clause-searches : goal.returns-in-Shown-clause-searches
returns-in-Shown-clause-searches g c =
    adds_searches c.args.by _ _ c.args.search.now c.args.progress _ _ c.in-Shown.item c.in-Shown.rows c.in-Shown.last c.added.result c.requires.searchable c.in-Shown.ensures.made c.added.ensures.adds

pub returns-in-Shown-clause-seeks : goal.returns-in-Shown-clause-seeks
returns-in-Shown-clause-seeks g c = λ base told from looks unended searching.
    adds_seeks base c.args.coll.now from c.args.search.now c.args.by _ looks c.args.progress searching unended c.in-Shown.item c.in-Shown.rows c.in-Shown.last c.added.result (c.in-Shown.ensures.told base told) c.added.ensures.adds

pub returns-in-Ended-clause-seeks : goal.returns-in-Ended-clause-seeks
returns-in-Ended-clause-seeks g c = λ base told from looks unended searching.
    ended_seeks base c.args.coll.now from c.args.search.now c.args.by _ looks c.args.progress searching unended c.in-Ended.item c.in-Ended.reply (c.in-Ended.ensures.told base told)

pub returns-in-Shown-clause-short : goal.returns-in-Shown-clause-short
returns-in-Shown-clause-short g c = λ kept. c.added.ensures.short kept c.in-Shown.ensures.short
