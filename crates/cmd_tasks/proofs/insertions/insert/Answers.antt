use Rattle.std.proofs.Common.{refl, sym}
use Rattle.cmd_tasks.specs.Inserting.{IsNextOf}
use Rattle.cmd_tasks.proofs.insertions.insert.Goals as goal

pub returns-in-Ok-clause-leads : goal.returns-in-Ok-clause-leads
returns-in-Ok-clause-leads g c =
    let next : IsNextOf c.args.insertions c.in-Ok.next.doc (record c.args.insertions { left = c.pop.new.self }) = record {
      v = c.in-Some.document;
      left = c.in-Some.ensures.items;
      document = sym c.in-Ok.ensures.0;
      all = refl;
      ordered = refl;
      ids = refl;
      errors = refl;
    } in
    c.insert_doc.ensures.leads c.args.insertions c.requires.ready next
