use Rattle.std.proofs.Common.{drop, ◌+◌, refl, ap, ◌∙◌, Err}
use Rattle.api_serve.specs.declared.one.LineStop.{LineStop}
use Rattle.api_serve.proofs.Waits.{partway_start, partway_line, partway_short, served_front, short_front, same_base}
use Rattle.api_serve.proofs.run.serve_lines.Goals as goal

pub lines-preserved : goal.lines-preserved
lines-preserved g c = let told = c.in-Ok.ensures in record {
  way = partway_line _ _ c.args.run.now _ c.lines.run c.lines.invariant.way c.in-Some.len told.served.0 _ _
      c.in-Some.ensures.some
      (served_front c.args.keyspace.now c.args.store.now.start c.lines.store.start c.args.session _ c.lines.run.lines c.line_len.new.self c.front-line.result.now c.in-Some.len told.served.0 _ c.lines.invariant.base.1 c.in-Some.ensures.same c.front-line.ensures told.served.2)
      (c.pass.ensures ∙ ap (λ xs. drop (c.in-Some.len + 1) xs) c.in-Some.ensures.same) told.served.1 refl;
  base = same_base c.args.store.now c.lines.store c.serve_line.new.store c.lines.invariant.base c.serve_line.ensures.base;
  known = c.serve_line.ensures.known;
  lawful = c.serve_line.ensures.lawful;
}

pub lines-init : goal.lines-init
lines-init g c = record { way = partway_start _ _ c.args.run.now; base = (refl, refl, refl); known = c.requires.known; lawful = c.journal_len.ensures.lawful }

pub returns-in-Err-NoMemory-clause-stopped : goal.returns-in-Err-NoMemory-clause-stopped
returns-in-Err-NoMemory-clause-stopped g c =
    partway_short _ _ c.args.run.now _ c.lines.run c.lines.invariant.way _ _ c.in-Some.len c.in-Some.ensures.some
    (short_front c.args.keyspace.now c.args.store.now.start c.lines.store.start c.args.session _ c.lines.run.lines c.line_len.new.self c.front-line.result.now c.in-Some.len _ c.lines.invariant.base.1 c.in-Some.ensures.same c.front-line.ensures
    (c.in-Err-NoMemory.ensures.short (ap (λ (s : LineStop). Err s) c.in-Err-NoMemory.field-0-is)))
    c.in-Err-NoMemory.ensures.kept
