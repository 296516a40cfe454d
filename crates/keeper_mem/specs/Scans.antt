-- Where a walk stands. Only the crate's private clauses cite it.
use Rattle.std.specs.List.{filter}
use Rattle.shred_cols.specs.declared.probe.Probe.{Probe}
use Rattle.shred_cols.specs.Rows.{Rows}
use Rattle.col_keeper.specs.Asked.{meets_document}

-- those whose documents' columns meet the probe
abbrev pub meeting : Probe → Rows → Rows
meeting probe rows = filter (λ e. meets_document probe e.1.doc) rows
