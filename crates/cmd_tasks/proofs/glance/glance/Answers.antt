use Rattle.std.proofs.Common.{rules, ◌≡◌, subst, sym, Option, List}
use Rattle.std.specs.Option.{option_copied}
use Rattle.json_tree.specs.Tree.{Tree}
use Rattle.shred_cols.specs.Row.{Version}
use Rattle.shred_cols.specs.declared.probe.Probe.{Probe}
use Rattle.filter_tree.specs.View.{filter_tree}
use Rattle.col_keeper.specs.Pages.{IsPage}
use Rattle.reply_env.specs.Messages as errors
use Rattle.store_core.specs.Outcomes.{ShowsPage}
use Rattle.cmd_tasks.specs.Looking.{ShowsRows, ShowsNothing, GoesUp, Refuses}
use Rattle.cmd_tasks.specs.Pages.{up_of}
use Rattle.cmd_tasks.specs.Trace.{probe_of}
use Rattle.cmd_tasks.proofs.Glances.{shown_glances, shown_sees, gone_glances, gone_sees, fault_glances, fault_sees}
use Rattle.cmd_tasks.proofs.Shorts.{shown_short, nothing_short, stopped_short}
use Rattle.cmd_tasks.proofs.Fewness.{shown_few, nothing_few, stopped_few}
use Rattle.cmd_tasks.proofs.glance.glance.Goals as goal

pub rises-requires : goal.rises-requires
rises-requires g c =
    let last_is : option_copied c.as_ref.result ≡ c.args.last.now = search rules in
    subst (λ (l : List Version). IsPage c.args.last.now 64 l c.in-Rows.end) (sym c.deref.ensures.value) (subst (λ (l : Option Tree). IsPage l 64 c.in-Rows.rows.items c.in-Rows.end) last_is c.in-Rows.ensures.answers.1)

pub returns-in-Rows-clause-made : goal.returns-in-Rows-clause-made
returns-in-Rows-clause-made g c =
    let told = c.in-Rows.ensures.answers in
    shown_glances c.args.by _ _ c.args.last.now _ _ (filter_tree c.args.wanted.now.filter) c.in-Rows.at c.in-Rows.rows.items c.in-Rows.end c.shown.result told.0.1 told.0.0
    (subst (λ (l : List Version). GoesUp c.args.last.now (up_of c.in-Rows.end l)) c.deref.ensures.value c.rises.ensures)
    (subst (λ (a : Option Tree). ShowsRows (filter_tree c.args.wanted.now.filter) c.in-Rows.at a c.in-Rows.rows.items c.in-Rows.end c.shown.result) c.in-Ok.ensures c.shown.ensures)

pub returns-in-Rows-clause-told : goal.returns-in-Rows-clause-told
returns-in-Rows-clause-told g c = λ base told_base.
    let told = c.in-Rows.ensures.answers in
    let rows = told.2 base told_base in
    let last_is : option_copied c.as_ref.result ≡ c.args.last.now = search rules in
    shown_sees base c.args.coll.now c.args.by c.args.last.now _ _ (filter_tree c.args.wanted.now.filter) c.in-Rows.at c.in-Rows.rows.items c.in-Rows.end rows.0 c.shown.result told.0.1 told.0.0 rows.1 rows.2
    (subst (λ (l : Option Tree). IsPage l 64 c.in-Rows.rows.items c.in-Rows.end) last_is told.1)
    (subst (λ (l : Option Tree). ShowsPage (probe_of (filter_tree c.args.wanted.now.filter)) l rows.0 c.in-Rows.rows.items c.in-Rows.end) last_is (subst (λ (p : Probe). ShowsPage p (option_copied c.as_ref.result) rows.0 c.in-Rows.rows.items c.in-Rows.end) (search rules) rows.3))
    (subst (λ (a : Option Tree). ShowsRows (filter_tree c.args.wanted.now.filter) c.in-Rows.at a c.in-Rows.rows.items c.in-Rows.end c.shown.result) c.in-Ok.ensures c.shown.ensures)

pub returns-in-NoCollection-clause-made : goal.returns-in-NoCollection-clause-made
returns-in-NoCollection-clause-made g c =
    let told = c.in-NoCollection.ensures.answers in
    gone_glances c.args.by _ _ c.args.last.now _ _ c.in-NoCollection.at (Refuses (errors.no_collection c.args.coll.now)) c.gone.result told.0.1 told.0.0
    (subst (λ (a : Option Tree). ShowsNothing c.in-NoCollection.at a (Refuses (errors.no_collection c.args.coll.now)) c.gone.result) c.in-Ok.ensures c.gone.ensures)

pub returns-in-NoCollection-clause-told : goal.returns-in-NoCollection-clause-told
returns-in-NoCollection-clause-told g c = λ base told_base.
    let told = c.in-NoCollection.ensures.answers in
    gone_sees base c.args.coll.now c.args.by c.args.last.now _ _ (filter_tree c.args.wanted.now.filter) c.in-NoCollection.at c.gone.result told.0.1 told.0.0 (told.1 base told_base)
    (subst (λ (a : Option Tree). ShowsNothing c.in-NoCollection.at a (Refuses (errors.no_collection c.args.coll.now)) c.gone.result) c.in-Ok.ensures c.gone.ensures)

pub returns-in-Fault-clause-made : goal.returns-in-Fault-clause-made
returns-in-Fault-clause-made g c =
    let told = c.in-Fault.ensures.answers in
    fault_glances c.args.by _ _ c.args.last.now _ _ c.in-Fault.at c.in-Fault.before c.in-Fault.after (Refuses (errors.store_fault c.in-Fault.before c.in-Fault.after)) c.faulted.result told.entered told.point told.rose told.before_is told.count_is c.faulted.ensures

pub returns-in-Fault-clause-told : goal.returns-in-Fault-clause-told
returns-in-Fault-clause-told g c = λ base told_base.
    let told = c.in-Fault.ensures.answers in
    fault_sees base c.args.coll.now c.args.by c.args.last.now _ _ (filter_tree c.args.wanted.now.filter) c.in-Fault.at c.in-Fault.before c.in-Fault.after c.faulted.result told.entered told.point c.faulted.ensures

pub returns-in-Rows-clause-short : goal.returns-in-Rows-clause-short
returns-in-Rows-clause-short g c = shown_short (filter_tree c.args.wanted.now.filter) c.in-Rows.at _ c.in-Rows.rows.items c.in-Rows.end c.shown.result c.in-Rows.ensures.answers.1.short c.shown.ensures

pub returns-in-NoCollection-clause-short : goal.returns-in-NoCollection-clause-short
returns-in-NoCollection-clause-short g c = nothing_short c.in-NoCollection.at _ (Refuses (errors.no_collection c.args.coll.now)) c.gone.result c.gone.ensures

pub returns-in-Fault-clause-short : goal.returns-in-Fault-clause-short
returns-in-Fault-clause-short g c = stopped_short _ (Refuses (errors.store_fault c.in-Fault.before c.in-Fault.after)) c.faulted.result c.faulted.ensures

pub returns-in-Rows-clause-few : goal.returns-in-Rows-clause-few
returns-in-Rows-clause-few g c = shown_few (filter_tree c.args.wanted.now.filter) c.in-Rows.at _ c.in-Rows.rows.items c.in-Rows.end c.shown.result c.in-Rows.ensures.answers.1.most c.shown.ensures

pub returns-in-NoCollection-clause-few : goal.returns-in-NoCollection-clause-few
returns-in-NoCollection-clause-few g c = nothing_few c.in-NoCollection.at _ (Refuses (errors.no_collection c.args.coll.now)) c.gone.result c.gone.ensures

pub returns-in-Fault-clause-few : goal.returns-in-Fault-clause-few
returns-in-Fault-clause-few g c = stopped_few _ (Refuses (errors.store_fault c.in-Fault.before c.in-Fault.after)) c.faulted.result c.faulted.ensures
