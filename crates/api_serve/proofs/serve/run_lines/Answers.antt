use Rattle.std.proofs.Common.{◌∙◌, ap, inl}
use Rattle.cmd_tasks.specs.Ids.{begins, stream_of_ids}
use Rattle.api_serve.proofs.Opened.{ends_in_store, store_grows}
use Rattle.api_serve.proofs.serve.run_lines.Goals as goal

pub returns-clause-ended : goal.returns-clause-ended
returns-clause-ended g c =
    let opened = c.in-Ok-open_session.ensures.opened in
    let ended = c.serve_session.ensures.ended in
    inl (
      ended.0,
      ended.2,
      ends_in_store g.K.Keeper.failed c.args.keyspace.now c.args.seed.now c.args.store.now c.open_session.new.self c.in-Ok-open_session.session _ (stream_of_ids c.new-ids.result) _ _ _ _ _ c.serve_session.result.how opened.0 opened.1
          (c.new-ids.ensures ∙ ap (λ n. begins c.args.seed.now n c.in-Ok-open_session.session) c.base_tx.ensures)
          (λ base told. (c.journal_len.ensures.kept.history.begins base told).none_open) c.in-Ok-open_session.ensures.lawful c.a_session_opens.ensures ended.3,
    )

pub returns-clause-faults : goal.returns-clause-faults
returns-clause-faults g c =
    store_grows g.K.Keeper.failed c.args.keyspace.now c.args.store.now c.open_session.new.self c.in-Ok-open_session.session _ _ _ _ _ _ _ c.serve_session.result.how c.in-Ok-open_session.ensures.opened.1 c.serve_session.ensures.ended.3
