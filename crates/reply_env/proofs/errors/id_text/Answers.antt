use Rattle.std.specs.Str.{IsUtf8}
use Rattle.reply_env.proofs.Ids.{id_is_utf8}
use Rattle.reply_env.proofs.errors.id_text.Goals as goal

pub unreachable-requires : goal.unreachable-requires
unreachable-requires c =
    let printed : IsUtf8 c.in-Ok.text.items = rw (c.in-Ok.ensures.ok, c.value.ensures.value) (id_is_utf8 c.reads_back.ensures c.args.id.now c.value.ensures.id.0 c.value.ensures.id.1) in
    Prim.cc (c.in-Err-from_utf8.ensures.succeeds printed)
