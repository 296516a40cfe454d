use Rattle.std.proofs.Common.{ap, length, ◌∙◌}
use Rattle.cmd_tasks.proofs.Texts.{hyphenated_long}
use Rattle.cmd_tasks.proofs.ids.Ids.draw.Goals as goal

pub id_of-requires : goal.id_of-requires
id_of-requires c = ap length c.encode_lower-text.ensures.text ∙ hyphenated_long _
