use Rattle.std.proofs.Common.{◌≡◌, ◌<◌, ◌^◌, take, fold}
use Rattle.json_tree.specs.Bytes.{step}
use Rattle.json_tree.proofs.key.read_bytes.Given as goal

abbrev pub invariant-bytes : goal.invariant-bytes
invariant-bytes l = record { value : l.n ≡ fold step 0 (take l.b-index l.bytes); bound : l.n < 256 ^ l.b-index }
