-- Ids that are generated: UUIDs of version 4 (RFC 9562) out of ChaCha20 (RFC 8439), as texts.
use Rattle.std.specs.Prelude.{◌≡◌, ℕ, zero, suc, ◌%◌, ◌^◌, List, [], ◌∷◌, ◌++◌}
use Rattle.std.specs.Int.{w32, to_be_bytes}
use Rattle.rand_core.specs.Stream.{Stream, fill_bytes}
use Rattle.rand_core.specs.Steps.{stream_of, steps_u32}
use Rattle.rand_chacha.specs.ChaCha.{ChaCha, key_of, next_word}
use Rattle.uuid.specs.Parts.{v4_of_fill}
use Rattle.uuid.specs.Text.{lower, hyphenated_text}
use Rattle.json_tree.specs.Tree.{Tree, text}
use Rattle.cmd_grammar.specs.Ids.{IsIdText}
use Rattle.cmd_tasks.specs.declared.ids.Ids.{Ids}

-- a generator at its beginning: its key is the seed and the low 32 bits of the session's number, the highest byte first,
-- and its stream the number of the first write after the base
abbrev pub generator : List ℕ → ℕ → ℕ → ChaCha
generator seed base session = record { key = key_of (seed ++ to_be_bytes w32 (session % 2 ^ 32)); stream = base; word_pos = 0 }

-- what a generator of 20 rounds gives from now on
abbrev pub given_by : ChaCha → Stream
given_by g = stream_of (steps_u32 (next_word 10)) g

-- what the generator of a session gives from its beginning on
abbrev pub begins : List ℕ → ℕ → ℕ → Stream
begins seed base session = given_by (generator seed base session)

-- what is left to be given
abbrev pub stream_of_ids : Ids → Stream
stream_of_ids ids = given_by ids.rng

-- the text of the UUID that the next 16 bytes are, with the version and variant set
abbrev pub id_text : Stream → List ℕ
id_text s = hyphenated_text lower (v4_of_fill (fill_bytes 16 s)).0

-- the next id, and what is left after it
abbrev pub next_id : Stream → Tree
next_id s = text (id_text s)

abbrev pub after_id : Stream → Stream
after_id s = (v4_of_fill (fill_bytes 16 s)).1

-- the next n ids, and what is left after them
abbrev pub drawn : ℕ → Stream → List Tree
drawn zero s = []
drawn (suc n) s = next_id s ∷ drawn n (after_id s)

abbrev pub after_drawing : ℕ → Stream → Stream
after_drawing zero s = s
after_drawing (suc n) s = after_drawing n (after_id s)

-- a text as generated ids are
abbrev pub IsGenerated : Tree → Type 0
IsGenerated t = (u : List ℕ) × (t ≡ text u) × IsIdText u
