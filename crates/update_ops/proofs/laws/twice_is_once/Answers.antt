use Rattle.json_tree.specs.Tree.{date}
use Rattle.update_ops.specs.Clauses.{set, unset, rename, add_to_set, set_on_insert, current_date}
use Rattle.update_ops.specs.Clauses as e
use Rattle.update_ops.specs.Forms.{text_in, or_none, values_in}
use Rattle.std.proofs.Common.{false}
use Rattle.update_ops.proofs.Twice.{again, put_twice, inserted_twice, least_twice, greatest_twice, added_twice, unset_twice, renamed_twice}
use Rattle.update_ops.proofs.laws.twice_is_once.Goals as goal

pub returns-clause-set : goal.returns-clause-set
returns-clause-set c = λ path x d new moment on_insert h. again path (set x) d new moment on_insert h (put_twice c.puts_are_seen.ensures.there path x d new)

pub returns-clause-inserted : goal.returns-clause-inserted
returns-clause-inserted c = λ path x d new moment on_insert h. again path (set_on_insert x) d new moment on_insert h (inserted_twice c.puts_are_seen.ensures.there path x d new moment on_insert)

pub returns-clause-least : goal.returns-clause-least
returns-clause-least c = λ path x d new moment on_insert scalar h. again path (e.min x) d new moment on_insert h (least_twice c.puts_are_seen.ensures.there path x d new moment on_insert scalar)

pub returns-clause-greatest : goal.returns-clause-greatest
returns-clause-greatest c = λ path x d new moment on_insert scalar h. again path (e.max x) d new moment on_insert h (greatest_twice c.puts_are_seen.ensures.there path x d new moment on_insert scalar)

pub returns-clause-added : goal.returns-clause-added
returns-clause-added c =
    λ path x d new moment on_insert h. again path (add_to_set (or_none (values_in false x))) d new moment on_insert h (added_twice c.puts_are_seen.ensures.there c.same_decides.ensures path (or_none (values_in false x)) d new moment on_insert)

pub returns-clause-dated : goal.returns-clause-dated
returns-clause-dated c = λ path x d new moment on_insert h. again path current_date d new moment on_insert h (put_twice c.puts_are_seen.ensures.there path (date moment) d new)

pub returns-clause-unset : goal.returns-clause-unset
returns-clause-unset c = λ path x d new moment on_insert none h. again path unset d new moment on_insert h (λ k. unset_twice path new moment on_insert none)

pub returns-clause-renamed : goal.returns-clause-renamed
returns-clause-renamed c = λ path x d new moment on_insert none h. again path (rename (text_in x)) d new moment on_insert h (λ k. renamed_twice path (text_in x) new moment on_insert none)
