-- The numbers of a command are under their bound.
use Rattle.std.proofs.Common.{◌≡◌, lit<, ◌<◌, ◌^◌, ◌/◌, ◌%◌, ◌==◌, ℕ, pos, negsuc, Bool, true, false, ◌&&◌, List, Option, Some, None, refl, arith, if◌then◌else◌}
use Rattle.std.specs.Prelude.{nat_lt}
use Rattle.std.specs.Option.{option_and_then, unwrap_or}
use Rattle.json_tree.specs.Tree.{Tree, null, boolean, number, text, date, list, object}
use Rattle.cmd_grammar.specs.Parts.{whole_in, option_in, number_in}

whole_small : (x : Tree) → unwrap_or (whole_in x) 0 < 2 ^ 31
whole_small (number (pos n)) = go ((n % 10 ^ 18 == 0) && nat_lt (n / 10 ^ 18) (2 ^ 31)) refl
  where
    go : (b : Bool) → ((n % 10 ^ 18 == 0) && nat_lt (n / 10 ^ 18) (2 ^ 31)) ≡ b → unwrap_or (if b then Some (n / 10 ^ 18) else None) 0 < 2 ^ 31
    go true e = grind (arith, e)
    go false e = lit< tt
whole_small (number (negsuc n)) = lit< tt
whole_small null = lit< tt
whole_small (boolean b) = lit< tt
whole_small (text t) = lit< tt
whole_small (date d) = lit< tt
whole_small (list ts) = lit< tt
whole_small (object ms) = lit< tt

option_small : (o : Option Tree) → unwrap_or (option_and_then whole_in o) 0 < 2 ^ 31
option_small None = lit< tt
option_small (Some x) = whole_small x

pub number_small : (name : List ℕ) (t : Tree) → number_in name t < 2 ^ 31
number_small name t = option_small (option_in name t)
