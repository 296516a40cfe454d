-- What a reader or a writer of std's tells, over several calls of which the first ones moved nothing.
use Rattle.std.proofs.Common.{◌++◌, ℕ, List, Option, Some, None, refl, ap, sym, ◌∙◌}
use Rattle.std.specs.Io.KnownBytes.{Keeps, Appends, Consumes}

pub Keeps-refl : (a : Option (List ℕ)) → Keeps a a
Keeps-refl None = tt
Keeps-refl (Some xs) = refl

pub Keeps-Keeps : (a b c : Option (List ℕ)) → Keeps a b → Keeps b c → Keeps a c
Keeps-Keeps None b c first then = tt
Keeps-Keeps (Some xs) None c first then = absurd first
Keeps-Keeps (Some xs) (Some ys) None first then = absurd then
Keeps-Keeps (Some xs) (Some ys) (Some zs) first then = then ∙ first

pub Keeps-Consumes : (a b c : Option (List ℕ)) (bytes : List ℕ) → Keeps a b → Consumes b c bytes → Consumes a c bytes
Keeps-Consumes None b c bytes first then = tt
Keeps-Consumes (Some xs) None c bytes first then = absurd first
Keeps-Consumes (Some xs) (Some ys) None bytes first then = absurd then
Keeps-Consumes (Some xs) (Some ys) (Some zs) bytes first then = sym first ∙ then

pub Keeps-Appends : (a b c : Option (List ℕ)) (bytes : List ℕ) → Keeps a b → Appends b c bytes → Appends a c bytes
Keeps-Appends None b c bytes first then = tt
Keeps-Appends (Some xs) None c bytes first then = absurd first
Keeps-Appends (Some xs) (Some ys) None bytes first then = absurd then
Keeps-Appends (Some xs) (Some ys) (Some zs) bytes first then = then ∙ ap (λ l. l ++ bytes) first

pub Appends-Keeps : (a b c : Option (List ℕ)) (bytes : List ℕ) → Appends a b bytes → Keeps b c → Appends a c bytes
Appends-Keeps None b c bytes first then = tt
Appends-Keeps (Some xs) None c bytes first then = absurd first
Appends-Keeps (Some xs) (Some ys) None bytes first then = absurd then
Appends-Keeps (Some xs) (Some ys) (Some zs) bytes first then = then ∙ first

pub ruleset known = (Keeps-refl, Keeps-Keeps, Keeps-Consumes, Keeps-Appends, Appends-Keeps)
