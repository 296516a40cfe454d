-- A projection without paths shows the document whole.
use Rattle.std.proofs.Common.{◌≡◌, ℕ, Bool, true, List, [], ◌∷◌, length, nat_eq, sym, refl, ◌∙◌, ap, arith}
use Rattle.std.proofs.lemmas.Bool.{eqb-true}
use Rattle.json_tree.specs.Tree.{Tree, null, boolean, number, text, date, list, object, Members, no_members, member}
use Rattle.view_sort.specs.View.{shown, view}
use Rattle.view_sort.specs.declared.show.Show.{Show}

all_shown : (ms : Members) → shown true [] ms ≡ ms
all_shown no_members = refl
all_shown (member name t ms) = ap (member name t) (all_shown ms)

all_seen : (t : Tree) → view [] t ≡ t
all_seen null = refl
all_seen (boolean b) = refl
all_seen (number n) = refl
all_seen (text s) = refl
all_seen (date n) = refl
all_seen (list ts) = refl
all_seen (object ms) = ap object (all_shown ms)

pub no_rules : {X : Type 0} (xs : List X) (n : ℕ) (b : Bool) → n ≡ length xs → b ≡ nat_eq n 0 → b ≡ true → xs ≡ []
no_rules [] n b size is h = refl
no_rules (x ∷ xs) n b size is h = let none = eqb-true n 0 (sym is ∙ h) in absurd (omega (arith, size, none))

pub view_whole : (rules : List (List ℕ × Show)) (d v : Tree) → rules ≡ [] → v ≡ d → v ≡ view rules d
view_whole rules d v none same = same ∙ sym (all_seen d) ∙ ap (λ r. view r d) (sym none)
