-- A map with the places of names.
use Rattle.std.proofs.Common.{◌≡◌, ℕ, List, length, Option, Some, None, unwrap_or, sym, ap, ◌∙◌, String, BTreeMap, IfSome}
use Rattle.std.specs.BTreeMap.{get_by_text}
use Rattle.json_tree.specs.Tree.{Tree}
use Rattle.json_tree.specs.Places.{IsPlaces}
use Rattle.json_tree.specs.Members.{place_of, revalue}
use Rattle.json_tree.proofs.Names.{place_of-in, place_in-revalue}

pub located : {Y : Type 0} (m : BTreeMap (String Y) ℕ) (ps : List (List ℕ × Tree)) (name : List ℕ) → IsPlaces m ps → unwrap_or (get_by_text m name) (length ps) ≡ place_of name ps
located m ps name p = ap (λ o. unwrap_or o (length ps)) (p.at name) ∙ place_of-in name ps

-- other values leave the places
pub places-revalue : {Y B : Type 0} (f : B → BTreeMap (String Y) ℕ) (o : Option B) (ps : List (List ℕ × Tree)) (i : ℕ) (t : Tree) → IfSome o (λ m. IsPlaces (f m) ps) → IfSome o (λ m. IsPlaces (f m) (revalue ps i t))
places-revalue f None ps i t p = tt
places-revalue f (Some m) ps i t p = record { at = λ q. p.at q ∙ sym (place_in-revalue q ps i t) }
