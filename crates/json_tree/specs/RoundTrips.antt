-- Lists of trees and of pairs are the trees' own lists, and back.
use Rattle.std.proofs.Common.{◌≡◌, ℕ, List, [], ◌∷◌, refl, sym, ◌∙◌, ap}
use Rattle.json_tree.specs.Tree.{Tree, Elements, no_elements, element, Members, no_members, member, elements_of, members_of, list_of_elements, list_of_members}

pub list_of_elements-elements_of : (ts : List Tree) → list_of_elements (elements_of ts) ≡ ts
list_of_elements-elements_of [] = refl
list_of_elements-elements_of (t ∷ ts) = ap (λ x. t ∷ x) (list_of_elements-elements_of ts)

pub list_of_members-members_of : (ps : List (List ℕ × Tree)) → list_of_members (members_of ps) ≡ ps
list_of_members-members_of [] = refl
list_of_members-members_of (p ∷ ps) = ap (λ x. p ∷ x) (list_of_members-members_of ps)

pub elements_of-list_of_elements : (ts : Elements) → elements_of (list_of_elements ts) ≡ ts
elements_of-list_of_elements no_elements = refl
elements_of-list_of_elements (element t ts) = ap (element t) (elements_of-list_of_elements ts)

pub members_of-list_of_members : (ps : Members) → members_of (list_of_members ps) ≡ ps
members_of-list_of_members no_members = refl
members_of-list_of_members (member k t ps) = ap (member k t) (members_of-list_of_members ps)

-- lists and objects are told apart by what they hold
pub list_inj : (ts us : List Tree) → Tree.list (elements_of ts) ≡ Tree.list (elements_of us) → ts ≡ us
list_inj ts us e = sym (list_of_elements-elements_of ts) ∙ ap list_of_elements (Prim.cc e) ∙ list_of_elements-elements_of us

pub object_inj : (ps qs : List (List ℕ × Tree)) → Tree.object (members_of ps) ≡ Tree.object (members_of qs) → ps ≡ qs
object_inj ps qs e = sym (list_of_members-members_of ps) ∙ ap list_of_members (Prim.cc e) ∙ list_of_members-members_of qs

pub ruleset trees = (list_inj, object_inj)
