-- JSON values: a tree that holds no pointer.
use Rattle.std.specs.Prelude.{ℕ, ℤ, ◌+◌, Bool, List, [], ◌∷◌, ◌≡◌, refl}
use Rattle.std.specs.Coded.{Coded, coded_ℕ, coded_list, coded_ℤ, coded_bool}
use Rattle.std.proofs.Common.{ap}
use base.Stored.{Gv, gnil, gnum, gcons}

mutual
  pub data Tree : Type 0 where
    null : Tree
    boolean : Bool → Tree
    number : ℤ → Tree
    text : List ℕ → Tree
    date : ℤ → Tree
    list : Elements → Tree
    object : Members → Tree

  pub data Elements : Type 0 where
    no_elements : Elements
    element : Tree → Elements → Elements

  pub data Members : Type 0 where
    no_members : Members
    member : List ℕ → Tree → Members → Members

abbrev head : Gv → Gv
head gnil = gnil
head (gnum n) = gnil
head (gcons a b) = a

abbrev tail : Gv → Gv
tail gnil = gnil
tail (gnum n) = gnil
tail (gcons a b) = b

abbrev mutual
  pub code_tree : Tree → Gv
  code_tree null = gcons (gnum 0) gnil
  code_tree (boolean b) = gcons (gnum 1) (coded_bool.code b)
  code_tree (number n) = gcons (gnum 2) (coded_ℤ.code n)
  code_tree (text t) = gcons (gnum 3) ((coded_list coded_ℕ).code t)
  code_tree (date d) = gcons (gnum 4) (coded_ℤ.code d)
  code_tree (list ts) = gcons (gnum 5) (code_elements ts)
  code_tree (object ps) = gcons (gnum 6) (code_members ps)

  pub code_elements : Elements → Gv
  code_elements no_elements = gnil
  code_elements (element t ts) = gcons (code_tree t) (code_elements ts)

  pub code_members : Members → Gv
  code_members no_members = gnil
  code_members (member k t ps) = gcons ((coded_list coded_ℕ).code k) (gcons (code_tree t) (code_members ps))

mutual
  pub inj_tree : (x y : Tree) → code_tree x ≡ code_tree y → x ≡ y
  inj_tree null null p = refl
  inj_tree (boolean a) (boolean b) p = ap boolean (coded_bool.inj a b (ap tail p))
  inj_tree (number a) (number b) p = ap number (coded_ℤ.inj a b (ap tail p))
  inj_tree (text a) (text b) p = ap text ((coded_list coded_ℕ).inj a b (ap tail p))
  inj_tree (date a) (date b) p = ap date (coded_ℤ.inj a b (ap tail p))
  inj_tree (list a) (list b) p = ap list (inj_elements a b (ap tail p))
  inj_tree (object a) (object b) p = ap object (inj_members a b (ap tail p))
  inj_tree x y p = cc

  pub inj_elements : (x y : Elements) → code_elements x ≡ code_elements y → x ≡ y
  inj_elements no_elements no_elements p = refl
  inj_elements (element a xs) (element b ys) p = λ i. element (inj_tree a b (ap head p) i) (inj_elements xs ys (ap tail p) i)
  inj_elements x y p = cc

  pub inj_members : (x y : Members) → code_members x ≡ code_members y → x ≡ y
  inj_members no_members no_members p = refl
  inj_members (member k a xs) (member l b ys) p =
      λ i. member ((coded_list coded_ℕ).inj k l (ap head p) i) (inj_tree a b (ap (λ g. head (tail g)) p) i) (inj_members xs ys (ap (λ g. tail (tail g)) p) i)
  inj_members x y p = cc

abbrev pub tree_code : Coded Tree
tree_code = record { code = code_tree; inj = inj_tree }

abbrev mutual
  pub tree_size : Tree → ℕ
  tree_size null = 1
  tree_size (boolean b) = 1
  tree_size (number n) = 1
  tree_size (text t) = 1
  tree_size (date d) = 1
  tree_size (list ts) = 1 + elements_size ts
  tree_size (object ps) = 1 + members_size ps

  pub elements_size : Elements → ℕ
  elements_size no_elements = 1
  elements_size (element t ts) = tree_size t + elements_size ts

  pub members_size : Members → ℕ
  members_size no_members = 1
  members_size (member k t ps) = tree_size t + members_size ps

abbrev pub trees_size : List Tree → ℕ
trees_size [] = 1
trees_size (t ∷ ts) = tree_size t + trees_size ts

abbrev pub pairs_size : List (List ℕ × Tree) → ℕ
pairs_size [] = 1
pairs_size (p ∷ ps) = tree_size p.1 + pairs_size ps

abbrev pub elements_of : List Tree → Elements
elements_of [] = no_elements
elements_of (t ∷ ts) = element t (elements_of ts)

abbrev pub members_of : List (List ℕ × Tree) → Members
members_of [] = no_members
members_of (p ∷ ps) = member p.0 p.1 (members_of ps)

abbrev pub list_of_elements : Elements → List Tree
list_of_elements no_elements = []
list_of_elements (element t ts) = t ∷ list_of_elements ts

abbrev pub list_of_members : Members → List (List ℕ × Tree)
list_of_members no_members = []
list_of_members (member k t ps) = (k, t) ∷ list_of_members ps
