-- Steps through lists.
use Rattle.std.proofs.Common.{◌≡◌, ◌+◌, ◌<◌, inl, ℕ, zero, suc, Bool, true, false, List, [], ◌∷◌, ◌++◌, ◌||◌, ◌&&◌, if◌then◌else◌, take, drop, Option, Some, None, Result, Ok, Err, refl, sym, ◌∙◌, ap, ap₂, slice_get, add-one, append_assoc, arith, subst}
use Rattle.std.specs.List.{list_any, list_all}
use Rattle.std.proofs.lemmas.List.Folds.{list_all-append}
use Rattle.std.proofs.Math.Seq.{drop-cons}
use Rattle.std.proofs.lemmas.Option.{slice_get_within, get_or_from_slice_get}
use Rattle.json_tree.specs.Tree.{Tree, elements_of, members_of, tree_size, trees_size, pairs_size}
use Rattle.json_tree.specs.RoundTrips.{list_of_elements-elements_of, list_of_members-members_of}
use Rattle.json_tree.specs.Falls.{elements_size-elements_of, members_size-members_of}
use Rattle.json_tree.specs.Members.{member_at}
use Rattle.json_tree.specs.Doc.{is_dollar}
use Rattle.doc_limits.specs.Names.{names_in, names_in_elements, names_in_members}
use Rattle.update_ops.specs.Forms.{is_form, members_in, position_in, each_in, values_in, is_storable_name, is_storable, is_storable_pair}
use Rattle.update_ops.specs.Reads.{Reads}
use Rattle.std.specs.Prelude.{IfOk, IfErr, option_map, codes}
use Rattle.json_tree.specs.View.{tree}
use Rattle.json_tree.specs.declared.value.Value.{Value}
use Rattle.update_ops.specs.Apply.{Gives, Puts, elements, listed}
use Rattle.update_ops.specs.declared.fault.UpdateFault.{UpdateFault}
use Rattle.update_ops.specs.declared.fault.UpdateFault.TheVariants.{NoMemory}

pub drop-at : {X : Type 0} (xs : List X) (i : ℕ) (x : X) → Some x ≡ slice_get xs i → drop i xs ≡ x ∷ drop (i + 1) xs
drop-at xs i x e = drop-cons xs i x (slice_get_within xs i x (sym e)) ∙ ap₂ (λ a b. a ∷ drop b xs) (get_or_from_slice_get xs i x x (sym e)) (sym (add-one i))

pub any_past : {X : Type 0} (p : X → Bool) (xs : List X) (i : ℕ) (x : X) (r : Bool) → Some x ≡ slice_get xs i → p x ≡ false → list_any p (drop i xs) ≡ r → list_any p (drop (i + 1) xs) ≡ r
any_past p xs i x r at e h = ap (λ b. b || list_any p (drop (i + 1) xs)) (sym e) ∙ ap (list_any p) (sym (drop-at xs i x at)) ∙ h

pub any_here : {X : Type 0} (p : X → Bool) (xs : List X) (i : ℕ) (x : X) (r : Bool) → Some x ≡ slice_get xs i → p x ≡ true → list_any p (drop i xs) ≡ r → true ≡ r
any_here p xs i x r at e h = ap (λ b. b || list_any p (drop (i + 1) xs)) (sym e) ∙ ap (list_any p) (sym (drop-at xs i x at)) ∙ h

-- ---- lists at a path

pub elements_at : (path : List ℕ) (v : Tree) (ts : List Tree) → v ≡ Tree.list (elements_of ts) → elements path (Some v) ≡ Ok ts
elements_at path v ts is = ap (λ u. elements path (Some u)) is ∙ ap Ok (list_of_elements-elements_of ts)

pub gives_list : (r : Result (Option Value) UpdateFault) (f : List Tree → List Tree) (path : List ℕ) (v : Tree) (ts : List Tree) → v ≡ Tree.list (elements_of ts)
    → IfOk r (λ x. option_map tree x ≡ Some (Tree.list (elements_of (f ts)))) → IfErr r (λ e. e ≡ NoMemory)
    → Gives (option_map tree) r (listed f (elements path (Some v)))
gives_list (Ok x) f path v ts is ok err = ap (listed f) (elements_at path v ts is) ∙ ap Ok (sym ok)
gives_list (Err e) f path v ts is ok err = inl err

pub puts_list : (r : Result (Option Value) UpdateFault) (f : List Tree → List Tree) (path : List ℕ) (v : Tree) (ts : List Tree) → v ≡ Tree.list (elements_of ts)
    → Puts (Some (Tree.list (elements_of ts))) r (Ok (Some (Tree.list (elements_of (f ts))))) → Puts (Some v) r (listed f (elements path (Some v)))
puts_list r f path v ts is h =
    subst (λ o. Puts o r (listed f (elements path (Some v)))) (ap Some (sym is)) (subst (Puts (Some (Tree.list (elements_of ts))) r) (sym (ap (listed f) (elements_at path v ts is))) h)

-- ---- elements copied up to a place

get_take : {X : Type 0} (xs : List X) (i to : ℕ) (x : X) → i < to → Some x ≡ slice_get xs i → Some x ≡ slice_get (take to xs) i
get_take [] i to x lt e = Prim.cc e
get_take (y ∷ ys) i zero x lt e = absurd (omega (arith, lt))
get_take (y ∷ ys) zero (suc n) x lt e = e
get_take (y ∷ ys) (suc i) (suc n) x lt e = get_take ys i n x (omega (arith, lt)) e

pub range_past : {X : Type 0} (xs : List X) (i to : ℕ) (x : X) (out new all : List X) → i < to → Some x ≡ slice_get xs i → new ≡ out ++ x ∷ []
    → out ++ drop i (take to xs) ≡ all → new ++ drop (i + 1) (take to xs) ≡ all
range_past xs i to x out new all lt at e h =
    ap (λ l. l ++ drop (i + 1) (take to xs)) e ∙ append_assoc out (x ∷ []) (drop (i + 1) (take to xs))
    ∙ ap (λ l. out ++ l) (sym (drop-at (take to xs) i x (get_take xs i to x lt at))) ∙ h

-- ---- operands

pub all_past : {X : Type 0} (p : X → Bool) (xs : List X) (i : ℕ) (x : X) (r : Bool) → Some x ≡ slice_get xs i → p x ≡ true → list_all p (drop i xs) ≡ r → list_all p (drop (i + 1) xs) ≡ r
all_past p xs i x r at e h = ap (λ b. b && list_all p (drop (i + 1) xs)) (sym e) ∙ ap (list_all p) (sym (drop-at xs i x at)) ∙ h

pub all_fails : {X : Type 0} (p : X → Bool) (xs : List X) (i : ℕ) (x : X) (r : Bool) → Some x ≡ slice_get xs i → p x ≡ false → list_all p (drop i xs) ≡ r → false ≡ r
all_fails p xs i x r at e h = ap (λ b. b && list_all p (drop (i + 1) xs)) (sym e) ∙ ap (list_all p) (sym (drop-at xs i x at)) ∙ h

pub first_form : (v : Tree) (ps : List (List ℕ × Tree)) (n : List ℕ) (t : Tree) → v ≡ Tree.object (members_of ps) → Some (n, t) ≡ slice_get ps 0 → is_dollar n ≡ is_form v
first_form v [] n t is at = Prim.cc at
first_form v (p ∷ ps) n t is at = let e : (n, t) ≡ p = Prim.cc at in ap (λ (q : List ℕ × Tree). is_dollar q.0) e ∙ ap is_form (sym is)

pub no_form : (v : Tree) (ps : List (List ℕ × Tree)) → v ≡ Tree.object (members_of ps) → None ≡ slice_get ps 0 → false ≡ is_form v
no_form v [] is at = ap is_form (sym is)
no_form v (p ∷ ps) is at = Prim.cc at

pub form_members : (v : Tree) (ps : List (List ℕ × Tree)) → v ≡ Tree.object (members_of ps) → members_in v ≡ ps
form_members v ps is = ap members_in is ∙ list_of_members-members_of ps

pub place_of_form : (v : Tree) (ps : List (List ℕ × Tree)) → v ≡ Tree.object (members_of ps) → true ≡ is_form v → member_at (codes "$position") ps ≡ position_in v
place_of_form v ps is form =
    ap (member_at (codes "$position")) (sym (form_members v ps is)) ∙ ap (λ b. if b then member_at (codes "$position") (members_in v) else None) form

pub values_of_form : (placed : Bool) (v : Tree) (ps : List (List ℕ × Tree)) → v ≡ Tree.object (members_of ps) → true ≡ is_form v → each_in placed ps ≡ values_in placed v
values_of_form placed v ps is form =
    ap (each_in placed) (sym (form_members v ps is)) ∙ ap (λ b. if b then each_in placed (members_in v) else Some (v ∷ [])) form

pub reads_as : {X Y : Type 0} (view : X → Y) (r : Result (Option X) UpdateFault) (a b : Bool) (y z : Y) → a ≡ b → y ≡ z → Reads view r a y → Reads view r b z
reads_as view (Ok None) a b y z p q h = sym p ∙ h
reads_as view (Ok (Some x)) a b y z p q h = (sym p ∙ h.0, h.1 ∙ q)
reads_as view (Err e) a b y z p q h = h

elements_storable : (ts : List Tree) → list_all is_storable_name (names_in_elements (elements_of ts)) ≡ list_all is_storable ts
elements_storable [] = refl
elements_storable (t ∷ ts) = list_all-append is_storable_name (names_in t) (names_in_elements (elements_of ts)) ∙ ap (λ b. is_storable t && b) (elements_storable ts)

and_assoc : (a b c : Bool) → (a && (b && c)) ≡ ((a && b) && c)
and_assoc true b c = refl
and_assoc false b c = refl

pairs_storable : (ps : List (List ℕ × Tree)) → list_all is_storable_name (names_in_members (members_of ps)) ≡ list_all is_storable_pair ps
pairs_storable [] = refl
pairs_storable (p ∷ ps) =
    ap (λ b. is_storable_name p.0 && b) (list_all-append is_storable_name (names_in p.1) (names_in_members (members_of ps)) ∙ ap (λ b. is_storable p.1 && b) (pairs_storable ps))
    ∙ and_assoc (is_storable_name p.0) (is_storable p.1) (list_all is_storable_pair ps)

pub storable_list : (v : Tree) (ts : List Tree) (r : Bool) → v ≡ Tree.list (elements_of ts) → r ≡ list_all is_storable ts → r ≡ is_storable v
storable_list v ts r is h = h ∙ sym (elements_storable ts) ∙ ap is_storable (sym is)

pub storable_object : (v : Tree) (ps : List (List ℕ × Tree)) (r : Bool) → v ≡ Tree.object (members_of ps) → r ≡ list_all is_storable_pair ps → r ≡ is_storable v
storable_object v ps r is h = h ∙ sym (pairs_storable ps) ∙ ap is_storable (sym is)

pub pair_fails : (ps : List (List ℕ × Tree)) (i : ℕ) (n : List ℕ) (t : Tree) (r : Bool) → Some (n, t) ≡ slice_get ps i → is_storable_name n ≡ false
    → list_all is_storable_pair (drop i ps) ≡ r → false ≡ r
pair_fails ps i n t r at e h = all_fails is_storable_pair ps i (n, t) r at (ap (λ b. b && is_storable t) e) h

pub pair_fails_inside : (ps : List (List ℕ × Tree)) (i : ℕ) (n : List ℕ) (t : Tree) (r : Bool) → Some (n, t) ≡ slice_get ps i → is_storable t ≡ false
    → list_all is_storable_pair (drop i ps) ≡ r → false ≡ r
pair_fails_inside ps i n t r at e h = all_fails is_storable_pair ps i (n, t) r at (ap (λ b. is_storable_name n && b) e ∙ never (is_storable_name n)) h
  where
    never : (b : Bool) → (b && false) ≡ false
    never true = refl
    never false = refl

pub pair_passes : (ps : List (List ℕ × Tree)) (i : ℕ) (n : List ℕ) (t : Tree) (r : Bool) → Some (n, t) ≡ slice_get ps i → is_storable_name n ≡ true → is_storable t ≡ true
    → list_all is_storable_pair (drop i ps) ≡ r → list_all is_storable_pair (drop (i + 1) ps) ≡ r
pair_passes ps i n t r at e f h = all_past is_storable_pair ps i (n, t) r at (ap₂ (λ a b. a && b) e f) h

pub list_size : (v : Tree) (ts : List Tree) → v ≡ Tree.list (elements_of ts) → tree_size v ≡ 1 + trees_size ts
list_size v ts is = ap tree_size is ∙ ap (λ n. 1 + n) (elements_size-elements_of ts)

pub object_size : (v : Tree) (ps : List (List ℕ × Tree)) → v ≡ Tree.object (members_of ps) → tree_size v ≡ 1 + pairs_size ps
object_size v ps is = ap tree_size is ∙ ap (λ n. 1 + n) (members_size-members_of ps)
