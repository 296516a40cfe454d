-- A value without fault spells a filter that is ready.
use Rattle.std.proofs.Common.{◌≡◌, ◌++◌, subst, ◌^◌, ◌/◌, ◌%◌, ◌==◌, nat_le, nat_lt, ℕ, pos, negsuc, Bool, true, false, ◌&&◌, List, [], ◌∷◌, Option, Some, None, is_some, refl, sym, ◌∙◌, ap, ap₂, if◌then◌else◌, arith, unwrap_or}
use Rattle.std.specs.Option.{option_or}
use Rattle.std.proofs.lemmas.Bool.{and_parts}
use Rattle.json_tree.specs.Tree.{Tree, null, boolean, number, text, date, list, object, Elements, no_elements, element, Members, no_members, member, list_of_elements}
use Rattle.filter_tree.specs.Paths.{is_path}
use Rattle.filter_tree.specs.Filters.{FilterTrees, no_filters, filter, on, eq}
use Rattle.filter_tree.specs.Matches.{elements_in}
use Rattle.filter_tree.specs.Operators.{operator_named, role}
use Rattle.filter_tree.specs.Faults.{Site, first_at, fault_at, sites, member_sites, list_sites, element_sites, inside_sites, condition_sites, operator_sites, members_in, has_operators, named_fault, operator_fault, operand_fault, unless, is_ordered, size_in}
use Rattle.filter_tree.specs.Reads.{filter_in, member_filters, list_filters, element_filters, filter_by, condition, operator_filters, operator_test, operand_test, together}
use Rattle.json_tree.specs.Writable.{IsWritable, AreWritable, MembersAreWritable}
use Rattle.filter_tree.specs.Ready.{is_ready_test, is_ready, are_ready, AllWritable, TestIsWritable, FilterIsWritable, FiltersAreWritable}
use Rattle.filter_tree.specs.declared.operator.Operator.{Operator}
use Rattle.filter_tree.specs.declared.operator.Operator.TheVariants as o
use Rattle.filter_tree.specs.declared.operator.Role.{Role}
use Rattle.filter_tree.specs.declared.operator.Role.TheVariants as r
use Rattle.filter_tree.specs.declared.fault.FilterFault.{FilterFault}
use Rattle.filter_tree.specs.declared.fault.FilterFault.TheVariants.{Invalid}
use Rattle.std.specs.Prelude.{Result, Ok, Err, IfOk}
use Rattle.filter_tree.specs.Faults.{first_fault}
use Rattle.filter_tree.specs.Reads.{Answers}
use Rattle.filter_tree.specs.View.{filter_tree}
use Rattle.filter_tree.specs.declared.filter.Filter.{Filter}
use Rattle.filter_tree.proofs.Walks.{first_append}

neither : (a b : Option FilterFault) → option_or a b ≡ None → (a ≡ None) × (b ≡ None)
neither None b h = (refl, h)
neither (Some x) b h = Prim.cc h

right : (b : Bool) (e : FilterFault) → unless b e ≡ None → b ≡ true
right true e h = refl
right false e h = Prim.cc h

both : (a b : Bool) → a ≡ true → b ≡ true → (a && b) ≡ true
both a b p q = ap₂ (λ x y. x && y) p q

size_small : (x : Tree) → is_some (size_in x) ≡ true → nat_lt (unwrap_or (size_in x) 0) (2 ^ 32) ≡ true
size_small (number (pos n)) h = go ((n % 10 ^ 18 == 0) && nat_le (n / 10 ^ 18) 1000000) refl
  where
    within : (m : ℕ) → nat_le m 1000000 ≡ true → nat_lt m (2 ^ 32) ≡ true
    within m e = grind (arith, e)

    go : (b : Bool) → ((n % 10 ^ 18 == 0) && nat_le (n / 10 ^ 18) 1000000) ≡ b → nat_lt (unwrap_or (if b then Some (n / 10 ^ 18) else None) 0) (2 ^ 32) ≡ true
    go true e = within (n / 10 ^ 18) (and_parts (n % 10 ^ 18 == 0) (nat_le (n / 10 ^ 18) 1000000) e).1
    go false e = refl
size_small (number (negsuc n)) h = Prim.cc h
size_small null h = Prim.cc h
size_small (boolean b) h = Prim.cc h
size_small (text t) h = Prim.cc h
size_small (date d) h = Prim.cc h
size_small (list ts) h = Prim.cc h
size_small (object ms) h = Prim.cc h

operand_ready : (op : Operator) (path name : List ℕ) (x : Tree) → operand_fault op path name x ≡ None → is_ready_test (operand_test op x) ≡ true
operand_ready o.Eq path name x h = refl
operand_ready o.Ne path name x h = refl
operand_ready o.Gt path name x h = right (is_ordered x) (Invalid path) h
operand_ready o.Gte path name x h = right (is_ordered x) (Invalid path) h
operand_ready o.Lt path name x h = right (is_ordered x) (Invalid path) h
operand_ready o.Lte path name x h = right (is_ordered x) (Invalid path) h
operand_ready o.In path name x h = refl
operand_ready o.Nin path name x h = refl
operand_ready o.Exists path name x h = refl
operand_ready o.All path name x h = refl
operand_ready o.Size path name x h = size_small x (right (is_some (size_in x)) (Invalid path) h)
operand_ready o.And path name x h = refl
operand_ready o.Or path name x h = refl
operand_ready o.Not path name x h = refl

operator_ready : (op : Option Operator) (path name : List ℕ) (x : Tree) → operator_fault op path name x ≡ None → is_ready_test (operator_test op x) ≡ true
operator_ready (Some op) path name x h = operand_ready op path name x h
operator_ready None path name x h = refl

operators_ready : (path : List ℕ) (ms : Members) → is_path path ≡ true → first_at (operator_sites path ms) ≡ None → are_ready (operator_filters path ms) ≡ true
operators_ready path no_members p h = refl
operators_ready path (member name t ms) p h =
    let a = neither (operator_fault (operator_named name) path name t) (first_at (operator_sites path ms)) h in
    both (is_path path && is_ready_test (operator_test (operator_named name) t)) (are_ready (operator_filters path ms))
    (both (is_path path) (is_ready_test (operator_test (operator_named name) t)) p (operator_ready (operator_named name) path name t a.0))
    (operators_ready path ms p a.1)

together_ready : (fs : FilterTrees) → are_ready fs ≡ true → is_ready (together fs) ≡ true
together_ready no_filters h = h
together_ready (filter f no_filters) h = (and_parts (is_ready f) true h).0
together_ready (filter f (filter g fs)) h = h

condition_ready : (path : List ℕ) (t : Tree) → is_path path ≡ true → first_at (condition_sites path t) ≡ None → is_ready (condition path t) ≡ true
condition_ready path t p h = go (has_operators t) h
  where
    go : (b : Bool) → first_at (if b then operator_sites path (members_in t) else []) ≡ None → is_ready (if b then together (operator_filters path (members_in t)) else on path (eq t)) ≡ true
    go true k = together_ready (operator_filters path (members_in t)) (operators_ready path (members_in t) p k)
    go false k = both (is_path path) true p refl

-- one member, from what holds inside it
ready_by : (kind : Role) (name : List ℕ) (t : Tree) → option_or (named_fault kind name t) (first_at (inside_sites kind name t)) ≡ None
    → (first_at (list_sites name t) ≡ None → are_ready (list_filters t) ≡ true) → (first_at (sites t) ≡ None → is_ready (filter_in t) ≡ true) → is_ready (filter_by kind name t) ≡ true
ready_by r.All name t h l f = l (neither (named_fault r.All name t) (first_at (list_sites name t)) h).1
ready_by r.Any name t h l f = l (neither (named_fault r.Any name t) (first_at (list_sites name t)) h).1
ready_by r.Not name t h l f = f (neither (named_fault r.Not name t) (first_at (sites t)) h).1
ready_by r.Unknown name t h l f = refl
ready_by r.Path name t h l f =
    let a = neither (named_fault r.Path name t) (first_at (condition_sites name t)) h in condition_ready name t (right (is_path name) (Invalid name) a.0) a.1

mutual
  pub ready_in : (t : Tree) → first_at (sites t) ≡ None → is_ready (filter_in t) ≡ true
  ready_in (object ms) h = ready_members ms h
  ready_in null h = refl
  ready_in (boolean b) h = refl
  ready_in (number n) h = refl
  ready_in (text s) h = refl
  ready_in (date x) h = refl
  ready_in (list ts) h = refl

  ready_members : (ms : Members) → first_at (member_sites ms) ≡ None → are_ready (member_filters ms) ≡ true
  ready_members no_members h = refl
  ready_members (member name t ms) h =
      let own : List Site = Site.named name t ∷ inside_sites (role name) name t in
      let a = neither (first_at own) (first_at (member_sites ms)) (sym (first_append own (member_sites ms)) ∙ h) in
      both (is_ready (filter_by (role name) name t)) (are_ready (member_filters ms))
      (ready_by (role name) name t a.0 (λ k. ready_list name t k) (λ k. ready_in t k))
      (ready_members ms a.1)

  ready_list : (name : List ℕ) (t : Tree) → first_at (list_sites name t) ≡ None → are_ready (list_filters t) ≡ true
  ready_list name (list ts) h = ready_elements name ts h
  ready_list name null h = refl
  ready_list name (boolean b) h = refl
  ready_list name (number n) h = refl
  ready_list name (text s) h = refl
  ready_list name (date x) h = refl
  ready_list name (object ms) h = refl

  ready_elements : (name : List ℕ) (ts : Elements) → first_at (element_sites name ts) ≡ None → are_ready (element_filters ts) ≡ true
  ready_elements name no_elements h = refl
  ready_elements name (element t ts) h =
      let own : List Site = Site.inside name t ∷ sites t in
      let a = neither (first_at own) (first_at (element_sites name ts)) (sym (first_append own (element_sites name ts)) ∙ h) in
      let c = neither (fault_at (Site.inside name t)) (first_at (sites t)) a.0 in
      both (is_ready (filter_in t)) (are_ready (element_filters ts)) (ready_in t c.1) (ready_elements name ts a.1)

pub ready_filter : (t : Tree) → first_fault t ≡ None → is_ready (filter_in t) ≡ true
ready_filter t h = ready_in t (neither (fault_at (Site.whole t)) (first_at (sites t)) h).1

pub ready_read : (r : Result Filter FilterFault) (v : Tree) → Answers filter_tree r (first_fault v) (filter_in v) → IfOk r (λ f. is_ready (filter_tree f) ≡ true)
ready_read (Ok f) v h = ap is_ready h.1 ∙ ready_filter v h.0
ready_read (Err e) v h = tt

-- ---- writable operands

elements_writable : (ts : Elements) → AreWritable ts → AllWritable (list_of_elements ts)
elements_writable no_elements w = tt
elements_writable (element t ts) w = (w.0, elements_writable ts w.1)

operands_writable : (x : Tree) → IsWritable x → AllWritable (elements_in x)
operands_writable (list ts) w = elements_writable ts w
operands_writable null w = tt
operands_writable (boolean b) w = tt
operands_writable (number n) w = tt
operands_writable (text s) w = tt
operands_writable (date x) w = tt
operands_writable (object ms) w = tt

operand_writable : (op : Operator) (x : Tree) → IsWritable x → TestIsWritable (operand_test op x)
operand_writable o.In x w = operands_writable x w
operand_writable o.Nin x w = operands_writable x w
operand_writable o.All x w = operands_writable x w
operand_writable o.Exists x w = tt
operand_writable o.Size x w = tt
operand_writable o.Eq x w = w
operand_writable o.Ne x w = w
operand_writable o.Gt x w = w
operand_writable o.Gte x w = w
operand_writable o.Lt x w = w
operand_writable o.Lte x w = w
operand_writable o.And x w = w
operand_writable o.Or x w = w
operand_writable o.Not x w = w

operator_writable : (op : Option Operator) (x : Tree) → IsWritable x → TestIsWritable (operator_test op x)
operator_writable (Some op) x w = operand_writable op x w
operator_writable None x w = w

operators_writable : (path : List ℕ) (names : List (List ℕ)) (ms : Members) → MembersAreWritable names ms → FiltersAreWritable (operator_filters path ms)
operators_writable path names no_members w = tt
operators_writable path names (member name t ms) w = (operator_writable (operator_named name) t w.2, operators_writable path (names ++ name ∷ []) ms w.3)

together_writable : (fs : FilterTrees) → FiltersAreWritable fs → FilterIsWritable (together fs)
together_writable no_filters w = w
together_writable (filter f no_filters) w = w.0
together_writable (filter f (filter g fs)) w = w

inner_writable : (t : Tree) → IsWritable t → MembersAreWritable [] (members_in t)
inner_writable (object ms) w = w.0
inner_writable null w = tt
inner_writable (boolean b) w = tt
inner_writable (number n) w = tt
inner_writable (text s) w = tt
inner_writable (date x) w = tt
inner_writable (list ts) w = tt

condition_writable : (path : List ℕ) (t : Tree) → IsWritable t → FilterIsWritable (condition path t)
condition_writable path t w = go (has_operators t)
  where
    go : (b : Bool) → FilterIsWritable (if b then together (operator_filters path (members_in t)) else on path (eq t))
    go true = together_writable (operator_filters path (members_in t)) (operators_writable path [] (members_in t) (inner_writable t w))
    go false = w

writable_by : (kind : Role) (name : List ℕ) (t : Tree) → IsWritable t → FiltersAreWritable (list_filters t) → FilterIsWritable (filter_in t) → FilterIsWritable (filter_by kind name t)
writable_by r.All name t w l f = l
writable_by r.Any name t w l f = l
writable_by r.Not name t w l f = f
writable_by r.Unknown name t w l f = tt
writable_by r.Path name t w l f = condition_writable name t w

mutual
  pub writable_in : (t : Tree) → IsWritable t → FilterIsWritable (filter_in t)
  writable_in (object ms) w = writable_members [] ms w.0
  writable_in null w = tt
  writable_in (boolean b) w = tt
  writable_in (number n) w = tt
  writable_in (text s) w = tt
  writable_in (date x) w = tt
  writable_in (list ts) w = tt

  writable_members : (names : List (List ℕ)) (ms : Members) → MembersAreWritable names ms → FiltersAreWritable (member_filters ms)
  writable_members names no_members w = tt
  writable_members names (member name t ms) w = (writable_by (role name) name t w.2 (writable_list t w.2) (writable_in t w.2), writable_members (names ++ name ∷ []) ms w.3)

  writable_list : (t : Tree) → IsWritable t → FiltersAreWritable (list_filters t)
  writable_list (list ts) w = writable_elements ts w
  writable_list null w = tt
  writable_list (boolean b) w = tt
  writable_list (number n) w = tt
  writable_list (text s) w = tt
  writable_list (date x) w = tt
  writable_list (object ms) w = tt

  writable_elements : (ts : Elements) → AreWritable ts → FiltersAreWritable (element_filters ts)
  writable_elements no_elements w = tt
  writable_elements (element t ts) w = (writable_in t w.0, writable_elements ts w.1)

pub writable_read : (r : Result Filter FilterFault) (v : Tree) → Answers filter_tree r (first_fault v) (filter_in v) → IsWritable v → IfOk r (λ f. FilterIsWritable (filter_tree f))
writable_read (Ok f) v h w = subst FilterIsWritable (sym h.1) (writable_in v w)
writable_read (Err e) v h w = tt
