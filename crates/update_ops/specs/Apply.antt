-- What updates make of a document.
use Rattle.std.specs.Prelude.{◌≡◌, ◌⊎◌, ◌==◌, ℕ, suc, ◌-◌, min, ℤ, pos, negsuc, Bool, true, false, not, List, [], ◌∷◌, ◌++◌, length, take, drop, Option, Some, None, Result, Ok, Err, if◌then◌else◌}
use Rattle.std.specs.List.{list_any}
use Rattle.std.specs.Ordering.{is_lt, is_gt}
use Rattle.json_tree.specs.Num.{sum_of, product_of}
use Rattle.json_tree.specs.Tree.{Tree, number, date, list, elements_of, list_of_elements}
use Rattle.json_tree.specs.View.{tree}
use Rattle.json_tree.specs.declared.value.Value.{Value}
use Rattle.doc_paths.specs.Text.{parts}
use Rattle.doc_paths.specs.At.{at}
use Rattle.doc_paths.specs.Change.{put, without}
use Rattle.doc_paths.specs.declared.fault.PathFault.{PathFault}
use Rattle.doc_limits.specs.Limits.{broken}
use Rattle.doc_limits.specs.declared.limits.Broken.{Broken}
use Rattle.json_tree.specs.Same.{same}
use Rattle.update_ops.specs.Clauses.{Effect, set, unset, inc, mul, rename, push, pop, add_to_set, set_on_insert, current_date, Clause}
use Rattle.update_ops.specs.Clauses as e
use Rattle.update_ops.specs.Order.{scalar_cmp}
use Rattle.update_ops.specs.Forms.{is_scalar}
use Rattle.update_ops.specs.declared.fault.UpdateFault.{UpdateFault}
use Rattle.update_ops.specs.declared.fault.UpdateFault.TheVariants.{WrongTarget, NumberRange, NoMemory}
use Rattle.update_ops.specs.declared.fault.UpdateFault.TheVariants as f

-- what a call answers, by what is meant: want of memory may come at any place
abbrev pub Gives : {X Y : Type 0} → (X → Y) → Result X UpdateFault → Result Y UpdateFault → Type 0
Gives view (Ok x) meant = meant ≡ Ok (view x)
Gives view (Err e) meant = (e ≡ NoMemory) ⊎ (meant ≡ Err e)

-- what is put in the place of the value at a path, by what is meant: where nothing is put, nothing is meant or the
-- value that is there
abbrev pub Puts : Option Tree → Result (Option Value) UpdateFault → Result (Option Tree) UpdateFault → Type 0
Puts there (Ok (Some v)) meant = meant ≡ Ok (Some (tree v))
Puts there (Ok None) meant = (meant ≡ Ok None) ⊎ (meant ≡ Ok there)
Puts there (Err e) meant = (e ≡ NoMemory) ⊎ (meant ≡ Err e)

-- ---- what is put in the place of the value at a path, of which there may be none; None: nothing is put

abbrev pub number_or : List ℕ → Option ℤ → Result (Option Tree) UpdateFault
number_or path None = Err (NumberRange path)
number_or path (Some n) = Ok (Some (number n))

abbrev pub increased : List ℕ → ℤ → Option Tree → Result (Option Tree) UpdateFault
increased path n None = Ok (Some (number n))
increased path n (Some (number m)) = number_or path (sum_of m n)
increased path n (Some t) = Err (WrongTarget path)

abbrev pub multiplied : List ℕ → ℤ → Option Tree → Result (Option Tree) UpdateFault
multiplied path n None = Ok (Some (number (pos 0)))
multiplied path n (Some (number m)) = number_or path (product_of m n)
multiplied path n (Some t) = Err (WrongTarget path)

-- the operand, where nothing stands or the order passes
abbrev pub bounded : List ℕ → Tree → (Tree → Bool) → Option Tree → Result (Option Tree) UpdateFault
bounded path x passes None = Ok (Some x)
bounded path x passes (Some v) = if is_scalar v then (if passes v then Ok (Some x) else Ok None) else Err (WrongTarget path)

-- the elements of a list, or of none
abbrev pub elements : List ℕ → Option Tree → Result (List Tree) UpdateFault
elements path None = Ok []
elements path (Some (list ts)) = Ok (list_of_elements ts)
elements path (Some t) = Err (WrongTarget path)

abbrev pub listed : (List Tree → List Tree) → Result (List Tree) UpdateFault → Result (Option Tree) UpdateFault
listed f (Ok ts) = Ok (Some (list (elements_of (f ts))))
listed f (Err e) = Err e

-- the place before which values go: a negative one counts from the end
abbrev pub place_in : ℕ → Option ℤ → ℕ
place_in n None = n
place_in n (Some (pos k)) = min k n
place_in n (Some (negsuc k)) = n - suc k

abbrev pub pushed : List Tree → Option ℤ → List Tree → List Tree
pushed xs place ts = take (place_in (length ts) place) ts ++ xs ++ drop (place_in (length ts) place) ts

-- a value that no element is the same as, at the end
abbrev pub added_one : Tree → List Tree → List Tree
added_one x ts = if list_any (λ t. same t x) ts then ts else ts ++ x ∷ []

abbrev pub added : List Tree → List Tree → List Tree
added [] ts = ts
added (x ∷ xs) ts = added xs (added_one x ts)

abbrev pub popped : Bool → List Tree → List Tree
popped true ts = take (length ts - 1) ts
popped false ts = drop 1 ts

-- an element gone from a list that has one
abbrev pub shortened : Bool → Result (List Tree) UpdateFault → Result (Option Tree) UpdateFault
shortened last (Ok ts) = if length ts == 0 then Ok None else Ok (Some (list (elements_of (popped last ts))))
shortened last (Err e) = Err e

-- ---- put

abbrev pub put_or : List ℕ → Result Tree PathFault → Result Tree UpdateFault
put_or path (Ok d) = Ok d
put_or path (Err e) = Err (WrongTarget path)

-- the value put at a path, or a wrong target there
abbrev pub put_at : List ℕ → Tree → Tree → Result Tree UpdateFault
put_at path x d = put_or path (put 0 d (parts path) x)

abbrev pub put_made : List ℕ → Tree → Result (Option Tree) UpdateFault → Result Tree UpdateFault
put_made path d (Err e) = Err e
put_made path d (Ok None) = Ok d
put_made path d (Ok (Some x)) = put_at path x d

abbrev pub moved : List ℕ → List ℕ → Tree → Option Tree → Result Tree UpdateFault
moved path to d None = Ok d
moved path to d (Some v) = put_at to v (without d (parts path))

-- one row for each operator that goes by the value there
abbrev pub made : List ℕ → Effect → Option Tree → Result (Option Tree) UpdateFault
made path (inc n) v = increased path n v
made path (mul n) v = multiplied path n v
made path (e.min x) v = bounded path x (λ w. is_lt (scalar_cmp x w)) v
made path (e.max x) v = bounded path x (λ w. is_gt (scalar_cmp x w)) v
made path (push xs place) v = listed (pushed xs place) (elements path v)
made path (pop last) v = shortened last (elements path v)
made path (add_to_set xs) v = listed (added xs) (elements path v)
made path e v = Ok None

-- one row for each other operator
abbrev pub effect : ℤ → Bool → List ℕ → Effect → Tree → Result Tree UpdateFault
effect moment on_insert path (set x) d = put_at path x d
effect moment on_insert path unset d = Ok (without d (parts path))
effect moment on_insert path (rename to) d = moved path to d (at d (parts path))
effect moment on_insert path (set_on_insert x) d = if on_insert then put_at path x d else Ok d
effect moment on_insert path current_date d = put_at path (date moment) d
effect moment on_insert path e d = put_made path d (made path e (at d (parts path)))

-- ---- whole updates

abbrev pub onward : Result Tree UpdateFault → (Tree → Result Tree UpdateFault) → Result Tree UpdateFault
onward (Ok d) f = f d
onward (Err r) f = Err r

-- the clauses one after another, up to the first refusal
abbrev pub applied : ℤ → Bool → List Clause → Tree → Result Tree UpdateFault
applied moment on_insert [] d = Ok d
applied moment on_insert (c ∷ cs) d = onward (effect moment on_insert c.path c.effect d) (applied moment on_insert cs)

abbrev pub unbroken : Option Broken → Tree → Result Tree UpdateFault
unbroken None d = Ok d
unbroken (Some b) d = Err (f.Broken b)

-- a document that breaks no limit
abbrev pub within_limits : Tree → Result Tree UpdateFault
within_limits d = unbroken (broken d) d

abbrev pub apply : List Clause → Tree → ℤ → Bool → Result Tree UpdateFault
apply cs d moment on_insert = onward (applied moment on_insert cs d) within_limits

-- an update changed a document where the new one isn't the same
abbrev pub is_changed : Tree → Tree → Bool
is_changed d new = not (same d new)
