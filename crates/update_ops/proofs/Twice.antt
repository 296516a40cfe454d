-- Updates of one operator on one path: what they show, and what they make a second time.
use Rattle.std.proofs.Common.{◌≡◌, ◌<◌, ◌^◌, ◌↔◌, ℕ, ℤ, nat_abs, nat_lt, neg_ℤ, ◌+ℤ◌, Bool, true, false, cond, ◌||◌, ◌&&◌, List, [], ◌∷◌, ◌++◌, Option, Some, None, Result, Ok, Err, refl, sym, ◌∙◌, ap, ap₂, IsTrue}
use Rattle.std.specs.Prelude.{if◌then◌else◌}
use Rattle.std.specs.List.{list_any, list_all}
use Rattle.std.proofs.lemmas.Bool.{and_parts, lt-ltb}
use Rattle.std.specs.declared.cmp.Ordering.TheVariants.{Equal}
use Rattle.std.specs.Ordering.{is_lt, is_gt}
use Rattle.std.specs.Cmp.{bool_cmp_total}
use Rattle.std.proofs.lemmas.Cmp.{tied_itself, lists_total, nat_cmp_total, int_cmp_total}
use Rattle.json_tree.specs.Tree.{Tree, null, boolean, number, text, date, list, object, elements_of}
use Rattle.json_tree.specs.RoundTrips.{list_of_elements-elements_of}
use Rattle.json_tree.specs.Same.{same}
use Rattle.doc_paths.specs.Text.{parts}
use Rattle.doc_paths.specs.At.{at}
use Rattle.doc_paths.specs.Change.{put, without}
use Rattle.doc_paths.specs.declared.fault.PathFault.{PathFault}
use Rattle.doc_limits.specs.Limits.{broken}
use Rattle.doc_limits.specs.declared.limits.Broken.{Broken}
use Rattle.update_ops.specs.Clauses.{Effect, set, unset, inc, rename, add_to_set, set_on_insert, current_date, Clause}
use Rattle.update_ops.specs.Clauses as e
use Rattle.update_ops.specs.Order.{scalar_cmp}
use Rattle.update_ops.specs.Forms.{is_scalar}
use Rattle.json_tree.specs.Num.{sum_of}
use Rattle.update_ops.specs.Apply.{put_or, put_at, put_made, moved, number_or, increased, bounded, elements, listed, added, added_one, effect, onward, applied, unbroken, within_limits, apply}
use Rattle.update_ops.specs.declared.fault.UpdateFault.{UpdateFault}
use Rattle.update_ops.specs.declared.fault.UpdateFault.TheVariants.{WrongTarget}
use Rattle.update_ops.proofs.Idle.{put_there, without_none}
use Rattle.update_ops.proofs.Back.{put_back, back}

-- ---- one clause

abbrev one : List ℕ → Effect → List Clause
one path w = record { path = path; effect = w } ∷ []

pub record Made (d new : Tree) (path : List ℕ) (w : Effect) (moment : ℤ) (on_insert : Bool) : Type 0 where
  pub made : effect moment on_insert path w d ≡ Ok new
  pub sound : broken new ≡ None

pub limits_made : (o : Option Broken) (u new : Tree) → unbroken o u ≡ Ok new → (u ≡ new) × (o ≡ None)
limits_made None u new h = (Prim.cc h, refl)
limits_made (Some b) u new h = Prim.cc h

only_made : (o : Result Tree UpdateFault) (moment : ℤ) (on_insert : Bool) (new : Tree) → onward (onward o (applied moment on_insert [])) within_limits ≡ Ok new → (o ≡ Ok new) × (broken new ≡ None)
only_made (Ok u) moment on_insert new h =
    let q = limits_made (broken u) u new h in
    (ap Ok q.0, ap broken (sym q.0) ∙ q.1)
only_made (Err f) moment on_insert new h = Prim.cc h

pub was_made : (path : List ℕ) (w : Effect) (d new : Tree) (moment : ℤ) (on_insert : Bool) → apply (one path w) d moment on_insert ≡ Ok new → Made d new path w moment on_insert
was_made path w d new moment on_insert h =
    let q = only_made (effect moment on_insert path w d) moment on_insert new h in record { made = q.0; sound = q.1 }

pub makes : (path : List ℕ) (w : Effect) (d new : Tree) (moment : ℤ) (on_insert : Bool) → effect moment on_insert path w d ≡ Ok new → broken new ≡ None → apply (one path w) d moment on_insert ≡ Ok new
makes path w d new moment on_insert h sound =
    ap (λ o. onward (onward o (applied moment on_insert [])) within_limits) h ∙ ap (λ o. unbroken o new) sound

-- a second time, where the effect on what was made is that again
pub again : (path : List ℕ) (w : Effect) (d new : Tree) (moment : ℤ) (on_insert : Bool) → apply (one path w) d moment on_insert ≡ Ok new
    → (effect moment on_insert path w d ≡ Ok new → effect moment on_insert path w new ≡ Ok new) → apply (one path w) new moment on_insert ≡ Ok new
again path w d new moment on_insert h second = let m = was_made path w d new moment on_insert h in makes path w new new moment on_insert (second m.made) m.sound

-- ---- what is put

abbrev pub Seen : Type 0
Seen = (passed : ℕ) (t new x : Tree) (path : List (List ℕ)) → put passed t path x ≡ Ok new → at new path ≡ Some x

pub put_ok : (path : List ℕ) (r : Result Tree PathFault) (new : Tree) → put_or path r ≡ Ok new → r ≡ Ok new
put_ok path (Ok t) new h = ap Ok (Prim.cc h)
put_ok path (Err f) new h = Prim.cc h

pub shows : Seen → (path : List ℕ) (x d new : Tree) → put_at path x d ≡ Ok new → at new (parts path) ≡ Some x
shows seen path x d new h = seen 0 d new x (parts path) (put_ok path (put 0 d (parts path) x) new h)

pub put_twice : Seen → (path : List ℕ) (x d new : Tree) → put_at path x d ≡ Ok new → put_at path x new ≡ Ok new
put_twice seen path x d new h = put_there path x new (shows seen path x d new h)

pub inserted_twice : Seen → (path : List ℕ) (x d new : Tree) (moment : ℤ) (on_insert : Bool) → effect moment on_insert path (set_on_insert x) d ≡ Ok new → effect moment on_insert path (set_on_insert x) new ≡ Ok new
inserted_twice seen path x d new moment true h = put_twice seen path x d new h
inserted_twice seen path x d new moment false h = refl

-- ---- bounds

pub tied : (x : Tree) → is_scalar x ≡ true → scalar_cmp x x ≡ Equal
tied null h = refl
tied (boolean b) h = tied_itself bool_cmp_total b
tied (number n) h = tied_itself int_cmp_total n
tied (text s) h = tied_itself (lists_total nat_cmp_total) s
tied (date n) h = tied_itself int_cmp_total n
tied (list ts) h = Prim.cc h
tied (object ms) h = Prim.cc h

-- once the operand stands there, and it doesn't pass itself, nothing is put
bounded_again : Seen → (path : List ℕ) (x d new : Tree) (passes : Tree → Bool) → is_scalar x ≡ true → passes x ≡ false → put_at path x d ≡ Ok new → put_made path new (bounded path x passes (at new (parts path))) ≡ Ok new
bounded_again seen path x d new passes scalar fails h =
    ap (λ o. put_made path new (bounded path x passes o)) (shows seen path x d new h)
    ∙ ap (λ b. put_made path new (cond b (cond (passes x) (Ok (Some x)) (Ok None)) (Err (WrongTarget path)))) scalar
    ∙ ap (λ b. put_made path new (cond b (Ok (Some x)) (Ok None))) fails

bounded_step : Seen → (path : List ℕ) (x d new : Tree) (passes : Tree → Bool) (o : Option Tree) → at d (parts path) ≡ o → is_scalar x ≡ true → passes x ≡ false → put_made path d (bounded path x passes o) ≡ Ok new
    → put_made path new (bounded path x passes (at new (parts path))) ≡ Ok new
bounded_step seen path x d new passes None q scalar fails h = bounded_again seen path x d new passes scalar fails h
bounded_step seen path x d new passes (Some v) q scalar fails h = go (is_scalar v) (passes v) refl refl h
  where
    go : (s p : Bool) → is_scalar v ≡ s → passes v ≡ p → put_made path d (cond s (cond p (Ok (Some x)) (Ok None)) (Err (WrongTarget path))) ≡ Ok new
        → put_made path new (bounded path x passes (at new (parts path))) ≡ Ok new
    go false p a b k = Prim.cc k
    go true true a b k = bounded_again seen path x d new passes scalar fails k
    go true false a b k =
        let is : d ≡ new = Prim.cc k in
        ap (λ u. put_made path new (bounded path x passes (at u (parts path)))) (sym is) ∙ ap (λ o. put_made path new (bounded path x passes o)) q
        ∙ ap (λ s. put_made path new (cond s (cond (passes v) (Ok (Some x)) (Ok None)) (Err (WrongTarget path)))) a
        ∙ ap (λ p. put_made path new (cond p (Ok (Some x)) (Ok None))) b

pub least_twice : Seen → (path : List ℕ) (x d new : Tree) (moment : ℤ) (on_insert : Bool) → is_scalar x ≡ true → effect moment on_insert path (e.min x) d ≡ Ok new → effect moment on_insert path (e.min x) new ≡ Ok new
least_twice seen path x d new moment on_insert scalar h = bounded_step seen path x d new (λ w. is_lt (scalar_cmp x w)) (at d (parts path)) refl scalar (ap is_lt (tied x scalar)) h

pub greatest_twice : Seen → (path : List ℕ) (x d new : Tree) (moment : ℤ) (on_insert : Bool) → is_scalar x ≡ true → effect moment on_insert path (e.max x) d ≡ Ok new → effect moment on_insert path (e.max x) new ≡ Ok new
greatest_twice seen path x d new moment on_insert scalar h = bounded_step seen path x d new (λ w. is_gt (scalar_cmp x w)) (at d (parts path)) refl scalar (ap is_gt (tied x scalar)) h

-- ---- values added to a list

abbrev pub Alike : Type 0
Alike = (a b : Tree) → IsTrue (same a b) ↔ (a ≡ b)

abbrev pub has : Tree → List Tree → Bool
has x ts = list_any (λ t. same t x) ts

either_more : (b c d : Bool) → (b || c) ≡ true → (c ≡ true → d ≡ true) → (b || d) ≡ true
either_more true c d h k = refl
either_more false c d h k = k h

later : (b c : Bool) → c ≡ true → (b || c) ≡ true
later true c h = refl
later false c h = h

has_behind : (x y : Tree) (ts : List Tree) → has x ts ≡ true → has x (ts ++ y ∷ []) ≡ true
has_behind x y [] h = Prim.cc h
has_behind x y (t ∷ ts) h = either_more (same t x) (has x ts) (has x (ts ++ y ∷ [])) h (has_behind x y ts)

has_last : Alike → (x : Tree) (ts : List Tree) → has x (ts ++ x ∷ []) ≡ true
has_last alike x [] = ap (λ b. b || false) ((alike x x).1 refl)
has_last alike x (t ∷ ts) = later (same t x) (has x (ts ++ x ∷ [])) (has_last alike x ts)

-- what a list has it has after more is added
has_more : (x y : Tree) (ts : List Tree) → has x ts ≡ true → has x (added_one y ts) ≡ true
has_more x y ts h = go (has y ts)
  where
    go : (b : Bool) → has x (cond b ts (ts ++ y ∷ [])) ≡ true
    go true = h
    go false = has_behind x y ts h

has_new : Alike → (x : Tree) (ts : List Tree) → has x (added_one x ts) ≡ true
has_new alike x ts = go (has x ts) refl
  where
    go : (b : Bool) → has x ts ≡ b → has x (cond b ts (ts ++ x ∷ [])) ≡ true
    go true h = h
    go false h = has_last alike x ts

has_kept : (x : Tree) (ys ts : List Tree) → has x ts ≡ true → has x (added ys ts) ≡ true
has_kept x [] ts h = h
has_kept x (y ∷ ys) ts h = has_kept x ys (added_one y ts) (has_more x y ts h)

pub has_all : Alike → (xs ts : List Tree) → list_all (λ x. has x (added xs ts)) xs ≡ true
has_all alike [] ts = refl
has_all alike (x ∷ xs) ts = ap₂ (λ a b. a && b) (has_kept x xs (added_one x ts) (has_new alike x ts)) (has_all alike xs (added_one x ts))

pub nothing_new : (xs ts : List Tree) → list_all (λ x. has x ts) xs ≡ true → added xs ts ≡ ts
nothing_new [] ts h = refl
nothing_new (x ∷ xs) ts h =
    let s = and_parts (has x ts) (list_all (λ y. has y ts) xs) h in
    ap (λ b. added xs (cond b ts (ts ++ x ∷ []))) s.0 ∙ nothing_new xs ts s.1

added_step : Seen → Alike → (path : List ℕ) (xs : List Tree) (d new : Tree) (o : Result (List Tree) UpdateFault) → put_made path d (listed (added xs) o) ≡ Ok new
    → put_made path new (listed (added xs) (elements path (at new (parts path)))) ≡ Ok new
added_step seen alike path xs d new (Err f) h = Prim.cc h
added_step seen alike path xs d new (Ok ts) h =
    let there = shows seen path (list (elements_of (added xs ts))) d new h in
    ap (λ o. put_made path new (listed (added xs) (elements path o))) there
    ∙ ap (λ l. put_made path new (Ok (Some (list (elements_of (added xs l)))))) (list_of_elements-elements_of (added xs ts))
    ∙ ap (λ l. put_made path new (Ok (Some (list (elements_of l))))) (nothing_new xs (added xs ts) (has_all alike xs ts))
    ∙ put_there path (list (elements_of (added xs ts))) new there

pub added_twice : Seen → Alike → (path : List ℕ) (xs : List Tree) (d new : Tree) (moment : ℤ) (on_insert : Bool) → effect moment on_insert path (add_to_set xs) d ≡ Ok new → effect moment on_insert path (add_to_set xs) new ≡ Ok new
added_twice seen alike path xs d new moment on_insert h = added_step seen alike path xs d new (elements path (at d (parts path))) h

-- ---- taken

pub unset_twice : (path : List ℕ) (new : Tree) (moment : ℤ) (on_insert : Bool) → at new (parts path) ≡ None → effect moment on_insert path unset new ≡ Ok new
unset_twice path new moment on_insert none = ap Ok (without_none new (parts path) none)

pub renamed_twice : (path to : List ℕ) (new : Tree) (moment : ℤ) (on_insert : Bool) → at new (parts path) ≡ None → effect moment on_insert path (rename to) new ≡ Ok new
renamed_twice path to new moment on_insert none = ap (moved path to new) none

pub taken : (path : List ℕ) (d new : Tree) (moment : ℤ) (on_insert : Bool) (whole : List (List ℕ)) → parts path ≡ whole → Made d new path unset moment on_insert → (o : Option Tree) → at (without d whole) whole ≡ o → at new (parts path) ≡ o
taken path d new moment on_insert whole is m o h =
    let q : without d (parts path) ≡ new = Prim.cc m.made in
    ap (λ t. at t (parts path)) (sym q) ∙ ap (λ l. at (without d l) l) is ∙ h

-- ---- a number that was added to, and back

pub counted : Seen → (path : List ℕ) (n m : ℤ) (d new : Tree) (moment : ℤ) (on_insert : Bool) → at d (parts path) ≡ Some (number m) → nat_abs m < 10 ^ 38 → effect moment on_insert path (inc n) d ≡ Ok new
    → effect moment on_insert path (inc (neg_ℤ n)) new ≡ Ok d
counted seen path n m d new moment on_insert there range h =
    let first : put_made path d (number_or path (sum_of m n)) ≡ Ok new = ap (λ o. put_made path d (increased path n o)) (sym there) ∙ h in
    let put_first = go (nat_lt (nat_abs (m +ℤ n)) (10 ^ 38)) first in
    let now = shows seen path (number (m +ℤ n)) d new put_first in
    ap (λ o. put_made path new (increased path (neg_ℤ n) o)) now
    ∙ ap (λ z. put_made path new (number_or path (if nat_lt (nat_abs z) (10 ^ 38) then Some z else None))) (back m n)
    ∙ ap (λ b. put_made path new (number_or path (if b then Some m else None))) (lt-ltb (nat_abs m) (10 ^ 38) range)
    ∙ ap (put_or path) (put_back 0 0 d new (parts path) (number (m +ℤ n)) (number m) there (put_ok path (put 0 d (parts path) (number (m +ℤ n))) new put_first))
  where
    go : (b : Bool) → put_made path d (number_or path (if b then Some (m +ℤ n) else None)) ≡ Ok new → put_at path (number (m +ℤ n)) d ≡ Ok new
    go true k = k
    go false k = Prim.cc k
