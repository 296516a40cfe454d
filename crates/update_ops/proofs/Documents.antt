-- Safe clauses make documents of documents.
use Rattle.std.proofs.Common.{◌≡◌, ◌==◌, ℕ, ℤ, Bool, true, false, ◌||◌, not, List, [], ◌∷◌, ◌++◌, length, take, drop, Option, Some, None, Result, Ok, Err, refl, sym, ◌∙◌, ap, codes, if◌then◌else◌, cond}
use Rattle.std.specs.Prelude.{MatchOption}
use Rattle.std.specs.List.{list_all, list_any}
use Rattle.std.specs.Str.{bytes_eq}
use Rattle.std.proofs.lemmas.Bool.{and_parts}
use Rattle.json_tree.specs.Num.{sum_of, product_of}
use Rattle.json_tree.specs.Tree.{Tree, null, boolean, number, text, date, list, object, elements_of, list_of_elements}
use Rattle.json_tree.specs.Doc.{is_dollar, has_dollar_name, elements_dollar_name, id_in, IsDocument}
use Rattle.json_tree.specs.Id.{IsId}
use Rattle.doc_paths.specs.Text.{parts}
use Rattle.doc_paths.specs.At.{at}
use Rattle.doc_paths.specs.Change.{put, without}
use Rattle.doc_paths.specs.declared.fault.PathFault.{PathFault}
use Rattle.doc_limits.specs.Limits.{broken}
use Rattle.doc_limits.specs.declared.limits.Broken.{Broken}
use Rattle.json_tree.specs.Same.{same}
use Rattle.update_ops.specs.Clauses.{Effect, set, unset, inc, mul, rename, push, pop, add_to_set, set_on_insert, current_date, Clause}
use Rattle.update_ops.specs.Clauses as e
use Rattle.update_ops.specs.Forms.{is_scalar}
use Rattle.update_ops.specs.Apply.{number_or, increased, multiplied, bounded, elements, listed, pushed, place_in, added, added_one, popped, shortened, put_or, put_at, put_made, moved, made, effect, onward, applied, unbroken, within_limits, apply}
use Rattle.update_ops.specs.Safe.{is_aside, is_free, safe_effect, is_safe, are_safe}
use Rattle.update_ops.specs.declared.fault.UpdateFault.{UpdateFault}
use Rattle.update_ops.specs.declared.fault.UpdateFault.TheVariants.{WrongTarget}
use Rattle.update_ops.proofs.Keeping.{Free, AllFree, of_list, append_free, take_free, drop_free, put_keeps, put_id, at_free, without_free, without_id}

pub not_true : (b : Bool) → not b ≡ true → b ≡ false
not_true true e = Prim.cc e
not_true false e = refl

abbrev fine : {X : Type 0} → X → Result X UpdateFault
fine x = Ok x

-- the same id, and free of names that begin with '$'
pub record Kept (d r : Tree) : Type 0 where
  pub id : id_in r ≡ id_in d
  pub free : Free r

kept_on : (d r s : Tree) → Kept d r → Kept r s → Kept d s
kept_on d r s h k = record { id = k.id ∙ h.id; free = k.free }

-- ---- what is put

put_or_is : (path : List ℕ) (o : Result Tree PathFault) (r : Tree) → put_or path o ≡ Ok r → o ≡ Ok r
put_or_is path (Ok d) r e = let q : d ≡ r = Prim.cc e in ap Ok q
put_or_is path (Err f) r e = Prim.cc e

put_parts : (ps : List (List ℕ)) (x d r : Tree) → is_aside ps ≡ true → Free x → Free d → put 0 d ps x ≡ Ok r → Kept d r
put_parts [] x d r safe k h e = Prim.cc safe
put_parts (p ∷ ps) x d r safe k h e =
    let s = and_parts (not (bytes_eq p (codes "_id"))) (not (list_any is_dollar (p ∷ ps))) safe in
    record { id = put_id 0 d p ps x r (not_true _ s.0) e; free = put_keeps 0 d (p ∷ ps) x r h (not_true _ s.1) k e }

pub put_kept : (path : List ℕ) (x d r : Tree) → is_aside (parts path) ≡ true → Free x → Free d → put_at path x d ≡ Ok r → Kept d r
put_kept path x d r safe k h e = put_parts (parts path) x d r safe k h (put_or_is path (put 0 d (parts path) x) r e)

without_kept : (ps : List (List ℕ)) (d : Tree) → is_aside ps ≡ true → Free d → Kept d (without d ps)
without_kept [] d safe h = Prim.cc safe
without_kept (p ∷ ps) d safe h =
    let s = and_parts (not (bytes_eq p (codes "_id"))) (not (list_any is_dollar (p ∷ ps))) safe in
    record { id = without_id d p ps (not_true _ s.0); free = without_free d (p ∷ ps) h (not_true _ s.1) }

-- ---- what is made

MadeFree : Result (Option Tree) UpdateFault → Type 0
MadeFree o = (x : Tree) → o ≡ Ok (Some x) → Free x

some_free : (y : Tree) → Free y → (x : Tree) → fine (Some y) ≡ Ok (Some x) → Free x
some_free y h x e = let q : y ≡ x = Prim.cc e in ap has_dollar_name (sym q) ∙ h

number_free : (path : List ℕ) (o : Option ℤ) (x : Tree) → number_or path o ≡ Ok (Some x) → Free x
number_free path None x e = Prim.cc e
number_free path (Some n) x e = some_free (number n) refl x e

increased_free : (path : List ℕ) (n : ℤ) (v : Option Tree) (x : Tree) → increased path n v ≡ Ok (Some x) → Free x
increased_free path n None x e = some_free (number n) refl x e
increased_free path n (Some (number m)) x e = number_free path (sum_of m n) x e
increased_free path n (Some null) x e = Prim.cc e
increased_free path n (Some (boolean b)) x e = Prim.cc e
increased_free path n (Some (text s)) x e = Prim.cc e
increased_free path n (Some (date s)) x e = Prim.cc e
increased_free path n (Some (list s)) x e = Prim.cc e
increased_free path n (Some (object s)) x e = Prim.cc e

multiplied_free : (path : List ℕ) (n : ℤ) (v : Option Tree) (x : Tree) → multiplied path n v ≡ Ok (Some x) → Free x
multiplied_free path n None x e = some_free (number _) refl x e
multiplied_free path n (Some (number m)) x e = number_free path (product_of m n) x e
multiplied_free path n (Some null) x e = Prim.cc e
multiplied_free path n (Some (boolean b)) x e = Prim.cc e
multiplied_free path n (Some (text s)) x e = Prim.cc e
multiplied_free path n (Some (date s)) x e = Prim.cc e
multiplied_free path n (Some (list s)) x e = Prim.cc e
multiplied_free path n (Some (object s)) x e = Prim.cc e

bounded_free : (path : List ℕ) (y : Tree) (passes : Tree → Bool) (v : Option Tree) → Free y → (x : Tree) → bounded path y passes v ≡ Ok (Some x) → Free x
bounded_free path y passes None h x e = some_free y h x e
bounded_free path y passes (Some v) h x e = go (is_scalar v) (passes v) e
  where
    go : (a b : Bool) → (if a then (if b then Ok (Some y) else Ok None) else Err (WrongTarget path)) ≡ Ok (Some x) → Free x
    go true true e = some_free y h x e
    go true false e = Prim.cc e
    go false b e = Prim.cc e

elements_free : (path : List ℕ) (v : Option Tree) (ts : List Tree) → ((w : Tree) → v ≡ Some w → Free w) → elements path v ≡ Ok ts → AllFree ts
elements_free path None ts h e = let q : [] ≡ ts = Prim.cc e in ap (λ l. elements_dollar_name (elements_of l)) (sym q)
elements_free path (Some (list es)) ts h e =
    let q : list_of_elements es ≡ ts = Prim.cc e in ap (λ l. elements_dollar_name (elements_of l)) (sym q) ∙ of_list es (h (list es) refl)
elements_free path (Some null) ts h e = Prim.cc e
elements_free path (Some (boolean b)) ts h e = Prim.cc e
elements_free path (Some (number n)) ts h e = Prim.cc e
elements_free path (Some (text s)) ts h e = Prim.cc e
elements_free path (Some (date n)) ts h e = Prim.cc e
elements_free path (Some (object ms)) ts h e = Prim.cc e

listed_free : (f : List Tree → List Tree) (o : Result (List Tree) UpdateFault) → ((ts : List Tree) → o ≡ Ok ts → AllFree (f ts)) → (x : Tree) → listed f o ≡ Ok (Some x) → Free x
listed_free f (Ok ts) h x e = some_free (list (elements_of (f ts))) (h ts refl) x e
listed_free f (Err g) h x e = Prim.cc e

shortened_free : (last : Bool) (o : Result (List Tree) UpdateFault) → ((ts : List Tree) → o ≡ Ok ts → AllFree ts) → (x : Tree) → shortened last o ≡ Ok (Some x) → Free x
shortened_free last (Err g) h x e = Prim.cc e
shortened_free last (Ok ts) h x e = go (length ts == 0) e
  where
    popped_free : (l : Bool) → AllFree (popped l ts)
    popped_free true = take_free _ ts (h ts refl)
    popped_free false = drop_free 1 ts (h ts refl)

    go : (b : Bool) → (if b then Ok None else Ok (Some (list (elements_of (popped last ts))))) ≡ fine (Some x) → Free x
    go true e = Prim.cc e
    go false e = some_free (list (elements_of (popped last ts))) (popped_free last) x e

all_free : (xs : List Tree) → list_all is_free xs ≡ true → AllFree xs
all_free [] h = refl
all_free (x ∷ xs) h =
    let s = and_parts (is_free x) (list_all is_free xs) h in λ i. not_true (has_dollar_name x) s.0 i || all_free xs s.1 i

pushed_free : (xs : List Tree) (place : Option ℤ) (ts : List Tree) → AllFree xs → AllFree ts → AllFree (pushed xs place ts)
pushed_free xs place ts k h =
    append_free (take (place_in (length ts) place) ts ++ xs) (drop (place_in (length ts) place) ts)
    (append_free (take (place_in (length ts) place) ts) xs (take_free (place_in (length ts) place) ts h) k) (drop_free (place_in (length ts) place) ts h)

one_free : (x : Tree) (ts : List Tree) → Free x → AllFree ts → AllFree (added_one x ts)
one_free x ts k h =
    elim (list_any (λ t. same t x) ts) as (λ b. AllFree (cond b ts (ts ++ x ∷ []))) [ true ↦ h | false ↦ append_free ts (x ∷ []) h (λ i. k i || false) ]

added_free : (xs ts : List Tree) → list_all is_free xs ≡ true → AllFree ts → AllFree (added xs ts)
added_free [] ts k h = h
added_free (x ∷ xs) ts k h = let s = and_parts (is_free x) (list_all is_free xs) k in added_free xs (added_one x ts) s.1 (one_free x ts (not_true (has_dollar_name x) s.0) h)

made_free : (path : List ℕ) (w : Effect) (v : Option Tree) → safe_effect w ≡ true → ((u : Tree) → v ≡ Some u → Free u) → (x : Tree) → made path w v ≡ Ok (Some x) → Free x
made_free path (inc n) v safe h x e = increased_free path n v x e
made_free path (mul n) v safe h x e = multiplied_free path n v x e
made_free path (e.min y) v safe h x e = bounded_free path y _ v (not_true (has_dollar_name y) safe) x e
made_free path (e.max y) v safe h x e = bounded_free path y _ v (not_true (has_dollar_name y) safe) x e
made_free path (push xs place) v safe h x e = listed_free (pushed xs place) (elements path v) (λ ts q. pushed_free xs place ts (all_free xs safe) (elements_free path v ts h q)) x e
made_free path (pop last) v safe h x e = shortened_free last (elements path v) (λ ts q. elements_free path v ts h q) x e
made_free path (add_to_set xs) v safe h x e = listed_free (added xs) (elements path v) (λ ts q. added_free xs ts safe (elements_free path v ts h q)) x e
made_free path (set y) v safe h x e = Prim.cc e
made_free path unset v safe h x e = Prim.cc e
made_free path (rename to) v safe h x e = Prim.cc e
made_free path (set_on_insert y) v safe h x e = Prim.cc e
made_free path current_date v safe h x e = Prim.cc e

unchanged : (d r : Tree) → Free d → fine d ≡ Ok r → Kept d r
unchanged d r h e = let q : d ≡ r = Prim.cc e in record { id = ap id_in (sym q); free = ap has_dollar_name (sym q) ∙ h }

put_made_kept : (path : List ℕ) (d r : Tree) (o : Result (Option Tree) UpdateFault) → is_aside (parts path) ≡ true → Free d → ((x : Tree) → o ≡ Ok (Some x) → Free x) → put_made path d o ≡ Ok r → Kept d r
put_made_kept path d r (Err g) safe h k e = Prim.cc e
put_made_kept path d r (Ok None) safe h k e = unchanged d r h e
put_made_kept path d r (Ok (Some x)) safe h k e = put_kept path x d r safe (k x refl) h e

moved_kept : (path to : List ℕ) (d r : Tree) (o : Option Tree) → is_aside (parts path) ≡ true → is_aside (parts to) ≡ true → Free d → ((x : Tree) → o ≡ Some x → Free x) → moved path to d o ≡ Ok r → Kept d r
moved_kept path to d r None safe also h k e = unchanged d r h e
moved_kept path to d r (Some v) safe also h k e =
    let w = without_kept (parts path) d safe h in
    kept_on d (without d (parts path)) r w (put_kept to v (without d (parts path)) r also (k v refl) w.free e)

-- ---- whole updates

by_value : (moment : ℤ) (on_insert : Bool) (path : List ℕ) (w : Effect) (d r : Tree) → is_aside (parts path) ≡ true → safe_effect w ≡ true → Free d
    → put_made path d (made path w (at d (parts path))) ≡ Ok r → Kept d r
by_value moment on_insert path w d r safe also h e =
    put_made_kept path d r (made path w (at d (parts path))) safe h (made_free path w (at d (parts path)) also (λ u q. at_free d (parts path) u h q)) e

effect_kept : (moment : ℤ) (on_insert : Bool) (path : List ℕ) (w : Effect) (d r : Tree) → is_aside (parts path) ≡ true → safe_effect w ≡ true → Free d
    → effect moment on_insert path w d ≡ Ok r → Kept d r
effect_kept moment on_insert path (set x) d r safe also h e = put_kept path x d r safe (not_true (has_dollar_name x) also) h e
effect_kept moment on_insert path unset d r safe also h e =
    let q : without d (parts path) ≡ r = Prim.cc e in
    let w = without_kept (parts path) d safe h in
    record { id = ap id_in (sym q) ∙ w.id; free = ap has_dollar_name (sym q) ∙ w.free }
effect_kept moment on_insert path (rename to) d r safe also h e = moved_kept path to d r (at d (parts path)) safe also h (λ u q. at_free d (parts path) u h q) e
effect_kept moment true path (set_on_insert x) d r safe also h e = put_kept path x d r safe (not_true (has_dollar_name x) also) h e
effect_kept moment false path (set_on_insert x) d r safe also h e = unchanged d r h e
effect_kept moment on_insert path current_date d r safe also h e = put_kept path (date moment) d r safe refl h e
effect_kept moment on_insert path (inc n) d r safe also h e = by_value moment on_insert path (inc n) d r safe also h e
effect_kept moment on_insert path (mul n) d r safe also h e = by_value moment on_insert path (mul n) d r safe also h e
effect_kept moment on_insert path (e.min x) d r safe also h q = by_value moment on_insert path (e.min x) d r safe also h q
effect_kept moment on_insert path (e.max x) d r safe also h q = by_value moment on_insert path (e.max x) d r safe also h q
effect_kept moment on_insert path (push xs place) d r safe also h e = by_value moment on_insert path (push xs place) d r safe also h e
effect_kept moment on_insert path (pop last) d r safe also h e = by_value moment on_insert path (pop last) d r safe also h e
effect_kept moment on_insert path (add_to_set xs) d r safe also h e = by_value moment on_insert path (add_to_set xs) d r safe also h e

onward_kept : (o : Result Tree UpdateFault) (f : Tree → Result Tree UpdateFault) (d r : Tree) → onward o f ≡ Ok r → ((u : Tree) → o ≡ Ok u → Kept d u) → ((u : Tree) → Free u → f u ≡ Ok r → Kept u r) → Kept d r
onward_kept (Err g) f d r e h k = Prim.cc e
onward_kept (Ok u) f d r e h k = kept_on d u r (h u refl) (k u (h u refl).free e)

applied_kept : (moment : ℤ) (on_insert : Bool) (cs : List Clause) (d r : Tree) → are_safe cs ≡ true → Free d → applied moment on_insert cs d ≡ Ok r → Kept d r
applied_kept moment on_insert [] d r safe h e = unchanged d r h e
applied_kept moment on_insert (c ∷ cs) d r safe h e =
    let s = and_parts (is_safe c) (are_safe cs) safe in
    let one = and_parts (is_aside (parts c.path)) (safe_effect c.effect) s.0 in
    onward_kept (effect moment on_insert c.path c.effect d) (applied moment on_insert cs) d r e
    (λ u q. effect_kept moment on_insert c.path c.effect d u one.0 one.1 h q) (λ u f q. applied_kept moment on_insert cs u r s.1 f q)

limits_kept : (o : Option Broken) (d r : Tree) → Free d → unbroken o d ≡ Ok r → Kept d r
limits_kept None d r h e = unchanged d r h e
limits_kept (Some b) d r h e = Prim.cc e

kept_whole : (cs : List Clause) (d r : Tree) (moment : ℤ) (on_insert : Bool) → are_safe cs ≡ true → IsDocument d → apply cs d moment on_insert ≡ Ok r → Kept d r
kept_whole cs d r moment on_insert safe doc e = onward_kept (applied moment on_insert cs d) within_limits d r e (λ u q. applied_kept moment on_insert cs d u safe doc.names q) (λ u f q. limits_kept (broken u) u r f q)

pub same_id : (cs : List Clause) (d r : Tree) (moment : ℤ) (on_insert : Bool) → are_safe cs ≡ true → IsDocument d → apply cs d moment on_insert ≡ Ok r → id_in r ≡ id_in d
same_id cs d r moment on_insert safe doc e = let k = kept_whole cs d r moment on_insert safe doc e in k.id

none_broken : (o : Option Broken) (u r : Tree) → broken u ≡ o → unbroken o u ≡ Ok r → broken r ≡ None
none_broken None u r b e = let q : u ≡ r = Prim.cc e in ap broken (sym q) ∙ b
none_broken (Some x) u r b e = Prim.cc e

onward_broken : (o : Result Tree UpdateFault) (r : Tree) → onward o within_limits ≡ Ok r → broken r ≡ None
onward_broken (Ok u) r e = none_broken (broken u) u r refl e
onward_broken (Err f) r e = Prim.cc e

pub keeps_limits : (cs : List Clause) (d r : Tree) (moment : ℤ) (on_insert : Bool) → apply cs d moment on_insert ≡ Ok r → broken r ≡ None
keeps_limits cs d r moment on_insert e = onward_broken (applied moment on_insert cs d) r e

pub stays_document : (cs : List Clause) (d r : Tree) (moment : ℤ) (on_insert : Bool) → are_safe cs ≡ true → IsDocument d → apply cs d moment on_insert ≡ Ok r → IsDocument r
stays_document cs d r moment on_insert safe doc e =
    let k : Kept d r = kept_whole cs d r moment on_insert safe doc e in
    record { id = has_id (id_in d) (id_in r) k.id doc.id; names = k.free }
  where
    has_id : (a b : Option Tree) → b ≡ a → MatchOption a ⊥ IsId → MatchOption b ⊥ IsId
    has_id a b q h = rw (sym q) at h

pub document_made : (cs ds : List Clause) (d b r : Tree) (moment : ℤ) (on_insert : Bool) → ds ≡ cs → b ≡ d → are_safe cs ≡ true → IsDocument d → apply ds b moment on_insert ≡ Ok r → IsDocument r
document_made cs ds d b r moment on_insert p q safe doc e =
    stays_document cs d r moment on_insert safe doc (ap (λ l. apply l d moment on_insert) (sym p) ∙ ap (λ t. apply ds t moment on_insert) (sym q) ∙ e)
