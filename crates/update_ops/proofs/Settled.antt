-- Updates of steady clauses whose paths don't overlap do nothing a second time.
use Rattle.std.proofs.Common.{◌≡◌, inl, inr, ℕ, ℤ, Bool, true, false, cond, List, [], ◌∷◌, ◌++◌, Option, Some, None, Result, Ok, Err, refl, sym, ◌∙◌, ap, subst}
use Rattle.std.specs.Bool.{⊤}
use Rattle.std.specs.List.{find, AllByRecursion}
use Rattle.std.specs.Option.{option_or, option_map}
use Rattle.std.specs.Ordering.{is_lt, is_gt}
use Rattle.std.proofs.lemmas.Bool.{and_parts}
use Rattle.json_tree.specs.Tree.{Tree, date, list, elements_of}
use Rattle.json_tree.specs.RoundTrips.{list_of_elements-elements_of}
use Rattle.doc_paths.specs.Text.{parts}
use Rattle.doc_paths.specs.At.{at}
use Rattle.doc_paths.specs.Change.{put}
use Rattle.doc_paths.specs.Overlap.{Overlap}
use Rattle.doc_paths.specs.Shown.{StillShows}
use Rattle.doc_limits.specs.Limits.{broken}
use Rattle.update_ops.specs.Clauses.{Effect, set, unset, inc, mul, rename, push, pop, add_to_set, set_on_insert, current_date, Clause}
use Rattle.update_ops.specs.Clauses as e
use Rattle.update_ops.specs.Order.{scalar_cmp}
use Rattle.update_ops.specs.Forms.{is_scalar}
use Rattle.update_ops.specs.Faults.{overlap, overlap_in, paths_of}
use Rattle.update_ops.specs.Faults as f
use Rattle.update_ops.specs.Steady.{is_steady, are_steady}
use Rattle.update_ops.specs.Apply.{put_at, put_made, bounded, elements, listed, added, effect, onward, applied, within_limits, unbroken, apply}
use Rattle.update_ops.specs.declared.fault.UpdateFault.{UpdateFault}
use Rattle.update_ops.specs.declared.fault.UpdateFault.TheVariants as v
use Rattle.update_ops.proofs.Idle.{put_there}
use Rattle.update_ops.proofs.Rounds.{overlap-Decides}
use Rattle.update_ops.proofs.Twice.{Seen, Alike, shows, put_ok, tied, nothing_new, has_all, limits_made}

-- ---- what stands

-- a value stands at the path with which the clause does nothing, or it does nothing anyway
pub data Stands (moment : ℤ) (on_insert : Bool) (path : List ℕ) (w : Effect) (t : Tree) : Type 0 where
  with_value : (x : Tree) → at t (parts path) ≡ Some x → ((u : Tree) → at u (parts path) ≡ Some x → effect moment on_insert path w u ≡ Ok u) → Stands moment on_insert path w t
  anyway : ((u : Tree) → effect moment on_insert path w u ≡ Ok u) → Stands moment on_insert path w t

idle : (moment : ℤ) (on_insert : Bool) (path : List ℕ) (w : Effect) (t : Tree) → Stands moment on_insert path w t → effect moment on_insert path w t ≡ Ok t
idle moment on_insert path w t (with_value x there nothing) = nothing t there
idle moment on_insert path w t (anyway nothing) = nothing t

put_stands : Seen → (moment : ℤ) (on_insert : Bool) (path : List ℕ) (w : Effect) (x d new : Tree) → ((u : Tree) → effect moment on_insert path w u ≡ put_at path x u) → put_at path x d ≡ Ok new → Stands moment on_insert path w new
put_stands seen moment on_insert path w x d new is h = with_value x (shows seen path x d new h) (λ u there. is u ∙ put_there path x u there)

-- a scalar that the operand doesn't pass
bounded_stands : Seen → (moment : ℤ) (on_insert : Bool) (path : List ℕ) (w : Effect) (x d new : Tree) (passes : Tree → Bool) → ((u : Tree) → effect moment on_insert path w u ≡ put_made path u (bounded path x passes (at u (parts path))))
    → is_scalar x ≡ true → passes x ≡ false → (o : Option Tree) → at d (parts path) ≡ o → put_made path d (bounded path x passes o) ≡ Ok new → Stands moment on_insert path w new
bounded_stands seen moment on_insert path w x d new passes is scalar fails o there h = by o there h
  where
    stays : (y : Tree) → is_scalar y ≡ true → passes y ≡ false → (u : Tree) → at u (parts path) ≡ Some y → effect moment on_insert path w u ≡ Ok u
    stays y s p u q =
        is u ∙ ap (λ r. put_made path u (bounded path x passes r)) q
        ∙ ap (λ b. put_made path u (cond b (cond (passes y) (Ok (Some x)) (Ok None)) (Err (v.WrongTarget path)))) s
        ∙ ap (λ b. put_made path u (cond b (Ok (Some x)) (Ok None))) p

    own : put_at path x d ≡ Ok new → Stands moment on_insert path w new
    own k = with_value x (shows seen path x d new k) (stays x scalar fails)

    old : (y : Tree) → at d (parts path) ≡ Some y → (s p : Bool) → is_scalar y ≡ s → passes y ≡ p → put_made path d (cond s (cond p (Ok (Some x)) (Ok None)) (Err (v.WrongTarget path))) ≡ Ok new → Stands moment on_insert path w new
    old y q false p a b k = Prim.cc k
    old y q true true a b k = own k
    old y q true false a b k = let same : d ≡ new = Prim.cc k in with_value y (ap (λ u. at u (parts path)) (sym same) ∙ q) (stays y a b)

    by : (o : Option Tree) → at d (parts path) ≡ o → put_made path d (bounded path x passes o) ≡ Ok new → Stands moment on_insert path w new
    by None q k = own k
    by (Some y) q k = old y q (is_scalar y) (passes y) refl refl k

added_stands : Seen → Alike → (moment : ℤ) (on_insert : Bool) (path : List ℕ) (xs : List Tree) (d new : Tree) (o : Result (List Tree) UpdateFault) → put_made path d (listed (added xs) o) ≡ Ok new → Stands moment on_insert path (add_to_set xs) new
added_stands seen alike moment on_insert path xs d new (Err g) h = Prim.cc h
added_stands seen alike moment on_insert path xs d new (Ok ts) h =
    let whole = list (elements_of (added xs ts)) in
    with_value whole (shows seen path whole d new h)
    (λ u there.
    ap (λ o. put_made path u (listed (added xs) (elements path o))) there
    ∙ ap (λ l. put_made path u (Ok (Some (list (elements_of (added xs l)))))) (list_of_elements-elements_of (added xs ts))
    ∙ ap (λ l. put_made path u (Ok (Some (list (elements_of l))))) (nothing_new xs (added xs ts) (has_all alike xs ts))
    ∙ put_there path whole u there)

stands : Seen → Alike → (moment : ℤ) (on_insert : Bool) (path : List ℕ) (w : Effect) (d new : Tree) → is_steady w ≡ true → effect moment on_insert path w d ≡ Ok new → Stands moment on_insert path w new
stands seen alike moment on_insert path (set x) d new s h = put_stands seen moment on_insert path (set x) x d new (λ u. refl) h
stands seen alike moment true path (set_on_insert x) d new s h = put_stands seen moment true path (set_on_insert x) x d new (λ u. refl) h
stands seen alike moment false path (set_on_insert x) d new s h = anyway (λ u. refl)
stands seen alike moment on_insert path (e.min x) d new s h =
    bounded_stands seen moment on_insert path (e.min x) x d new (λ y. is_lt (scalar_cmp x y)) (λ u. refl) s (ap is_lt (tied x s)) (at d (parts path)) refl h
stands seen alike moment on_insert path (e.max x) d new s h =
    bounded_stands seen moment on_insert path (e.max x) x d new (λ y. is_gt (scalar_cmp x y)) (λ u. refl) s (ap is_gt (tied x s)) (at d (parts path)) refl h
stands seen alike moment on_insert path (add_to_set xs) d new s h = added_stands seen alike moment on_insert path xs d new (elements path (at d (parts path))) h
stands seen alike moment on_insert path current_date d new s h = put_stands seen moment on_insert path current_date (date moment) d new (λ u. refl) h
stands seen alike moment on_insert path unset d new s h = Prim.cc s
stands seen alike moment on_insert path (inc n) d new s h = Prim.cc s
stands seen alike moment on_insert path (mul n) d new s h = Prim.cc s
stands seen alike moment on_insert path (rename to) d new s h = Prim.cc s
stands seen alike moment on_insert path (push xs place) d new s h = Prim.cc s
stands seen alike moment on_insert path (pop last) d new s h = Prim.cc s

-- ---- what a clause elsewhere leaves

abbrev pub Others : Type 0
Others = (passed : ℕ) (t new x : Tree) (path other : List (List ℕ)) → ¬ Overlap path other → put passed t path x ≡ Ok new → StillShows (at t other) (at new other)

abbrev Leaves : List ℕ → List ℕ → Tree → Tree → Type 0
Leaves path other t new = ¬ Overlap (parts path) (parts other) → StillShows (at t (parts other)) (at new (parts other))

put_leaves : Others → (path other : List ℕ) (x t new : Tree) → put_at path x t ≡ Ok new → Leaves path other t new
put_leaves others path other x t new h apart = others 0 t new x (parts path) (parts other) apart (put_ok path (put 0 t (parts path) x) new h)

abbrev fine : Tree → Result Tree UpdateFault
fine t = Ok t

same_leaves : (path other : List ℕ) (t new : Tree) → fine t ≡ Ok new → Leaves path other t new
same_leaves path other t new h apart = let q : t ≡ new = Prim.cc h in inl (ap (λ u. at u (parts other)) (sym q))

made_leaves : Others → (path other : List ℕ) (t new : Tree) (o : Result (Option Tree) UpdateFault) → put_made path t o ≡ Ok new → Leaves path other t new
made_leaves others path other t new (Err g) h = Prim.cc h
made_leaves others path other t new (Ok None) h = same_leaves path other t new h
made_leaves others path other t new (Ok (Some x)) h = put_leaves others path other x t new h

leaves : Others → (moment : ℤ) (on_insert : Bool) (path other : List ℕ) (w : Effect) (t new : Tree) → is_steady w ≡ true → effect moment on_insert path w t ≡ Ok new → Leaves path other t new
leaves others moment on_insert path other (set x) t new s h = put_leaves others path other x t new h
leaves others moment true path other (set_on_insert x) t new s h = put_leaves others path other x t new h
leaves others moment false path other (set_on_insert x) t new s h = same_leaves path other t new h
leaves others moment on_insert path other (e.min x) t new s h = made_leaves others path other t new (bounded path x (λ y. is_lt (scalar_cmp x y)) (at t (parts path))) h
leaves others moment on_insert path other (e.max x) t new s h = made_leaves others path other t new (bounded path x (λ y. is_gt (scalar_cmp x y)) (at t (parts path))) h
leaves others moment on_insert path other (add_to_set xs) t new s h = made_leaves others path other t new (listed (added xs) (elements path (at t (parts path)))) h
leaves others moment on_insert path other current_date t new s h = put_leaves others path other (date moment) t new h
leaves others moment on_insert path other unset t new s h = Prim.cc s
leaves others moment on_insert path other (inc n) t new s h = Prim.cc s
leaves others moment on_insert path other (mul n) t new s h = Prim.cc s
leaves others moment on_insert path other (rename to) t new s h = Prim.cc s
leaves others moment on_insert path other (push xs place) t new s h = Prim.cc s
leaves others moment on_insert path other (pop last) t new s h = Prim.cc s

shown_still : (old new : Option Tree) (x : Tree) → StillShows old new → old ≡ Some x → new ≡ Some x
shown_still old new x (inl q) h = q ∙ h
shown_still old new x (inr q) h = let z : None ≡ Some x = sym q.0 ∙ h in Prim.cc z

stands_on : (moment : ℤ) (on_insert : Bool) (path : List ℕ) (w : Effect) (t new : Tree) → Stands moment on_insert path w t → StillShows (at t (parts path)) (at new (parts path)) → Stands moment on_insert path w new
stands_on moment on_insert path w t new (with_value x there nothing) h = with_value x (shown_still (at t (parts path)) (at new (parts path)) x h there) nothing
stands_on moment on_insert path w t new (anyway nothing) h = anyway nothing

apart : (p q : List ℕ) → overlap p q ≡ false → ¬ Overlap (parts p) (parts q)
apart p q e h = let z : true ≡ false = sym ((overlap-Decides p q).1 h) ∙ e in Prim.cc z

-- ---- whole updates

first_then : (o : Result Tree UpdateFault) (f : Tree → Result Tree UpdateFault) (new : Tree) → onward o f ≡ Ok new → (u : Tree) × (o ≡ Ok u) × (f u ≡ Ok new)
first_then (Ok u) f new h = (u, refl, h)
first_then (Err g) f new h = Prim.cc h

-- each of further clauses has a path aside of this one
abbrev Aside : List ℕ → List Clause → Type 0
Aside path cs = AllByRecursion (λ c. overlap c.path path ≡ false) cs

stands_after : Others → (moment : ℤ) (on_insert : Bool) (path : List ℕ) (w : Effect) (cs : List Clause) (t new : Tree) → are_steady cs ≡ true → Aside path cs → applied moment on_insert cs t ≡ Ok new
    → Stands moment on_insert path w t → Stands moment on_insert path w new
stands_after others moment on_insert path w [] t new s a h k = let q : t ≡ new = Prim.cc h in subst (Stands moment on_insert path w) q k
stands_after others moment on_insert path w (c ∷ cs) t new s a h k =
    let both = and_parts (is_steady c.effect) (are_steady cs) s in
    let r = first_then (effect moment on_insert c.path c.effect t) (applied moment on_insert cs) new h in
    stands_after others moment on_insert path w cs r.0 new both.1 a.1 r.2
    (stands_on moment on_insert path w t r.0 k (leaves others moment on_insert c.path path c.effect t r.0 both.0 r.1 (apart c.path path a.0)))

abbrev AllAside : List Clause → Type 0
AllAside [] = ⊤
AllAside (c ∷ cs) = Aside c.path cs × AllAside cs

abbrev AllStand : ℤ → Bool → List Clause → Tree → Type 0
AllStand moment on_insert cs t = AllByRecursion (λ c. Stands moment on_insert c.path c.effect t) cs

all_stand : Seen → Others → Alike → (moment : ℤ) (on_insert : Bool) (cs : List Clause) (d new : Tree) → are_steady cs ≡ true → AllAside cs → applied moment on_insert cs d ≡ Ok new → AllStand moment on_insert cs new
all_stand seen others alike moment on_insert [] d new s a h = tt
all_stand seen others alike moment on_insert (c ∷ cs) d new s a h =
    let both = and_parts (is_steady c.effect) (are_steady cs) s in
    let r = first_then (effect moment on_insert c.path c.effect d) (applied moment on_insert cs) new h in (
      stands_after others moment on_insert c.path c.effect cs r.0 new both.1 a.0 r.2 (stands seen alike moment on_insert c.path c.effect d r.0 both.0 r.1),
      all_stand seen others alike moment on_insert cs r.0 new both.1 a.1 r.2,
    )

all_idle : (moment : ℤ) (on_insert : Bool) (cs : List Clause) (t : Tree) → AllStand moment on_insert cs t → applied moment on_insert cs t ≡ Ok t
all_idle moment on_insert [] t a = refl
all_idle moment on_insert (c ∷ cs) t a = ap (λ o. onward o (applied moment on_insert cs)) (idle moment on_insert c.path c.effect t a.0) ∙ all_idle moment on_insert cs t a.1

-- ---- paths aside of one another

neither : (a b : Option UpdateFault) → option_or a b ≡ None → (a ≡ None) × (b ≡ None)
neither None b h = (refl, h)
neither (Some g) b h = Prim.cc h

none_found : (p q : List ℕ) (before : List (List ℕ)) → option_map (λ r. v.Overlap r p) (find (overlap p) (q ∷ before)) ≡ None → (overlap p q ≡ false) × (option_map (λ r. v.Overlap r p) (find (overlap p) before) ≡ None)
none_found p q before h = go (overlap p q) refl h
  where
    go : (b : Bool) → overlap p q ≡ b → option_map (λ r. v.Overlap r p) (cond b (Some q) (find (overlap p) before)) ≡ None → (overlap p q ≡ false) × (option_map (λ r. v.Overlap r p) (find (overlap p) before) ≡ None)
    go true e k = Prim.cc k
    go false e k = (e, k)

-- what overlaps nothing before it with one path more in front
parted : (p : List ℕ) (before ps : List (List ℕ)) → overlap_in (p ∷ before) ps ≡ None → AllByRecursion (λ q. overlap q p ≡ false) ps × (overlap_in before ps ≡ None)
parted p before [] h = (tt, refl)
parted p before (q ∷ ps) h =
    let first = neither (option_map (λ r. v.Overlap r q) (find (overlap q) (p ∷ before))) (overlap_in (p ∷ (before ++ q ∷ [])) ps) h in
    let here = none_found q p before first.0 in
    let more = parted p (before ++ q ∷ []) ps first.1 in
    ((here.0, more.0), ap (λ o. option_or o (overlap_in (before ++ q ∷ []) ps)) here.1 ∙ more.1)

one_path : (c : Clause) (cs : List Clause) → is_steady c.effect ≡ true → paths_of (c ∷ cs) ≡ c.path ∷ paths_of cs
one_path c cs s = go c.effect s
  where
    go : (w : Effect) → is_steady w ≡ true → (c.path ∷ f.new_path w) ++ paths_of cs ≡ c.path ∷ paths_of cs
    go (set x) s = refl
    go (set_on_insert x) s = refl
    go (e.min x) s = refl
    go (e.max x) s = refl
    go (add_to_set xs) s = refl
    go current_date s = refl
    go unset s = Prim.cc s
    go (inc n) s = Prim.cc s
    go (mul n) s = Prim.cc s
    go (rename to) s = Prim.cc s
    go (push xs place) s = Prim.cc s
    go (pop last) s = Prim.cc s

aside_of : (path : List ℕ) (cs : List Clause) → are_steady cs ≡ true → AllByRecursion (λ q. overlap q path ≡ false) (paths_of cs) → Aside path cs
aside_of path [] s a = tt
aside_of path (c ∷ cs) s a =
    let both = and_parts (is_steady c.effect) (are_steady cs) s in
    let b = subst (AllByRecursion (λ q. overlap q path ≡ false)) (one_path c cs both.0) a in
    (b.0, aside_of path cs both.1 b.1)

all_aside : (cs : List Clause) → are_steady cs ≡ true → overlap_in [] (paths_of cs) ≡ None → AllAside cs
all_aside [] s h = tt
all_aside (c ∷ cs) s h =
    let both = and_parts (is_steady c.effect) (are_steady cs) s in
    let r = parted c.path [] (paths_of cs) (ap (overlap_in []) (sym (one_path c cs both.0)) ∙ h) in
    (aside_of c.path cs both.1 r.0, all_aside cs both.1 r.1)

pub settled : Seen → Others → Alike → (cs : List Clause) (d new : Tree) (moment : ℤ) (on_insert : Bool) → are_steady cs ≡ true → overlap_in [] (paths_of cs) ≡ None → apply cs d moment on_insert ≡ Ok new → apply cs new moment on_insert ≡ Ok new
settled seen others alike cs d new moment on_insert s clear h =
    let r = first_then (applied moment on_insert cs d) within_limits new h in
    let q = limits_made (broken r.0) r.0 new r.2 in
    let first : applied moment on_insert cs d ≡ Ok new = r.1 ∙ ap Ok q.0 in
    let sound : broken new ≡ None = ap broken (sym q.0) ∙ q.1 in
    ap (λ o. onward o within_limits) (all_idle moment on_insert cs new (all_stand seen others alike moment on_insert cs d new s (all_aside cs s clear) first))
    ∙ ap (λ o. unbroken o new) sound
