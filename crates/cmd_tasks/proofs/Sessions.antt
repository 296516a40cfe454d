-- How a session grows by its own steps: its running request stands as the last exchange, with the reply of a request that is cut off.
use Rattle.std.proofs.Common.{◌≡◌, ℕ, ◌+◌, ◌<◌, ◌≤◌, List, [], ◌∷◌, ◌++◌, map, reverse, length, Bool, true, false, cond, Some, refl, sym, ap, ◌∙◌, subst, arith, zero, suc, length-append, append_assoc, append-nil}
use Rattle.std.specs.Prelude.{slice_get}
use Rattle.std.proofs.lemmas.List.{map-append, reverse-append}
use Rattle.std.proofs.lemmas.Grind.{flat_map-append}
use Rattle.store_core.specs.State.{State}
use Rattle.store_core.specs.Journal.{IsJournal}
use Rattle.cmd_tasks.specs.Trace.{sight, point, writes, IsWithin}
use Rattle.cmd_tasks.specs.Session.{Exchange, behind, AreOrdered, AreWithin, is_work, places, written, items, AreAnswered, IsSession, Records, IsAnswered}
use Rattle.store_core.specs.declared.entry.Entry.{Entry}
use Rattle.cmd_tasks.specs.declared.trace.Item.{Item}
use Rattle.cmd_tasks.specs.declared.trace.Item.TheVariants.{Looked, Wrote, Lost, Faulted}
use Rattle.cmd_tasks.proofs.Extension.{get_more, within_longer, all_answered_more}

-- the newest sight stands in front
pub sights_snoc : (H : List Entry) (trace : List Item) (i : Item) → reverse (map (sight H) (trace ++ i ∷ [])) ≡ sight H i ∷ reverse (map (sight H) trace)
sights_snoc H trace i = ap reverse (map-append (sight H) trace (i ∷ [])) ∙ reverse-append (map (sight H) trace) (sight H i ∷ [])

pub items_snoc : (xs : List Exchange) (x : Exchange) → items (xs ++ x ∷ []) ≡ items xs ++ x.trace
items_snoc xs x = flat_map-append (λ (y : Exchange). y.trace) xs (x ∷ []) ∙ ap (λ (t : List Item). items xs ++ t) (append-nil x.trace)

behind_within : (n : ℕ) (i : Item) → IsWithin n i → behind i ≤ n
behind_within n (Looked at after up_to shown) h = h
behind_within n (Wrote at) h = omega arith
behind_within n (Lost at read found) h = h
behind_within n (Faulted at before count) h = omega arith

pub ordered_snoc : (from n : ℕ) (is : List Item) (i : Item) → AreOrdered from is → AreWithin n is → from ≤ n → n ≤ point i → AreOrdered from (is ++ i ∷ [])
ordered_snoc from n [] i h w le here = (omega arith, tt)
ordered_snoc from n (j ∷ js) i h w le here = (h.0, ordered_snoc (behind j) n js i h.1 w.1 (behind_within n j w.0) here)

pub within_snoc : (n : ℕ) (is : List Item) (i : Item) → AreWithin n is → IsWithin n i → AreWithin n (is ++ i ∷ [])
within_snoc n [] i h here = (here, tt)
within_snoc n (j ∷ js) i h here = (h.0, within_snoc n js i h.1 here)

pub written_snoc : (is : List Item) (i : Item) → written (is ++ i ∷ []) ≡ written is ++ cond (writes i) (point i ∷ []) []
written_snoc [] i = each (writes i)
  where
    each : (b : Bool) → cond b (point i ∷ []) [] ≡ [] ++ cond b (point i ∷ []) []
    each true = refl
    each false = refl
written_snoc (j ∷ js) i = each (writes j) (written_snoc js i)
  where
    each : (b : Bool) → written (js ++ i ∷ []) ≡ written js ++ cond (writes i) (point i ∷ []) [] → cond b (point j ∷ written (js ++ i ∷ [])) (written (js ++ i ∷ [])) ≡ cond b (point j ∷ written js) (written js) ++ cond (writes i) (point i ∷ []) []
    each true e = ap (λ (ps : List ℕ). point j ∷ ps) e
    each false e = e

pub places-append : (k n : ℕ) (xs ys : List Entry) → places k n (xs ++ ys) ≡ places k n xs ++ places k (n + length xs) ys
places-append k n [] ys = ap (λ (m : ℕ). places k m ys) (omega arith)
places-append k n (x ∷ xs) ys =
    let e : places k (n + 1) (xs ++ ys) ≡ places k (n + 1) xs ++ places k (n + length (x ∷ xs)) ys = places-append k (n + 1) xs ys ∙ ap (λ (m : ℕ). places k (n + 1) xs ++ places k m ys) (omega arith) in
    ap (λ (ps : List ℕ). cond (is_work k x) (n ∷ ps) ps) e ∙ each (is_work k x)
  where
    each : (b : Bool) → cond b (n ∷ (places k (n + 1) xs ++ places k (n + length (x ∷ xs)) ys)) (places k (n + 1) xs ++ places k (n + length (x ∷ xs)) ys) ≡ cond b (n ∷ places k (n + 1) xs) (places k (n + 1) xs) ++ places k (n + length (x ∷ xs)) ys
    each true = refl
    each false = refl

opened_below : {A : Type 0} (xs : List A) (n : ℕ) (x : A) → slice_get xs n ≡ Some x → n < length xs
opened_below [] n x e = cc
opened_below (a ∷ xs) zero x e = omega arith
opened_below (a ∷ xs) (suc n) x e = let h = opened_below xs n x e in omega arith

-- the last exchange is replaced by what it is after one more step
served_front : (base : State) (H : List Entry) (k : ℕ) (xs ys : List Exchange) → AreAnswered base H k (xs ++ ys) → AreAnswered base H k xs
served_front base H k [] ys h = tt
served_front base H k (x ∷ xs) ys h = (h.0, served_front base H k xs ys h.1)

served_snoc : (base : State) (H : List Entry) (k : ℕ) (xs : List Exchange) (x : Exchange) → AreAnswered base H k xs → IsAnswered base H k x → AreAnswered base H k (xs ++ x ∷ [])
served_snoc base H k [] x h here = (here, tt)
served_snoc base H k (y ∷ xs) x h here = (h.0, served_snoc base H k xs x h.1 here)

within_front : (n : ℕ) (xs ys : List Item) → AreWithin n (xs ++ ys) → AreWithin n xs
within_front n [] ys h = tt
within_front n (x ∷ xs) ys h = (h.0, within_front n xs ys h.1)

-- a request begins
pub session_begins : (base : State) (H : List Entry) (k : ℕ) (xs : List Exchange) (x : Exchange) → x.trace ≡ [] → IsAnswered base H k x → IsSession base H k xs → IsSession base H k (xs ++ x ∷ [])
session_begins base H k xs x none serves h = let same : items (xs ++ x ∷ []) ≡ items xs = items_snoc xs x ∙ (ap (λ (t : List Item). items xs ++ t) none ∙ append-nil (items xs)) in record {
  journal = h.journal;
  answered = served_snoc base H k xs x h.answered serves;
  opened = h.opened;
  opens = h.opens;
  ordered = subst (AreOrdered (h.opened + 1)) (sym same) h.ordered;
  within = subst (AreWithin (length H)) (sym same) h.within;
  own = h.own ∙ ap written (sym same);
}

-- one step of the running request: it appends one item, and one entry where the item wrote
pub session_steps : (base : State) (H more : List Entry) (k : ℕ) (xs : List Exchange) (x y : Exchange) (i : Item)
    → IsSession base H k (xs ++ x ∷ []) → IsJournal base (H ++ more) → y.trace ≡ x.trace ++ i ∷ [] → Records k (length H) i more → IsAnswered base (H ++ more) k y → IsSession base (H ++ more) k (xs ++ y ∷ [])
session_steps base H more k xs x y i h journal longer grows serves =
    let was : items (xs ++ x ∷ []) ≡ items xs ++ x.trace = items_snoc xs x in
    let is : items (xs ++ y ∷ []) ≡ items (xs ++ x ∷ []) ++ i ∷ [] = items_snoc xs y ∙ (ap (λ (t : List Item). items xs ++ t) longer ∙ (sym (append_assoc (items xs) x.trace (i ∷ [])) ∙ ap (λ (t : List Item). t ++ i ∷ []) (sym was))) in
    let size = length-append H more in
    let w : AreWithin (length (H ++ more)) (items (xs ++ x ∷ [])) = within_longer (length H) (length (H ++ more)) _ (omega arith) h.within in
    let start = opened_below H h.opened _ h.opens in
    let front : AreWithin (length H) (items xs) = within_front (length H) (items xs) x.trace (subst (AreWithin (length H)) was h.within) in
    let before = served_front base H k xs (x ∷ []) h.answered in record {
      journal = journal;
      answered = served_snoc base (H ++ more) k xs y (all_answered_more base H more k xs front before) serves;
      opened = h.opened;
      opens = get_more H more h.opened start ∙ h.opens;
      ordered = subst (AreOrdered (h.opened + 1)) (sym is) (ordered_snoc (h.opened + 1) (length H) _ i h.ordered h.within (omega arith) (omega (arith, grows.here)));
      within = subst (AreWithin (length (H ++ more))) (sym is) (within_snoc (length (H ++ more)) _ i w (subst (λ (m : ℕ). IsWithin m i) (sym size) grows.stands));
      own = places-append k 0 H more ∙ (ap (λ (ps : List ℕ). ps ++ places k (0 + length H) more) h.own ∙ (ap (λ (ps : List ℕ). written (items (xs ++ x ∷ [])) ++ ps) (ap (λ (m : ℕ). places k m more) (omega arith) ∙ grows.own) ∙ (sym (written_snoc (items (xs ++ x ∷ [])) i) ∙ ap written (sym is))));
    }

-- a step that added nothing: the running request has another reply
pub session_ends : (base : State) (H : List Entry) (k : ℕ) (xs : List Exchange) (x y : Exchange) → IsSession base H k (xs ++ x ∷ []) → y.trace ≡ x.trace → IsAnswered base H k y → IsSession base H k (xs ++ y ∷ [])
session_ends base H k xs x y h same serves = let are : items (xs ++ y ∷ []) ≡ items (xs ++ x ∷ []) = items_snoc xs y ∙ (ap (λ (t : List Item). items xs ++ t) same ∙ sym (items_snoc xs x)) in record {
  journal = h.journal;
  answered = served_snoc base H k xs y (served_front base H k xs (x ∷ []) h.answered) serves;
  opened = h.opened;
  opens = h.opens;
  ordered = subst (AreOrdered (h.opened + 1)) (sym are) h.ordered;
  within = subst (AreWithin (length H)) (sym are) h.within;
  own = h.own ∙ ap written (sym are);
}
