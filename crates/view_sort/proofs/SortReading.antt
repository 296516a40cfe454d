-- A sort read member by member.
use Rattle.std.proofs.Common.{◌≡◌, ◌+◌, ◌++◌, ◌⊎◌, inl, inr, ℕ, Bool, true, false, ◌&&◌, cond, List, [], ◌∷◌, map, drop, Result, Some, None, slice_get, sym, refl, subst, ◌∙◌, ap}
use Rattle.json_tree.specs.Tree.{Tree, object, members_of}
use Rattle.view_sort.specs.Answers.{Answers}
use Rattle.view_sort.specs.Sort.{is_path, is_direction, ascends, bad_key, key_of_member, sort_fault, sort_in}
use Rattle.view_sort.specs.declared.fault.ViewFault.{ViewFault}
use Rattle.view_sort.specs.declared.fault.ViewFault.TheVariants.{NoMemory, BadSort}
use Rattle.view_sort.specs.declared.sort.Sort.{Sort}
use Rattle.view_sort.proofs.Walks.{drop-at, made_more, listed}

-- keys were read of the first i members, and none of these is bad
pub record Reads (keys : List (List ℕ × Bool)) (ms : List (List ℕ × Tree)) (i : ℕ) : Type 0 where
  pub clean : bad_key (drop i ms) ≡ bad_key ms
  pub made : keys ++ map key_of_member (drop i ms) ≡ map key_of_member ms

-- of the member at i
here : (ms : List (List ℕ × Tree)) (i : ℕ) (p : List ℕ × Tree) → Some p ≡ slice_get ms i
    → bad_key (drop i ms) ≡ cond (is_path p.0 && is_direction p.1) (bad_key (drop (i + 1) ms)) (Some (BadSort p.0))
here ms i p e = ap bad_key (drop-at ms i p (sym e))

no_good : (good : Bool) (f e : ViewFault) → cond good None (Some f) ≡ Some e → (good ≡ false) × (e ≡ f)
no_good true f e h = Prim.cc h
no_good false f e h = (refl, Prim.cc (sym h))

is_good : (good : Bool) (f : ViewFault) → cond good None (Some f) ≡ None → good ≡ true
is_good true f h = refl
is_good false f h = Prim.cc h

pub fails : (keys : List (List ℕ × Bool)) (ms : List (List ℕ × Tree)) (i : ℕ) (name word : List ℕ) (t : Tree) (e : ViewFault) → Some (name, t) ≡ slice_get ms i → word ≡ name
    → Reads keys ms i → (e ≡ NoMemory) ⊎ (cond (is_path word && is_direction t) None (Some (BadSort word)) ≡ Some e) → (e ≡ NoMemory) ⊎ (bad_key ms ≡ Some e)
fails keys ms i name word t e is w reads (inl h) = inl h
fails keys ms i name word t e is w reads (inr h) =
    let bad = no_good _ _ e h in
    let here_bad : (is_path name && is_direction t) ≡ false = ap (λ n. is_path n && is_direction t) (sym w) ∙ bad.0 in
    inr (sym reads.clean ∙ here ms i (name, t) is ∙ ap (λ b. cond b (bad_key (drop (i + 1) ms)) (Some (BadSort name))) here_bad ∙ ap Some (sym (bad.1 ∙ ap BadSort w)))

pub reads_more : (keys new : List (List ℕ × Bool)) (ms : List (List ℕ × Tree)) (i : ℕ) (name word : List ℕ) (t : Tree) (key : List ℕ × Bool) → Some (name, t) ≡ slice_get ms i → word ≡ name
    → Reads keys ms i → (cond (is_path word && is_direction t) None (Some (BadSort word)) ≡ None) × (key ≡ (word, ascends t)) → new ≡ keys ++ key ∷ [] → Reads new ms (i + 1)
reads_more keys new ms i name word t key is w reads h grown =
    let good = ap (λ n. is_path n && is_direction t) (sym w) ∙ is_good _ _ h.0 in
    record {
      clean = sym (here ms i (name, t) is ∙ ap (λ b. cond b (bad_key (drop (i + 1) ms)) (Some (BadSort name))) good) ∙ reads.clean;
      made = ap (λ l. l ++ map key_of_member (drop (i + 1) ms)) grown ∙ made_more key_of_member keys _ (drop i ms) (drop (i + 1) ms) (name, t) key (drop-at ms i (name, t) (sym is)) (h.1 ∙ ap (λ n. (n, ascends t)) w) reads.made;
    }

pub read_is : (r : Result Sort ViewFault) (ms : List (List ℕ × Tree)) (t : Tree) → t ≡ object (members_of ms) → Answers (λ s. s) r (bad_key ms) (map key_of_member ms)
    → Answers (λ s. s) r (sort_fault t) (sort_in t)
read_is r ms t e h = subst (λ u. Answers (λ s. s) r (sort_fault u) (sort_in u)) (sym e) (subst (λ l. Answers (λ s. s) r (bad_key l) (map key_of_member l)) (sym (listed ms)) h)
