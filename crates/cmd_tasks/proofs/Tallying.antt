-- Of each document that a page showed: it was counted, or passed over, or waits in the queue.
use Rattle.std.proofs.Common.{◌≡◌, ℕ, zero, suc, ◌+◌, ◌≤◌, List, [], ◌∷◌, ◌++◌, map, length, Bool, true, false, cond, Option, Some, None, Result, Ok, Err, refl, sym, ap, ◌∙◌, subst, arith, ⊎_elim, ◌⊎◌, inl, inr, length-append}
use Rattle.std.specs.Prelude.{◌&&◌, nat_lt, ⊤, if◌then◌else◌}
use Rattle.std.specs.Option.{option_map}
use Rattle.std.specs.List.{AllByRecursion as Each}
use Rattle.std.proofs.lemmas.Bool.{ltb-true}
use Rattle.std.proofs.lemmas.List.{append_assoc, append-nil, map-append}
use Rattle.std.proofs.lemmas.List.Elements.{filter-append}
use Rattle.json_tree.specs.Tree.{Tree}
use Rattle.col_keeper.specs.Tables.{Name}
use Rattle.filter_tree.specs.Filters.{FilterTree}
use Rattle.update_ops.specs.declared.fault.UpdateFault.{UpdateFault}
use Rattle.store_core.specs.State.{State, version}
use Rattle.store_core.specs.declared.entry.Change.{Change}
use Rattle.cmd_tasks.specs.Trace.{Sight, Found, now, shown_by}
use Rattle.cmd_tasks.specs.Attempts.{IsOneOf}
use Rattle.cmd_tasks.specs.Pages.{last_of}
use Rattle.cmd_tasks.specs.Doing.{Doing, change_of}
use Rattle.cmd_tasks.specs.Taking.{Shown, Standing, count, is_unchanged, settled, settle, shown_with, win, lose, shown_alone, list_on, replace, standing}
use Rattle.cmd_tasks.specs.Turns.{IsAlone}
use Rattle.cmd_tasks.specs.Tally.{Fate, changed, unchanged, passed, is_counted, is_changed, Taken, counted_of, changed_of, IsTouched, ShowsNow, IsVersion, Meets, listed}
use Rattle.cmd_tasks.proofs.Covering.{and_parts, each_weaker}
use Rattle.cmd_tasks.proofs.Ascent.{each_append}
use Rattle.cmd_tasks.proofs.Stepping.{alone_is, IsPaged, IsRelooked, IsWritten, IsBeaten, IsPutting, steps}
use Rattle.cmd_tasks.proofs.Accepted.{AreSteps}

-- ---- lists

pub one_more : {A : Type 0} (x y : A) (xs : List A) → IsOneOf x xs → IsOneOf x (y ∷ xs)
one_more x y xs h = (suc h.0, h.1)

last_snoc : {A : Type 0} (xs : List A) (a : A) → last_of (xs ++ a ∷ []) ≡ Some a
last_snoc [] a = refl
last_snoc (x ∷ []) a = refl
last_snoc (x ∷ y ∷ xs) a = last_snoc (y ∷ xs) a

-- one of a list is the next that is taken
snoc_is : (xs : List Shown) (taken : List Taken) (t : Taken) (waiting rest : List Shown) → xs ≡ map (λ z. z.shown) taken ++ waiting → waiting ≡ t.shown ∷ rest → xs ≡ map (λ z. z.shown) (taken ++ t ∷ []) ++ rest
snoc_is xs taken t waiting rest all is =
    all ∙ (ap (λ ws. map (λ (z : Taken). z.shown) taken ++ ws) is
    ∙ (sym (append_assoc (map (λ (z : Taken). z.shown) taken) (t.shown ∷ []) rest) ∙ ap (λ ws. ws ++ rest) (sym (map-append (λ (z : Taken). z.shown) taken (t ∷ [])))))

abbrev pub last_id : List Taken → Option Tree
last_id taken = option_map (λ t. t.shown.x.id) (last_of (counted_of taken))

module _ (base : State) (coll : Name) (k : ℕ) (f : FilterTree) (doing : Doing) where
  -- ---- what is known of a document stays known

  touched_more : (s : Sight) (sights : List Sight) (w : Shown) → IsTouched coll k sights w → IsTouched coll k (s ∷ sights) w
  touched_more s sights w h = (h.0, one_more h.0 s sights h.1, h.2)

  shows_more : (s : Sight) (sights : List Sight) (w : Shown) (xs : List Found) → ShowsNow base coll k f sights w xs → ShowsNow base coll k f (s ∷ sights) w xs
  shows_more s sights w xs h = record { newer = s ∷ h.newer; look = h.look; earlier = h.earlier; are = ap (λ z. s ∷ z) h.are; touched = h.touched; alone = h.alone; shows = h.shows }

  version_more : (s : Sight) (sights : List Sight) (w : Shown) (x : Found) → IsVersion base coll k f sights w x → IsVersion base coll k f (s ∷ sights) w x
  version_more s sights w x h = ⊎_elim (λ e. inl e) (λ z. inr (shows_more s sights w (x ∷ []) z)) h

  pub meets_more : (s : Sight) (sights : List Sight) (fate : Fate) (w : Shown) → Meets base coll k f sights doing fate w → Meets base coll k f (s ∷ sights) doing fate w
  meets_more s sights changed w h = (h.0, version_more s sights w h.0 h.1, (h.2.0, h.2.1, (h.2.2.0, one_more h.2.2.0 s sights h.2.2.1, h.2.2.2)))
  meets_more s sights unchanged w h = (h.0, version_more s sights w h.0 h.1, h.2)
  meets_more s sights passed w h = shows_more s sights w [] h

  -- ---- what waits

  -- it stands in the queue for a document that a page showed: as that page showed it, or as a look at it alone did
  pub record StandsFor (sights : List Sight) (w q : Shown) : Type 0 where
    pub same_id : q.x.id ≡ w.x.id
    pub version : IsVersion base coll k f sights w q.x
    pub shown : (q ≡ w) ⊎ IsTouched coll k sights w

  stands_more : (s : Sight) (sights : List Sight) (w q : Shown) → StandsFor sights w q → StandsFor (s ∷ sights) w q
  stands_more s sights w q h = record { same_id = h.same_id; version = version_more s sights w q.x h.version; shown = ⊎_elim (λ e. inl e) (λ z. inr (touched_more s sights w z)) h.shown }

  -- the queue stands for what waits; another session touched the first of it, if an attempt was lost
  abbrev pub Waits : List Sight → Bool → List Shown → List Shown → Type 0
  Waits sights again [] waiting = waiting ≡ []
  Waits sights again (q ∷ rest) waiting = (w : Shown) × (waiting ≡ w ∷ rest) × StandsFor sights w q × (again ≡ true → IsTouched coll k sights w)

  pub waits_more : (s : Sight) (sights : List Sight) (again : Bool) (queue waiting : List Shown) → Waits sights again queue waiting → Waits (s ∷ sights) again queue waiting
  waits_more s sights again [] waiting h = h
  waits_more s sights again (q ∷ rest) waiting h = (h.0, h.1, stands_more s sights h.0 q h.2, λ a. touched_more s sights h.0 (h.3 a))

  never : {A : Type 0} → false ≡ true → A
  never e = cc

  waits_itself : (sights : List Sight) (again : Bool) (queue : List Shown) → again ≡ false → Waits sights again queue queue
  waits_itself sights again [] h = refl
  waits_itself sights again (q ∷ rest) h = (q, refl, record { same_id = refl; version = inl refl; shown = inl refl }, λ a. never (sym h ∙ a))

  -- ---- what is counted

  pub record IsTallied (sights : List Sight) (st : Standing) : Type 0 where
    pub taken : List Taken
    pub waiting : List Shown
    pub all : listed base coll f sights ≡ map (λ t. t.shown) taken ++ waiting
    pub each : Each (λ t. Meets base coll k f sights doing t.fate t.shown) taken
    pub waits : Waits sights st.again st.queue waiting
    pub matched : st.matched ≡ length (counted_of taken)
    pub modified : st.modified ≡ length (changed_of taken)
    pub last : st.last ≡ last_id taken
    pub few : st.matched ≤ 20

  -- a sight that shows no page
  abbrev pub tallied_more : (s : Sight) (sights : List Sight) (st : Standing) → ◌≡◌ {A = List Found} (shown_by base coll f s) [] → IsTallied sights st → IsTallied (s ∷ sights) st
  tallied_more s sights st none t = record {
    taken = t.taken;
    waiting = t.waiting;
    all = ap (λ xs. listed base coll f sights ++ shown_with s xs) none ∙ (append-nil (listed base coll f sights) ∙ t.all);
    each = each_weaker _ _ (λ z h. meets_more s sights z.fate z.shown h) t.taken t.each;
    waits = waits_more s sights st.again st.queue t.waiting t.waits;
    matched = t.matched;
    modified = t.modified;
    last = t.last;
    few = t.few;
  }

  -- what the first of the queue's stands for
  first_of : (sights : List Sight) (st : Standing) (t : IsTallied sights st) (q : Shown) (rest : List Shown) → st.queue ≡ q ∷ rest → (w : Shown) × (t.waiting ≡ w ∷ rest) × StandsFor sights w q × (st.again ≡ true → IsTouched coll k sights w)
  first_of sights st t q rest queue = subst (λ qs. Waits sights st.again qs t.waiting) queue t.waits

  -- the first of what waits is taken
  module _ (sights : List Sight) (st : Standing) (t : IsTallied sights st) (w : Shown) (rest : List Shown) (waiting_is : t.waiting ≡ w ∷ rest) where
    abbrev one : Fate → Taken
    one fate = record { shown = w; fate = fate }

    counted_sum : (fate : Fate) → length (counted_of (t.taken ++ one fate ∷ [])) ≡ st.matched + length (counted_of (one fate ∷ []))
    counted_sum fate = ap length (filter-append (λ z. is_counted z.fate) t.taken (one fate ∷ [])) ∙ (length-append (counted_of t.taken) (counted_of (one fate ∷ [])) ∙ ap (λ n. n + length (counted_of (one fate ∷ []))) (sym t.matched))

    changed_sum : (fate : Fate) → length (changed_of (t.taken ++ one fate ∷ [])) ≡ st.modified + length (changed_of (one fate ∷ []))
    changed_sum fate = ap length (filter-append (λ z. is_changed z.fate) t.taken (one fate ∷ [])) ∙ (length-append (changed_of t.taken) (changed_of (one fate ∷ [])) ∙ ap (λ n. n + length (changed_of (one fate ∷ []))) (sym t.modified))

    counted_last : (fate : Fate) (id : Tree) → id ≡ w.x.id → is_counted fate ≡ true → Some id ≡ last_id (t.taken ++ one fate ∷ [])
    counted_last fate id same c =
        ap (λ i. Some i) same
        ∙ sym (ap (λ zs. option_map (λ (z : Taken). z.shown.x.id) (last_of zs)) (filter-append (λ z. is_counted z.fate) t.taken (one fate ∷ []) ∙ ap (λ b. counted_of t.taken ++ cond b (one fate ∷ []) []) c)
        ∙ ap (option_map (λ (z : Taken). z.shown.x.id)) (last_snoc (counted_of t.taken) (one fate)))

    passed_last : st.last ≡ last_id (t.taken ++ one passed ∷ [])
    passed_last = t.last ∙ sym (ap (λ zs. option_map (λ (z : Taken). z.shown.x.id) (last_of zs)) (filter-append (λ z. is_counted z.fate) t.taken (one passed ∷ []) ∙ append-nil (counted_of t.taken)))

    all_is : (fate : Fate) → listed base coll f sights ≡ map (λ z. z.shown) (t.taken ++ one fate ∷ []) ++ rest
    all_is fate = snoc_is (listed base coll f sights) t.taken (one fate) t.waiting rest t.all waiting_is

    each_is : (fate : Fate) → Meets base coll k f sights doing fate w → Each (λ z. Meets base coll k f sights doing z.fate z.shown) (t.taken ++ one fate ∷ [])
    each_is fate h = each_append _ t.taken (one fate ∷ []) t.each (h, tt)

    -- it is changed
    tallied_changed : (new : Standing) (id : Tree) → id ≡ w.x.id → new.again ≡ false → new.queue ≡ rest → new.matched ≡ st.matched + 1 → new.modified ≡ st.modified + 1 → new.last ≡ Some id → nat_lt st.matched 20 ≡ true
        → Meets base coll k f sights doing changed w → IsTallied sights new
    tallied_changed new id same again next matched modified last few h = record {
      taken = t.taken ++ one changed ∷ [];
      waiting = rest;
      all = all_is changed;
      each = each_is changed h;
      waits = subst (λ qs. Waits sights new.again qs rest) (sym next) (waits_itself sights new.again rest again);
      matched = matched ∙ sym (counted_sum changed);
      modified = modified ∙ sym (changed_sum changed);
      last = last ∙ counted_last changed id same refl;
      few = let l = ltb-true st.matched 20 few in omega (arith, l, matched);
    }

    -- it is counted as it is
    tallied_unchanged : (new : Standing) (id : Tree) → id ≡ w.x.id → new.again ≡ false → new.queue ≡ rest → new.matched ≡ st.matched + 1 → new.modified ≡ st.modified → new.last ≡ Some id → nat_lt st.matched 20 ≡ true
        → Meets base coll k f sights doing unchanged w → IsTallied sights new
    tallied_unchanged new id same again next matched modified last few h = record {
      taken = t.taken ++ one unchanged ∷ [];
      waiting = rest;
      all = all_is unchanged;
      each = each_is unchanged h;
      waits = subst (λ qs. Waits sights new.again qs rest) (sym next) (waits_itself sights new.again rest again);
      matched = matched ∙ sym (counted_sum unchanged);
      modified = modified ∙ (let c = changed_sum unchanged in omega (arith, c));
      last = last ∙ counted_last unchanged id same refl;
      few = let l = ltb-true st.matched 20 few in omega (arith, l, matched);
    }

    -- it is passed over
    tallied_passed : (new : Standing) → new.again ≡ false → new.queue ≡ rest → new.matched ≡ st.matched → new.modified ≡ st.modified → new.last ≡ st.last
        → Meets base coll k f sights doing passed w → IsTallied sights new
    tallied_passed new again next matched modified last h = record {
      taken = t.taken ++ one passed ∷ [];
      waiting = rest;
      all = all_is passed;
      each = each_is passed h;
      waits = subst (λ qs. Waits sights new.again qs rest) (sym next) (waits_itself sights new.again rest again);
      matched = matched ∙ (let c = counted_sum passed in omega (arith, c));
      modified = modified ∙ (let c = changed_sum passed in omega (arith, c));
      last = last ∙ passed_last;
      few = let l = t.few in omega (arith, l, matched);
    }

    -- another version of it, or the same once more, stands first; or it is to be looked at again
    tallied_still : (new : Standing) (first' : Shown) → new.queue ≡ first' ∷ rest → new.matched ≡ st.matched → new.modified ≡ st.modified → new.last ≡ st.last
        → StandsFor sights w first' → (new.again ≡ true → IsTouched coll k sights w) → IsTallied sights new
    tallied_still new first' next matched modified last stands touched = record {
      taken = t.taken;
      waiting = t.waiting;
      all = t.all;
      each = t.each;
      waits = subst (λ qs. Waits sights new.again qs t.waiting) (sym next) (w, waiting_is, stands, touched);
      matched = matched ∙ t.matched;
      modified = modified ∙ t.modified;
      last = last ∙ t.last;
      few = let l = t.few in omega (arith, l, matched);
    }

  -- ---- documents that need no write

  needs_none : (r : Result (Option Change) UpdateFault) → is_unchanged r ≡ true → r ≡ Ok None
  needs_none (Ok None) e = refl
  needs_none (Ok (Some change)) e = cc
  needs_none (Err fault) e = cc

  settled_tallied : (sights : List Sight) (queue : List Shown) (st : Standing) → st.queue ≡ queue → st.again ≡ false → IsTallied sights st → IsTallied sights (settled doing queue st)
  settled_tallied sights [] st is again t = subst (λ qs. IsTallied sights (record st { queue = qs })) is t
  settled_tallied sights (q ∷ rest) st is again t =
      elim (nat_lt st.matched 20 && is_unchanged (change_of doing q.x.doc)) as (λ b. nat_lt st.matched 20 && is_unchanged (change_of doing q.x.doc) ≡ b
      → IsTallied sights (if b then settled doing rest (count q.x 0 rest st) else record st { queue = q ∷ rest })) [
        | true ↦ λ e.
            let both = and_parts _ _ e in
            let first = first_of sights st t q rest is in
            settled_tallied sights rest (count q.x 0 rest st) refl again
            (tallied_unchanged sights st t first.0 rest first.1 (count q.x 0 rest st) q.x.id first.2.same_id again refl refl (omega arith) refl both.0
            (q.x, first.2.version, needs_none (change_of doing q.x.doc) both.1))
        | false ↦ λ e. subst (λ qs. IsTallied sights (record st { queue = qs })) is t
      ] refl

  settle_tallied : (sights : List Sight) (st : Standing) → st.again ≡ false → IsTallied sights st → IsTallied sights (settle doing st)
  settle_tallied sights st again t = settled_tallied sights st.queue st refl again t

  -- ---- steps

  paged : (s : Sight) (earlier : List Sight) (st new : Standing) → IsPaged base coll k f doing s st new → IsTallied earlier st → IsTallied (s ∷ earlier) new
  paged s earlier st new p t = subst (IsTallied (s ∷ earlier)) (sym p.new_is) (settle_tallied (s ∷ earlier) (list_on base coll f s st) p.first_time (record {
    taken = t.taken;
    waiting = shows;
    all = ap (λ xs. xs ++ shows) (t.all ∙ (ap (λ ws. map (λ (z : Taken). z.shown) t.taken ++ ws) none ∙ append-nil (map (λ (z : Taken). z.shown) t.taken)));
    each = each_weaker _ _ (λ z h. meets_more s earlier z.fate z.shown h) t.taken t.each;
    waits = subst (λ qs. Waits (s ∷ earlier) st.again (qs ++ shows) shows) (sym p.queue) (waits_itself (s ∷ earlier) st.again shows p.first_time);
    matched = t.matched;
    modified = t.modified;
    last = t.last;
    few = t.few;
  }))
    where
      shows : List Shown
      shows = shown_with s (shown_by base coll f s)

      none : t.waiting ≡ []
      none = subst (λ qs. Waits earlier st.again qs t.waiting) p.queue t.waits

  written : (s : Sight) (earlier : List Sight) (st new : Standing) → IsWritten base coll k f doing s st new → IsTallied earlier st → IsTallied (s ∷ earlier) new
  written s earlier st new p t =
      let here = s ∷ earlier in
      let now_is = tallied_more s earlier st p.lists t in
      let first = first_of here st now_is p.first p.rest p.queue in
      let won : Standing = win (p.first ∷ p.rest) st in
      subst (IsTallied here) (sym p.new_is)
      (settle_tallied here won refl (tallied_changed here st now_is first.0 p.rest first.1 won p.first.x.id first.2.same_id refl refl refl refl refl p.few
      (p.first.x, first.2.version, (p.change, p.made, (s, (zero, refl), p.won)))))

  beaten : (s : Sight) (earlier : List Sight) (st new : Standing) → IsBeaten base coll k f doing s st new → IsTallied earlier st → IsTallied (s ∷ earlier) new
  beaten s earlier st new p t =
      let here = s ∷ earlier in
      let now_is = tallied_more s earlier st p.lists t in
      let first = first_of here st now_is p.first p.rest p.queue in
      subst (IsTallied here) (sym p.new_is)
      (tallied_still here st now_is first.0 p.rest first.1 (lose p.loss (p.first ∷ p.rest) st) p.first p.queue refl refl refl first.2
      (λ again. ⊎_elim (λ (e : p.first ≡ first.0). subst (λ z. IsTouched coll k here z) e (s, (zero, refl), p.lost.between)) (λ touched. touched) first.2.shown))

  relooked : (s : Sight) (earlier : List Sight) (st new : Standing) → IsRelooked base coll k f doing s st new → IsTallied earlier st → IsTallied (s ∷ earlier) new
  relooked s earlier st new p t = subst (IsTallied here) (sym p.new_is) (go (shown_alone base coll f p.first.x.id s) refl)
    where
      here : List Sight
      here = s ∷ earlier

      first : (w : Shown) × (t.waiting ≡ w ∷ p.rest) × StandsFor earlier w p.first × (st.again ≡ true → IsTouched coll k earlier w)
      first = first_of earlier st t p.first p.rest p.queue

      shows_so : (xs : List Found) → shown_alone base coll f p.first.x.id s ≡ xs → ShowsNow base coll k f here first.0 xs
      shows_so xs e = record {
        newer = [];
        look = s;
        earlier = earlier;
        are = refl;
        touched = first.3 p.again;
        alone = subst (λ id. IsAlone base coll k f id s) first.2.same_id p.alone;
        shows = ap (λ id. shown_alone base coll f id s) (sym first.2.same_id) ∙ e;
      }

      go : (xs : List Found) → shown_alone base coll f p.first.x.id s ≡ xs → IsTallied here (settle doing (replace base coll f s xs p.rest st))
      go [] e =
          let next : Standing = replace base coll f s [] p.rest st in
          settle_tallied here next refl (tallied_passed here st (tallied_more s earlier st p.lists t) first.0 p.rest first.1 next refl refl refl refl refl (shows_so [] e))
      go (x ∷ xs) e =
          let next : Standing = replace base coll f s (x ∷ xs) p.rest st in
          let only = alone_is f p.first.x.id (version (now base coll s) coll p.first.x.id) x xs e in
          settle_tallied here next refl (tallied_still here st (tallied_more s earlier st p.lists t) first.0 p.rest first.1 next (record { x = x; look = s }) refl refl refl refl
          (record { same_id = only.0 ∙ first.2.same_id; version = inr (shows_so (x ∷ []) (e ∙ ap (λ ys. x ∷ ys) only.1)); shown = inr (touched_more s earlier first.0 (first.3 p.again)) })
          (λ a. never a))

  putting : (up : Option (Result Tree UpdateFault)) (s : Sight) (earlier : List Sight) (st new : Standing) → IsPutting base coll k f doing up s st new → IsTallied earlier st → IsTallied (s ∷ earlier) new
  putting up s earlier st new p t =
      let here = s ∷ earlier in
      let now_is = tallied_more s earlier st p.lists t in
      subst (IsTallied here) (sym p.new_is) (record {
        taken = now_is.taken;
        waiting = now_is.waiting;
        all = now_is.all;
        each = now_is.each;
        waits = subst (λ qs. Waits here st.again qs now_is.waiting) p.to_put.at_end.queue now_is.waits;
        matched = now_is.matched;
        modified = now_is.modified;
        last = now_is.last;
        few = now_is.few;
      })

  module _ (up : Option (Result Tree UpdateFault)) (from : Option Tree) where
    -- each document that a page showed is counted, or passed over, or waits
    pub tallied : (sights : List Sight) → AreSteps base coll k f doing up from sights → IsTallied sights (standing base coll f doing from sights)
    tallied [] h = record { taken = []; waiting = []; all = refl; each = tt; waits = refl; matched = refl; modified = refl; last = refl; few = omega arith }
    tallied (s ∷ earlier) h =
        let st = standing base coll f doing from earlier in
        let new = standing base coll f doing from (s ∷ earlier) in
        let t = tallied earlier h.0 in
        ⊎_elim
        (λ p. paged s earlier st new p t)
        (λ more. ⊎_elim
        (λ p. relooked s earlier st new p t)
        (λ more. ⊎_elim
        (λ p. written s earlier st new p t)
        (λ more. ⊎_elim (λ p. beaten s earlier st new p t) (λ p. putting up s earlier st new p t) more)
        more)
        more)
        (steps base coll k f doing up s st h.1)
