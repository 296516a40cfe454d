-- What a client sees who joins the pages of a find by their states.
use Rattle.std.proofs.Common.{◌≡◌, ◌≢◌, ℕ, zero, suc, ◌+◌, ◌-◌, ◌^◌, ◌<◌, ◌≤◌, ℤ, List, [], ◌∷◌, ◌++◌, map, take, drop, length, min, Bool, true, false, cond, Option, Some, None, refl, sym, ap, ap₂, ◌∙◌, subst, arith, ⊎_elim, ◌⊎◌, inl, inr}
use Rattle.std.specs.Prelude.{◌==◌, ◌&&◌}
use Rattle.std.specs.Option.{option_map}
use Rattle.std.specs.List.{flat_map, AllByRecursion as Each}
use Rattle.std.proofs.Math.Nat.{min-le_right}
use Rattle.std.proofs.lemmas.Bool.{eqb-true, eq-eqb}
use Rattle.std.proofs.lemmas.Bool.Decides.{leb_tells}
use Rattle.std.proofs.lemmas.List.{take_all, length-take-le, take-append-drop, map-append}
use Rattle.json_tree.specs.Tree.{Tree}
use Rattle.json_tree.specs.Id.{IsId, IsInRange}
use Rattle.shred_cols.specs.Rows.{is_after}
use Rattle.col_keeper.specs.Tables.{Name}
use Rattle.filter_tree.specs.Filters.{FilterTree}
use Rattle.view_sort.specs.Page.{state_text}
use Rattle.view_sort.specs.View.{view}
use Rattle.view_sort.specs.declared.page.PageState.{PageState}
use Rattle.reply_env.specs.Reply.{IsRefusalOf}
use Rattle.reply_env.specs.declared.reply.SoFar.{SoFar}
use Rattle.reply_env.specs.declared.reply.ErrorItem.{ErrorItem}
use Rattle.reply_env.specs.declared.reply.Reply.{Reply}
use Rattle.reply_env.specs.declared.reply.Reply.TheVariants.{Listed}
use Rattle.store_core.specs.State.{State}
use Rattle.store_core.specs.declared.entry.Entry.{Entry}
use Rattle.cmd_grammar.specs.Commands.{Shows, Paging}
use Rattle.cmd_tasks.specs.Trace.{Sight, Found, end_of, shown_by, shown, IsListing, IsListed}
use Rattle.cmd_tasks.specs.Attempts.{IsOneOf}
use Rattle.cmd_tasks.specs.Searches.{stored}
use Rattle.cmd_tasks.specs.Pages.{last_of}
use Rattle.cmd_tasks.specs.Part.{given_of, from_of, keep_of, state_after}
use Rattle.cmd_tasks.specs.Jobs.{Job, finds}
use Rattle.cmd_tasks.specs.Served.{TellsListed, sights, IsPartOf, Answers, TellsStop}
use Rattle.cmd_tasks.specs.Joined.{HasKey, IdsAreTold, Page, Lists, views_of, state_of, GoesOnWith, paging_of, Rise, HasMatch, Matches, looks, joined, IsPage, GoOn, ArePages, ShowEachOnce}
use Rattle.cmd_tasks.proofs.Ascent.{each_append, each_take, InOrder, each_sight, sights_rows}
use Rattle.cmd_tasks.proofs.Covering.{same, after_after, one_left, one_right, one_has, each_weaker, IsShown, IsPast, rise_append, IsBefore, listing_rises, listing_told, listing_covers, listing_matches}

-- ---- lists

each_front : {A : Type 0} (P : A → Type 0) (xs ys : List A) → Each P (xs ++ ys) → Each P xs
each_front P [] ys h = tt
each_front P (x ∷ xs) ys h = (h.0, each_front P xs ys h.1)

each_back : {A : Type 0} (P : A → Type 0) (xs ys : List A) → Each P (xs ++ ys) → Each P ys
each_back P [] ys h = h
each_back P (x ∷ xs) ys h = each_back P xs ys h.1

one_cases : {A : Type 0} (x : A) (xs ys : List A) → IsOneOf x (xs ++ ys) → IsOneOf x xs ⊎ IsOneOf x ys
one_cases x [] ys h = inr h
one_cases x (z ∷ xs) ys (zero, e) = inl (zero, e)
one_cases x (z ∷ xs) ys (suc n, e) = ⊎_elim (λ (h : IsOneOf x xs). inl (suc h.0, h.1)) (λ (h : IsOneOf x ys). inr h) (one_cases x xs ys (n, e))

last_has : {A : Type 0} (P : A → Type 0) (xs : List A) (x : A) → last_of xs ≡ Some x → Each P xs → P x
last_has P [] x e all = cc
last_has P (y ∷ []) x e all = subst P (same y x e) all.0
last_has P (y ∷ z ∷ xs) x e all = last_has P (z ∷ xs) x e all.1

some_last : {A : Type 0} (xs : List A) → 1 ≤ length xs → (x : A) × (last_of xs ≡ Some x)
some_last [] h = absurd (omega (arith, h))
some_last (x ∷ []) h = (x, refl)
some_last (x ∷ y ∷ xs) h = some_last (y ∷ xs) (omega arith)

rise_take : (n : ℕ) (xs : List Found) → Rise xs → Rise (take n xs)
rise_take zero xs h = tt
rise_take (suc n) [] h = tt
rise_take (suc n) (x ∷ xs) h = (each_take _ n xs h.0, rise_take n xs h.1)

-- what stands further back comes after all in front
rise_past : (xs ys : List Found) (y : Found) → Rise (xs ++ ys) → IsOneOf y ys → IsPast y.id xs
rise_past [] ys y up h = tt
rise_past (x ∷ xs) ys y up h = (one_has (λ z. is_after (Some x.id) z.id ≡ true) y (xs ++ ys) (one_right y xs ys h) up.0, rise_past xs ys y up.1 h)

-- what comes after the last one comes after all
last_past : (xs : List Found) (x : Found) (id : Tree) → Rise xs → last_of xs ≡ Some x → is_after (Some x.id) id ≡ true → IsPast id xs
last_past [] x id up e h = tt
last_past (y ∷ []) x id up e h = (subst (λ (z : Found). is_after (Some z.id) id ≡ true) (sym (same y x e)) h, tt)
last_past (y ∷ z ∷ xs) x id up e h = (after_after (Some y.id) x.id id (last_has (λ w. is_after (Some y.id) w.id ≡ true) (z ∷ xs) x e up.0) h, last_past (z ∷ xs) x id up.1 e h)

-- ---- replies

not_refusal : (es : List ErrorItem) (Told : Option SoFar → Type 0) (r : Reply) → Lists r → IsRefusalOf es Told r → ⊥
not_refusal es Told (Listed views state) l h = h
not_refusal es Told r l h = l

told_listed : (ds : List Tree) (next : Option (List ℕ)) (r : Reply) → TellsListed ds next r → (views_of r ≡ ds) × (state_of r ≡ next)
told_listed ds next (Listed views state) h = h
told_listed ds next r h = absurd h

-- a page gives no state where it isn't full, and else one that names its last document
next_of : (from : Option PageState) (part : List Found) (state : Option (List ℕ)) → state ≡ state_after [] (record { limit = 0; skip = 0; page = from }) part
    → ((state ≡ None) × (length part ≢ 20)) ⊎ ((x : Found) × (n : ℕ) × (last_of part ≡ Some x) × (n < 2 ^ 63) × (state ≡ Some (state_text n x.id)))
next_of from part state is = go (length part == 20) refl is
  where
    given : ℕ
    given = min (given_of from + length part) (2 ^ 63 - 1)

    go : (full : Bool) → (length part == 20) ≡ full → state ≡ cond (full && true) (option_map (λ x. state_text given x.id) (last_of part)) None
        → ((state ≡ None) × (length part ≢ 20)) ⊎ ((x : Found) × (n : ℕ) × (last_of part ≡ Some x) × (n < 2 ^ 63) × (state ≡ Some (state_text n x.id)))
    go false e q = inl (q, λ twenty. differ (sym (eq-eqb (length part) 20 twenty) ∙ e))
      where
        differ : true ≡ false → ⊥
        differ e = cc
    go true e q =
        let twenty : length part ≡ 20 = eqb-true (length part) 20 e in
        let last = some_last part (omega (arith, twenty)) in
        let low = min-le_right (given_of from + length part) (2 ^ 63 - 1) in
        inr (last.0, given, last.1, omega (arith, low), q ∙ ap (option_map (λ x. state_text given x.id)) last.1)

-- ---- one page

module _ (base : State) (H : List Entry) (coll : Name) (f : FilterTree) (shows : Shows) where
  abbrev seen_in : Page → List Sight
  seen_in p = sights H p.trace

  abbrev found_by : Page → List Found
  found_by p = shown base coll f (seen_in p)

  abbrev part : Page → List Found
  part p = take 20 (found_by p)

  abbrev start_of : Page → Option Tree
  start_of p = from_of (paging_of p)

  record IsSeen (p : Page) : Type 0 where
    listing : IsListing base coll f (start_of p) 20 (seen_in p)
    listed : IsListed base coll f 20 (seen_in p)
    views : views_of p.reply ≡ map (λ x. view shows x.doc) (part p)
    state : state_of p.reply ≡ state_after [] (paging_of p) (part p)

  is_listing : (k : ℕ) (p : Paging) (seen : List Sight) → IsPartOf base coll k (finds f [] shows p) seen → IsListing base coll f (from_of p) (keep_of p) seen
  is_listing k p [] h = tt
  is_listing k p (s ∷ earlier) h = (is_listing k p earlier h.0, h.1, h.2)

  not_stopped : (k : ℕ) (job : Job) (seen : List Sight) (error : ErrorItem) (r : Reply) → Lists r → TellsStop base coll k job seen error r → ⊥
  not_stopped k job [] error r l h = h
  not_stopped k job (s ∷ earlier) error r l h = not_refusal _ _ r l h

  is_seen : (p : Page) → IsPage base H coll f shows p → IsSeen p
  is_seen p h = ⊎_elim
      (λ (a : IsPartOf base coll p.session (finds f [] shows (paging_of p)) (seen_in p) × Answers base coll p.session (finds f [] shows (paging_of p)) (seen_in p) p.reply).
      ⊎_elim (λ q. absurd (no q.0)) (λ q. let told = told_listed _ _ p.reply q.1 in record { listing = is_listing p.session (paging_of p) (seen_in p) a.0; listed = a.1.0; views = told.0; state = told.1 }) a.1.1)
      (λ other. ⊎_elim (λ stopped. absurd (not_stopped p.session (finds f [] shows (paging_of p)) (seen_in p) stopped.0 p.reply h.1 stopped.2)) (λ cut. absurd (subst Lists cut.1 h.1)) other)
      h.0
    where
      no : false ≡ true → ⊥
      no e = cc

  -- ---- what one page shows

  -- in order of id, after the page's start
  rises : (p : Page) → IsSeen p → InOrder base.collections → Each (λ x. is_after (start_of p) x.id ≡ true) (found_by p) × Rise (found_by p)
  rises p seen sorted = listing_rises base coll f (start_of p) 20 (seen_in p) (sights_rows base H coll sorted p.trace) seen.listing

  -- the ids of a page's documents are told apart by key bytes
  has_key : (p : Page) → IsSeen p → Each IdsAreTold p.trace → Each (λ x. HasKey x.id) (found_by p)
  has_key p seen told = listing_told base coll f (start_of p) 20 (seen_in p) seen.listing (each_sight (λ s. IdsAreTold s.item) H p.trace told)

  -- a listing that came to its end has come to each id
  at_end : (p : Page) (id : Tree) (seen : List Sight) → IsListed base coll f 20 seen → length (shown base coll f seen) < 20 → IsBefore base coll f (start_of p) 20 id seen → ⊥
  at_end p id [] listed few h = listed
  at_end p id (s ∷ earlier) listed few h = ⊎_elim (λ (e : end_of s.item ≡ None). none h.0 (sym h.1 ∙ e)) (λ l. omega (arith, few, l)) listed
    where
      none : (u : Tree) → Some u ≡ None → ⊥
      none u e = cc

  abbrev MatchesIn : Page → Tree → Type 0
  MatchesIn p id = Each (HasMatch base coll f id) (seen_in p)

  few : {A : Type 0} (xs : List A) → length (take 20 xs) ≢ 20 → length xs < 20
  few xs short = ⊎_elim (λ q. absurd (short (length-take-le 20 xs q.1))) (λ q. q.1) (leb_tells 20 (length xs))

  -- the last page shows all that matches throughout
  last_covers : (p : Page) → IsSeen p → length (part p) ≢ 20 → (id : Tree) → is_after (start_of p) id ≡ true → MatchesIn p id → IsShown id (part p)
  last_covers p seen short id h all =
      let less = few (found_by p) short in
      subst (IsShown id) (sym (take_all 20 (found_by p) (omega (arith, less))))
      (⊎_elim (λ x. x) (λ b. absurd (at_end p id (seen_in p) seen.listed less b.0)) (listing_covers base coll f (start_of p) 20 (seen_in p) seen.listing id h all))

  -- every other page shows all that matches throughout, up to its last document
  page_covers : (p : Page) → IsSeen p → InOrder base.collections → (x : Found) → last_of (part p) ≡ Some x → (id : Tree) → is_after (start_of p) id ≡ true → MatchesIn p id
      → IsShown id (part p) ⊎ (is_after (Some x.id) id ≡ true)
  page_covers p seen sorted x last id h all =
      let xs = found_by p in
      let whole = take-append-drop 20 xs in
      let up = (rises p seen sorted).1 in
      ⊎_elim
      (λ (y : IsShown id xs). ⊎_elim
      (λ (one : IsOneOf y.0 (take 20 xs)). inl (y.0, one, y.2))
      (λ (one : IsOneOf y.0 (drop 20 xs)). inr (subst (λ i. is_after (Some x.id) i ≡ true) y.2 (last_has _ (take 20 xs) x last (rise_past (take 20 xs) (drop 20 xs) y.0 (subst Rise (sym whole) up) one))))
      (one_cases y.0 (take 20 xs) (drop 20 xs) (subst (IsOneOf y.0) (sym whole) y.1)))
      (λ b. inr (last_has (λ z. is_after (Some z.id) id ≡ true) (take 20 xs) x last (each_take _ 20 xs b.1)))
      (listing_covers base coll f (start_of p) 20 (seen_in p) seen.listing id h all)

  -- ---- pages joined

  abbrev WasSeen : List Page → Found → Type 0
  WasSeen pages x = (s : Sight) × IsOneOf s (looks H pages) × IsOneOf x (shown_by base coll f s) × Matches base coll f x.id (stored x) s

  -- what pages show that begin here
  record Join (from : Option Tree) (pages : List Page) (xs : List Found) : Type 0 where
    told : flat_map (λ p. views_of p.reply) pages ≡ map (λ x. view shows x.doc) xs
    rise : Rise xs
    after : Each (λ x. is_after from x.id ≡ true) xs
    matched : Each (WasSeen pages) xs
    all : (id : Tree) → is_after from id ≡ true → Each (HasMatch base coll f id) (looks H pages) → IsShown id xs

  -- a page before others
  join : (p : Page) (ps : List Page) (ys : List Found) → IsSeen p → InOrder base.collections → flat_map (λ q. views_of q.reply) ps ≡ map (λ x. view shows x.doc) ys → Rise ys
      → Each (λ y. IsPast y.id (part p) × (is_after (start_of p) y.id ≡ true)) ys → Each (WasSeen ps) ys
      → ((id : Tree) → is_after (start_of p) id ≡ true → MatchesIn p id → Each (HasMatch base coll f id) (looks H ps) → IsShown id (part p) ⊎ IsShown id ys)
      → Join (start_of p) (p ∷ ps) (part p ++ ys)
  join p ps ys seen sorted told rise past matched covers =
      let xs = part p in
      let more = looks H ps in
      let up = rises p seen sorted in
      record {
        told = ap₂ (λ a b. a ++ b) seen.views told ∙ sym (map-append (λ x. view shows x.doc) xs ys);
        rise = rise_append xs ys (rise_take 20 (found_by p) up.1) rise (each_weaker _ _ (λ y h. h.0) ys past);
        after = each_append _ xs ys (each_take _ 20 (found_by p) up.0) (each_weaker _ _ (λ y h. h.1) ys past);
        matched = each_append _ xs ys
            (each_take _ 20 (found_by p) (each_weaker _ _ (λ x h. (h.0, one_left h.0 (seen_in p) more h.1, h.2, h.3)) (found_by p) (listing_matches base coll f (start_of p) 20 (seen_in p))))
            (each_weaker _ _ (λ y h. (h.0, one_right h.0 (seen_in p) more h.1, h.2, h.3)) ys matched);
        all = λ id h match. ⊎_elim
            (λ (x : IsShown id xs). (x.0, one_left x.0 xs ys x.1, x.2))
            (λ (y : IsShown id ys). (y.0, one_right y.0 xs ys y.1, y.2))
            (covers id h (each_front _ (seen_in p) more match) (each_back _ (seen_in p) more match));
      }

  module _ (apart : (m n : ℕ) (s t : Tree) → m < 2 ^ 64 → n < 2 ^ 64 → IsId s → IsInRange s → IsId t → IsInRange t → state_text m s ≡ state_text n t → (m ≡ n) × (s ≡ t)) (sorted : InOrder base.collections) where
    -- a page that goes on with a state begins behind the document that the state names
    begins : (from : Option PageState) (n : ℕ) (id : Tree) → n < 2 ^ 63 → HasKey id → GoesOnWith (Some (state_text n id)) from → option_map (λ s. s.last) from ≡ Some id
    begins None n id low key h = absurd h
    begins (Some s) n id low key h = ap (λ i. Some i) (apart s.given n s.last id (omega (arith, h.given)) (omega (arith, low)) h.is_id h.in_range key.0 key.1 h.spells).1

    joins : (p : Page) (ps : List Page) → Each (λ p. Each IdsAreTold p.trace) (p ∷ ps) → IsPage base H coll f shows p → GoOn base H coll f shows ps (state_of p.reply) → Join (start_of p) (p ∷ ps) (joined base H coll f (p ∷ ps))
    joins p [] told h on =
        let seen = is_seen p h in
        ⊎_elim
        (λ e. join p [] [] seen sorted refl tt tt tt (λ id a match none. inl (last_covers p seen e.1 id a match)))
        (λ e. absurd (none _ (sym e.4 ∙ on)))
        (next_of p.from (part p) (state_of p.reply) seen.state)
      where
        none : {A : Type 0} (a : A) → Some a ≡ None → ⊥
        none a e = cc
    joins p (q ∷ ps) told h on = further (is_seen p h) (joins q ps told.1 on.1 on.2)
      where
        ys : List Found
        ys = joined base H coll f (q ∷ ps)

        further : IsSeen p → Join (start_of q) (q ∷ ps) ys → Join (start_of p) (p ∷ q ∷ ps) (part p ++ ys)
        further seen rest = ⊎_elim
            (λ e. absurd (subst (λ state. GoesOnWith state q.from) e.0 on.0))
            (λ e.
            let x = e.0 in let last = e.2 in
            let up = rises p seen sorted in
            let key = last_has (λ z. HasKey z.id) (part p) x last (each_take _ 20 (found_by p) (has_key p seen told.0)) in
            let start = begins q.from e.1 x.id e.3 key (subst (λ state. GoesOnWith state q.from) e.4 on.0) in
            let here = last_has (λ z. is_after (start_of p) z.id ≡ true) (part p) x last (each_take _ 20 (found_by p) up.0) in
            let behind = subst (λ o. Each (λ y. is_after o y.id ≡ true) ys) start rest.after in
            join p (q ∷ ps) ys seen sorted rest.told rest.rise
            (each_weaker _ _ (λ y h. (last_past (part p) x y.id (rise_take 20 (found_by p) up.1) last h, after_after (start_of p) x.id y.id here h)) ys behind)
            rest.matched
            (λ id a match more. ⊎_elim (λ one. inl one) (λ far. inr (rest.all id (subst (λ o. is_after o id ≡ true) (sym start) far) more)) (page_covers p seen sorted x last id a match)))
            (next_of p.from (part p) (state_of p.reply) seen.state)

    pub pages_shown : (pages : List Page) → Each (λ p. Each IdsAreTold p.trace) pages → ArePages base H coll f shows pages → ShowEachOnce base H coll f shows pages
    pages_shown [] told h = absurd h
    pages_shown (p ∷ ps) told h =
        let all = joins p ps told h.1 h.2 in
        let first : start_of p ≡ None = ap (option_map (λ s. s.last)) h.0 in
        record { told = all.told; rise = all.rise; matched = all.matched; all = λ id match. all.all id (subst (λ o. is_after o id ≡ true) (sym first) refl) match }
