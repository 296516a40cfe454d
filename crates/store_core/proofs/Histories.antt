-- A journal with one entry more is still the store's.
use Rattle.std.proofs.Common.{◌≡◌, ℕ, ◌+◌, ◌-◌, ◌^◌, ◌<◌, ◌≤◌, ◌⊎◌, List, [], ◌∷◌, ◌++◌, length, Option, Some, None, refl, sym, ap, ◌∙◌, subst, arith, inl, inr, ⊎_elim}
use Rattle.std.specs.Option.{option_map}
use Rattle.std.specs.Prelude.{option_and_then, IfSome}
use Rattle.std.proofs.lemmas.Bool.{cases_lt}
use Rattle.std.proofs.lemmas.List.{append-nil}
use Rattle.outside_io.specs.Causes.{Rose}
use Rattle.json_tree.specs.Tree.{Tree}
use Rattle.json_text.specs.Print.{capped}
use Rattle.shred_cols.specs.Row.{Version}
use Rattle.shred_cols.specs.Rows.{Rows, version_of}
use Rattle.col_keeper.specs.Tables.{Name, Collections, Tables, AreApart, rows_in, with_rows, version_at, written, created, dropped}
use Rattle.store_core.specs.State.{State, Lives, IsGone, IsOld, version, number_at, start_of, tables_of}
use Rattle.store_core.specs.Journal.{after, put, new_doc, FitsId, FitsVersion, IsMade, IsMadeOfRead, Raised, Legal, LegalChange, replay, IsJournal}
use Rattle.store_core.specs.Counts.{by_of, faults_after, opened_in, writes_in, size_of, size_in, text_size, AllBelow, AreCounted}
use Rattle.store_core.specs.Store.{Begins, IsHistory}
use Rattle.store_core.specs.Tries.{number_in, IsRead}
use Rattle.store_core.specs.Outcomes.{fault_of}
use Rattle.store_core.specs.declared.entry.Change.{Change}
use Rattle.store_core.specs.declared.entry.Change.TheVariants.{Insert, Replace, Update, Delete}
use Rattle.store_core.specs.declared.entry.Entry.{Entry}
use Rattle.store_core.specs.declared.entry.Entry.TheVariants.{Opened, Created, Dropped, Changed, Failed}

-- ---- options

pub some_number : (o : Option Version) (tx : ℕ) → option_map (λ (v : Version). v.tx) o ≡ Some tx → (v : Version) × (o ≡ Some v) × (Some tx ≡ Some v.tx)
some_number None tx e = cc
some_number (Some v) tx e = (v, refl, sym e)

pub no_number : (o : Option Version) → option_map (λ (v : Version). v.tx) o ≡ None → o ≡ None
no_number None e = refl
no_number (Some v) e = cc

pub map_told : {A B : Type 0} (o : Option A) (f g : A → B) → ((a : A) → o ≡ Some a → f a ≡ g a) → option_map f o ≡ option_map g o
map_told None f g h = refl
map_told {B = B} (Some a) f g h = ap (λ (b : B). Some b) (h a refl)

pub map_map : {A B C : Type 0} (o : Option A) (f : A → B) (g : B → C) → option_map g (option_map f o) ≡ option_map (λ a. g (f a)) o
map_map None f g = refl
map_map (Some a) f g = refl

pub map_same : {A : Type 0} (o : Option A) → option_map (λ a. a) o ≡ o
map_same None = refl
map_same (Some a) = refl

pub told_back : {A B : Type 0} (o : Option A) (f : A → B) (b : B) → option_map f o ≡ Some b → (a : A) × (o ≡ Some a) × (f a ≡ b)
told_back None f b e = cc
told_back (Some a) f b e = (a, refl, same (f a) b e)
  where
    same : {C : Type 0} (x y : C) → Some x ≡ Some y → x ≡ y
    same x y q = cc

-- ---- one entry more

pub replay-append : (s : State) (xs ys : List Entry) → replay s (xs ++ ys) ≡ replay (replay s xs) ys
replay-append s [] ys = refl
replay-append s (x ∷ xs) ys = replay-append (after s x) xs ys

pub journal_append : (s : State) (xs ys : List Entry) → IsJournal s xs → IsJournal (replay s xs) ys → IsJournal s (xs ++ ys)
journal_append s [] ys h t = t
journal_append s (x ∷ xs) ys h t = (h.0, journal_append (after s x) xs ys h.1 t)

pub journal_more : (s : State) (xs : List Entry) (e : Entry) → IsJournal s xs → Legal (replay s xs) e → IsJournal s (xs ++ e ∷ [])
journal_more s xs e h legal = journal_append s xs (e ∷ []) h (legal, tt)

opened-append : (es : List Entry) (e : Entry) → opened_in (es ++ e ∷ []) ≡ opened_in es + opened_in (e ∷ [])
opened-append [] e = omega arith
opened-append (Opened k ∷ es) e = let h = opened-append es e in omega arith
opened-append (Created b c ∷ es) e = opened-append es e
opened-append (Dropped b c ∷ es) e = opened-append es e
opened-append (Changed b c i x f t ∷ es) e = opened-append es e
opened-append (Failed b c d ∷ es) e = opened-append es e

writes-append : (es : List Entry) (e : Entry) → writes_in (es ++ e ∷ []) ≡ writes_in es + writes_in (e ∷ [])
writes-append [] e = omega arith
writes-append (Opened k ∷ es) e = writes-append es e
writes-append (Created b c ∷ es) e = writes-append es e
writes-append (Dropped b c ∷ es) e = writes-append es e
writes-append (Changed b c i x f t ∷ es) e = let h = writes-append es e in omega arith
writes-append (Failed b c d ∷ es) e = writes-append es e

size-append : (es : List Entry) (e : Entry) → size_in (es ++ e ∷ []) ≡ size_in es + size_of e
size-append [] e = omega arith
size-append (x ∷ es) e = let h = size-append es e in omega arith

below_more : (n m : ℕ) (es : List Entry) (e : Entry) → n ≤ m → AllBelow n es → by_of e < m → AllBelow m (es ++ e ∷ [])
below_more n m [] e le h l = (l, tt)
below_more n m (x ∷ es) e le h l = let h₀ = h.0 in (omega arith, below_more n m es e le h.1 l)

count_more : (count : ℕ) (es : List Entry) (e : Entry) → ((c : ℕ) → faults_after c (e ∷ []) ≡ c) → faults_after count (es ++ e ∷ []) ≡ faults_after count es
count_more count [] e h = h count
count_more count (Opened k ∷ es) e h = count_more count es e h
count_more count (Created b c ∷ es) e h = count_more count es e h
count_more count (Dropped b c ∷ es) e h = count_more count es e h
count_more count (Changed b c i x f t ∷ es) e h = count_more count es e h
count_more count (Failed b c d ∷ es) e h = count_more d es e h

count_failed : (count : ℕ) (es : List Entry) (b c d : ℕ) → faults_after count (es ++ Failed b c d ∷ []) ≡ d
count_failed count [] b c d = refl
count_failed count (Opened k ∷ es) b c d = count_failed count es b c d
count_failed count (Created x y ∷ es) b c d = count_failed count es b c d
count_failed count (Dropped x y ∷ es) b c d = count_failed count es b c d
count_failed count (Changed x y i z f t ∷ es) b c d = count_failed count es b c d
count_failed count (Failed x y z ∷ es) b c d = count_failed z es b c d

pub opened_le : (es : List Entry) → opened_in es ≤ length es
opened_le [] = omega arith
opened_le (Opened k ∷ es) = let h = opened_le es in omega arith
opened_le (Created b c ∷ es) = let h = opened_le es in omega arith
opened_le (Dropped b c ∷ es) = let h = opened_le es in omega arith
opened_le (Changed b c i x f t ∷ es) = let h = opened_le es in omega arith
opened_le (Failed b c d ∷ es) = let h = opened_le es in omega arith

-- ---- what the state after a journal has

sessions_are : (s : State) (es : List Entry) → (replay s es).sessions ≡ s.sessions + opened_in es
sessions_are s [] = omega arith
sessions_are s (Opened k ∷ es) = let h = sessions_are (after s (Opened k)) es in omega arith
sessions_are s (Created b c ∷ es) = sessions_are (after s (Created b c)) es
sessions_are s (Dropped b c ∷ es) = sessions_are (after s (Dropped b c)) es
sessions_are s (Changed b c i x f t ∷ es) = sessions_are (after s (Changed b c i x f t)) es
sessions_are s (Failed b c d ∷ es) = sessions_are (after s (Failed b c d)) es

next_are : (s : State) (es : List Entry) → (replay s es).next ≡ s.next + writes_in es
next_are s [] = omega arith
next_are s (Opened k ∷ es) = next_are (after s (Opened k)) es
next_are s (Created b c ∷ es) = next_are (after s (Created b c)) es
next_are s (Dropped b c ∷ es) = next_are (after s (Dropped b c)) es
next_are s (Changed b c i x f t ∷ es) = let h = next_are (after s (Changed b c i x f t)) es in omega arith
next_are s (Failed b c d ∷ es) = next_are (after s (Failed b c d)) es

faults_are : (s : State) (es : List Entry) → (replay s es).faults ≡ faults_after s.faults es
faults_are s [] = refl
faults_are s (Opened k ∷ es) = faults_are (after s (Opened k)) es
faults_are s (Created b c ∷ es) = faults_are (after s (Created b c)) es
faults_are s (Dropped b c ∷ es) = faults_are (after s (Dropped b c)) es
faults_are s (Changed b c i x f t ∷ es) = faults_are (after s (Changed b c i x f t)) es
faults_are s (Failed b c d ∷ es) = faults_are (after s (Failed b c d)) es

-- ---- the counts

counts_more : (j : List Entry) (a w z : ℕ) (e : Entry) (j' : List Entry) (a' w' z' : ℕ) → AreCounted j a w z → j' ≡ j ++ e ∷ []
    → a' ≡ a + opened_in (e ∷ []) → w' ≡ w + writes_in (e ∷ []) → z' ≡ capped (z + size_of e) → AreCounted j' a' w' z'
counts_more j a w z e j' a' w' z' c is sa sw sz = record {
  sessions_are = let x = ap opened_in is ∙ opened-append j e in let y = c.sessions_are in omega arith;
  writes_are = let x = ap writes_in is ∙ writes-append j e in let y = c.writes_are in omega arith;
  size_is = let x = ap size_in is ∙ size-append j e in let y = c.size_is in omega arith;
}

-- ---- the store's journal

abbrev pub Kept : Option State → ℕ → ℕ → List Entry → Option Tables → ℕ → ℕ → ℕ → ℕ → Type 0
Kept start first count j told n a w z = IsHistory start first count j told n × AreCounted j a w z

grew : (b n : ℕ) → Rose b n → b < 2 ^ 64 → n < 2 ^ 64 → Raised b n
grew b n r x y = ⊎_elim (λ lt. inl lt) (λ le. inr (omega arith, omega arith)) (cases_lt b n)

version_found : (coll : Name) (id : Tree) (cs : Collections) (rows : Rows) → rows_in coll cs ≡ Some rows → version_at coll id cs ≡ version_of id rows
version_found coll id cs rows e = ap (option_and_then (version_of id)) e

fits : (change : Change) (id : Tree) (rows : Rows) (read : Option ℕ) (found : Option Version) → found ≡ version_of id rows → number_in id rows ≡ read → IsRead change read → FitsVersion change found read
fits (Insert doc) id rows None found f n r = (f ∙ no_number (version_of id rows) n, refl)
fits (Insert doc) id rows (Some tx) found f n r = absurd r
fits (Replace doc) id rows None found f n r = absurd r
fits (Replace doc) id rows (Some tx) found f n r = let v = some_number (version_of id rows) tx n in (v.0, f ∙ v.1, v.2)
fits (Update updates moment doc) id rows None found f n r = absurd r
fits (Update updates moment doc) id rows (Some tx) found f n r = let v = some_number (version_of id rows) tx n in (v.0, f ∙ v.1, v.2)
fits Delete id rows None found f n r = absurd r
fits Delete id rows (Some tx) found f n r = let v = some_number (version_of id rows) tx n in (v.0, f ∙ v.1, v.2)

-- the version that stands there has the number that was read
made_so : (change : Change) (found : Option Version) (read : Option ℕ) → FitsVersion change found read → IsMadeOfRead change read found → IsMade change found
made_so (Insert doc) found read f r = tt
made_so (Replace doc) found read f r = tt
made_so (Update updates moment doc) None read f r = tt
made_so (Update updates moment doc) (Some v) read f r = r (f.2 ∙ ap (option_map (λ (w : Version). w.tx)) (sym f.1))
made_so Delete found read f r = tt

module _ (start : Option State) (first count : ℕ) (j : List Entry) (told : Option Tables) (n : ℕ) (h : IsHistory start first count j told n) where
  pub told_at : (b : State) → start ≡ Some b → told ≡ Some (tables_of (replay b j))
  told_at b e = h.tables_are ∙ ap (option_map (λ b. tables_of (replay b j))) e

  pub next_is : (b : State) → start ≡ Some b → (replay b j).next ≡ first + writes_in j
  next_is b e = let a = next_are b j in let begun = h.begins b e in let c = begun.next in omega arith

  pub names_apart : (b : State) → start ≡ Some b → AreApart b.collections
  names_apart b e = let begun = h.begins b e in begun.apart

  pub sessions_now : (b : State) → start ≡ Some b → (replay b j).sessions ≡ opened_in j
  sessions_now b e = let a = sessions_are b j in let begun = h.begins b e in let c = begun.none_open in omega arith

  pub faults_now : (b : State) → start ≡ Some b → (replay b j).faults ≡ faults_after count j
  faults_now b e = let begun = h.begins b e in faults_are b j ∙ ap (λ (k : ℕ). faults_after k j) begun.count_is

  pub faults_few : (b : State) → start ≡ Some b → (replay b j).faults ≤ n
  faults_few b e = let a = faults_now b e in let c = h.counted in omega arith

  pub last_below : (t : Tables) → told ≡ Some t → t.last < first + writes_in j
  last_below t e =
      let b = told_back start (λ b. tables_of (replay b j)) t (sym h.tables_are ∙ e) in
      let m = next_is b.0 b.1 in let l = ap (λ (t : Tables). t.last) b.2 in let o = h.from_one in omega arith

  -- what the keeper's tables show holds of the state
  pub at_state : (P : Collections → Type 0) → ((t : Tables) → told ≡ Some t → P t.collections) → (b : State) → start ≡ Some b → P (replay b j).collections
  at_state P f b e = f (tables_of (replay b j)) (told_at b e)

  -- one entry more
  goes_on : (e : Entry) (told' : Option Tables) (n' : ℕ)
      → told' ≡ option_map (λ b. tables_of (after (replay b j) e)) start
      → ((b : State) → start ≡ Some b → Legal (replay b j) e)
      → by_of e < opened_in (j ++ e ∷ []) → faults_after count (j ++ e ∷ []) ≤ n' → first + writes_in (j ++ e ∷ []) < 2 ^ 63
      → IsHistory start first count (j ++ e ∷ []) told' n'
  goes_on e told' n' changed legal known counted low = record {
    tables_are = changed ∙ map_told start (λ b. tables_of (after (replay b j) e)) (λ b. tables_of (replay b (j ++ e ∷ []))) (λ b q. ap tables_of (sym (replay-append b j (e ∷ []))));
    begins = h.begins;
    legal = λ b q. journal_more b j e (h.legal b q) (legal b q);
    known = below_more (opened_in j) (opened_in (j ++ e ∷ [])) j e (omega (arith, opened-append j e)) h.known known;
    counted = counted;
    from_one = h.from_one;
    low = low;
  }

  -- a write of the keeper is the entry's
  changes_so : (e : Entry) (g : Tables → Tables) (told' : Option Tables) → told' ≡ option_map g told
      → ((b : State) → start ≡ Some b → g (tables_of (replay b j)) ≡ tables_of (after (replay b j) e))
      → told' ≡ option_map (λ b. tables_of (after (replay b j) e)) start
  changes_so e g told' is same =
      is ∙ (ap (option_map g) h.tables_are ∙ (map_map start (λ b. tables_of (replay b j)) g
      ∙ map_told start (λ b. g (tables_of (replay b j))) (λ b. tables_of (after (replay b j) e)) same))

  module _ (a w z : ℕ) (c : AreCounted j a w z) (j' : List Entry) (told' : Option Tables) (n' : ℕ) where
    -- a call that changed nothing
    pub stays_so : told' ≡ told → n ≤ n' → j' ≡ j → Kept start first count j' told' n' a w z
    stays_so same grows is =
        subst (λ (x : List Entry). Kept start first count x told' n' a w z) (sym is) (
          record {
            tables_are = same ∙ h.tables_are;
            begins = h.begins;
            legal = h.legal;
            known = h.known;
            counted = let k = h.counted in omega arith;
            from_one = h.from_one;
            low = h.low;
          },
          c,
        )

    -- a session was opened
    pub opens_so : (k : ℕ) → k ≡ a → (a' z' : ℕ) → a' ≡ k + 1 → told' ≡ told → n' ≡ n → j' ≡ j ++ Opened k ∷ [] → z' ≡ capped (z + 64 + 0) → Kept start first count j' told' n' a' w z'
    opens_so k number a' z' next same count_same is size =
        let e : Entry = Opened k in let o = c.sessions_are in (
          subst (λ (x : List Entry). IsHistory start first count x told' n') (sym is)
              (goes_on e told' n' (same ∙ h.tables_are) (λ b q. let s = sessions_now b q in omega arith)
              (let x = opened-append j (Opened k) in omega arith)
              (let k = h.counted in let x = count_more count j e (λ c. refl) in omega arith)
              (let l = h.low in let x = writes-append j (Opened k) in omega arith)),
          counts_more j a w z e j' a' w z' c is (omega arith) (omega arith) (omega arith),
        )

    -- a call failed
    pub fails_so : (by before now z' : ℕ) → by < opened_in j → before ≡ n → now ≡ n' → Rose before now → before < 2 ^ 64 → now < 2 ^ 64 → told' ≡ told
        → j' ≡ j ++ Failed by before now ∷ [] → z' ≡ capped (z + 64) → Kept start first count j' told' n' a w z'
    fails_so by before now z' known b_is n_is rose lb ln same is size =
        let e : Entry = Failed by before now in (
          subst (λ (x : List Entry). IsHistory start first count x told' n') (sym is)
              (goes_on e told' n' (same ∙ h.tables_are)
              (λ b q. let s = sessions_now b q in let f = faults_few b q in (omega arith, omega arith, grew before now rose lb ln))
              (let x = opened-append j (Failed by before now) in omega arith)
              (let x = count_failed count j by before now in omega arith)
              (let l = h.low in let x = writes-append j (Failed by before now) in omega arith)),
          counts_more j a w z e j' a w z' c is (omega arith) (omega arith) (omega arith),
        )

    -- a call failed, which is entered where a session made it
    pub fails_or_stays : (by : Option ℕ) (before now z' : ℕ) → IfSome by (λ k. k < opened_in j) → before ≡ n → now ≡ n' → Rose before now → before < 2 ^ 64 → now < 2 ^ 64 → told' ≡ told → n ≤ n'
        → j' ≡ j ++ fault_of by before now → z' ≡ capped (z + size_in (fault_of by before now)) → Kept start first count j' told' n' a w z'
    fails_or_stays None before now z' known b_is n_is rose lb ln same grows is size =
        let x : j' ≡ j = is ∙ append-nil j in let all = stays_so same grows x in let s = c.size_is in
        subst (λ (y : ℕ). Kept start first count j' told' n' a w y) (omega arith) all
    fails_or_stays (Some by) before now z' known b_is n_is rose lb ln same grows is size = fails_so by before now z' known b_is n_is rose lb ln same is (omega arith)

    -- a change was made
    pub wrote_so : (by : ℕ) (coll : Name) (id : Tree) (change : Change) (read : Option ℕ) (tx w' z' text : ℕ) → by < opened_in j → tx ≡ first + writes_in j → tx < 2 ^ 63 - 1
        → FitsId id (new_doc change) → IsRead change read → ((b : State) → start ≡ Some b → IsMadeOfRead change read (version (replay b j) coll id)) → told' ≡ option_map (written coll (put id tx (new_doc change)) tx) told
        → ((t : Tables) → told ≡ Some t → (r : Rows) × (rows_in coll t.collections ≡ Some r) × (number_in id r ≡ read)) → n ≤ n'
        → j' ≡ j ++ Changed by coll id change read tx ∷ [] → w' ≡ w + 1 → text ≡ capped (text_size (new_doc change)) → z' ≡ capped (z + 64 + text)
        → Kept start first count j' told' n' a w' z'
    wrote_so by coll id change read tx w' z' text known number left new reads made changed stood grows is one t_is size =
        let e : Entry = Changed by coll id change read tx in (
          subst (λ (x : List Entry). IsHistory start first count x told' n') (sym is)
              (goes_on e told' n'
              (changes_so e (written coll (put id tx (new_doc change)) tx) told' changed
              (λ b q. let m = next_is b q in ap (λ (l : ℕ). record { collections = with_rows coll (put id tx (new_doc change)) (replay b j).collections; last = l }) (omega arith)))
              (λ b q. let m = next_is b q in let s = sessions_now b q in let r = stood (tables_of (replay b j)) (told_at b q) in (
                omega arith,
                record {
                  lives = (r.0, r.1);
                  next = omega arith;
                  left = left;
                  new = new;
                  found = fits change id r.0 read (version_at coll id (replay b j).collections) (version_found coll id (replay b j).collections r.0 r.1) r.2 reads;
                  made = made_so change (version (replay b j) coll id) read (fits change id r.0 read (version_at coll id (replay b j).collections) (version_found coll id (replay b j).collections r.0 r.1) r.2 reads) (made b q);
                },
              ))
              (let x = opened-append j (Changed by coll id change read tx) in omega arith)
              (let k = h.counted in let x = count_more count j (Changed by coll id change read tx) (λ c. refl) in omega arith)
              (let x = writes-append j (Changed by coll id change read tx) in omega arith)),
          counts_more j a w z e j' a w' z' c is (omega arith) (omega arith) (omega arith),
        )

    -- a collection was made
    pub creates_so : (by : ℕ) (coll : Name) (z' : ℕ) → by < opened_in j → told' ≡ option_map (created coll) told
        → ((t : Tables) → told ≡ Some t → (rows_in coll t.collections ≡ None) × (length t.collections < 100)) → n ≤ n'
        → j' ≡ j ++ Created by coll ∷ [] → z' ≡ capped (z + 64 + 0) → Kept start first count j' told' n' a w z'
    creates_so by coll z' known changed absent grows is size =
        let e : Entry = Created by coll in (
          subst (λ (x : List Entry). IsHistory start first count x told' n') (sym is)
              (goes_on e told' n' (changes_so e (created coll) told' changed (λ b q. refl))
              (λ b q. let s = sessions_now b q in let r = absent (tables_of (replay b j)) (told_at b q) in (omega arith, r.0, r.1))
              (let x = opened-append j (Created by coll) in omega arith)
              (let k = h.counted in let x = count_more count j (Created by coll) (λ c. refl) in omega arith)
              (let l = h.low in let x = writes-append j (Created by coll) in omega arith)),
          counts_more j a w z e j' a w z' c is (omega arith) (omega arith) (omega arith),
        )

    -- a collection was dropped
    pub drops_so : (by : ℕ) (coll : Name) (z' : ℕ) → by < opened_in j → told' ≡ option_map (dropped coll) told
        → ((t : Tables) → told ≡ Some t → (rows : Rows) × (rows_in coll t.collections ≡ Some rows)) → n ≤ n'
        → j' ≡ j ++ Dropped by coll ∷ [] → z' ≡ capped (z + 64 + 0) → Kept start first count j' told' n' a w z'
    drops_so by coll z' known changed there grows is size =
        let e : Entry = Dropped by coll in (
          subst (λ (x : List Entry). IsHistory start first count x told' n') (sym is)
              (goes_on e told' n' (changes_so e (dropped coll) told' changed (λ b q. refl))
              (λ b q. let s = sessions_now b q in (omega arith, there (tables_of (replay b j)) (told_at b q)))
              (let x = opened-append j (Dropped by coll) in omega arith)
              (let k = h.counted in let x = count_more count j (Dropped by coll) (λ c. refl) in omega arith)
              (let l = h.low in let x = writes-append j (Dropped by coll) in omega arith)),
          counts_more j a w z e j' a w z' c is (omega arith) (omega arith) (omega arith),
        )

-- a journal that begins
pub begins_so : (first count : ℕ) (told : Option Tables) (journal : List Entry) → ((t : Tables) → told ≡ Some t → (first ≡ t.last + 1) × IsOld (start_of count t) × AreApart t.collections) → 1 ≤ first → first < 2 ^ 63 → journal ≡ []
    → Kept (option_map (start_of count) told) first count journal told count 0 0 0
begins_so first count told journal begun from_one low none =
    subst (λ (x : List Entry). Kept (option_map (start_of count) told) first count x told count 0 0 0) (sym none) (
      record {
        tables_are = sym (map_map told (start_of count) tables_of ∙ map_told told (λ t. tables_of (start_of count t)) (λ t. t) (λ t q. ap (λ (l : ℕ). record { collections = t.collections; last = l }) (omega arith)) ∙ map_same told);
        begins = λ b q. let t = told_back told (start_of count) b q in let u = begun t.0 t.1 in
            subst (Begins first count) t.2 (record { next = sym u.0; none_open = refl; count_is = refl; old = u.1; apart = u.2 });
        legal = λ b q. tt;
        known = tt;
        counted = omega arith;
        from_one = from_one;
        low = omega arith;
      },
      record { sessions_are = refl; writes_are = refl; size_is = omega arith },
    )
