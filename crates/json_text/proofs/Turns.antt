-- A run, a token at a time.
use Rattle.std.proofs.Common.{◌≡◌, ℕ, ◌+◌, ◌-◌, ◌<◌, List, [], ◌∷◌, length, get_or, drop, false, refl, sym, ap, ◌∙◌, arith, subst}
use Rattle.std.proofs.lemmas.List.{length-append, length-drop, get_or-drop}
use Rattle.std.proofs.lemmas.List.Sums.{prefix_len_stops, prefix_len-le-length}
use Rattle.std.specs.List.{prefix_len}
use Rattle.json_text.specs.Token.{Token, Placed, end}
use Rattle.json_text.specs.Lex.{is_blank, token_at, tokens_from}
use Rattle.json_text.specs.Machine.{Values, Slot, Place, want, first_element, after_element, first_name, name_of, colon_of, after_member, complete, State, Step, more, done, fault, step, End, built, refused, then_run, run}
use Rattle.json_text.specs.FaultKinds.{Kind}
use Rattle.json_text.proofs.Lexing.{token_ends, blanks_passed, token_next}

abbrev pub front : List ℕ → List ℕ
front bs = drop (prefix_len is_blank bs) bs

-- what is left after the first token
abbrev pub left : List ℕ → List ℕ
left bs = (token_at (front bs)).1

pub not_blank : (bs : List ℕ) (x : ℕ) (xs : List ℕ) → front bs ≡ x ∷ xs → is_blank x ≡ false
not_blank bs x xs e =
    let n = prefix_len is_blank bs in
    let zero_more : n ≡ n + 0 = omega arith in
    let first : get_or bs n 0 ≡ x = ap (λ k. get_or bs k 0) zero_more ∙ sym (get_or-drop n bs 0 0) ∙ ap (λ l. get_or l 0 0) e in
    ap is_blank (sym first) ∙ prefix_len_stops is_blank bs 0 (omega (arith, ap length e, length-drop n bs))

module _ {V : Type 0} (vs : Values V) where
  pub run_next : (s : State V) (t : Placed) (ts : List Placed) → run vs s (t ∷ ts) ≡ then_run (step vs s t.token) t.at (λ next. run vs next ts)
  unfolding run
  run_next s t ts = refl

  -- the end is the last token
  pub end_is_last : (s next : State V) → step vs s end ≡ more next → ⊥
  unfolding step
  end_is_last s next = by s.outer s.place
    where
      by : (outer : List (Slot V)) (place : Place V) → step vs (record { outer = outer; place = place }) end ≡ more next → ⊥
      by outer (want slot) e = cc
      by outer first_element e = cc
      by outer (after_element es) e = cc
      by outer first_name e = cc
      by outer (name_of ms) e = cc
      by outer (colon_of ms n) e = cc
      by outer (after_member ms) e = cc
      by outer (complete v) e = cc

  some_turn : (s : State V) (at : ℕ) (bs f : List ℕ) → front bs ≡ f
      → (ts : List Placed) × (run vs s (tokens_from 0 at f) ≡ then_run (step vs s (token_at f).0) at (λ next. run vs next ts))
  unfolding tokens_from token_at
  some_turn s at bs [] e = ([], run_next s _ [])
  some_turn s at bs (x ∷ xs) e = (_, ap (run vs s) (token_next x xs at (not_blank bs x xs e)) ∙ run_next s _ _)

  -- a token that stops the run
  pub turn_stops : (s : State V) (at : ℕ) (bs : List ℕ) → (ts : List Placed) × (run vs s (tokens_from 0 at bs) ≡ then_run (step vs s (token_at (front bs)).0) (at + prefix_len is_blank bs) (λ next. run vs next ts))
  turn_stops s at bs =
      let t = some_turn s (at + prefix_len is_blank bs) bs (front bs) refl in
      (t.0, ap (run vs s) (blanks_passed bs at) ∙ t.1)

  more_turn : (s next : State V) (at : ℕ) (bs f : List ℕ) → front bs ≡ f → step vs s (token_at f).0 ≡ more next
      → (length (token_at f).1 < length f) × (run vs s (tokens_from 0 at f) ≡ run vs next (tokens_from 0 (at + (length f - length (token_at f).1)) (token_at f).1))
  unfolding token_at
  more_turn s next at bs [] e h = absurd (end_is_last s next h)
  more_turn s next at bs (x ∷ xs) e h =
      let ends = token_ends x xs in (
        omega (arith, ap length ends.1, length-append ends.0 (token_at (x ∷ xs)).1),
        ap (run vs s) (token_next x xs at (not_blank bs x xs e)) ∙ run_next s _ _ ∙ ap (λ st. then_run st at (λ next. run vs next (tokens_from 0 (at + (length (x ∷ xs) - length (token_at (x ∷ xs)).1)) (token_at (x ∷ xs)).1))) h,
      )

  -- a token after which the run goes on
  pub turn_goes_on : (s next : State V) (at : ℕ) (bs : List ℕ) → step vs s (token_at (front bs)).0 ≡ more next
      → (length (left bs) < length bs) × (run vs s (tokens_from 0 at bs) ≡ run vs next (tokens_from 0 (at + (length bs - length (left bs))) (left bs)))
  turn_goes_on s next at bs h =
      let n = prefix_len is_blank bs in
      let t = more_turn s next (at + n) bs (front bs) refl h in
      let long : length (front bs) + n ≡ length bs = omega (arith, length-drop n bs, prefix_len-le-length is_blank bs) in
      let sum : at + n + (length (front bs) - length (left bs)) ≡ at + (length bs - length (left bs)) = omega (arith, t.0) in
      (omega (arith, t.0), ap (run vs s) (blanks_passed bs at) ∙ t.1 ∙ ap (λ m. run vs next (tokens_from 0 m (left bs))) sum)

  -- ---- the same, of the token that a reader took

  module _ (s : State V) (at : ℕ) (bs : List ℕ) (t : Token) (after : List ℕ) (took : (t, after) ≡ token_at (front bs)) where
    pub took_more : (next : State V) → step vs s t ≡ more next → (length after < length bs) × (run vs s (tokens_from 0 at bs) ≡ run vs next (tokens_from 0 (at + (length bs - length after)) after))
    took_more next h =
        let P : List ℕ → Type 0 = λ l. (length l < length bs) × (run vs s (tokens_from 0 at bs) ≡ run vs next (tokens_from 0 (at + (length bs - length l)) l)) in
        subst P (sym (ap (λ r. r.1) took)) (turn_goes_on s next at bs (ap (λ r. step vs s r.0) (sym took) ∙ h))

    stopped : (st : Step V) (e : End V) → ((k : State V → End V) → then_run st (at + prefix_len is_blank bs) k ≡ e) → step vs s t ≡ st → run vs s (tokens_from 0 at bs) ≡ e
    stopped st e stays h =
        let turn = turn_stops s at bs in
        turn.1 ∙ ap (λ st. then_run st (at + prefix_len is_blank bs) (λ next. run vs next turn.0)) (ap (λ r. step vs s r.0) (sym took) ∙ h) ∙ stays _

    pub took_done : (v : V) → step vs s t ≡ done v → run vs s (tokens_from 0 at bs) ≡ built v
    took_done v h = stopped (done v) (built v) (λ k. refl) h

    pub took_fault : (k : Kind) → step vs s t ≡ fault k → run vs s (tokens_from 0 at bs) ≡ refused k (at + prefix_len is_blank bs)
    took_fault k h = stopped (fault k) (refused k (at + prefix_len is_blank bs)) (λ r. refl) h
