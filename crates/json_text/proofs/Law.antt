-- What a run over a text's tokens says of the text.
use Rattle.std.proofs.Common.{◌≡◌, ℕ, suc, ◌<◌, ◌≤◌, List, [], ◌∷◌, ◌++◌, length, max, Some, None, refl, sym, ap, ap₂, ◌∙◌, ◌⊎◌, inl, inr, ⊎_elim, subst, append_assoc, arith}
use Rattle.std.proofs.lemmas.List.{append-nil}
use Rattle.std.proofs.lemmas.Bool.{true≢false}
use Rattle.std.specs.Prelude.{⊤}
use Rattle.json_text.specs.Token.{Token, Placed, number, end}
use Rattle.json_text.specs.Grammar.{Json, text_tokens, levels, has_numbers, erased}
use Rattle.json_text.specs.Grammar as json
use Rattle.json_text.specs.FaultKinds.{Kind, syntax, too_deep, out_of_range, Begins, opens, HasFault, Faultless, FirstFault}
use Rattle.json_text.specs.Machine.{State, Step, more, done, fault, step, End, built, refused, unended, then_run, run, start, texts}
use Rattle.json_text.proofs.Accepts.{gone, stopped, then_go, go, go_next, accepts_text}
use Rattle.json_text.proofs.Reached.{Reached, StepReached, reached_at, reached_start, begins_at}
use Rattle.json_text.proofs.Levels.{reached_levels}
use Rattle.json_text.proofs.Bounds.{Low, Bounded, StepBounded, OpensLow, Passed, bounded_at, bounded_start, low_at, never_passed, EndOnly, end_at}
use Rattle.json_text.proofs.FirstFault.{lax, Agrees, Cause, agrees_at, cause_at}

-- ---- lists that end in one more

split_last : {A : Type 0} (xs : List A) (t : A) (before : List A) (u : A) (after : List A) → xs ++ t ∷ [] ≡ before ++ u ∷ after → ((before ≡ xs) × (u ≡ t)) ⊎ ((rest : List A) × (xs ≡ before ++ u ∷ rest))
split_last [] t [] u after e = inl (refl, cc)
split_last [] t (b ∷ []) u after e = absurd (cc e)
split_last [] t (b ∷ c ∷ bs) u after e = absurd (cc e)
split_last (x ∷ xs) t [] u after e = let same : x ≡ u = cc in inr (xs, ap (λ y. y ∷ xs) same)
split_last (x ∷ xs) t (b ∷ bs) u after e =
    let first : x ≡ b = cc in
    let rest : xs ++ t ∷ [] ≡ bs ++ u ∷ after = cc in
    ⊎_elim (λ l. inl (ap₂ (λ y ys. y ∷ ys) (sym first) l.0, l.1)) (λ r. inr (r.0, ap₂ (λ y ys. y ∷ ys) first r.1)) (split_last xs t bs u after rest)

faultless_push : (ts : List Token) (t : Token) → Faultless ts → ((k : Kind) → HasFault ts t k → ⊥) → Faultless (ts ++ t ∷ [])
faultless_push ts t earlier here before u after k e h =
    ⊎_elim
    (λ l. here k (subst (λ b. HasFault b t k) l.0 (subst (λ w. HasFault before w k) l.1 h)))
    (λ r. earlier before u r.0 k r.1 h)
    (split_last ts t before u after e)

-- ---- what holds before a token

record Led (s : State Json) (so_far : List Token) : Type 0 where
  reached : Reached s so_far
  bounded : Bounded s
  leads : (n : ℕ) → 32 ≤ n → (rest : List Token) → go (lax n) start (so_far ++ rest) ≡ go (lax n) s rest
  faultless : Faultless so_far

any_numbers : (u : Json) → Some (json.number None) ≡ Some u → u ≡ json.number None
any_numbers u e = cc

no_unfit : (u : Json) → None ≡ Some u → u ≡ json.number None
no_unfit u e = absurd (cc e)

-- the tokens begin a text where a step with more levels takes the last one
begins_by : (n : ℕ) (s next : State Json) (t : Token) (so_far : List Token) → Reached s so_far → step (lax n) s t ≡ more next → Begins (so_far ++ t ∷ [])
begins_by n s next t so_far r e =
    let on : Reached next (so_far ++ t ∷ []) = subst (λ st. StepReached st (so_far ++ t ∷ [])) e (reached_at (Some (json.number None)) n any_numbers s.outer s.place t so_far r) in
    begins_at next.outer next.place (so_far ++ t ∷ []) on

begins_next : (s next : State Json) (t : Token) (so_far : List Token) → Reached s so_far → step texts s t ≡ more next → Reached next (so_far ++ t ∷ [])
begins_next s next t so_far r e = subst (λ st. StepReached st (so_far ++ t ∷ [])) e (reached_at None 32 no_unfit s.outer s.place t so_far r)

-- ---- a step that goes on

passed_without_fault : (s next : State Json) (t : Token) (so_far : List Token) → Led s so_far → step texts s t ≡ more next → (k : Kind) → HasFault so_far t k → ⊥
passed_without_fault s next t so_far l e syntax h = let r = begins_next s next t so_far l.reached e in h (begins_at next.outer next.place (so_far ++ t ∷ []) r)
passed_without_fault s next t so_far l e too_deep h =
    let low : length s.outer < 32 = subst (λ st. OpensLow s.outer t st) e (low_at s.outer s.place t) h.1 in
    absurd (omega (arith, h.2, reached_levels s so_far l.reached))
passed_without_fault s next t so_far l e out_of_range h =
    let same : step texts s (number None) ≡ more next = ap (step texts s) (sym h.1) ∙ e in
    subst Passed same (never_passed s.outer s.place)

led_on : (s next : State Json) (t : Token) (so_far : List Token) → Led s so_far → step texts s t ≡ more next → Led next (so_far ++ t ∷ [])
led_on s next t so_far l e = record {
  reached = begins_next s next t so_far l.reached e;
  bounded = subst StepBounded e (bounded_at s.outer s.place t l.bounded);
  leads = λ n wide rest.
      let taken : step (lax n) s t ≡ more next = subst (λ st. Agrees st (step (lax n) s t)) e (agrees_at n wide s.outer s.place t) in
      ap (go (lax n) start) (append_assoc so_far (t ∷ []) rest) ∙ l.leads n wide (t ∷ rest) ∙ go_next (lax n) s t rest ∙ ap (λ st. then_go st (λ next. go (lax n) next rest)) taken;
  faultless = faultless_push so_far t l.faultless (passed_without_fault s next t so_far l e);
}

-- ---- a step that stops

stopped_by : (s : State Json) (t : Token) (so_far : List Token) (k : Kind) → Led s so_far → step texts s t ≡ fault k → HasFault so_far t k
stopped_by s t so_far syntax l e = λ b.
    let n = max (levels b.0) 32 in
    let wide : 32 ≤ n = omega arith in
    let refuses : step (lax n) s t ≡ fault syntax = subst (λ st. Agrees st (step (lax n) s t)) e (agrees_at n wide s.outer s.place t) in
    let accepted : go (lax n) start (text_tokens b.0) ≡ gone b.0 = accepts_text (Some (json.number None)) n b.0 (omega arith) refl in
    let met : go (lax n) start (text_tokens b.0) ≡ stopped syntax =
    ap (go (lax n) start) (b.2 ∙ append_assoc so_far (t ∷ []) b.1) ∙ l.leads n wide (t ∷ b.1) ∙ go_next (lax n) s t b.1 ∙ ap (λ st. then_go st (λ next. go (lax n) next b.1)) refuses in
    absurd (cc (accepted, met))
stopped_by s t so_far too_deep l e =
    let cause = subst (λ st. Cause s.outer t st (step (lax (suc (length s.outer))) s t)) e (cause_at s.outer s.place t) in
    (begins_by (suc (length s.outer)) s cause.2.0 t so_far l.reached cause.2.1, cause.0, omega (arith, cause.1, reached_levels s so_far l.reached, l.bounded.nested))
stopped_by s t so_far out_of_range l e =
    let cause = subst (λ st. Cause s.outer t st (step (lax (suc (length s.outer))) s t)) e (cause_at s.outer s.place t) in
    (begins_by (suc (length s.outer)) s cause.1.0 t so_far l.reached cause.1.1, cause.0)

-- ---- a step that ends

pub record Whole (j : Json) (all : List Token) : Type 0 where
  pub text : List Token
  pub rest : List Token
  pub split : all ≡ text ++ rest
  pub spelled : text ≡ text_tokens j
  pub low : Low 0 j
  pub faultless : Faultless text

last : (s : State Json) (j : Json) (t : Token) → step texts s t ≡ done j → t ≡ end
last s j t e = subst (EndOnly t) e (end_at s.outer s.place t)

ended : (s : State Json) (j : Json) (t : Token) (so_far ts : List Token) → Led s so_far → step texts s t ≡ done j → Whole j (so_far ++ t ∷ ts)
ended s j t so_far ts l e =
    let spelled : so_far ++ t ∷ [] ≡ text_tokens j = subst (λ st. StepReached st (so_far ++ t ∷ [])) e (reached_at None 32 no_unfit s.outer s.place t so_far l.reached) in
    record {
      text = so_far ++ t ∷ [];
      rest = ts;
      split = sym (append_assoc so_far (t ∷ []) ts);
      spelled = spelled;
      low = subst StepBounded e (bounded_at s.outer s.place t l.bounded);
      faultless = faultless_push so_far t l.faultless (no_fault spelled);
    }
  where
    no_fault : so_far ++ t ∷ [] ≡ text_tokens j → (k : Kind) → HasFault so_far t k → ⊥
    no_fault spelled syntax h = h (j, [], sym spelled ∙ sym (append-nil (so_far ++ t ∷ [])))
    no_fault spelled too_deep h = absurd (true≢false (sym h.1 ∙ ap opens (last s j t e)))
    no_fault spelled out_of_range h = absurd (cc (h.1, last s j t e))

-- ---- whole runs

erased-append : (xs ys : List Placed) → erased (xs ++ ys) ≡ erased xs ++ erased ys
erased-append [] ys = refl
erased-append (x ∷ xs) ys = ap (λ l. x.token ∷ l) (erased-append xs ys)

abbrev pub Verdict : End Json → List Placed → Type 0
Verdict (built j) all = Whole j (erased all)
Verdict (refused k at) all = FirstFault all k at
Verdict unended all = ⊤

judged : (st : Step Json) (s : State Json) (t : Placed) (so_far ts : List Placed) → step texts s t.token ≡ st → Led s (erased so_far)
    → ((next : State Json) → Led next (erased (so_far ++ t ∷ [])) → Verdict (run texts next ts) ((so_far ++ t ∷ []) ++ ts)) → Verdict (then_run st t.at (λ next. run texts next ts)) (so_far ++ t ∷ ts)
judged (more next) s t so_far ts e l ih =
    let on = led_on s next t.token (erased so_far) l e in
    subst (Verdict (run texts next ts)) (append_assoc so_far (t ∷ []) ts) (ih next (subst (Led next) (sym (erased-append so_far (t ∷ []))) on))
judged (done j) s t so_far ts e l ih = subst (Whole j) (sym (erased-append so_far (t ∷ ts))) (ended s j t.token (erased so_far) (erased ts) l e)
judged (fault k) s t so_far ts e l ih = record {
  before = so_far;
  token = t;
  after = ts;
  split = refl;
  place = refl;
  fault = stopped_by s t.token (erased so_far) k l e;
  first = l.faultless;
}

verdict : (ts so_far : List Placed) (s : State Json) → Led s (erased so_far) → Verdict (run texts s ts) (so_far ++ ts)
unfolding run
verdict [] so_far s l = tt
verdict (t ∷ ts) so_far s l = judged (step texts s t.token) s t so_far ts refl l (λ next on. verdict ts (so_far ++ t ∷ []) next on)

none_yet : Faultless []
none_yet [] t after k e h = absurd (cc e)
none_yet (b ∷ before) t after k e h = absurd (cc e)

-- a run over all tokens builds the text that they are, or stops at the first fault
pub run_verdict : (ts : List Placed) → Verdict (run texts start ts) ts
run_verdict ts = verdict ts [] start (record { reached = reached_start; bounded = bounded_start; leads = λ n wide rest. refl; faultless = none_yet })
