-- A run over a text's tokens, and what the text spells.
use Rattle.std.proofs.Common.{◌≡◌, ℕ, ℤ, zero, suc, ◌+◌, ◌-◌, List, [], ◌∷◌, ◌++◌, length, take, ◌||◌, eqb, Option, Some, None, ◌⊎◌, inl, inr, ⊎_elim, ap₂, true, refl, sym, ap, ◌∙◌, arith, subst, append_assoc}
use Rattle.std.proofs.lemmas.Bool.{true≢false}
use Rattle.std.specs.Str.{IsUtf8, bytes_eq}
use Rattle.std.specs.Char.{is_ascii_digit}
use Rattle.json_tree.specs.Tree.{Tree}
use Rattle.json_text.specs.Token.{Token, Placed, number, end}
use Rattle.json_text.specs.Text.{plain, string_at}
use Rattle.json_text.specs.Numeral.{numeral}
use Rattle.json_text.specs.Lex.{Read, string_token, number_token, is_letter, word_len, word_token, token_at, is_blank, tokens_from, tokens}
use Rattle.json_text.specs.Grammar.{Json, tokens_of, tree_of, erased, Spells, Reads}
use Rattle.json_text.specs.FaultKinds.{Kind, syntax, too_deep, out_of_range, opens, HasFault, FirstFault, TextFaultAt}
use Rattle.json_text.specs.Machine.{End, built, refused, unended, start, run, trees, texts}
use Rattle.json_text.proofs.Lexing.{either}
use Rattle.json_text.proofs.Shapes.{end_of, runs}
use Rattle.json_text.proofs.Accepts.{gone, forget, go, go_run, accepts_text}
use Rattle.json_text.proofs.Law.{Whole, Verdict, run_verdict}

-- ---- the end stands last

abbrev NotEnd : Token → Type 0
NotEnd t = t ≡ end → ⊥

string_token_not_end : (r : Option (List ℕ × List ℕ)) → NotEnd (string_token r).0
string_token_not_end None e = cc
string_token_not_end (Some p) e = cc

number_token_not_end : (r : Option (Option ℤ)) → NotEnd (number_token r)
number_token_not_end None e = cc
number_token_not_end (Some n) e = cc

word_not_end : (w : List ℕ) → NotEnd (word_token w)
word_not_end w = either NotEnd (bytes_eq w _) _ _ (λ _ e. cc) (λ _. either NotEnd (bytes_eq w _) _ _ (λ _ e. cc) (λ _. either NotEnd (bytes_eq w _) _ _ (λ _ e. cc) (λ _ e. cc)))

not_end : (x : ℕ) (xs : List ℕ) → NotEnd (token_at (x ∷ xs)).0
unfolding token_at
not_end x xs =
    let P : Read → Type 0 = λ r. NotEnd r.0 in
    either P (eqb x 123) _ _ (λ _ e. cc) (λ _. either P (eqb x 125) _ _ (λ _ e. cc) (λ _. either P (eqb x 91) _ _ (λ _ e. cc) (λ _. either P (eqb x 93) _ _ (λ _ e. cc) (λ _. either P (eqb x 58) _ _ (λ _ e. cc) (λ _. either P (eqb x 44) _ _ (λ _ e. cc)
    (λ _. either P (eqb x 34) _ _ (λ _. string_token_not_end (string_at plain xs))
    (λ _. either P (is_ascii_digit x || eqb x 45) _ _ (λ _. number_token_not_end (numeral _)) (λ _. either P (is_letter x) _ _ (λ _. word_not_end (take (word_len (x ∷ xs)) (x ∷ xs))) (λ _ e. cc)))))))))

after_first : (t : Token) (ts xs rest : List Token) → NotEnd t → t ∷ ts ≡ xs ++ end ∷ rest → (ys : List Token) × (ts ≡ ys ++ end ∷ rest)
after_first t ts [] rest n e = absurd (n cc)
after_first t ts (x ∷ xs) rest n e = (xs, cc)

end_last : (left at : ℕ) (bs : List ℕ) (xs rest : List Token) → erased (tokens_from left at bs) ≡ xs ++ end ∷ rest → rest ≡ []
unfolding tokens_from
end_last left at [] [] rest e = cc
end_last left at [] (x ∷ []) rest e = absurd (cc e)
end_last left at [] (x ∷ y ∷ xs) rest e = absurd (cc e)
end_last (suc left) at (x ∷ xs) front rest e = end_last left (at + 1) xs front rest e
end_last zero at (x ∷ xs) front rest e =
    let P : List Placed → Type 0 = λ ts. erased ts ≡ front ++ end ∷ rest → rest ≡ [] in
    let here = λ (k : erased (tokens_from 0 (at + 1) xs) ≡ front ++ end ∷ rest). end_last 0 (at + 1) xs front rest k in
    let there = λ (ys : List Token) (k : erased (tokens_from (length xs - length (token_at (x ∷ xs)).1) (at + 1) xs) ≡ ys ++ end ∷ rest). end_last (length xs - length (token_at (x ∷ xs)).1) (at + 1) xs ys rest k in
    either P (is_blank x) _ _ (λ _. here) (λ _ k. let n = after_first (token_at (x ∷ xs)).0 _ front rest (not_end x xs) k in there n.0 n.1) e

-- ---- runs and readings

built_of : (e : End Json) (v : Tree) → end_of e ≡ built v → (j : Json) × (e ≡ built j) × (tree_of j ≡ v)
built_of (built j) v e = (j, refl, cc)
built_of (refused k at) v e = absurd (cc e)
built_of unended v e = absurd (cc e)

refused_of : (e : End Json) (k : Kind) (at : ℕ) → end_of e ≡ refused k at → e ≡ refused k at
refused_of (built j) k at e = absurd (cc e)
refused_of (refused l a) k at e = let kinds : l ≡ k = cc in let places : a ≡ at = cc in cc (kinds, places)
refused_of unended k at e = absurd (cc e)

gone_of : (e : End Json) (j : Json) → forget e ≡ gone j → e ≡ built j
gone_of (built i) j e = let same : i ≡ j = cc in ap built same
gone_of (refused k at) j e = absurd (cc e)
gone_of unended j e = absurd (cc e)

pub reads_from_run : (bytes : List ℕ) (v : Tree) → IsUtf8 bytes → run trees start (tokens bytes) ≡ built v → Reads bytes v
reads_from_run bytes v utf8 e =
    let d = built_of (run texts start (tokens bytes)) v (sym (runs (tokens bytes) start) ∙ e) in
    let w : Whole d.0 (erased (tokens bytes)) = subst (λ r. Verdict r (tokens bytes)) d.1 (run_verdict (tokens bytes)) in
    let all : erased (tokens bytes) ≡ tokens_of d.0 ++ end ∷ w.rest = w.split ∙ ap (λ l. l ++ w.rest) w.spelled ∙ append_assoc (tokens_of d.0) (end ∷ []) w.rest in
    let none : w.rest ≡ [] = end_last 0 0 bytes (tokens_of d.0) w.rest all in
    (d.0, record { utf8 = utf8; text = all ∙ ap (λ l. tokens_of d.0 ++ end ∷ l) none; levels = omega (arith, w.low.low); numbers = w.low.numbers; value = d.2 })

pub fault_from_run : (bytes : List ℕ) (k : Kind) (at : ℕ) → IsUtf8 bytes → run trees start (tokens bytes) ≡ refused k at → TextFaultAt bytes k at
fault_from_run bytes k at utf8 e =
    let r = refused_of (run texts start (tokens bytes)) k at (sym (runs (tokens bytes) start) ∙ e) in
    record { utf8 = utf8; first = subst (λ r. Verdict r (tokens bytes)) r (run_verdict (tokens bytes)) }

built_from_spells : (bytes : List ℕ) (j : Json) (v : Tree) → Spells bytes j v → run texts start (tokens bytes) ≡ built j
built_from_spells bytes j v s = gone_of (run texts start (tokens bytes)) j (sym (go_run texts (tokens bytes) start) ∙ ap (go texts start) s.text ∙ accepts_text None 32 j s.levels s.numbers)

run_from_reads : (bytes : List ℕ) (v : Tree) → Reads bytes v → run trees start (tokens bytes) ≡ built v
run_from_reads bytes v r = runs (tokens bytes) start ∙ ap end_of (built_from_spells bytes r.0 v r.1) ∙ ap built r.1.value

pub one_reading : (bytes : List ℕ) (v w : Tree) → Reads bytes v → Reads bytes w → v ≡ w
one_reading bytes v w r s = let d = run_from_reads bytes v r in let e = run_from_reads bytes w s in cc

-- ---- faults

-- of two places in a list one stands first, or they are one
splits : {A : Type 0} (xs : List A) (x : A) (xs′ : List A) (ys : List A) (y : A) (ys′ : List A) → xs ++ x ∷ xs′ ≡ ys ++ y ∷ ys′
    → ((xs ≡ ys) × (x ≡ y)) ⊎ (((rest : List A) × (ys ≡ xs ++ x ∷ rest)) ⊎ ((rest : List A) × (xs ≡ ys ++ y ∷ rest)))
splits [] x xs′ [] y ys′ e = inl (refl, cc)
splits [] x xs′ (z ∷ ys) y ys′ e = let same : z ≡ x = cc in inr (inl (ys, ap (λ w. w ∷ ys) same))
splits (z ∷ xs) x xs′ [] y ys′ e = let same : z ≡ y = cc in inr (inr (xs, ap (λ w. w ∷ xs) same))
splits (z ∷ xs) x xs′ (w ∷ ys) y ys′ e =
    let same : z ≡ w = cc in
    let rest : xs ++ x ∷ xs′ ≡ ys ++ y ∷ ys′ = cc in
    ⊎_elim (λ s. inl (ap₂ (λ h t. h ∷ t) same s.0, s.1))
    (λ s. inr (⊎_elim (λ r. inl (r.0, ap₂ (λ h t. h ∷ t) (sym same) r.1)) (λ r. inr (r.0, ap₂ (λ h t. h ∷ t) same r.1)) s))
    (splits xs x xs′ ys y ys′ rest)

opens_no_number : (t : Token) → opens t ≡ true → t ≡ number None → ⊥
opens_no_number t o e = absurd (true≢false (sym o ∙ ap opens e))

one_kind : (before : List Token) (t : Token) (k l : Kind) → HasFault before t k → HasFault before t l → k ≡ l
one_kind before t syntax syntax f g = refl
one_kind before t syntax too_deep f g = absurd (f g.0)
one_kind before t syntax out_of_range f g = absurd (f g.0)
one_kind before t too_deep syntax f g = absurd (g f.0)
one_kind before t too_deep too_deep f g = refl
one_kind before t too_deep out_of_range f g = absurd (opens_no_number t f.1 g.1)
one_kind before t out_of_range syntax f g = absurd (g f.0)
one_kind before t out_of_range too_deep f g = absurd (opens_no_number t g.1 f.1)
one_kind before t out_of_range out_of_range f g = refl

erased-split : (before : List Placed) (t : Placed) (after : List Placed) → erased (before ++ t ∷ after) ≡ erased before ++ t.token ∷ erased after
erased-split [] t after = refl
erased-split (b ∷ before) t after = ap (λ l. b.token ∷ l) (erased-split before t after)

pub one_first : (ts : List Placed) (k l : Kind) (a b : ℕ) → FirstFault ts k a → FirstFault ts l b → (k ≡ l) × (a ≡ b)
one_first ts k l a b f g = by (splits f.before f.token f.after g.before g.token g.after (sym f.split ∙ g.split))
  where
    by : ((f.before ≡ g.before) × (f.token ≡ g.token)) ⊎ (((rest : List Placed) × (g.before ≡ f.before ++ f.token ∷ rest)) ⊎ ((rest : List Placed) × (f.before ≡ g.before ++ g.token ∷ rest))) → (k ≡ l) × (a ≡ b)
    by (inl s) = (
      one_kind (erased g.before) g.token.token k l (subst (λ x. HasFault (erased x) g.token.token k) s.0 (subst (λ x. HasFault (erased f.before) x.token k) s.1 f.fault)) g.fault,
      sym f.place ∙ ap (λ t. t.at) s.1 ∙ g.place,
    )
    by (inr (inl r)) = absurd (g.first (erased f.before) f.token.token (erased r.0) k (ap erased r.1 ∙ erased-split f.before f.token r.0) f.fault)
    by (inr (inr r)) = absurd (f.first (erased g.before) g.token.token (erased r.0) l (ap erased r.1 ∙ erased-split g.before g.token r.0) g.fault)

pub no_fault_where_read : (bytes : List ℕ) (v : Tree) (k : Kind) (at : ℕ) → Reads bytes v → TextFaultAt bytes k at → ⊥
no_fault_where_read bytes v k at r f =
    let s = r.1 in
    let first = f.first in
    let w : Whole r.0 (erased (tokens bytes)) = subst (λ r. Verdict r (tokens bytes)) (built_from_spells bytes r.0 v s) (run_verdict (tokens bytes)) in
    let all : erased (tokens bytes) ≡ tokens_of r.0 ++ end ∷ w.rest = w.split ∙ ap (λ l. l ++ w.rest) w.spelled ∙ append_assoc (tokens_of r.0) (end ∷ []) w.rest in
    let none : w.rest ≡ [] = end_last 0 0 bytes (tokens_of r.0) w.rest all in
    let whole : w.text ≡ erased (tokens bytes) = w.spelled ∙ sym s.text in
    w.faultless (erased first.before) first.token.token (erased first.after) k (whole ∙ ap erased first.split ∙ erased-split first.before first.token first.after) first.fault
