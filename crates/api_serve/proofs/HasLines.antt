-- The lines of an input.
use Rattle.std.proofs.Common.{◌≡◌, ◌≢◌, ◌==◌, ◌++◌, ◌∷◌, [], ℕ, List, Bool, true, false, not, ◌&&◌, IsTrue, refl, sym, ◌∙◌, ap, subst, append_assoc, arith, inl, inr}
use Rattle.std.proofs.lemmas.List.{append-nil}
use Rattle.std.proofs.lemmas.Bool.Decides.{nat_tests}
use Rattle.std.specs.List.{list_all}
use Rattle.api_serve.specs.Separated.{is_free_of}
use Rattle.api_serve.specs.Lines.{ended_lines, Splits, HasLines, BeginsWith, last_line}
use Rattle.api_serve.specs.Request.{IsRightLine, AreRightLines, is_skipped}
use Rattle.api_serve.specs.Run.{IsWrongBehind}
use Rattle.api_serve.specs.Piece.{BeginsWrong}
use Rattle.api_serve.proofs.Cuts.{both_true, joined_true, free_joined, cut_once, not_free}
use Rattle.api_serve.proofs.Served.{ended-append, all_free}

-- each input has lines
pub record HasSplit (bytes : List ℕ) : Type 0 where
  pub lines : List (List ℕ)
  pub rest : List ℕ
  pub split : Splits bytes lines rest

split_feed : (x : ℕ) (xs : List ℕ) → x ≡ 10 → HasSplit xs → HasSplit (x ∷ xs)
split_feed x xs e s = record {
  lines = [] ∷ s.lines;
  rest = s.rest;
  split = record { text = (λ i. e i ∷ s.split.text i); each = s.split.each; last = s.split.last };
}

split_other : (x : ℕ) (xs : List ℕ) → not (x == 10) ≡ true → (lines : List (List ℕ)) (rest : List ℕ) → Splits xs lines rest → HasSplit (x ∷ xs)
split_other x xs e [] rest s = record {
  lines = [];
  rest = x ∷ rest;
  split = record { text = ap (λ ys. x ∷ ys) s.text; each = refl; last = joined_true (not (x == 10)) (is_free_of 10 rest) e s.last };
}
split_other x xs e (l ∷ lines) rest s = record {
  lines = (x ∷ l) ∷ lines;
  rest = rest;
  split = record {
    text = ap (λ ys. x ∷ ys) s.text;
    each = front_free (not (x == 10)) (is_free_of 10 l) _ e s.each;
    last = s.last;
  };
}
  where
    front_free : (a b c : Bool) → a ≡ true → (b && c) ≡ true → ((a && b) && c) ≡ true
    front_free true b c e p = p
    front_free false b c e p = Prim.cc e

pub split_of : (bytes : List ℕ) → HasSplit bytes
split_of [] = record { lines = []; rest = []; split = record { text = refl; each = refl; last = refl } }
split_of (x ∷ xs) = let s = split_of xs in by_test (x == 10) refl s
  where
    by_test : (b : Bool) → b ≡ (x == 10) → HasSplit xs → HasSplit (x ∷ xs)
    by_test true e s = let is : x ≡ 10 = grind (arith, nat_tests) in split_feed x xs is s
    by_test false e s = split_other x xs (ap not (sym e)) s.lines s.rest s.split

pub all_lines : (bytes : List ℕ) → (lines : List (List ℕ)) × HasLines bytes lines
all_lines bytes = let s = split_of bytes in (s.lines ++ last_line s.rest, record { ended = s.lines; rest = s.rest; split = s.split; all = refl })

-- lines, and then the lines of what stands behind them
pub lines_behind : (lines : List (List ℕ)) (bytes : List ℕ) (others : List (List ℕ)) → IsTrue (list_all (is_free_of 10) lines) → HasLines bytes others → HasLines (ended_lines lines ++ bytes) (lines ++ others)
lines_behind lines bytes others each h = record {
  ended = lines ++ h.ended;
  rest = h.rest;
  split = record {
    text =
        ap (λ xs. ended_lines lines ++ xs) h.split.text
        ∙ sym (append_assoc (ended_lines lines) (ended_lines h.ended) h.rest)
        ∙ ap (λ xs. xs ++ h.rest) (sym (ended-append lines h.ended));
    each = all_free lines h.ended each h.split.each;
    last = h.split.last;
  };
  all = ap (λ ls. lines ++ ls) h.all ∙ sym (append_assoc lines h.ended (last_line h.rest));
}

last_some : (rest more : List ℕ) → rest ≢ [] → last_line (rest ++ more) ≡ (rest ++ more) ∷ []
last_some [] more some = absurd (some refl)
last_some (b ∷ bytes) more some = refl

pub last_is : (rest : List ℕ) → rest ≢ [] → last_line rest ≡ rest ∷ []
last_is [] some = absurd (some refl)
last_is (b ∷ bytes) some = refl

-- the first line begins with what stands before the first LF
pub record IsBegun (part bytes : List ℕ) : Type 0 where
  pub more : List ℕ
  pub after : List (List ℕ)
  pub has_lines : HasLines (part ++ bytes) ((part ++ more) ∷ after)

begun_split : (part bytes : List ℕ) (ended : List (List ℕ)) (rest : List ℕ) → IsTrue (is_free_of 10 part) → part ≢ [] → Splits bytes ended rest → IsBegun part bytes
begun_split part bytes [] rest free some s = record {
  more = rest;
  after = [];
  has_lines = record {
    ended = [];
    rest = part ++ rest;
    split = record { text = ap (λ xs. part ++ xs) s.text; each = refl; last = free_joined 10 part rest free s.last };
    all = sym (last_some part rest some);
  };
}
begun_split part bytes (l ∷ ls) rest free some s = record {
  more = l;
  after = ls ++ last_line rest;
  has_lines = record {
    ended = (part ++ l) ∷ ls;
    rest = rest;
    split = record {
      text = ap (λ xs. part ++ xs) s.text ∙ regroup part l (ended_lines ls) rest;
      each = first_free (is_free_of 10 l) (list_all (is_free_of 10) ls) (is_free_of 10 (part ++ l)) (λ e. free_joined 10 part l free e) s.each;
      last = s.last;
    };
    all = refl;
  };
}
  where
    regroup : (a b c d : List ℕ) → a ++ (((b ++ 10 ∷ []) ++ c) ++ d) ≡ (((a ++ b) ++ 10 ∷ []) ++ c) ++ d
    regroup a b c d = simp append_assoc

    first_free : (a b c : Bool) → (a ≡ true → c ≡ true) → (a && b) ≡ true → (c && b) ≡ true
    first_free true b c f e = joined_true c b (f refl) e
    first_free false b c f e = absurd (Prim.cc e)

pub record IsWrongStart (bytes : List ℕ) : Type 0 where
  pub line : List ℕ
  pub after : List (List ℕ)
  pub has_lines : HasLines bytes (line ∷ after)
  pub wrong : IsRightLine line → ⊥

-- bytes that begin wrong have a wrong first line, whatever stands behind them
pub wrong_start : (bytes more : List ℕ) → BeginsWrong bytes → IsWrongStart (bytes ++ more)
wrong_start bytes more (inl w) =
    let others = all_lines (w.1 ++ more) in
    let text : bytes ++ more ≡ ended_lines (w.0 ∷ []) ++ (w.1 ++ more) = ap (λ xs. xs ++ more) w.2 ∙ regroup w.0 w.1 more in
    record {
      line = w.0;
      after = others.0;
      has_lines = subst (λ (xs : List ℕ). HasLines xs (w.0 ∷ others.0)) (sym text) (lines_behind (w.0 ∷ []) (w.1 ++ more) others.0 (joined_true (is_free_of 10 w.0) true w.3 refl) others.1);
      wrong = w.4;
    }
  where
    regroup : (a b c : List ℕ) → (a ++ 10 ∷ b) ++ c ≡ ((a ++ 10 ∷ []) ++ []) ++ (b ++ c)
    regroup a b c = simp (append_assoc, append-nil)
wrong_start bytes more (inr w) =
    let s = split_of more in
    let some : bytes ≢ [] = λ e. w.1 [] (inl (ap (λ xs. is_skipped (xs ++ [])) e)) in
    let b = begun_split bytes more s.lines s.rest w.0 some s.split in
    record { line = bytes ++ b.more; after = b.after; has_lines = b.has_lines; wrong = w.1 b.more }

-- behind right lines stands a wrong one
pub wrong_behind : (whole : List ℕ) (lines : List (List ℕ)) (rest more : List ℕ) → whole ≡ (ended_lines lines ++ rest) ++ more → IsTrue (list_all (is_free_of 10) lines) → AreRightLines lines → BeginsWrong rest
    → IsWrongBehind whole lines
wrong_behind whole lines rest more text each right wrong =
    let w = wrong_start rest more wrong in
    record {
      line = w.line;
      after = w.after;
      has_lines = subst (λ (xs : List ℕ). HasLines xs (lines ++ w.line ∷ w.after)) (sym (text ∙ append_assoc (ended_lines lines) rest more))
          (lines_behind lines (rest ++ more) (w.line ∷ w.after) each w.has_lines);
      earlier = right;
      wrong = w.wrong;
    }

pub right_append : (xs ys : List (List ℕ)) → AreRightLines xs → AreRightLines ys → AreRightLines (xs ++ ys)
right_append [] ys p q = q
right_append (x ∷ xs) ys p q = (p.0, right_append xs ys p.1 q)

-- bytes that begin with lines, behind others
pub text_behind : (input : List ℕ) (lines : List (List ℕ)) (part piece : List ℕ) (others : List (List ℕ)) (rest : List ℕ) → Splits input lines part → part ++ piece ≡ ended_lines others ++ rest
    → input ++ piece ≡ ended_lines (lines ++ others) ++ rest
text_behind input lines part piece others rest s text =
    ap (λ xs. xs ++ piece) s.text
    ∙ append_assoc (ended_lines lines) part piece
    ∙ ap (λ xs. ended_lines lines ++ xs) text
    ∙ sym (append_assoc (ended_lines lines) (ended_lines others) rest)
    ∙ ap (λ xs. xs ++ rest) (sym (ended-append lines others))

pub begins_behind : (input : List ℕ) (lines : List (List ℕ)) (part piece : List ℕ) (others : List (List ℕ)) → Splits input lines part → BeginsWith (part ++ piece) others → BeginsWith (input ++ piece) (lines ++ others)
begins_behind input lines part piece others s b = record {
  rest = b.rest;
  text = text_behind input lines part piece others b.rest s b.text;
  each = all_free lines others s.each b.each;
}

-- ---- an input has one list of lines

line_first : (line : List ℕ) (lines : List (List ℕ)) (rest : List ℕ) → ended_lines (line ∷ lines) ++ rest ≡ line ++ 10 ∷ (ended_lines lines ++ rest)
line_first line lines rest = append_assoc (line ++ 10 ∷ []) (ended_lines lines) rest ∙ append_assoc line (10 ∷ []) (ended_lines lines ++ rest)

never_free : (rest line : List ℕ) (lines : List (List ℕ)) (other : List ℕ) → IsTrue (is_free_of 10 rest) → rest ≡ ended_lines (line ∷ lines) ++ other → ⊥
never_free rest line lines other free e = not_free 10 line (ended_lines lines ++ other) (subst (λ (xs : List ℕ). IsTrue (is_free_of 10 xs)) (e ∙ line_first line lines other) free)

same_split : (xs ys : List (List ℕ)) (r s : List ℕ) → IsTrue (list_all (is_free_of 10) xs) → IsTrue (is_free_of 10 r) → IsTrue (list_all (is_free_of 10) ys) → IsTrue (is_free_of 10 s) → ended_lines xs ++ r ≡ ended_lines ys ++ s → (xs ≡ ys) × (r ≡ s)
same_split [] [] r s fx fr fy fs e = (refl, e)
same_split [] (y ∷ ys) r s fx fr fy fs e = absurd (never_free r y ys s fr e)
same_split (x ∷ xs) [] r s fx fr fy fs e = absurd (never_free s x xs r fs (sym e))
same_split (x ∷ xs) (y ∷ ys) r s fx fr fy fs e =
    let f = both_true (is_free_of 10 x) (list_all (is_free_of 10) xs) fx in
    let g = both_true (is_free_of 10 y) (list_all (is_free_of 10) ys) fy in
    let c = cut_once 10 x y (ended_lines xs ++ r) (ended_lines ys ++ s) f.0 g.0 (sym (line_first x xs r) ∙ e ∙ line_first y ys s) in
    let rest = same_split xs ys r s f.1 fr g.1 fs c.1 in
    ((λ i. c.0 i ∷ rest.0 i), rest.1)

pub lines_are_one : (input : List ℕ) (lines others : List (List ℕ)) → HasLines input lines → HasLines input others → lines ≡ others
lines_are_one input lines others a b =
    let s = same_split a.ended b.ended a.rest b.rest a.split.each a.split.last b.split.each b.split.last (sym a.split.text ∙ b.split.text) in
    a.all ∙ (λ i. s.0 i ++ last_line (s.1 i)) ∙ sym b.all
