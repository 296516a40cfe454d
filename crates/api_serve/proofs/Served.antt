-- Lines served one behind the other.
use Rattle.std.proofs.Common.{◌≡◌, ◌++◌, ◌∷◌, [], ℕ, List, true, IsTrue, refl, sym, ◌∙◌, ap, subst, append_assoc, inl, inr}
use Rattle.std.proofs.lemmas.List.{append-nil}
use Rattle.std.proofs.lemmas.List.Folds.{list_all-append}
use Rattle.std.specs.List.{list_all}
use Rattle.api_serve.specs.Session.{Service, Stage, Makes}
use Rattle.api_serve.specs.Separated.{is_free_of}
use Rattle.api_serve.specs.Lines.{ended_lines, Splits}
use Rattle.api_serve.specs.Request.{Asks, AskFor, AreRightLines, is_skipped, parts_of}
use Rattle.api_serve.specs.Run.{Serves}
use Rattle.cmd_tasks.specs.Session.{Exchange}
use Rattle.api_serve.specs.Answered.{IsAskedBy}
use Rattle.reply_env.specs.Reply.{reply_text}
use Rattle.reply_env.specs.declared.reply.Reply.{Reply}
use Rattle.reply_env.specs.declared.request.Request.{Request}
use Rattle.api_serve.proofs.Makes.{Makes-none, Makes-append, AreAsked-append, lines-append}
use Rattle.api_serve.proofs.Cuts.{joined_true}

-- lines ask for requests, and further lines for further ones
asked_append : (lines others : List (List ℕ)) (rs qs : List Request) → AskFor lines rs → AskFor others qs → AskFor (lines ++ others) (rs ++ qs)
asked_append [] others rs qs p q = subst (λ (xs : List Request). AskFor others (xs ++ qs)) (sym p) q
asked_append (l ∷ lines) others rs qs (inl p) q = inl (p.0, asked_append lines others rs qs p.1 q)
asked_append (l ∷ lines) others rs qs (inr p) q = inr (p.0, p.1 ++ qs, p.2, ap (λ xs. xs ++ qs) p.3, asked_append lines others p.1 qs p.4 q)

asked_right : (lines : List (List ℕ)) (rs : List Request) → AskFor lines rs → AreRightLines lines
asked_right [] rs p = tt
asked_right (l ∷ lines) rs (inl p) = (inl p.0, asked_right lines rs p.1)
asked_right (l ∷ lines) rs (inr p) = (inr (parts_of p.0, p.2), asked_right lines p.1 p.4)

-- no line
pub Serves-none : (service : Service) (stage : Stage) → Serves service stage [] [] stage
Serves-none service stage = record { requests = []; exchanges = []; requested = refl; asked = tt; made = Makes-none service stage; text = refl }

-- a line that asks for nothing
pub Serves-skipped : (service : Service) (stage : Stage) (line : List ℕ) → IsTrue (is_skipped line) → Serves service stage (line ∷ []) [] stage
Serves-skipped service stage line skipped = record { requests = []; exchanges = []; requested = inl (skipped, refl); asked = tt; made = Makes-none service stage; text = refl }

-- a line whose request was served
pub Serves-request : (service : Service) (stage : Stage) (line : List ℕ) (request : Request) (x : Exchange) (reply : Reply) (after : Stage) → Asks line request → x.reply ≡ reply → IsAskedBy service.keyspace request x.asking
    → Makes service stage (x ∷ []) after → Serves service stage (line ∷ []) (reply_text reply ++ 10 ∷ []) after
Serves-request service stage line request x reply after asks is asked made = record {
  requests = request ∷ [];
  exchanges = x ∷ [];
  requested = inr (request, [], asks, refl, refl);
  asked = (asked, tt);
  made = made;
  text = ap (λ r. reply_text r ++ 10 ∷ []) (sym is) ∙ sym (append-nil (reply_text x.reply ++ 10 ∷ []));
}

-- lines and then lines
pub Serves-append : (service : Service) (before : Stage) (lines : List (List ℕ)) (output : List ℕ) (between : Stage) (others : List (List ℕ)) (more : List ℕ) (after : Stage)
    → Serves service before lines output between → Serves service between others more after → Serves service before (lines ++ others) (output ++ more) after
Serves-append service before lines output between others more after s t = record {
  requests = s.requests ++ t.requests;
  exchanges = s.exchanges ++ t.exchanges;
  requested = asked_append lines others s.requests t.requests s.requested t.requested;
  asked = AreAsked-append service.keyspace s.requests t.requests s.exchanges t.exchanges s.asked t.asked;
  made = Makes-append service before between after s.exchanges t.exchanges s.made t.made;
  text = (λ i. s.text i ++ t.text i) ∙ sym (lines-append s.exchanges t.exchanges);
}

-- lines that were served are of their form
pub lines_right : (service : Service) (before : Stage) (lines : List (List ℕ)) (output : List ℕ) (after : Stage) → Serves service before lines output after → AreRightLines lines
lines_right service before lines output after s = asked_right lines s.requests s.requested

pub ended-append : (xs ys : List (List ℕ)) → ended_lines (xs ++ ys) ≡ ended_lines xs ++ ended_lines ys
ended-append [] ys = refl
ended-append (x ∷ xs) ys = ap (λ zs. (x ++ 10 ∷ []) ++ zs) (ended-append xs ys) ∙ sym (append_assoc (x ++ 10 ∷ []) (ended_lines xs) (ended_lines ys))

pub all_free : (xs ys : List (List ℕ)) → IsTrue (list_all (is_free_of 10) xs) → IsTrue (list_all (is_free_of 10) ys) → IsTrue (list_all (is_free_of 10) (xs ++ ys))
all_free xs ys p q = list_all-append (is_free_of 10) xs ys ∙ joined_true (list_all (is_free_of 10) xs) (list_all (is_free_of 10) ys) p q

-- one line more, and what stands behind it
pub ended_more : (lines : List (List ℕ)) (line rest : List ℕ) → ended_lines (lines ++ line ∷ []) ++ rest ≡ ended_lines lines ++ (line ++ 10 ∷ rest)
ended_more lines line rest = ap (λ xs. xs ++ rest) (ended-append lines (line ∷ [])) ∙ regroup (ended_lines lines) line rest
  where
    regroup : (a b c : List ℕ) → (a ++ ((b ++ 10 ∷ []) ++ [])) ++ c ≡ a ++ (b ++ 10 ∷ c)
    regroup a b c = simp (append_assoc, append-nil)

pub each_more : (lines : List (List ℕ)) (line : List ℕ) → IsTrue (list_all (is_free_of 10) lines) → IsTrue (is_free_of 10 line) → IsTrue (list_all (is_free_of 10) (lines ++ line ∷ []))
each_more lines line each free = all_free lines (line ∷ []) each (joined_true (is_free_of 10 line) true free refl)

-- bytes behind a rest are split with it
pub Splits-append : (bytes : List ℕ) (lines : List (List ℕ)) (rest more : List ℕ) (others : List (List ℕ)) (last : List ℕ) → Splits bytes lines rest → Splits (rest ++ more) others last
    → Splits (bytes ++ more) (lines ++ others) last
Splits-append bytes lines rest more others last s t = record {
  text =
      ap (λ xs. xs ++ more) s.text
      ∙ append_assoc (ended_lines lines) rest more
      ∙ ap (λ xs. ended_lines lines ++ xs) t.text
      ∙ sym (append_assoc (ended_lines lines) (ended_lines others) last)
      ∙ ap (λ xs. xs ++ last) (sym (ended-append lines others));
  each = all_free lines others s.each t.each;
  last = t.last;
}
