-- The bytes that wait, served line by line.
use Rattle.std.proofs.Common.{◌≡◌, ◌≤◌, ◌+◌, ◌++◌, ◌∷◌, [], ℕ, List, Option, IsTrue, length, take, drop, refl, sym, ◌∙◌, ap, subst, append_assoc, arith, length-append, inl, inr}
use Rattle.std.proofs.lemmas.List.{append-nil}
use lib.Seq.{take-append_seam}
use Rattle.std.specs.List.{list_all}
use Rattle.api_serve.specs.Session.{Service, Stage}
use Rattle.api_serve.specs.Separated.{is_free_of}
use Rattle.api_serve.specs.Lines.{ended_lines, IsLineLen, last_line}
use Rattle.api_serve.specs.Request.{IsRightLine, IsHopeless}
use Rattle.api_serve.specs.Run.{Serves}
use Rattle.api_serve.specs.One.{CutShort}
use Rattle.api_serve.specs.Shown.{service_of}
use Rattle.store_core.specs.State.{State}
use Rattle.store_core.specs.Store.{Stored, SameBase}
use Rattle.api_serve.specs.Piece.{TakesLines, TakesFirst, FindsWrong, BeginsWrong, TakesLast, IsShortLast}
use Rattle.api_serve.specs.declared.run.Run.{Run}
use Rattle.api_serve.proofs.Cuts.{take_all}
use Rattle.api_serve.proofs.Served.{Serves-none, Serves-append, ended_more, each_more}

-- some lines were served, and the rest waits
pub record IsPartway (service : Service) (stage : Stage) (old : Run) (between : Stage) (now : Run) : Type 0 where
  pub lines : List (List ℕ)
  pub output : List ℕ
  pub text : old.lines ≡ ended_lines lines ++ now.lines
  pub each : IsTrue (list_all (is_free_of 10) lines)
  pub served : Serves service stage lines output between
  pub written : now.out.items ≡ old.out.items ++ output
  pub counted : now.count ≡ old.count + length lines
  pub room : now.count + length now.lines ≤ old.count + length old.lines

pub partway_start : (service : Service) (stage : Stage) (old : Run) → IsPartway service stage old stage old
partway_start service stage old = record {
  lines = [];
  output = [];
  text = refl;
  each = refl;
  served = Serves-none service stage;
  written = sym (append-nil old.out.items);
  counted = omega arith;
  room = omega arith;
}

module _ (service : Service) (stage : Stage) (old : Run) (between : Stage) (now : Run) (way : IsPartway service stage old between now) where
  more_served : (len : ℕ) (more : List ℕ) (later : Stage) → Serves service between (take len now.lines ∷ []) more later → Serves service stage (way.lines ++ take len now.lines ∷ []) (way.output ++ more) later
  more_served len more later served = Serves-append service stage way.lines way.output between (take len now.lines ∷ []) more later way.served served

  pub partway_line : (len : ℕ) (more : List ℕ) (later : Stage) (new : Run) → IsLineLen now.lines len → Serves service between (take len now.lines ∷ []) more later
      → new.lines ≡ drop (len + 1) now.lines → new.out.items ≡ now.out.items ++ more → new.count ≡ now.count + 1 → IsPartway service stage old later new
  partway_line len more later new is served rest out count =
      let line = take len now.lines in
      let cut : now.lines ≡ line ++ 10 ∷ new.lines = is.text ∙ ap (λ xs. line ++ 10 ∷ xs) (sym rest) in
      let behind : length (10 ∷ new.lines) ≡ length new.lines + 1 = omega arith in
      let size : length now.lines ≡ length line + length (10 ∷ new.lines) = ap length cut ∙ length-append line (10 ∷ new.lines) in
      let room = way.room in
      record {
        lines = way.lines ++ line ∷ [];
        output = way.output ++ more;
        text = way.text ∙ ap (λ xs. ended_lines way.lines ++ xs) cut ∙ sym (ended_more way.lines line new.lines);
        each = each_more way.lines line way.each is.free;
        served = more_served len more later served;
        written = out ∙ ap (λ xs. xs ++ more) way.written ∙ append_assoc old.out.items way.output more;
        counted = omega (arith, count, way.counted, length-append way.lines (line ∷ []));
        room = omega (arith, count, size, behind, room);
      }

  pub partway_end : (new : Run) → IsTrue (is_free_of 10 now.lines) → new.lines ≡ now.lines → new.out.items ≡ now.out.items → new.count ≡ now.count → TakesLines service stage old between new
  partway_end new free lines out count = record {
    lines = way.lines;
    output = way.output;
    split = record { text = way.text ∙ ap (λ xs. ended_lines way.lines ++ xs) (sym lines); each = way.each; last = ap (is_free_of 10) lines ∙ free };
    served = way.served;
    written = out ∙ way.written;
    counted = count ∙ way.counted;
  }

  partway_first : (new : Run) → new.out.items ≡ now.out.items → TakesFirst service stage old between new
  partway_first new out = record {
    lines = way.lines;
    output = way.output;
    printed = length way.output;
    begins = record { rest = now.lines; text = way.text; each = way.each };
    served = way.served;
    written = out ∙ way.written ∙ ap (λ xs. old.out.items ++ xs) (sym (take_all way.output));
  }

  -- memory ran out before the next line's request was served, or before its reply was printed
  pub partway_short : (later : Stage) (new : Run) (len : ℕ) → IsLineLen now.lines len → CutShort service (take len now.lines) between later → new.out.items ≡ now.out.items → TakesFirst service stage old later new
  partway_short later new len is (inl same) out = subst (λ (s : Stage). TakesFirst service stage old s new) (sym same) (partway_first new out)
  partway_short later new len is (inr served) out =
      let line = take len now.lines in
      record {
        lines = way.lines ++ line ∷ [];
        output = way.output ++ served.0;
        printed = length way.output;
        begins = record {
          rest = drop (len + 1) now.lines;
          text = way.text ∙ ap (λ xs. ended_lines way.lines ++ xs) is.text ∙ sym (ended_more way.lines line (drop (len + 1) now.lines));
          each = each_more way.lines line way.each is.free;
        };
        served = more_served len served.0 later served.1;
        written = out ∙ way.written ∙ ap (λ xs. old.out.items ++ xs) (sym (take-append_seam way.output served.0));
      }

  partway_stops : (later : Stage) (new : Run) (number : ℕ) → later ≡ between → BeginsWrong now.lines → new.out.items ≡ now.out.items → number ≡ now.count + 1 → FindsWrong service stage old later new number
  partway_stops later new number same wrong out is = subst (λ (s : Stage). FindsWrong service stage old s new number) (sym same) (record {
    lines = way.lines;
    output = way.output;
    rest = now.lines;
    text = way.text;
    each = way.each;
    wrong = wrong;
    number_is = is ∙ ap (λ n. n + 1) way.counted;
    served = way.served;
    written = out ∙ way.written;
  })

  pub partway_wrong : (later : Stage) (new : Run) (number len : ℕ) → later ≡ between → IsLineLen now.lines len → (IsRightLine (take len now.lines) → ⊥) → new.out.items ≡ now.out.items → number ≡ now.count + 1
      → FindsWrong service stage old later new number
  partway_wrong later new number len same is wrong out number_is = partway_stops later new number same (inl (take len now.lines, drop (len + 1) now.lines, is.text, is.free, wrong)) out number_is

  pub partway_hopeless : (new : Run) (number : ℕ) → IsTrue (is_free_of 10 now.lines) → IsHopeless now.lines → new.out.items ≡ now.out.items → number ≡ now.count + 1
      → FindsWrong service stage old between new number
  partway_hopeless new number free hopeless out number_is = partway_stops between new number refl (inr (free, hopeless)) out number_is

-- a piece for which memory was wanting
pub unfed : (service : Service) (stage : Stage) (old new : Run) → new.out.items ≡ old.out.items → TakesFirst service stage old stage new
unfed service stage old new out = record {
  lines = [];
  output = [];
  printed = 0;
  begins = record { rest = old.lines; text = refl; each = refl };
  served = Serves-none service stage;
  written = out ∙ sym (append-nil old.out.items);
}

-- at the input's end nothing waits, or one line
pub last_none : (service : Service) (stage : Stage) (old new : Run) → old.lines ≡ [] → new.out.items ≡ old.out.items → TakesLast service stage old stage new
last_none service stage old new none out = record {
  output = [];
  served = subst (λ (xs : List ℕ). Serves service stage (last_line xs) [] stage) (sym none) (Serves-none service stage);
  written = out ∙ sym (append-nil old.out.items);
}

last_as_line : (bytes : List ℕ) → (length bytes ≡ 0 → ⊥) → last_line bytes ≡ bytes ∷ []
last_as_line [] some = absurd (some refl)
last_as_line (b ∷ bytes) some = refl

pub last_served : (service : Service) (stage : Stage) (old : Run) (later : Stage) (new : Run) (output : List ℕ) → (length old.lines ≡ 0 → ⊥) → Serves service stage (old.lines ∷ []) output later
    → new.out.items ≡ old.out.items ++ output → TakesLast service stage old later new
last_served service stage old later new output some served out = record {
  output = output;
  served = subst (λ (ls : List (List ℕ)). Serves service stage ls output later) (sym (last_as_line old.lines some)) served;
  written = out;
}

pub last_short : (service : Service) (stage : Stage) (old : Run) (later : Stage) (new : Run) → (length old.lines ≡ 0 → ⊥) → CutShort service old.lines stage later → new.out.items ≡ old.out.items
    → IsShortLast service stage old later new
last_short service stage old later new some (inl same) out = record { served = inl same; written = out }
last_short service stage old later new some (inr served) out = record {
  served = inr (served.0, subst (λ (ls : List (List ℕ)). Serves service stage ls served.0 later) (sym (last_as_line old.lines some)) served.1);
  written = out;
}

pub length_none : (xs : List ℕ) → length xs ≡ 0 → xs ≡ []
length_none [] e = refl
length_none (x ∷ xs) e = absurd (omega arith)

-- a line that was served is the front of the bytes that waited
pub served_front : (keyspace : List ℕ) (start now : Option State) (number : ℕ) (stage : Stage) (waiting same line : List ℕ) (len : ℕ) (output : List ℕ) (later : Stage) → now ≡ start → same ≡ waiting → line ≡ take len same
    → Serves (service_of keyspace now number) stage (line ∷ []) output later → Serves (service_of keyspace start number) stage (take len waiting ∷ []) output later
served_front keyspace start now number stage waiting same line len output later told is front served =
    subst (λ (s : Option State). Serves (service_of keyspace s number) stage (take len waiting ∷ []) output later) told
    (subst (λ (xs : List ℕ). Serves (service_of keyspace now number) stage (xs ∷ []) output later) (front ∙ ap (take len) is) served)

pub short_front : (keyspace : List ℕ) (start now : Option State) (number : ℕ) (stage : Stage) (waiting same line : List ℕ) (len : ℕ) (later : Stage) → now ≡ start → same ≡ waiting → line ≡ take len same
    → CutShort (service_of keyspace now number) line stage later → CutShort (service_of keyspace start number) (take len waiting) stage later
short_front keyspace start now number stage waiting same line len later told is front (inl kept) = inl kept
short_front keyspace start now number stage waiting same line len later told is front (inr served) = inr (served.0, served_front keyspace start now number stage waiting same line len served.0 later told is front served.1)

-- two calls in turn leave the base
pub same_base : {K : Type 0} (a b c : Stored K) → SameBase a b → SameBase b c → SameBase a c
same_base a b c p q = (q.0 ∙ p.0, q.1 ∙ p.1, q.2 ∙ p.2)

pub served_as : (service : Service) (stage : Stage) (output : List ℕ) (later : Stage) (line bytes : List ℕ) → line ≡ bytes → Serves service stage (line ∷ []) output later → Serves service stage (bytes ∷ []) output later
served_as service stage output later line bytes is h = subst (λ (xs : List ℕ). Serves service stage (xs ∷ []) output later) is h

pub short_as : (service : Service) (stage later : Stage) (line bytes : List ℕ) → line ≡ bytes → CutShort service line stage later → CutShort service bytes stage later
short_as service stage later line bytes is h = subst (λ (xs : List ℕ). CutShort service xs stage later) is h
