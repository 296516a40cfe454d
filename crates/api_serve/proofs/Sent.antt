-- Lines that were served, and their replies written.
use Rattle.std.proofs.Common.{◌≡◌, ◌<◌, ◌++◌, [], ℕ, List, Result, Ok, Err, length, take, sym, ◌∙◌, ap, subst, arith}
use Rattle.std.proofs.lemmas.List.{take-take, length-take}
use Rattle.std.specs.Prelude.{OnOk, IfErr}
use Rattle.outside_io.specs.Told.{Writing, Takes, taken_then}
use Rattle.api_serve.specs.Session.{Service, Stage}
use Rattle.api_serve.specs.Lines.{Splits}
use Rattle.api_serve.specs.Piece.{TakesLines, TakesFirst, FindsWrong, StopsAt, TakesLast}
use Rattle.api_serve.specs.Sent.{ServesPiece, AnswersBefore, AnswersFirst, AnswersCut, EndsPiece, AnswersLast, AnswersLastCut}
use Rattle.api_serve.specs.Ends.{IsWriteEnd}
use Rattle.api_serve.proofs.Cuts.{take_all}
use Rattle.api_serve.specs.declared.run.RunHow.{RunHow}
use Rattle.api_serve.specs.declared.run.RunHow.TheVariants as ends
use Rattle.api_serve.specs.declared.run.Run.{Run}
use Rattle.api_serve.specs.declared.run.Stop.{Stop}
use Rattle.api_serve.specs.declared.run.Stop.TheVariants.{Wrong, NoMemory}

module _ (service : Service) (stage : Stage) (old : Run) (later : Stage) where
  first_of_lines : (new : Run) → TakesLines service stage old later new → TakesFirst service stage old later new
  first_of_lines new t = record {
    lines = t.lines;
    output = t.output;
    printed = length t.output;
    begins = record { rest = new.lines; text = t.split.text; each = t.split.each };
    served = t.served;
    written = t.written ∙ ap (λ xs. old.out.items ++ xs) (sym (take_all t.output));
  }

  first_of_stop : (new : Run) (stop : Stop) → StopsAt service stage old later new stop → TakesFirst service stage old later new
  first_of_stop new (Wrong number) w = record {
    lines = w.lines;
    output = w.output;
    printed = length w.output;
    begins = record { rest = w.rest; text = w.text; each = w.each };
    served = w.served;
    written = w.written ∙ ap (λ xs. old.out.items ++ xs) (sym (take_all w.output));
  }
  first_of_stop new NoMemory t = t

  -- however a piece was taken, some first lines were served
  pub first_of : (new : Run) (r : Result (Unit {0}) Stop) → OnOk r (TakesLines service stage old later new) → IfErr r (StopsAt service stage old later new) → TakesFirst service stage old later new
  first_of new (Ok u) ok err = first_of_lines new ok
  first_of new (Err stop) ok err = first_of_stop new stop err

  module _ (none : old.out.items ≡ []) where
    -- what was appended to nothing is all
    appended : (new : Run) (output : List ℕ) → new.out.items ≡ old.out.items ++ output → new.out.items ≡ output
    appended new output e = e ∙ ap (λ xs. xs ++ output) none

    pub sent_lines : (mid new : Run) (before after : Writing) → TakesLines service stage old later mid → Takes before mid.out.items after
        → new.lines ≡ mid.lines → new.out.items ≡ [] → new.count ≡ mid.count → ServesPiece service stage old later before after new
    sent_lines mid new before after t takes lines out count = record {
      lines = t.lines;
      output = t.output;
      split = subst (Splits old.lines t.lines) (sym lines) t.split;
      served = t.served;
      written = takes ∙ ap (taken_then before.taken) (appended mid t.output t.written);
      sent = out;
      counted = count ∙ t.counted;
    }

    pub sent_before : (mid : Run) (before after : Writing) (number : ℕ) → FindsWrong service stage old later mid number → Takes before mid.out.items after → AnswersBefore service stage old later before after number
    sent_before mid before after number w takes = record {
      lines = w.lines;
      output = w.output;
      rest = w.rest;
      text = w.text;
      each = w.each;
      wrong = w.wrong;
      number_is = w.number_is;
      served = w.served;
      written = takes ∙ ap (taken_then before.taken) (appended mid w.output w.written);
    }

    pub sent_first : (mid : Run) (before after : Writing) → TakesFirst service stage old later mid → Takes before mid.out.items after → AnswersFirst service stage old later before after
    sent_first mid before after t takes = record {
      lines = t.lines;
      output = t.output;
      count = t.printed;
      begins = t.begins;
      served = t.served;
      written = takes ∙ ap (taken_then before.taken) (appended mid (take t.printed t.output) t.written);
    }

    pub sent_cut : (mid : Run) (before after : Writing) (n : ℕ) → TakesFirst service stage old later mid → n < length mid.out.items → Takes before (take n mid.out.items) after → AnswersCut service stage old later before after
    sent_cut mid before after n t cut takes =
        let all = appended mid (take t.printed t.output) t.written in
        let short : n < length (take t.printed t.output) = subst (λ (xs : List ℕ). n < length xs) all cut in
        record {
          first = record {
            lines = t.lines;
            output = t.output;
            count = n;
            begins = t.begins;
            served = t.served;
            written = takes ∙ ap (λ xs. taken_then before.taken (take n xs)) all ∙ ap (taken_then before.taken) (take-take n t.printed t.output (omega (arith, short, length-take t.printed t.output)));
          };
          cut = omega (arith, short, length-take t.printed t.output);
        }

    -- a write was hindered
    pub sent_fault : (mid : Run) (before after : Writing) (how : RunHow) → TakesFirst service stage old later mid → (n : ℕ) × (n < length mid.out.items) × Takes before (take n mid.out.items) after → IsWriteEnd before after how
        → EndsPiece service stage old later before after how
    sent_fault mid before after (ends.WriteFault b a nothing) t cut fault = (fault, sent_cut mid before after cut.0 t cut.1 cut.2)
    sent_fault mid before after ends.Done t cut fault = absurd fault
    sent_fault mid before after (ends.ReadFault b a) t cut fault = absurd fault
    sent_fault mid before after ends.TooLong t cut fault = absurd fault
    sent_fault mid before after (ends.WrongLine number) t cut fault = absurd fault
    sent_fault mid before after ends.NoMemory t cut fault = absurd fault

    pub sent_last : (mid : Run) (before after : Writing) → TakesLast service stage old later mid → Takes before mid.out.items after → AnswersLast service stage old later before after
    sent_last mid before after t takes = record { output = t.output; served = t.served; written = takes ∙ ap (taken_then before.taken) (appended mid t.output t.written) }

    pub sent_last_cut : (mid : Run) (before after : Writing) (n : ℕ) → TakesLast service stage old later mid → n < length mid.out.items → Takes before (take n mid.out.items) after
        → AnswersLastCut service stage old later before after
    sent_last_cut mid before after n t cut takes =
        let all = appended mid t.output t.written in
        record {
          output = t.output;
          count = n;
          served = t.served;
          cut = subst (λ (xs : List ℕ). n < length xs) all cut;
          written = takes ∙ ap (λ xs. taken_then before.taken (take n xs)) all;
        }
