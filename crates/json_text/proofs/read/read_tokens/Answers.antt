use Rattle.std.proofs.Common.{◌≡◌, ◌+◌, ◌-◌, ◌<◌, length, Ok, sym, ap, ◌∙◌, arith, rules, subst}
use Rattle.std.specs.List.{prefix_len}
use Rattle.std.proofs.lemmas.List.{length-drop}
use Rattle.std.proofs.lemmas.List.Sums.{prefix_len-le-length}
use Rattle.json_tree.specs.View.{tree}
use Rattle.json_text.specs.Lex.{is_blank, tokens_from, token_at}
use Rattle.json_text.specs.Machine.{run, step, trees, refused}
use Rattle.json_text.specs.View.{token_of}
use Rattle.json_text.specs.BuilderState.{state_of, Makes}
use Rattle.json_text.proofs.AnswerSays.{refused_at}
use Rattle.json_text.proofs.Turns.{front, took_more, took_done, took_fault}
use Rattle.json_text.proofs.read.read_tokens.Goals as goal
use Rattle.json_text.proofs.read.read_tokens.Goals.{After-take, In-More}

took : (c : After-take) → (token_of c.in_ok-token.token, c.in_ok-token.after.now) ≡ token_at (front c.tokens.rest.now)
took c = c.in_ok-token.ensures ∙ ap token_at c.after_blanks-from.ensures

goes_on : (c : In-More) → (length c.in_ok-token.after.now < length c.tokens.rest.now)
    × (run trees (state_of c.tokens.builder) (tokens_from 0 (length c.args.text.now - length c.tokens.rest.now) c.tokens.rest.now)
    ≡ run trees (state_of c.take.new.self) (tokens_from 0 (length c.args.text.now - length c.tokens.rest.now + (length c.tokens.rest.now - length c.in_ok-token.after.now)) c.in_ok-token.after.now))
goes_on c =
    took_more trees (state_of c.tokens.builder) (length c.args.text.now - length c.tokens.rest.now) c.tokens.rest.now (token_of c.in_ok-token.token) c.in_ok-token.after.now
    (took (goal.at.tokens-smaller c).After-take) (state_of c.take.new.self)
    (subst (λ k. Makes (Ok k) (state_of c.take.new.self) (step trees (state_of c.tokens.builder) (token_of c.in_ok-token.token))) c.in-More.is c.in-Ok.ensures)

pub tokens-smaller : goal.tokens-smaller
tokens-smaller c = (goes_on c).0

pub tokens-preserved : goal.tokens-preserved
tokens-preserved c =
    let on = goes_on c in
    let at : length c.args.text.now - length c.in_ok-token.after.now ≡ length c.args.text.now - length c.tokens.rest.now + (length c.tokens.rest.now - length c.in_ok-token.after.now) = omega (arith, on.0, c.tokens.invariant.within) in record {
      utf8 = search rules;
      within = omega (arith, on.0, c.tokens.invariant.within);
      same = ap (λ n. run trees (state_of c.take.new.self) (tokens_from 0 n c.in_ok-token.after.now)) at ∙ sym on.1 ∙ c.tokens.invariant.same;
    }

pub returns-in-Done : goal.returns-in-Done
returns-in-Done c =
    sym c.tokens.invariant.same
    ∙ took_done trees (state_of c.tokens.builder) (length c.args.text.now - length c.tokens.rest.now) c.tokens.rest.now (token_of c.in_ok-token.token) c.in_ok-token.after.now
    (took (goal.at.returns-in-Done c).After-take) (tree c.in-Done.value)
    (subst (λ k. Makes (Ok k) (state_of c.take.new.self) (step trees (state_of c.tokens.builder) (token_of c.in_ok-token.token))) c.in-Done.is c.in-Ok.ensures)

pub returns-in-Err : goal.returns-in-Err
returns-in-Err c =
    let at : length c.args.text.now - length c.after_blanks-from.result.now ≡ length c.args.text.now - length c.tokens.rest.now + prefix_len is_blank c.tokens.rest.now =
    omega (arith, c.tokens.invariant.within, ap length c.after_blanks-from.ensures, length-drop (prefix_len is_blank c.tokens.rest.now) c.tokens.rest.now, prefix_len-le-length is_blank c.tokens.rest.now) in
    refused_at c.in-Err.refusal (length c.args.text.now - length c.after_blanks-from.result.now) c.fault_at.result c.in-Err.ensures c.fault_at.ensures
    (λ k h. sym c.tokens.invariant.same
    ∙ took_fault trees (state_of c.tokens.builder) (length c.args.text.now - length c.tokens.rest.now) c.tokens.rest.now (token_of c.in_ok-token.token) c.in_ok-token.after.now
    (took (goal.at.returns-in-Err c).After-take) k h ∙ ap (refused k) (sym at))
