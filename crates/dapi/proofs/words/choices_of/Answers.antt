use Rattle.std.proofs.Common.{ap, string_bytes, Err}
use Rattle.dapi.specs.declared.words.WordFault.{WordFault}
use Rattle.dapi.proofs.Choosing.{option_chosen, option_refused}
use Rattle.dapi.proofs.words.choices_of.Goals as goal

pub returns-in-Err-clause-err : goal.returns-in-Err-clause-err
returns-in-Err-clause-err c =
    option_refused string_bytes c.args.options.now c.options.option-index c.option-item.result c.as_str.result.now c.options.choices c.options-test.true c.option-item.is c.as_str.ensures.value c.options.invariant
    c.in-Err.fault (λ usage. c.in-Err.ensures.usage (ap (λ (f : WordFault). Err f) usage))

pub options-preserved : goal.options-preserved
options-preserved c =
    option_chosen string_bytes c.args.options.now c.options.option-index c.option-item.result c.as_str.result.now c.options.choices c.options-test.true c.option-item.is c.as_str.ensures.value c.options.invariant
    c.choose.new.choices c.in-Ok.ensures.ok
