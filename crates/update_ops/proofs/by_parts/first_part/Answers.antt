use Rattle.std.proofs.Common.{◌∷◌, ap₂, sym, ◌∙◌, lit<, nat_eq}
use Rattle.std.proofs.lemmas.List.Splits.{slice_split_first}
use Rattle.doc_paths.specs.Text.{parts}
use Rattle.doc_paths.proofs.Parts.{whole_part}
use Rattle.update_ops.proofs.by_parts.first_part.Goals as goal

pub returns-in-Some-clause-parts : goal.returns-in-Some-clause-parts
returns-in-Some-clause-parts c =
    let e = c.in-Some.ensures.byte (lit< tt) (λ w o h. h) in
    slice_split_first (λ b. nat_eq b 46) c.args.text.now 0 e.2 ∙ ap₂ (λ a b. a ∷ parts b) (sym e.0) (sym e.1)

pub returns-in-None-clause-parts : goal.returns-in-None-clause-parts
returns-in-None-clause-parts c = whole_part c.args.text.now (c.in-None.ensures.byte (lit< tt) (λ w o h. h))
