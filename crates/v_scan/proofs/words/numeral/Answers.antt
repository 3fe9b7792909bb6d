use Rattle.std.proofs.Common.{sym, ◌∙◌}
use Rattle.v_scan.proofs.PieceLaws.{reads-number, no-number}
use Rattle.v_scan.proofs.words.numeral.Goals as goal

pub returns-in-Ok-Some-default-clause-found : goal.returns-in-Ok-Some-default-clause-found
returns-in-Ok-Some-default-clause-found c =
    let arm = c.in-Ok-Some-default in
    reads-number c.args.text.now c.args.first c.args.rest.now arm.back.now (arm.value, arm.form) c.requires.begins c.requires.number (sym arm.ensures.0 ∙ arm.field-0-0-is) arm.ensures.1

pub returns-in-Ok-None-default-clause-none : goal.returns-in-Ok-None-default-clause-none
returns-in-Ok-None-default-clause-none c =
    let arm = c.in-Ok-None-default in
    no-number c.args.place c.args.text.now c.args.first c.args.rest.now c.requires.begins c.requires.number (sym arm.ensures.0 ∙ arm.field-0-0-is)
