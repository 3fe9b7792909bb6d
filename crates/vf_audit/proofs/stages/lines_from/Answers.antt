-- The lines that are left.
use Rattle.std.proofs.Common.{◌-◌, ◌∙◌, length, drop, ap, arith, length-drop}
use Rattle.std.proofs.lemmas.List.{take_all}
use Rattle.text_lines.specs.Plain.{plain_texts}
use Rattle.cert_laws.specs.Valid.{lines_said}
use Rattle.vf_audit.proofs.Staging.{drop-said}
use Rattle.vf_audit.proofs.stages.lines_from.Goals as goal

pub returns-clause-said : goal.returns-clause-said
returns-clause-said c =
    let lines = c.args.lines.now in
    ap (λ l. lines_said (plain_texts l)) (take_all (length lines - c.args.count) (drop c.args.count lines) (omega (arith, length-drop c.args.count lines))) ∙ drop-said c.args.count lines
