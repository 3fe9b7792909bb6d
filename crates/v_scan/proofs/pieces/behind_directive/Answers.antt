use Rattle.std.proofs.Common.{sym, subst, ◌∙◌}
use Rattle.v_scan.specs.declared.pieces.Part.TheVariants.{Directive}
use Rattle.v_scan.specs.Reading.{IsFront}
use Rattle.v_scan.proofs.PieceLaws.{directive-front}
use Rattle.v_scan.proofs.pieces.behind_directive.Goals as goal

pub returns-clause-found : goal.returns-clause-found
returns-clause-found c =
    subst (λ l. IsFront l c.args.text.now Directive c.behind.result.now) (sym c.if-not-leading.false)
    (directive-front c.args.text.now c.in-Some.body.now c.behind.result.now c.in-Some.ensures.found (sym c.ends_word.ensures ∙ c.if-not-ends_word.false) c.behind.ensures)
