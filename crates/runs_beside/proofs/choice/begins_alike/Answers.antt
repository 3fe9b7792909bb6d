-- The first step is compared.
use Rattle.std.proofs.Common.{◌≡◌, true, false, sym, ◌∙◌}
use Rattle.runs_beside.specs.Choice.{HasNone, Differs}
use Rattle.runs_beside.proofs.choice.begins_alike.Goals as goal

pub returns-in-Some-clause-alike : goal.returns-in-Some-clause-alike
returns-in-Some-clause-alike c = λ same. record { one = c.in-Some.step.now; at = sym c.in-Some.ensures; same = λ code at. c.stands_at.ensures.activity same code at }

pub returns-in-Some-clause-otherwise : goal.returns-in-Some-clause-otherwise
returns-in-Some-clause-otherwise c = λ no.
    Differs c.in-Some.step.now (sym c.in-Some.ensures) (λ code at places stands same. let yes : true ≡ false = sym ((c.stands_at.ensures.equal code at places stands).1 same) ∙ no in cc)

pub returns-in-None-clause-alike : goal.returns-in-None-clause-alike
returns-in-None-clause-alike c = λ same. absurd (let no : false ≡ true = same in cc)

pub returns-in-None-clause-otherwise : goal.returns-in-None-clause-otherwise
returns-in-None-clause-otherwise c = λ no. HasNone (sym c.in-None.ensures)
