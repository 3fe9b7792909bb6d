-- A copy of the state, where runs are noted.
use Rattle.std.proofs.Common.{rules, ◌≡◌, ◌∙◌, true, false, refl, sym}
use Rattle.machine.proofs.runs.state_before.Goals as goal

pub returns-then-not-noting-clause-stands : goal.returns-then-not-noting-clause-stands
returns-then-not-noting-clause-stands c =
    let off : c.args.noting ≡ false = search (rules, c.if-not-noting.true) in
    λ on. absurd (let differs : true ≡ false = sym on ∙ off in cc)

pub returns-clause-noted : goal.returns-clause-noted
returns-clause-noted c = λ some. search (rules, c.if-not-noting.false)

pub returns-clause-stands : goal.returns-clause-stands
returns-clause-stands c = λ on. record { stands = c.in_ok-state.state; found_is = refl; state_of = c.in_ok-state.ensures.state; does = c.in_ok-state.ensures.activity }
