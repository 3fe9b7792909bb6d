-- One stop after the other.
use Rattle.std.proofs.Common.{◌≡◌, ℕ, get_or, sym, ap, ◌∙◌, arith}
use Rattle.std.specs.List.{fold}
use Rattle.std.proofs.lemmas.List.{take_all}
use Rattle.std.proofs.lemmas.List.Sums.{fold_more}
use Rattle.phase_faults.specs.Beside.{sooner}
use Rattle.phase_faults.proofs.ahead.least_stop.Goals as goal

pub stops-preserved : goal.stops-preserved
stops-preserved c =
    c.min-least.ensures ∙ ap (λ (least : ℕ). sooner least (get_or c.args.stops.now c.stops.stop-index 0)) c.stops.invariant
    ∙ sym (fold_more sooner c.args.end c.args.stops.now c.stops.stop-index 0 c.stops-test.true)

pub returns : goal.returns
returns c = c.stops.invariant ∙ ap (fold sooner c.args.end) (take_all c.stops.stop-index c.args.stops.now (omega (arith, c.stops-test.false)))
