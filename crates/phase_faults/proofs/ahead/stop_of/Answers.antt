-- By whether the fault goes.
use Rattle.std.proofs.Common.{◌≡◌, sym, subst, refl}
use Rattle.std.specs.Prelude.{if◌then◌else◌}
use Rattle.phase_faults.proofs.ahead.stop_of.Goals as goal

pub returns-then-not-goes : goal.returns-then-not-goes
returns-then-not-goes c =
    let each = c.args.each.now in
    subst (λ b. c.args.end ≡ (if b then each.until else c.args.end)) (sym c.if-not-goes.true) refl

pub returns : goal.returns
returns c =
    let each = c.args.each.now in
    subst (λ b. each.until ≡ (if b then each.until else c.args.end)) (sym c.if-not-goes.false) refl
