use Rattle.std.proofs.Common.{◌≡◌, ℕ, ◌≤◌, ◌<◌, ◌+◌, ◌-◌, ◌*◌, ◌/◌, ◌%◌, arith, refl, length}
use Rattle.plan_read.proofs.Rows.{strobes-good, strobes-many}
use Rattle.plan_read.proofs.draft.add_strobes.Goals as goal

-- the last time of a row
last-of : (from step to end : ℕ) → 1 ≤ step → from ≤ to → to - (to - from) % step ≤ end → from + step * ((to - from) / step) ≤ end
last-of from step to end some ordered h = omega arith

pub returns-then-steps-len-clause-fault : goal.returns-then-steps-len-clause-fault
returns-then-steps-len-clause-fault c =
    let t = c.args.times in (
      refl,
      strobes-many c.args.end t.from t.step ((t.to - t.from) / t.step) (length c.args.strobes.now.items) (last-of t.from t.step t.to c.args.end t.steps t.ordered c.if-last-end.false)
          (omega arith),
    )

pub returns-clause-good : goal.returns-clause-good
returns-clause-good c =
    let t = c.args.times in
    strobes-good c.args.end t.from t.step ((t.to - t.from) / t.step) (length c.args.strobes.now.items) (last-of t.from t.step t.to c.args.end t.steps t.ordered c.if-last-end.false) (omega arith)
