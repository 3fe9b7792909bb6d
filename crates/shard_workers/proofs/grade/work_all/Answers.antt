-- The design keeps the rules.
use Rattle.std.proofs.Common.{◌≡◌, ℕ, ◌+◌, ◌≤◌, sym, subst, arith}
use Rattle.std.specs.Prelude.{sum, sum_by}
use Rattle.fault_shards.specs.Shards.{representatives_of}
use Rattle.shard_rounds.specs.copy_shard.Shards.{fault_steps_at}
use Rattle.v_design.specs.PlainDesigns.{design_of}
use Rattle.v_design.specs.RulesHold.{rules_hold}
use Rattle.v_design.specs.WellFormed.{KeepsRules}
use Rattle.v_design.specs.OwnSteps.{good_steps}
use Rattle.shard_rounds.specs.shard_findings.Gatherings.{claimed_most}
use Rattle.shard_rounds.specs.Outcomes.{OutcomeTicks}
use Rattle.shard_rounds.specs.declared.outcome.Outcome.{Outcome}
use Rattle.shard_workers.specs.Ordered.{work_steps}
use Rattle.shard_workers.proofs.Gradings.{rose-own}
use Rattle.shard_workers.proofs.grade.work_all.Goals as goal

pub close_work-requires-clause-rules : goal.close_work-requires-clause-rules
close_work-requires-clause-rules g c κs within = subst KeepsRules (sym c.design-design.ensures.world) (rules_hold (design_of c.design-design.result.now) c.design-design.result.now.rules)

pub returns-clause-ticks : goal.returns-clause-ticks
returns-clause-ticks g c =
    rose-own c.own_steps_rise.ensures g.N.World.design g.N.World.plan (sum c.args.own.now + sum c.args.steps.now) (sum c.grade_rounds.new.own + sum c.grade_rounds.new.steps)
    c.in_ok-work-in-Graded.work c.in_ok-work-in-Graded.ensures.work
    (λ tally. let all : ℕ = sum_by (fault_steps_at tally) (representatives_of c.in_ok-shards.shards) in
    let most : sum c.grade_rounds.new.own + sum c.grade_rounds.new.steps ≤
    sum c.args.own.now + sum c.args.steps.now + (good_steps g.N.World.design g.N.World.plan + (claimed_most tally c.in-Graded.gathered.shards.items + all)) =
    subst (λ (o : Outcome _). OutcomeTicks g.N.World.design g.N.World.plan (representatives_of c.in_ok-shards.shards) (sum c.args.own.now + sum c.args.steps.now)
    (sum c.grade_rounds.new.own + sum c.grade_rounds.new.steps) o) c.in-Graded.is c.in_ok-outcome.ensures.ticks tally in
    let same : claimed_most tally c.in-Graded.gathered.shards.items ≡ work_steps tally c.in_ok-work-in-Graded.work.shards.items = c.in_ok-work-in-Graded.ensures.steps tally in
    let whole : work_steps tally c.in_ok-work-in-Graded.work.shards.items ≡ all = c.in_ok-work-in-Graded.ensures.all tally in
    omega (arith, most, same, whole))
