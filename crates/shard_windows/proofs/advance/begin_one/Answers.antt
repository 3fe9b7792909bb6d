-- A fault whose grading ended stays as it is; any other is run from the start on.
use Rattle.std.proofs.Common.{◌≡◌, ℕ, ◌+◌, ◌<◌, false, [], ◌∷◌, inl, refl, sym, subst, ◌∙◌, arith}
use Rattle.std.specs.Prelude.{is_some}
use Rattle.v_design.specs.Plain.{fault_of}
use Rattle.copy_laws.specs.Windows.{RiseAtMostOwn}
use Rattle.fault_strobes.specs.Said.{plan_by}
use Rattle.shard_slots.specs.window_strobes.Strobes.{passed_behind}
use Rattle.shard_slots.specs.copy_window.Passing.{CanBegin}
use Rattle.shard_slots.specs.copy_window.ShardFaults.{IsShardFault, kept_by}
use Rattle.shard_slots.proofs.window_faults.Within.{is-listed, none-end}
use Rattle.shard_windows.proofs.Through.{can-begin, ended-comes, keeps-rules}
use Rattle.shard_slots.proofs.Numbers.{counter-rises, steps-rise}
use Rattle.shard_windows.proofs.advance.begin_one.Goals as goal

pub returns-then-is_some-clause-fault : goal.returns-then-is_some-clause-fault
returns-then-is_some-clause-fault g c =
    let some : c.args.window.now.before < c.args.window.now.through = c.begins-first.ensures.window.some in
    ended-comes c.faults_go_on.ensures g.N.World.design g.N.World.plan (keeps-rules g.N.World.design c.design-design.result.now c.design-design.ensures.world) c.args.window.now.before
    c.args.window.now.through c.args.strobes.now.passed _ (omega (arith, some)) c.args.own.now (sym c.is_some.ensures ∙ c.if-is_some.true) c.requires.fault

pub returns-then-is_some-clause-ticks : goal.returns-then-is_some-clause-ticks
returns-then-is_some-clause-ticks g c tally =
    let some : c.args.window.now.before < c.args.window.now.through = c.begins-first.ensures.window.some in
    let rise = steps-rise c.own_steps_rise.ensures g.N.World.design g.N.World.plan (keeps-rules g.N.World.design c.design-design.result.now c.design-design.ensures.world) tally c.args.window.now.before
    c.args.window.now.through (omega (arith, some)) c.args.window.now.before c.args.strobes.now.passed c.args.own.now c.requires.fault in
    omega (arith, rise)

pub listed_fault-fault-requires-after_bounds : goal.listed_fault-fault-requires-after_bounds
listed_fault-fault-requires-after_bounds g c κs within =
    is-listed g.N.World.design g.N.World.plan c.args.window.now.before c.args.strobes.now.passed c.args.own.now c.requires.fault

pub begin_fault-requires-clause-end : goal.begin_fault-requires-clause-end
begin_fault-requires-clause-end g c κs within = omega (arith, c.slots-end.ensures)

pub begin_fault-requires-clause-some : goal.begin_fault-requires-clause-some
begin_fault-requires-clause-some g c κs within =
    let some : c.args.window.now.before < c.args.window.now.through = c.begins-first.ensures.window.some in
    omega (arith, some, c.slots-end.ensures)

pub begin_fault-requires-clause-tried : goal.begin_fault-requires-clause-tried
begin_fault-requires-clause-tried g c κs within = inl refl

pub begin_fault-requires-clause-fault : goal.begin_fault-requires-clause-fault
begin_fault-requires-clause-fault g c κs within =
    subst (λ (n : ℕ). CanBegin g.N.World.design g.N.World.plan c.args.window.now.before n c.args.strobes.now (fault_of c.listed_fault-fault.result) c.args.own.now) (sym c.slots-end.ensures)
    (can-begin g.N.World.design g.N.World.plan c.args.window.now.before c.args.window.now.through c.args.strobes.now (fault_of c.listed_fault-fault.result) c.args.own.now c.requires.fault
    c.listed_fault-fault.ensures (none-end c.args.own.now.end (sym c.is_some.ensures ∙ c.if-is_some.false)) c.requires.strobes c.requires.first)

pub returns-clause-fault : goal.returns-clause-fault
returns-clause-fault g c =
    let none : is_some c.args.own.now.end ≡ false = sym c.is_some.ensures ∙ c.if-is_some.false in
    record {
      stands = subst (λ (n : ℕ). IsShardFault g.N.World.design g.N.World.plan n (passed_behind c.args.strobes.now) c.begin_fault.new.own) c.slots-end.ensures c.in_ok-begin_fault.ensures.fault;
      place = c.in_ok-begin_fault.ensures.place;
      ended = λ some. cc;
    }

pub returns-clause-ticks : goal.returns-clause-ticks
returns-clause-ticks g c tally =
    let design = g.N.World.design in
    let plan = g.N.World.plan in
    let window = c.args.window.now in
    let own = c.args.own.now in
    let fault = fault_of c.listed_fault-fault.result in
    let some : window.before < window.through = c.begins-first.ensures.window.some in
    let rises =
    counter-rises c.own_steps_rise.ensures design plan (keeps-rules g.N.World.design c.design-design.result.now c.design-design.ensures.world) tally window.before window.through (omega (arith, some))
    own c.begin_fault.new.own fault c.args.steps.now (c.begin_fault.new.steps + 0) c.listed_fault-fault.ensures c.in_ok-begin_fault.ensures.place
    (subst (λ (n : ℕ). RiseAtMostOwn design (plan_by (kept_by own) plan) window.before n (fault ∷ []) c.args.steps.now (c.begin_fault.new.steps + 0)) c.slots-end.ensures
    c.in_ok-begin_fault.ensures.ticks) in
    omega (arith, rises)
