-- From the start of the faulty machine.
use Rattle.std.proofs.Common.{◌≡◌, ℕ, ◌+◌, ◌≤◌, Bool, length, sym, ap, subst, ◌∙◌, arith}
use Rattle.std.specs.Prelude.{Some, slice_get, sum}
use Rattle.v_design.specs.Designs.{FlatDesign, TestPlan, faulty_machine}
use Rattle.v_design.specs.Runs.{FirstSlot}
use Rattle.copy_laws.specs.Windows.{good_slots}
use Rattle.fault_strobes.specs.Said.{plan_by}
use Rattle.window_beside.specs.Tried.{IsTriedAt, MayTry}
use Rattle.v_design.specs.Plain.{fault_of}
use Rattle.v_design.specs.States.{start}
use Rattle.copy_window.specs.ShardFaults.{kept_by}
use Rattle.copy_window.proofs.Entering.{begins-anew, starts, settled-ticks}
use Rattle.copy_window.proofs.Rules.{has-rules}
use Rattle.copy_window.proofs.begin.begin_fault.Goals as goal

-- the window's first slot
first-at : (design : FlatDesign) (plan : TestPlan) (before time : ℕ) → ((one : FirstSlot) → slice_get (good_slots design plan) (before + 0) ≡ Some one → time ≡ one.begins.time) →
    IsTriedAt design plan before time
first-at design plan before time is slot here = (let same : before + 0 ≡ before = omega arith in is slot (ap (slice_get (good_slots design plan)) same ∙ here))

pub settle-requires-clause-fault : goal.settle-requires-clause-fault
settle-requires-clause-fault g c κs within = (
  c.args.window.now.before,
  starts c.machines_stand.ensures c.strobed_gradings_go_on.ensures c.slots_are_known.ensures g.N.World.design g.N.World.plan c.args.window.now.before (c.args.window.now.before + c.args.end)
      c.args.window.now.before c.args.window.now.through c.args.strobes.now _
      (fault_of c.args.fault) (record c.args.own.now { strobed = c.forget.new.self }) c.in_ok-machine.machine c.slots_told.ensures (omega arith) c.requires.end (omega (arith, c.requires.some))
      (subst (λ (kept : Bool). MayTry g.N.World.design (plan_by kept g.N.World.plan) c.args.window.now.before (fault_of c.args.fault) c.args.tried.now) (sym c.forget.ensures.kind) c.requires.tried)
      (first-at g.N.World.design g.N.World.plan c.args.window.now.before c.slot_time.result c.slot_time.ensures)
      (begins-anew g.N.World.design g.N.World.plan c.args.window.now.before (c.args.window.now.before + c.args.end) c.args.strobes.now (fault_of c.args.fault) c.args.own.now c.forget.new.self
      c.requires.fault)
      (has-rules g.N.World.design g.N.World.plan c.design-design.result.now c.plan-plan.result.now c.design-design.ensures.world c.plan-plan.ensures.world c.plan-plan.ensures.fits)
      (c.in_ok-machine.ensures.machine ∙ ap (λ (d : FlatDesign). faulty_machine d (fault_of c.args.fault)) (sym c.design-design.ensures.world)) c.in_ok-machine.ensures.standing
      c.in_ok-machine.ensures.turn
      (c.in_ok-machine.ensures.begins ∙ ap (λ (d : FlatDesign). Some (start (faulty_machine d (fault_of c.args.fault)))) (sym c.design-design.ensures.world)) c.forget.ensures.nothing,
)

pub returns-clause-place : goal.returns-clause-place
returns-clause-place g c = record { number = c.in_ok-settle.ensures.place.number; kind = c.in_ok-settle.ensures.place.kind ∙ c.forget.ensures.kind }

pub returns-clause-ticks : goal.returns-clause-ticks
returns-clause-ticks g c = λ counts zip.
    let all : c.settle.new.steps + length c.args.tried.now ≤ c.args.steps.now + sum counts =
    settled-ticks g.N.World.design g.N.World.plan c.args.window.now.before (c.args.window.now.before + c.args.end) c.args.strobes.now _ c.in_ok-machine.machine
    (record c.args.own.now { strobed = c.forget.new.self }) (fault_of c.args.fault) (kept_by c.args.own.now) c.args.steps.now (c.settle.new.steps + length c.args.tried.now) c.in_ok-settle.ensures.ticks
    (starts c.machines_stand.ensures c.strobed_gradings_go_on.ensures c.slots_are_known.ensures g.N.World.design g.N.World.plan c.args.window.now.before (c.args.window.now.before + c.args.end)
    c.args.window.now.before c.args.window.now.through c.args.strobes.now _
    (fault_of c.args.fault) (record c.args.own.now { strobed = c.forget.new.self }) c.in_ok-machine.machine c.slots_told.ensures (omega arith) c.requires.end (omega (arith, c.requires.some))
    (subst (λ (kept : Bool). MayTry g.N.World.design (plan_by kept g.N.World.plan) c.args.window.now.before (fault_of c.args.fault) c.args.tried.now) (sym c.forget.ensures.kind) c.requires.tried)
    (first-at g.N.World.design g.N.World.plan c.args.window.now.before c.slot_time.result c.slot_time.ensures)
    (begins-anew g.N.World.design g.N.World.plan c.args.window.now.before (c.args.window.now.before + c.args.end) c.args.strobes.now (fault_of c.args.fault) c.args.own.now c.forget.new.self
    c.requires.fault)
    (has-rules g.N.World.design g.N.World.plan c.design-design.result.now c.plan-plan.result.now c.design-design.ensures.world c.plan-plan.ensures.world c.plan-plan.ensures.fits)
    (c.in_ok-machine.ensures.machine ∙ ap (λ (d : FlatDesign). faulty_machine d (fault_of c.args.fault)) (sym c.design-design.ensures.world)) c.in_ok-machine.ensures.standing
    c.in_ok-machine.ensures.turn
    (c.in_ok-machine.ensures.begins ∙ ap (λ (d : FlatDesign). Some (start (faulty_machine d (fault_of c.args.fault)))) (sym c.design-design.ensures.world)) c.forget.ensures.nothing)
    c.requires.fault.listed c.forget.ensures.kind counts zip in
    omega (arith, all)
