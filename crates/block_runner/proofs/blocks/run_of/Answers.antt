-- Step by step, to a moment between runs.
use Rattle.std.proofs.Common.{◌≡◌, ◌∙◌, ℕ, ◌+◌, ◌≤◌, ◌<◌, ◌^◌, true, false, List, [], ◌∷◌, refl, sym, ap, subst, arith}
use Rattle.vf_base.specs.Base.{process_number}
use Rattle.vf_base.specs.declared.ids.ProcId.{ProcId}
use Rattle.v_design.specs.States.{State, is_any}
use Rattle.machine_laws.specs.SlotLoop.{NoNodeWorks, first_lane}
use Rattle.copy_laws.proofs.Growth.{events_take_no_time}
use Rattle.block_events.specs.Runners.{machine_of, state_of}
use Rattle.block_runner.proofs.BlocksBeside.{loop-begins, loop-given_up, loop-may, loop-more, loop-one, loop-over, loop-ran, loop-there, loop-ticks, loop-ticks-more}
use Rattle.block_runner.proofs.Runs.{runs-ready, runs-rules, runs-write}
use Rattle.block_runner.proofs.blocks.run_of.Goals as goal

no-elements : (xs : List ProcId) → false ≡ is_any xs → xs ≡ []
no-elements [] e = refl
no-elements (x ∷ xs) e = cc

some-elements : (xs : List ProcId) → true ≡ is_any xs → xs ≡ [] → ⊥
some-elements [] e none = cc
some-elements (x ∷ xs) e none = cc

pub runs-init : goal.runs-init
runs-init g c =
    loop-begins _ _ c.args.goods.now c.begin_block.new.self c.args.told.now c.args.beside.now.processes c.args.beside.now.ended.items c.args.tried.now.items c.args.steps.now
    c.begin_block.ensures.whole c.begin_block.ensures.machine c.begin_block.ensures.state c.requires.nodes c.requires.lanes c.requires.ready c.begin_block.ensures.running c.requires.told
    c.requires.there c.requires.fresh c.requires.ended

pub first_ready-requires : goal.first_ready-requires
first_ready-requires g c =
    c.runs.invariant.so_far.going.whole

pub unreachable-requires : goal.unreachable-requires
unreachable-requires g c =
    runs-ready _ _ c.runs.runner c.runs.told c.runs.taken c.runs.invariant.so_far (sym c.in_default.ensures)

pub step_beside-requires-clause-whole : goal.step_beside-requires-clause-whole
step_beside-requires-clause-whole g c =
    c.runs.invariant.so_far.going.whole

pub step_beside-requires-clause-nodes : goal.step_beside-requires-clause-nodes
step_beside-requires-clause-nodes g c =
    subst NoNodeWorks (sym c.runs.invariant.so_far.going.state_is) c.runs.invariant.so_far.next.quiet

pub step_beside-requires-clause-lanes : goal.step_beside-requires-clause-lanes
step_beside-requires-clause-lanes g c =
    ap first_lane c.runs.invariant.so_far.going.state_is ∙ c.runs.invariant.so_far.going.lanes

pub step_beside-requires-clause-time : goal.step_beside-requires-clause-time
step_beside-requires-clause-time g c =
    let so_far = c.runs.invariant.so_far in
    subst (λ (t : ℕ). t ≤ 2 ^ 63)
    (sym (ap (λ (s : State). s.time) so_far.going.state_is ∙ events_take_no_time (machine_of c.args.runner.now) (state_of c.args.runner.now) so_far.events)) c.requires.time

pub step_beside-requires-clause-room : goal.step_beside-requires-clause-room
step_beside-requires-clause-room g c =
    let counted : c.runs.told.steps ≡ c.runs.taken = c.runs.invariant.so_far.counted in
    omega (arith, counted, c.runs-test.true)

pub step_beside-requires-clause-rules : goal.step_beside-requires-clause-rules
step_beside-requires-clause-rules g c =
    runs-rules _ _ c.runs.runner c.runs.told c.runs.taken c.runs.invariant.so_far c.requires.rules

pub step_beside-requires-clause-writes : goal.step_beside-requires-clause-writes
step_beside-requires-clause-writes g c =
    runs-write _ _ c.runs.runner c.runs.told c.runs.taken c.runs.invariant.so_far c.writes_stay.ensures.stay c.requires.rules c.requires.writes

pub step_beside-requires-clause-there : goal.step_beside-requires-clause-there
step_beside-requires-clause-there g c =
    let lead = c.present_runs_lead.ensures in
    omega (arith, loop-there lead _ _ c.args.goods.now c.runs.runner c.runs.told c.runs.taken c.runs.beside.processes c.runs.beside.ended.items c.args.tried.now.items c.runs.tried.items c.args.steps.now c.runs.steps c.runs.invariant c.requires.goods (process_number c.in-Some.process) (sym c.in-Some.ensures), c.runs.invariant.beside.there)

pub step_beside-requires-clause-ended : goal.step_beside-requires-clause-ended
step_beside-requires-clause-ended g c =
    omega (arith, c.runs.invariant.beside.listed.few (process_number c.in-Some.process), c.runs-test.true)

pub step_beside-requires-clause-taken : goal.step_beside-requires-clause-taken
step_beside-requires-clause-taken g c =
    omega (arith, c.runs.invariant.beside.listed.short (process_number c.in-Some.process), c.runs-test.true)

pub step_beside-requires-clause-may : goal.step_beside-requires-clause-may
step_beside-requires-clause-may g c =
    let lead = c.present_runs_lead.ensures in
    loop-may lead _ _ c.args.goods.now c.runs.runner c.runs.told c.runs.taken c.runs.beside.processes c.runs.beside.ended.items c.args.tried.now.items c.runs.tried.items c.args.steps.now c.runs.steps c.runs.invariant c.requires.goods (process_number c.in-Some.process) c.args.most (sym c.in-Some.ensures) c.requires.few (omega (arith, c.runs-test.true))

pub returns-then-not-branch-clause-own : goal.returns-then-not-branch-clause-own
returns-then-not-branch-clause-own g c =
    let lead = c.present_runs_lead.ensures in
    loop-given_up lead _ _ c.args.goods.now c.runs.runner c.runs.told c.runs.taken c.runs.beside.processes c.runs.beside.ended.items c.args.tried.now.items c.runs.tried.items c.args.steps.now c.runs.steps c.runs.invariant c.requires.goods
    c.in-Some.process c.step_beside.new.runner c.settle.new.self c.step_beside.new.told c.settle.new.told (sym c.in-Some.ensures) c.in_ok-line.ensures.goes c.in_ok-settle.field-0 c.in_ok-settle.ensures
    c.step_beside.new.beside.processes c.step_beside.new.beside.ended.items c.step_beside.new.tried.items c.step_beside.new.steps c.in_ok-line.ensures.beside c.args.most c.if-not-branch.true

pub returns-then-not-branch-clause-few : goal.returns-then-not-branch-clause-few
returns-then-not-branch-clause-few g c =
    let lead = c.present_runs_lead.ensures in
    let count : c.settle.new.told.steps ≡ c.runs.taken + 1 = loop-one lead _ _ c.args.goods.now c.runs.runner c.runs.told c.runs.taken c.runs.beside.processes c.runs.beside.ended.items c.args.tried.now.items c.runs.tried.items c.args.steps.now c.runs.steps c.runs.invariant c.requires.goods
    c.in-Some.process c.step_beside.new.runner c.settle.new.self c.step_beside.new.told c.settle.new.told (sym c.in-Some.ensures) c.in_ok-line.ensures.goes c.in_ok-settle.field-0 c.in_ok-settle.ensures
    c.step_beside.new.beside.processes c.step_beside.new.beside.ended.items c.step_beside.new.tried.items c.step_beside.new.steps c.in_ok-line.ensures.beside in
    omega (arith, count, c.runs-test.true)

pub returns-then-not-branch-clause-tried : goal.returns-then-not-branch-clause-tried
returns-then-not-branch-clause-tried g c =
    let lead = c.present_runs_lead.ensures in
    loop-ticks-more lead _ _ c.args.goods.now c.runs.runner c.runs.told c.runs.taken c.runs.beside.processes c.runs.beside.ended.items c.args.tried.now.items c.runs.tried.items c.args.steps.now c.runs.steps c.runs.invariant c.requires.goods
    c.in-Some.process c.step_beside.new.runner c.settle.new.self c.step_beside.new.told c.settle.new.told (sym c.in-Some.ensures) c.in_ok-line.ensures.goes c.in_ok-settle.field-0 c.in_ok-settle.ensures
    c.step_beside.new.beside.processes c.step_beside.new.beside.ended.items c.step_beside.new.tried.items c.step_beside.new.steps c.in_ok-line.ensures.beside

pub returns-then-not-is_in_run-clause-own : goal.returns-then-not-is_in_run-clause-own
returns-then-not-is_in_run-clause-own g c =
    let lead = c.present_runs_lead.ensures in
    loop-ran lead _ _ c.args.goods.now c.runs.runner c.runs.told c.runs.taken c.runs.beside.processes c.runs.beside.ended.items c.args.tried.now.items c.runs.tried.items c.args.steps.now c.runs.steps c.runs.invariant c.requires.goods
    c.in-Some.process c.step_beside.new.runner c.settle.new.self c.step_beside.new.told c.settle.new.told (sym c.in-Some.ensures) c.in_ok-line.ensures.goes c.in_ok-settle.field-0 c.in_ok-settle.ensures
    c.step_beside.new.beside.processes c.step_beside.new.beside.ended.items c.step_beside.new.tried.items c.step_beside.new.steps c.in_ok-line.ensures.beside c.args.most c.if-not-branch.false (no-elements c.settle.new.self.running.items (sym c.if-not-is_in_run.true ∙ c.is_in_run.ensures))

pub returns-then-not-is_in_run-clause-few : goal.returns-then-not-is_in_run-clause-few
returns-then-not-is_in_run-clause-few g c =
    let lead = c.present_runs_lead.ensures in
    let count : c.settle.new.told.steps ≡ c.runs.taken + 1 = loop-one lead _ _ c.args.goods.now c.runs.runner c.runs.told c.runs.taken c.runs.beside.processes c.runs.beside.ended.items c.args.tried.now.items c.runs.tried.items c.args.steps.now c.runs.steps c.runs.invariant c.requires.goods
    c.in-Some.process c.step_beside.new.runner c.settle.new.self c.step_beside.new.told c.settle.new.told (sym c.in-Some.ensures) c.in_ok-line.ensures.goes c.in_ok-settle.field-0 c.in_ok-settle.ensures
    c.step_beside.new.beside.processes c.step_beside.new.beside.ended.items c.step_beside.new.tried.items c.step_beside.new.steps c.in_ok-line.ensures.beside in
    omega (arith, count, c.runs-test.true)

pub returns-then-not-is_in_run-clause-tried : goal.returns-then-not-is_in_run-clause-tried
returns-then-not-is_in_run-clause-tried g c =
    let lead = c.present_runs_lead.ensures in
    loop-ticks-more lead _ _ c.args.goods.now c.runs.runner c.runs.told c.runs.taken c.runs.beside.processes c.runs.beside.ended.items c.args.tried.now.items c.runs.tried.items c.args.steps.now c.runs.steps c.runs.invariant c.requires.goods
    c.in-Some.process c.step_beside.new.runner c.settle.new.self c.step_beside.new.told c.settle.new.told (sym c.in-Some.ensures) c.in_ok-line.ensures.goes c.in_ok-settle.field-0 c.in_ok-settle.ensures
    c.step_beside.new.beside.processes c.step_beside.new.beside.ended.items c.step_beside.new.tried.items c.step_beside.new.steps c.in_ok-line.ensures.beside

pub runs-preserved : goal.runs-preserved
runs-preserved g c =
    let lead = c.present_runs_lead.ensures in
    loop-more lead _ _ c.args.goods.now c.runs.runner c.runs.told c.runs.taken c.runs.beside.processes c.runs.beside.ended.items c.args.tried.now.items c.runs.tried.items c.args.steps.now c.runs.steps c.runs.invariant c.requires.goods
    c.in-Some.process c.step_beside.new.runner c.settle.new.self c.step_beside.new.told c.settle.new.told (sym c.in-Some.ensures) c.in_ok-line.ensures.goes c.in_ok-settle.field-0 c.in_ok-settle.ensures
    c.step_beside.new.beside.processes c.step_beside.new.beside.ended.items c.step_beside.new.tried.items c.step_beside.new.steps c.in_ok-line.ensures.beside c.if-not-branch.false (some-elements c.settle.new.self.running.items (sym c.if-not-is_in_run.false ∙ c.is_in_run.ensures))

pub returns-clause-own : goal.returns-clause-own
returns-clause-own g c =
    let lead = c.present_runs_lead.ensures in
    let past : c.args.most + 1 ≤ c.runs.taken = omega (arith, c.runs-test.false) in
    loop-over lead _ _ c.args.goods.now c.runs.runner c.runs.told c.runs.taken c.runs.beside.processes c.runs.beside.ended.items c.args.tried.now.items c.runs.tried.items c.args.steps.now c.runs.steps c.runs.invariant c.requires.goods c.args.most past

pub returns-clause-few : goal.returns-clause-few
returns-clause-few g c =
    omega (arith, c.runs.invariant.so_far.counted)

pub returns-clause-tried : goal.returns-clause-tried
returns-clause-tried g c =
    let lead = c.present_runs_lead.ensures in
    loop-ticks lead _ _ c.args.goods.now c.runs.runner c.runs.told c.runs.taken c.runs.beside.processes c.runs.beside.ended.items c.args.tried.now.items c.runs.tried.items c.args.steps.now c.runs.steps c.runs.invariant c.requires.goods
