-- One run of a process.
use Rattle.std.proofs.Common.{Bor, ◌≡◌, ℕ, ◌+◌, ◌++◌, ◌<◌, ◌≤◌, [], ◌∷◌, true, length, get_or, set, refl, sym, ap, subst, ◌∙◌, arith}
use Rattle.std.specs.Prelude.{Option, Some, None, is_some}
use Rattle.std.specs.Option.{option_map}
use Rattle.vf_base.specs.Base.{process_number}
use Rattle.v_design.specs.Designs.{FlatDesign, good_machine}
use Rattle.v_design.specs.Grades.{Phase}
use Rattle.v_design.specs.OwnSteps.{process_runs}
use Rattle.between_slots.specs.Between.{window_phases}
use Rattle.process_code.specs.declared.state.RunEnd.{RunEnd}
use Rattle.good_trace.specs.RunsKept.{TellsRun}
use Rattle.moment_runs.specs.Taken.{ProcessesKept, processes_of, StandEach, count_of, HaveRuns}
use Rattle.moment_runs.proofs.Found.{number-is, later-low, later-put}
use Rattle.moment_runs.proofs.Taking.{count-own, run-there, some-phase, taken-one}
use Rattle.moment_runs.proofs.runs.take_run.Goals as goal

some-of : (o : Option (Bor RunEnd)) (x : RunEnd) → option_map (λ run. run.now) o ≡ Some x → is_some o ≡ true
some-of None x e = cc
some-of (Some y) x e = refl

-- the number of the run
number-now : (design : FlatDesign) (kept : ProcessesKept) (p number : ℕ) → StandEach design kept → p < length design.processes → number ≡ get_or kept.ran p number → get_or kept.ran p 0 ≡ number
number-now design kept p number each low is = number-is kept.ran p number (let e : length kept.ran ≡ length design.processes = each.ran in omega (arith, e, low)) is

number-inside : (design : FlatDesign) (one : Phase) (kept : ProcessesKept) (p number : ℕ) → get_or kept.ran p 0 ≡ number → p < length design.processes → HaveRuns design one (p ∷ []) kept →
    number < length (process_runs (good_machine design) p one)
number-inside design one kept p number is low have =
    let all : get_or kept.ran p 0 + count_of p (p ∷ []) ≤ length (process_runs (good_machine design) p one) = have p low in
    let own : count_of p (p ∷ []) ≡ 1 = count-own p in
    omega (arith, all, own, is)

pub unwrap-run-requires : goal.unwrap-run-requires
unwrap-run-requires g c =
    let design = g.N.World.design in
    let p = process_number c.args.process in
    let kept = processes_of c.args.standing.now in
    let phases = window_phases design g.N.World.plan c.args.window.now.before c.args.window.now.through in
    let some = some-phase phases c.args.phase c.requires.phase.0 c.requires.phase.1 in
    let number = c.index-number.result.now in
    let is : get_or kept.ran p 0 ≡ number = number-now design kept p number c.requires.each c.requires.process c.index-number.ensures in
    let inside : number < length (process_runs (good_machine design) p some.1) =
    number-inside design some.1 kept p number is c.requires.process (c.requires.there some.0 some.1 some.2 some.3).0 in
    let there =
    run-there design c.args.codes.now p number some.1 (option_map (λ (run : Bor RunEnd). run.now) c.run.result) c.requires.codes c.requires.process (c.run.ensures some.0 some.1 some.2 some.3) inside in
    some-of c.run.result there.0 there.1

pub overflow_add-number : goal.overflow_add-number
overflow_add-number g c =
    let design = g.N.World.design in
    let p = process_number c.args.process in
    let kept = processes_of c.args.standing.now in
    let phases = window_phases design g.N.World.plan c.args.window.now.before c.args.window.now.through in
    let some = some-phase phases c.args.phase c.requires.phase.0 c.requires.phase.1 in
    let number = c.index-number.result.now in
    let is : get_or kept.ran p 0 ≡ number = number-now design kept p number c.requires.each c.requires.process c.index-number.ensures in
    let inside : number < length (process_runs (good_machine design) p some.1) =
    number-inside design some.1 kept p number is c.requires.process (c.requires.there some.0 some.1 some.2 some.3).0 in
    let few : length (process_runs (good_machine design) p some.1) ≤ 300000 = (c.requires.there some.0 some.1 some.2 some.3).1 p in
    omega (arith, inside, few)

pub returns-clause-taken : goal.returns-clause-taken
returns-clause-taken g c before one at here =
    let design = g.N.World.design in
    let p = process_number c.args.process in
    let kept = processes_of c.args.standing.now in
    let run = c.unwrap-run.result.now in
    let number = c.index-number.result.now in
    let is : get_or kept.ran p 0 ≡ number = number-now design kept p number c.requires.each c.requires.process c.index-number.ensures in
    let inside : get_or kept.ran p 0 < length (process_runs (good_machine design) p one) =
    subst (λ n. n < length (process_runs (good_machine design) p one)) (sym is) (number-inside design one kept p number is c.requires.process (c.requires.there before one at here).0) in
    let tells : TellsRun design p one (get_or kept.ran p 0) (Some run) =
    subst (λ n. TellsRun design p one n (Some run)) (sym is)
    (subst (λ o. TellsRun design p one number (option_map (λ (r : Bor RunEnd). r.now) o)) c.unwrap-run.ensures (c.run.ensures before one at here)) in
    let low : p < length c.args.standing.now.later.items = (let e : length kept.later ≡ length design.processes = c.requires.each.later in later-low c.args.standing.now.later.items p (let f : p < length kept.later = omega (arith, e, c.requires.process) in f)) in
    taken-one design one p run kept _ c.index_mut.result.now c.copy_from.new.self c.args.codes.now c.requires.codes c.requires.process c.requires.each c.requires.states tells inside
    c.index_mut.ensures.value c.in_ok-copy_from.ensures.point c.in_ok-copy_from.ensures.state refl
    (later-put c.args.standing.now.later.items p c.index_mut-2.result.now c.extend_from_slice.new.self run.later low c.index_mut-2.ensures.value
    (c.in_ok-extend_from_slice.ensures.items ∙ ap (λ l. c.index_mut-2.result.now.items ++ l) c.as_slice.ensures))
    (ap (λ n. set kept.ran p (n + 1)) (sym is))
