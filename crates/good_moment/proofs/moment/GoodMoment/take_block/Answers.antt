-- The runs up to one of a process.
use Rattle.std.proofs.Common.{◌≡◌, ◌+◌, ◌++◌, ◌<◌, ◌≤◌, ◌∷◌, [], length, Vec, Global, refl, sym, ap, subst, ◌∙◌, arith, rules}
use Rattle.std.specs.List.{All}
use Rattle.std.proofs.lemmas.Option.{slice_get_within}
use Rattle.vf_base.specs.Base.{process_number}
use Rattle.vf_base.specs.Lists.{has}
use Rattle.v_design.specs.Grades.{Phase}
use Rattle.between_slots.specs.Between.{window_phases}
use Rattle.moment_parts.specs.Lanes.{lanes_left}
use Rattle.moment_parts.specs.declared.lane.Lane.{Lane as LaneKept}
use Rattle.passed_blocks.specs.moment_runs.Taken.{AreRunsTaken, HaveRuns, HaveFewRuns, processes_of}
use Rattle.passed_blocks.specs.moment_laws.Shown.{processes_in}
use Rattle.passed_blocks.specs.moment_laws.Steps.{TakesRuns}
use Rattle.good_moment.specs.Kept.{kept_of}
use Rattle.good_moment.proofs.Parts.{view-old, runs-told, has-own, runs-front, runs-long, phase-numbered, phase-bounds}
use Rattle.good_moment.proofs.moment.GoodMoment.take_block.Goals as goal

pub place_behind-to-requires : goal.place_behind-to-requires
place_behind-to-requires g c =
    let design = g.N.World.design in
    let s = c.self.inside in
    let q = process_number c.args.process in
    let w = c.args.window.now in
    let told =
    runs-told design g.N.World.plan w.before w.through c.slot-slot.result q (kept_of s.place s.time s.values.items s.standing s.passed) c.args.self.now c.runs_in-runs.result.now c.self.view_is
    c.requires.window c.slot-slot.ensures c.requires.runs c.runs_in-runs.ensures in
    record { there = ap (λ l. has l q) told.left ∙ has-own told.runs.others told.runs.rest q }

pub slice_bounds-own-count : goal.slice_bounds-own-count
slice_bounds-own-count g c =
    let design = g.N.World.design in
    let s = c.self.inside in
    let q = process_number c.args.process in
    let w = c.args.window.now in
    let told =
    runs-told design g.N.World.plan w.before w.through c.slot-slot.result q (kept_of s.place s.time s.values.items s.standing s.passed) c.args.self.now c.runs_in-runs.result.now c.self.view_is
    c.requires.window c.slot-slot.ensures c.requires.runs c.runs_in-runs.ensures in
    let to : c.place_behind-to.result ≡ s.place.runs + length told.runs.others + 1 = c.place_behind-to.ensures.first told.runs.others told.runs.rest told.left told.runs.once in
    omega (arith, to)

pub slice_bounds-own-start : goal.slice_bounds-own-start
slice_bounds-own-start g c =
    let design = g.N.World.design in
    let s = c.self.inside in
    let q = process_number c.args.process in
    let w = c.args.window.now in
    let told =
    runs-told design g.N.World.plan w.before w.through c.slot-slot.result q (kept_of s.place s.time s.values.items s.standing s.passed) c.args.self.now c.runs_in-runs.result.now c.self.view_is
    c.requires.window c.slot-slot.ensures c.requires.runs c.runs_in-runs.ensures in
    let to : c.place_behind-to.result ≡ s.place.runs + length told.runs.others + 1 = c.place_behind-to.ensures.first told.runs.others told.runs.rest told.left told.runs.once in
    let order : s.place.runs ≤ c.place_behind-to.result = omega (arith, to) in
    let within : c.place_behind-to.result ≤ length c.runs_in-runs.result.now = c.place_behind-to.ensures.within in
    search rules

pub overflow_add-phase : goal.overflow_add-phase
overflow_add-phase g c =
    let design = g.N.World.design in
    let s = c.self.inside in
    let q = process_number c.args.process in
    let w = c.args.window.now in
    let told =
    runs-told design g.N.World.plan w.before w.through c.slot-slot.result q (kept_of s.place s.time s.values.items s.standing s.passed) c.args.self.now c.runs_in-runs.result.now c.self.view_is
    c.requires.window c.slot-slot.ensures c.requires.runs c.runs_in-runs.ensures in
    let low : s.place.phase < length (window_phases design g.N.World.plan w.before w.through) =
    slice_get_within (window_phases design g.N.World.plan w.before w.through) s.place.phase told.runs.phase told.there in
    let all : c.phases-phases.result ≡ length (window_phases design g.N.World.plan w.before w.through) = c.phases-phases.ensures in
    let fits : s.place.phase + 1 ≤ c.phases-phases.result = omega (arith, low, all) in
    omega (arith, fits)

pub take_runs-requires-clause-processes : goal.take_runs-requires-clause-processes
take_runs-requires-clause-processes g c κs within =
    let design = g.N.World.design in
    let s = c.self.inside in
    let q = process_number c.args.process in
    let w = c.args.window.now in
    let told =
    runs-told design g.N.World.plan w.before w.through c.slot-slot.result q (kept_of s.place s.time s.values.items s.standing s.passed) c.args.self.now c.runs_in-runs.result.now c.self.view_is
    c.requires.window c.slot-slot.ensures c.requires.runs c.runs_in-runs.ensures in
    let to = c.place_behind-to.ensures.first told.runs.others told.runs.rest told.left told.runs.once in
    subst (All (λ own. own < length design.processes))
    (sym (runs-front c.runs_in-runs.result.now s.place.runs c.place_behind-to.result q told.runs.others told.runs.rest told.left to)) told.runs.low

pub take_runs-requires-clause-phase : goal.take_runs-requires-clause-phase
take_runs-requires-clause-phase g c κs within =
    let design = g.N.World.design in
    let s = c.self.inside in
    let q = process_number c.args.process in
    let w = c.args.window.now in
    let told =
    runs-told design g.N.World.plan w.before w.through c.slot-slot.result q (kept_of s.place s.time s.values.items s.standing s.passed) c.args.self.now c.runs_in-runs.result.now c.self.view_is
    c.requires.window c.slot-slot.ensures c.requires.runs c.runs_in-runs.ensures in
    phase-bounds (window_phases design g.N.World.plan w.before w.through) s.place.phase told.runs.phase told.there

pub take_runs-requires-clause-each : goal.take_runs-requires-clause-each
take_runs-requires-clause-each g c κs within =
    let design = g.N.World.design in
    let s = c.self.inside in
    let q = process_number c.args.process in
    let w = c.args.window.now in
    let told =
    runs-told design g.N.World.plan w.before w.through c.slot-slot.result q (kept_of s.place s.time s.values.items s.standing s.passed) c.args.self.now c.runs_in-runs.result.now c.self.view_is
    c.requires.window c.slot-slot.ensures c.requires.runs c.runs_in-runs.ensures in
    told.runs.each

pub take_runs-requires-clause-states : goal.take_runs-requires-clause-states
take_runs-requires-clause-states g c κs within =
    let design = g.N.World.design in
    let s = c.self.inside in
    let q = process_number c.args.process in
    let w = c.args.window.now in
    let told =
    runs-told design g.N.World.plan w.before w.through c.slot-slot.result q (kept_of s.place s.time s.values.items s.standing s.passed) c.args.self.now c.runs_in-runs.result.now c.self.view_is
    c.requires.window c.slot-slot.ensures c.requires.runs c.runs_in-runs.ensures in
    told.runs.states

pub take_runs-requires-clause-there : goal.take_runs-requires-clause-there
take_runs-requires-clause-there g c κs within before one at here =
    let design = g.N.World.design in
    let s = c.self.inside in
    let q = process_number c.args.process in
    let w = c.args.window.now in
    let kept = kept_of s.place s.time s.values.items s.standing s.passed in
    let told =
    runs-told design g.N.World.plan w.before w.through c.slot-slot.result q kept c.args.self.now c.runs_in-runs.result.now c.self.view_is c.requires.window c.slot-slot.ensures c.requires.runs
    c.runs_in-runs.ensures in
    let to = c.place_behind-to.ensures.first told.runs.others told.runs.rest told.left told.runs.once in
    let front = runs-front c.runs_in-runs.result.now s.place.runs c.place_behind-to.result q told.runs.others told.runs.rest told.left to in
    let same : told.runs.phase ≡ one = phase-numbered (window_phases design g.N.World.plan w.before w.through) s.place.phase before told.runs.phase one told.there at here in (
      subst (λ l. HaveRuns design one l (processes_in kept)) (sym front) (subst (λ (p : Phase). HaveRuns design p (told.runs.others ++ q ∷ []) (processes_in kept)) same told.runs.there),
      subst (HaveFewRuns design) same told.runs.few,
    )

pub returns : goal.returns
returns g c =
    let design = g.N.World.design in
    let plan = g.N.World.plan in
    let s = c.self.inside in
    let q = process_number c.args.process in
    let w = c.args.window.now in
    let kept = kept_of s.place s.time s.values.items s.standing s.passed in
    let told =
    runs-told design plan w.before w.through c.slot-slot.result q kept c.args.self.now c.runs_in-runs.result.now c.self.view_is c.requires.window c.slot-slot.ensures c.requires.runs
    c.runs_in-runs.ensures in
    let runs = told.runs in
    let to : c.place_behind-to.result ≡ kept.runs + length runs.others + 1 = c.place_behind-to.ensures.first runs.others runs.rest told.left runs.once in
    let front = runs-front c.runs_in-runs.result.now kept.runs c.place_behind-to.result q runs.others runs.rest told.left to in
    view-old (TakesRuns design plan q) kept c.args.self.now _ c.self.view_is
    (record {
      same = record { before = refl; through = refl; slot = refl; phase = refl; moment = refl; time = refl; values = refl; changed = refl };
      lanes = ap (λ (l : Vec LaneKept Global). lanes_left l.items) c.in_ok-take_runs.ensures.lanes;
      lane = refl;
      phase = runs.phase;
      phase_is = runs.phase_is;
      others = runs.others;
      rest = runs.rest;
      enders = runs.enders;
      once = runs.once;
      taken =
          subst (λ l. AreRunsTaken design runs.phase l (processes_in kept) (processes_of c.take_runs.new.standing)) front (c.in_ok-take_runs.ensures.taken kept.phase runs.phase refl told.there);
      runs = to ∙ runs-long kept.runs runs.others q;
      acted = c.in_ok-take_runs.ensures.acted ∙ ap (λ l. kept.acted ++ l) front;
    })
