-- The step is the one that was tried.
use Rattle.std.proofs.Common.{◌≡◌, ℕ, ◌+◌, List, false, sym, subst, ◌∙◌}
use Rattle.vf_base.specs.Base.{process_number}
use Rattle.v_design.specs.Designs.{FlatDesign, good_machine}
use Rattle.v_design.specs.States.{Step}
use Rattle.machine_laws.specs.SlotLoop.{after_event}
use Rattle.run_ends.specs.RunEnds.{IsCodeAt}
use Rattle.good_runs.specs.declared.tried.TriedStep.{TriedStep}
use Rattle.own_slots.specs.Again.{IsAgain}
use Rattle.process_table.specs.Arranged.{table_of}
use Rattle.runs_beside.proofs.Choosing.{Serve}
use Rattle.runs_beside.proofs.Stepped.{again-known, again-own, comes-again, goes-behind, kept-own, known-moves, ready-behind}
use Rattle.runs_beside.proofs.beside.RunsBeside.step_again.Goals as goal

pub follow-requires-clause-stands : goal.follow-requires-clause-stands
follow-requires-clause-stands c = λ code own.
    let s = c.requires.stands in
    let serve : Serve = record { known = c.known_steps_go_on.ensures; steps = c.own_runs.ensures.steps; runs = c.own_runs.ensures.runs; texts = c.shared_runs.ensures.runs; counts = c.own_steps_count.ensures; time = c.own_runs.ensures.time } in
    let comes = comes-again serve s.machine s.others s.at s.ticked c.args.self.now s.goes c.args.table.now c.args.phase (process_number c.args.process) s.here c.args.run c.requires.run
    c.second_runs.ensures c.args.one.now c.requires.next in
    comes.kept.stands code (subst (λ (d : FlatDesign). IsCodeAt d (process_number c.args.process) code) s.here.table_is.design own)

pub follow-requires-clause-known : goal.follow-requires-clause-known
follow-requires-clause-known c =
    let s = c.requires.stands in
    let serve : Serve = record { known = c.known_steps_go_on.ensures; steps = c.own_runs.ensures.steps; runs = c.own_runs.ensures.runs; texts = c.shared_runs.ensures.runs; counts = c.own_steps_count.ensures; time = c.own_runs.ensures.time } in
    let comes = comes-again serve s.machine s.others s.at s.ticked c.args.self.now s.goes c.args.table.now c.args.phase (process_number c.args.process) s.here c.args.run c.requires.run
    c.second_runs.ensures c.args.one.now c.requires.next in
    record {
      machine = s.machine;
      state = s.at.state;
      of = s.here.table_is;
      step = again-known serve s.machine s.others s.at s.ticked c.args.self.now s.goes c.args.table.now c.args.phase (process_number c.args.process) s.here c.args.run c.requires.run
          c.args.one.now comes;
    }

pub returns-clause-step : goal.returns-clause-step
returns-clause-step c = λ machine others at ticked goes here own state of values.
    let serve : Serve = record { known = c.known_steps_go_on.ensures; steps = c.own_runs.ensures.steps; runs = c.own_runs.ensures.runs; texts = c.shared_runs.ensures.runs; counts = c.own_steps_count.ensures; time = c.own_runs.ensures.time } in
    let comes = comes-again serve machine others at ticked c.args.self.now goes c.args.table.now c.args.phase (process_number c.args.process) here c.args.run c.requires.run c.second_runs.ensures c.args.one.now c.requires.next in
    c.in_ok-stepped.ensures.step own state of
    (known-moves machine own at.state state (process_number c.args.process) (table_of c.args.table.now) here.table_is of values c.args.one.now.line c.args.one.now.act c.args.one.now.state
    (again-known serve machine others at ticked c.args.self.now goes c.args.table.now c.args.phase (process_number c.args.process) here c.args.run c.requires.run c.args.one.now comes))

pub returns-clause-beside : goal.returns-clause-beside
returns-clause-beside c = λ machine others at ticked goes here.
    let serve : Serve = record { known = c.known_steps_go_on.ensures; steps = c.own_runs.ensures.steps; runs = c.own_runs.ensures.runs; texts = c.shared_runs.ensures.runs; counts = c.own_steps_count.ensures; time = c.own_runs.ensures.time } in
    let comes = comes-again serve machine others at ticked c.args.self.now goes c.args.table.now c.args.phase (process_number c.args.process) here c.args.run c.requires.run c.second_runs.ensures c.args.one.now c.requires.next in
    let step = c.in_ok-stepped.ensures.step machine at.state here.table_is (again-known serve machine others at ticked c.args.self.now goes c.args.table.now c.args.phase (process_number c.args.process) here c.args.run c.requires.run c.args.one.now comes) in
    let behind = after_event machine (Step (process_number c.args.process)) at in
    goes-behind serve machine others at ticked c.args.self.now goes c.args.table.now c.args.phase (process_number c.args.process) here c.args.run c.requires.run c.note.new.self c.in_ok-stepped.stepped.ready false c.note.ensures.goods c.note.ensures.runs ticked
    (subst (λ (n : ℕ). IsAgain (good_machine machine.design) machine others c.note.new.self.tried.now behind n ticked) (sym c.note.ensures.next)
    (subst (λ (l : List TriedStep). IsAgain (good_machine machine.design) machine others l behind (c.args.self.now.next + 1) ticked) (sym c.note.ensures.tried) comes.on))
    (kept-own serve machine others at ticked c.args.self.now goes c.args.table.now c.args.phase (process_number c.args.process) here c.args.run c.requires.run c.in_ok-stepped.stepped.ready (ready-behind serve machine others at ticked c.args.self.now goes c.args.table.now c.args.phase (process_number c.args.process) here c.args.run c.requires.run ∙ sym step.ready)
    (again-own serve machine others at ticked c.args.self.now goes c.args.table.now c.args.phase (process_number c.args.process) here c.args.run c.requires.run c.args.one.now comes))
