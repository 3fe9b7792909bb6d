-- The step is the good machine's, or it is taken.
use Rattle.std.proofs.Common.{◌≡◌, ℕ, ◌+◌, List, true, false, refl, sym, subst, ◌∙◌, arith}
use Rattle.vf_base.specs.Base.{process_number}
use Rattle.v_design.specs.Designs.{FlatDesign, good_machine}
use Rattle.v_design.specs.States.{Step}
use Rattle.machine_laws.specs.SlotLoop.{after_event}
use Rattle.run_ends.specs.RunEnds.{IsCodeAt}
use Rattle.good_runs.specs.declared.tried.TriedStep.{TriedStep}
use Rattle.own_slots.specs.Again.{IsAgain}
use Rattle.process_table.specs.Arranged.{table_of}
use Rattle.runs_beside.specs.Beside.{GoesBeside}
use Rattle.runs_beside.proofs.Choosing.{Serve}
use Rattle.runs_beside.proofs.Stepped.{goes-behind, is-other, kept-follows, kept-own, known-moves, ready-behind}
use Rattle.runs_beside.proofs.beside.RunsBeside.step_beside.Goals as goal

pub follow-requires-clause-stands : goal.follow-requires-clause-stands
follow-requires-clause-stands g c = λ code own.
    let s = c.requires.stands.some in
    (c.in-Some.ensures s.machine s.others s.at s.ticked s.goes s.here c.requires.stands.values_are).1 code
    (subst (λ (d : FlatDesign). IsCodeAt d (process_number c.args.process) code) s.here.table_is.design own)

pub follow-requires-clause-known : goal.follow-requires-clause-known
follow-requires-clause-known g c =
    let s = c.requires.stands.some in
    record {
      machine = s.machine;
      state = s.at.state;
      of = s.here.table_is;
      step = (c.in-Some.ensures s.machine s.others s.at s.ticked s.goes s.here c.requires.stands.values_are).0;
    }

pub returns-in_ok-stepped-in-Some-clause-step : goal.returns-in_ok-stepped-in-Some-clause-step
returns-in_ok-stepped-in-Some-clause-step g c = λ own state of values.
    let s = c.requires.stands.some in
    c.in_ok-stepped-in-Some.ensures.step own state of
    (known-moves s.machine own s.at.state state (process_number c.args.process) (table_of c.args.table.now) s.here.table_is of (values ∙ sym c.requires.stands.values_are) c.in-Some.known.line
    c.in-Some.known.act c.in-Some.known.next.now (c.in-Some.ensures s.machine s.others s.at s.ticked s.goes s.here c.requires.stands.values_are).0)

pub returns-in_ok-stepped-in-Some-clause-beside : goal.returns-in_ok-stepped-in-Some-clause-beside
returns-in_ok-stepped-in-Some-clause-beside g c = λ machine others at ticked goes here values.
    let serve : Serve = record { known = c.known_steps_go_on.ensures; steps = c.own_runs.ensures.steps; runs = c.own_runs.ensures.runs; texts = c.shared_runs.ensures.runs; counts = c.own_steps_count.ensures; time = c.own_runs.ensures.time } in
    let k = c.in-Some.ensures machine others at ticked goes here values in
    let step = c.in_ok-stepped-in-Some.ensures.step machine at.state here.table_is k.0 in
    let behind = after_event machine (Step (process_number c.args.process)) at in
    let old = c.args.self.now in
    let none : ticked ≡ ticked + 0 = omega arith in
    let again = c.second_runs.ensures.follows (good_machine machine.design) machine others old.tried.now at (process_number c.args.process) old.next ticked here.comes_on
    (is-other serve machine others at ticked c.args.self.now goes c.args.table.now c.args.phase (process_number c.args.process) here c.args.run c.requires.run c.requires.later) goes.again in
    record {
      more = 0;
      rose = refl;
      goes = subst (λ (n : ℕ). GoesBeside machine others behind n c.note.new.self) none
          (goes-behind serve machine others at ticked c.args.self.now goes c.args.table.now c.args.phase (process_number c.args.process) here c.args.run c.requires.run c.note.new.self c.in_ok-stepped-in-Some.stepped.ready true c.note.ensures.goods c.note.ensures.runs ticked
          (subst (λ (n : ℕ). IsAgain (good_machine machine.design) machine others c.note.new.self.tried.now behind n ticked) (sym c.note.ensures.next)
          (subst (λ (l : List TriedStep). IsAgain (good_machine machine.design) machine others l behind old.next ticked) (sym c.note.ensures.tried) again))
          (kept-follows serve machine others at ticked c.args.self.now goes c.args.table.now c.args.phase (process_number c.args.process) here c.args.run c.requires.run c.in_ok-stepped-in-Some.stepped.ready (ready-behind serve machine others at ticked c.args.self.now goes c.args.table.now c.args.phase (process_number c.args.process) here c.args.run c.requires.run ∙ sym step.ready) k.2));
    }

pub returns-in_ok-stepped-in-None-clause-beside : goal.returns-in_ok-stepped-in-None-clause-beside
returns-in_ok-stepped-in-None-clause-beside g c = λ machine others at ticked goes here values.
    let serve : Serve = record { known = c.known_steps_go_on.ensures; steps = c.own_runs.ensures.steps; runs = c.own_runs.ensures.runs; texts = c.shared_runs.ensures.runs; counts = c.own_steps_count.ensures; time = c.own_runs.ensures.time } in
    let own = c.in-None.ensures machine others at ticked goes here values in
    let step = c.in_ok-stepped-in-None.ensures.step machine at.state here.table_is values in
    let behind = after_event machine (Step (process_number c.args.process)) at in
    let old = c.args.self.now in
    let again = c.second_runs.ensures.ticks (good_machine machine.design) machine others old.tried.now at (process_number c.args.process) old.next ticked here.comes_on here.there own
    (is-other serve machine others at ticked c.args.self.now goes c.args.table.now c.args.phase (process_number c.args.process) here c.args.run c.requires.run c.requires.later) goes.again in
    record {
      more = 1;
      rose = c.step.ensures.ticks;
      goes =
          goes-behind serve machine others at ticked c.args.self.now goes c.args.table.now c.args.phase (process_number c.args.process) here c.args.run c.requires.run c.note-in-None.new.self c.in_ok-stepped-in-None.stepped.ready false c.note-in-None.ensures.goods c.note-in-None.ensures.runs (ticked + 1)
          (subst (λ (n : ℕ). IsAgain (good_machine machine.design) machine others c.note-in-None.new.self.tried.now behind n (ticked + 1)) (sym c.note-in-None.ensures.next)
          (subst (λ (l : List TriedStep). IsAgain (good_machine machine.design) machine others l behind old.next (ticked + 1)) (sym c.note-in-None.ensures.tried) again))
          (kept-own serve machine others at ticked c.args.self.now goes c.args.table.now c.args.phase (process_number c.args.process) here c.args.run c.requires.run c.in_ok-stepped-in-None.stepped.ready (ready-behind serve machine others at ticked c.args.self.now goes c.args.table.now c.args.phase (process_number c.args.process) here c.args.run c.requires.run ∙ sym step.ready) own);
    }
