-- The step comes again, or goes beside the good machine's.
use Rattle.std.proofs.Common.{◌≡◌, ℕ, ◌+◌, refl, sym, subst, ◌∙◌, arith}
use Rattle.vf_base.specs.Base.{process_number}
use Rattle.v_design.specs.States.{Step}
use Rattle.machine_laws.specs.SlotLoop.{after_event}
use Rattle.runs_beside.specs.Beside.{GoesBeside}
use Rattle.runs_beside.proofs.beside.RunsBeside.step.Goals as goal

pub returns-in_ok-stepped-in-Some-clause-step : goal.returns-in_ok-stepped-in-Some-clause-step
returns-in_ok-stepped-in-Some-clause-step g c = λ machine state of values.
    let s = c.requires.stands.some in
    c.in_ok-stepped-in-Some.ensures.step s.machine s.others s.at s.ticked s.goes s.here machine state of (values ∙ sym c.requires.stands.values_are)

pub returns-in_ok-stepped-in-Some-clause-beside : goal.returns-in_ok-stepped-in-Some-clause-beside
returns-in_ok-stepped-in-Some-clause-beside g c = λ machine others at ticked goes here values.
    let none : ticked ≡ ticked + 0 = omega arith in
    record {
      more = 0;
      rose = refl;
      goes = subst (λ (n : ℕ). GoesBeside machine others (after_event machine (Step (process_number c.args.process)) at) n c.step_again.new.self) none
          (c.in_ok-stepped-in-Some.ensures.beside machine others at ticked goes here);
    }
