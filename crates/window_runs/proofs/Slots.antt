-- The runs of a slot's phases.
use Rattle.std.proofs.Common.{◌≡◌, ℕ, ◌+◌, ◌<◌, ◌≤◌, ◌^◌, List, length, refl, sym, subst, inl, inr, arith}
use Rattle.std.specs.Prelude.{Option, None, Some, slice_get}
use Rattle.std.proofs.lemmas.Option.{slice_get_cases, slice_get_past}
use Rattle.v_design.specs.Designs.{FlatDesign, good_machine}
use Rattle.v_design.specs.Grades.{Phase}
use Rattle.v_design.specs.OwnSteps.{process_runs}
use Rattle.window_runs.specs.OfPhase.{HasRunsOf, TellsGoodRun, TellsRuns}
use Rattle.window_runs.specs.OfSlot.{HasRunsOfSlot, TellsSlot, phase_of, run_in}
use Rattle.window_runs.specs.declared.slot.SlotRuns.{SlotRuns}

module _ (design : FlatDesign) (time : ℕ) (phases : List Phase) (kept : SlotRuns) (tells : TellsSlot design time phases kept) (number : ℕ) where
  -- past the last phase there is no run
  pub none-past : (process run : ℕ) → kept.phases ≤ number → TellsGoodRun design time process (run_in (good_machine design) (slice_get phases number) process run) None
  none-past process run past =
      let count = tells.count in
      subst (λ (o : Option Phase). TellsGoodRun design time process (run_in (good_machine design) o process run) None) (sym (slice_get_past phases number (omega (arith, count, past))))
      (record { told = λ code own. refl; stand = λ code one own is. cc })

  -- a phase of a lower number is there, and its number in the window fits
  pub some-phase : number < kept.phases → (phase : Phase) × (slice_get phases number ≡ Some phase)
  some-phase low = elim (slice_get_cases phases number).1 [
    | inl found ↦ (found.0, found.2)
    | inr past ↦ absurd (let count = tells.count in omega (arith, count, low, past.0))
  ]

  pub number-fits : number < kept.phases → kept.before + number + 1 < 2 ^ 32
  number-fits low = let fits = tells.fits in omega (arith, fits, low)

  pub phase-tells : number < kept.phases → (phase : Phase) × (slice_get phases number ≡ Some phase) × TellsRuns design time (λ process. process_runs (good_machine design) process phase) (phase_of kept number)
  phase-tells low = let found = some-phase low in (found.0, found.1, tells.told number found.0 found.1)

pub has-runs : (process number : ℕ) (kept : SlotRuns) (has : HasRunsOfSlot process kept) → number < kept.phases → HasRunsOf process (phase_of kept number)
has-runs process number kept has low =
    let found = phase-tells has.design has.time has.phases kept has.tells number low in
    record { design = has.design; time = has.time; runs = λ other. process_runs (good_machine has.design) other found.0; tells = found.2; there = has.there }
