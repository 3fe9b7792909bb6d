-- A copy that keeps what differs at the start stands for the faulty machine there.
use Rattle.std.proofs.Common.{◌≢◌, ℕ, refl}
use Rattle.four_value.specs.Values.{LogicValue}
use Rattle.v_design.specs.Assignments.{value_at}
use Rattle.v_design.specs.Designs.{FlatDesign, StuckAt, good_machine}
use Rattle.v_design.specs.States.{start}
use Rattle.copy_state.specs.EntryLaws.{all-owned}
use Rattle.copy_state.specs.Kept.{CopyKept, nothing_kept}
use Rattle.start_copy.specs.Start.{KeepsStart, StandsAtStart, value_differences}
use Rattle.start_copy.proofs.laws.starts_in_lockstep.Goals as goal

at-start : (design : FlatDesign) (fault : StuckAt) (number : ℕ) (new : CopyKept) → KeepsStart design fault (nothing_kept number) new → StandsAtStart design fault (value_differences new.values)
at-start design fault number new keeps = record {
  stands = record {
    value_count = keeps.value_count;
    process_count = refl;
    nodes = refl;
    values = keeps.values;
    activities = λ process. refl;
    updates = λ process. refl;
  };
  lanes = λ process. refl;
  nothing_equal = record {
    values =
        all-owned (λ (entry : ℕ × LogicValue). entry.1 ≢ value_at (start (good_machine design)).values entry.0) new.values keeps.ascend (λ object own is. keeps.differ object own is);
    activities = tt;
    updates = tt;
    values_ascend = keeps.ascend;
    activities_ascend = tt;
    updates_ascend = tt;
  };
  may = record { activities = λ process. refl; updates = λ process own is. cc };
  lockstep = record {
    within = record {
      value_count = keeps.value_count;
      node_count = refl;
      process_count = refl;
      values = keeps.values;
      nodes = λ number. refl;
      processes = λ process. refl;
    };
    time = refl;
    nodes = λ number. refl;
    processes = λ process own is. (let no : ⊥ = cc in absurd no);
  };
  nothing_same = record { values = keeps.differ; processes = λ process own is. (let no : ⊥ = cc in absurd no) };
}

pub returns : goal.returns
returns c = λ design fault number new keeps. (keeps.rest, at-start design fault number new keeps)
