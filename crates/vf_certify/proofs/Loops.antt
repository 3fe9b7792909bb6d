-- What stops with a race, or not at all, doesn't loop (slots by IEEE 1364-2001, clause 5).
use Rattle.std.proofs.Common.{◌≡◌, ℕ, true, false, sym, ap, ◌∙◌}
use Rattle.std.specs.Prelude.{Option, Some, None, is_some}
use Rattle.vf_base.specs.Base.{reported_pair}
use Rattle.vf_base.specs.declared.finding.Pair.{Pair}
use Rattle.v_design.specs.Designs.{FlatDesign, TestPlan}
use Rattle.v_design.specs.Grades.{SlotOutcome, Fine, Race, Hyper, Stop}
use Rattle.grade_laws.specs.Grading.{good_stop}
use Rattle.fault_grade.specs.Stops.{race_if}

-- how a stop that may be there ends its slot
abbrev outcome_or : Option Stop → SlotOutcome
outcome_or None = Fine
outcome_or (Some stop) = stop.outcome

pub no-loop : (design : FlatDesign) (plan : TestPlan) (race : Option Pair) → good_stop design plan ≡ race_if race →
    (time : ℕ) → good_stop design plan ≡ Some (record { time = time; outcome = Hyper }) → ⊥
no-loop design plan None is time loops = let told : false ≡ true = sym (ap is_some is) ∙ ap is_some loops in absurd (cc)
no-loop design plan (Some pair) is time loops = let told : Hyper ≡ Race (reported_pair pair) = ap outcome_or (sym loops ∙ is) in absurd (cc)
