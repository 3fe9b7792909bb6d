-- What the strobes see of a copy in lockstep (strobes by the plan; slots by IEEE 1364-2001, clause 5).
use Rattle.std.proofs.Common.{◌≡◌, ℕ, suc, ◌<◌, ◌≤◌, true, false, List, [], ◌∷◌, ◌++◌, refl, sym, ap, subst, ◌∙◌}
use Rattle.std.specs.Prelude.{Option, Some, None, slice_get}
use Rattle.std.proofs.lemmas.List.{append-nil, append_assoc}
use Rattle.four_value.specs.declared.logic.Bit.{Bit}
use Rattle.vf_base.specs.Base.{WatchedBit}
use Rattle.vf_base.specs.Lists.{AllHold}
use Rattle.v_design.specs.Designs.{FlatDesign, StuckAt, TestPlan, good_machine, faulty_machine}
use Rattle.v_design.specs.Grades.{Detected, Judged, samples}
use Rattle.v_design.specs.Runs.{FirstSlot}
use Rattle.v_design.specs.WellFormed.{IsPlan, KeepsRules}
use Rattle.copy_laws.specs.Differences.{Differences, own_of}
use Rattle.copy_laws.specs.Windows.{good_slots, state_at}
use Rattle.copy_overlay.specs.FaultyLaws.{faulty-stands}
use Rattle.grade_laws.specs.Ahead.{StopsAfter}
use Rattle.grade_laws.specs.Grading.{good_seen, good_stop, faulty_seen}
use Rattle.lockstep_copies.specs.Copies.{IsCopyInLockstep}
use Rattle.fault_strobes.specs.Said.{Said, ends_there, said_at}
use Rattle.fault_strobes.specs.Strobes.{EndsWith, StrobesGoOn}
use Rattle.fault_strobes.proofs.Samples.{nothing-ends, said-same}
use Rattle.lockstep_shards.specs.Shards.{AreSeenAt, StandsAtStrobe}
use Rattle.lockstep_shards.proofs.Laws.{ShardLaws}

-- Strobes

-- a copy in lockstep stands at each strobe before the next slot
pub stands-at : ShardLaws → (design : FlatDesign) (plan : TestPlan) (fault : StuckAt) (number time : ℕ) (d : Differences) (strobe : ℕ) → IsCopyInLockstep design plan fault number time d →
    time ≤ strobe → ((next : FirstSlot) → slice_get (good_slots design plan) (suc number) ≡ Some next → strobe < next.begins.time) → StopsAfter strobe (good_stop design plan) →
    StandsAtStrobe design plan fault d strobe
stands-at laws design plan fault number time d strobe c low before good_on =
    let later : IsCopyInLockstep design plan fault number strobe d = laws.copies.stays design plan fault number time strobe d c low before in
    record { good_on = good_on; own_on = later.own_on; copy = later.copy }

module _ (laws : ShardLaws) (design : FlatDesign) (plan : TestPlan) (rules : KeepsRules design) (fault : StuckAt) (d : Differences) (strobe : ℕ) (stands : StandsAtStrobe design plan fault d strobe) where
  good-bits : good_seen design plan strobe ≡ samples plan.watched (state_at (good_machine design) plan.end strobe).values
  good-bits = laws.runs.sees (good_machine design) plan.watched plan.end strobe rules

  own-bits : faulty_seen design plan fault strobe ≡ samples plan.watched (state_at (faulty_machine design fault) plan.end strobe).values
  own-bits = laws.runs.sees (faulty_machine design fault) plan.watched plan.end strobe rules

  module _ (good faulty : List Bit) (seen : AreSeenAt design plan d strobe good faulty) where
    good-seen : good ≡ good_seen design plan strobe
    good-seen = seen.good_is ∙ sym good-bits

    own-seen : faulty ≡ faulty_seen design plan fault strobe
    own-seen =
        seen.faulty_is
        ∙ ap (samples plan.watched) (faulty-stands d (state_at (good_machine design) plan.end strobe) (state_at (faulty_machine design fault) plan.end strobe) stands.copy.stands)
        ∙ sym own-bits

    pub sees : (now : Option ℕ) (passed next : List ℕ) (said new : Said) → IsPlan plan → StrobesGoOn design plan fault now passed (strobe ∷ next) said →
        ends_there good faulty said ≡ false → new ≡ said_at strobe good faulty said → StrobesGoOn design plan fault (Some strobe) (passed ++ strobe ∷ []) next new
    sees now passed next said new of_plan goes none is =
        laws.grading.strobe design plan fault now passed next strobe said new good faulty of_plan goes stands.good_on stands.own_on good-seen own-seen none is

    pub finds : (now : Option ℕ) (passed next : List ℕ) (said new : Said) → StrobesGoOn design plan fault now passed (strobe ∷ next) said →
        ends_there good faulty said ≡ true → new ≡ said_at strobe good faulty said → EndsWith design plan fault strobe (Judged (Detected strobe)) new
    finds now passed next said new goes hard is =
        laws.ends.hard design plan fault now passed next strobe said new good faulty goes stands.good_on stands.own_on good-seen own-seen hard is

-- where no watched object differs, strobes find nothing new
module _ (laws : ShardLaws) (design : FlatDesign) (plan : TestPlan) (rules : KeepsRules design) (of_plan : IsPlan plan) (fault : StuckAt) (d : Differences) (said : Said)
    (none : AllHold (λ (w : WatchedBit). own_of d.values w.object ≡ None) plan.watched) where
  one-unseen : (strobe : ℕ) (now : Option ℕ) (passed next : List ℕ) → StandsAtStrobe design plan fault d strobe → StrobesGoOn design plan fault now passed (strobe ∷ next) said →
      StrobesGoOn design plan fault (Some strobe) (passed ++ strobe ∷ []) next said
  one-unseen strobe now passed next stands goes =
      laws.grading.strobe design plan fault now passed next strobe said said (good_seen design plan strobe) (faulty_seen design plan fault strobe) of_plan goes stands.good_on stands.own_on
      refl refl (nothing-ends (good_seen design plan strobe) (faulty_seen design plan fault strobe) said ((laws.see design plan fault d strobe rules stands.copy).same none))
      (said-same strobe (good_seen design plan strobe) (faulty_seen design plan fault strobe) said ((laws.see design plan fault d strobe rules stands.copy).same none))

  pub unseen : (strobes : List ℕ) (now : Option ℕ) (passed later : List ℕ) → AllHold (StandsAtStrobe design plan fault d) strobes → StrobesGoOn design plan fault now passed (strobes ++ later) said →
      (then : Option ℕ) × StrobesGoOn design plan fault then (passed ++ strobes) later said
  unseen [] now passed later all goes = (now, subst (λ (l : List ℕ). StrobesGoOn design plan fault now l later said) (sym (append-nil passed)) goes)
  unseen (strobe ∷ strobes) now passed later all goes =
      let rest = unseen strobes (Some strobe) (passed ++ strobe ∷ []) later all.1 (one-unseen strobe now passed (strobes ++ later) all.0 goes) in
      (rest.0, subst (λ (l : List ℕ). StrobesGoOn design plan fault rest.0 l later said) (append_assoc passed (strobe ∷ []) strobes) rest.1)
