-- What the strobes see.
use Rattle.std.proofs.Common.{◌≡◌, List, [], ◌∷◌, refl, sym, ◌∙◌}
use Rattle.std.specs.Prelude.{None}
use Rattle.four_value.specs.Values.{bit_at}
use Rattle.vf_base.specs.Base.{WatchedBit}
use Rattle.vf_base.specs.Lists.{AllHold}
use Rattle.v_design.specs.Designs.{good_machine, faulty_machine}
use Rattle.v_design.specs.Assignments.{value_at}
use Rattle.v_design.specs.Grades.{samples}
use Rattle.v_design.specs.States.{State, found_or}
use Rattle.copy_laws.specs.Differences.{Differences, own_of, StandsFor}
use Rattle.copy_laws.specs.Windows.{state_at}
use Rattle.grade_laws.specs.Grading.{faulty_seen}
use Rattle.beside_laws.specs.Stands.{RunsStand}
use Rattle.quiet_slots.specs.Strobes.{own_samples, StrobesSeeCopies}

own-seen : (watched : List WatchedBit) (d : Differences) (good faulty : State) → StandsFor d good faulty → samples watched faulty.values ≡ own_samples watched good d
own-seen [] d good faulty s = refl
own-seen (w ∷ watched) d good faulty s = λ i. bit_at (s.values w.object i) w.bit ∷ own-seen watched d good faulty s i

same-seen : (watched : List WatchedBit) (d : Differences) (good : State) → AllHold (λ (w : WatchedBit). own_of d.values w.object ≡ None) watched → own_samples watched good d ≡ samples watched good.values
same-seen [] d good none = refl
same-seen (w ∷ watched) d good none = λ i. bit_at (found_or (value_at good.values w.object) (none.0 i)) w.bit ∷ same-seen watched d good none.1 i

pub strobes_see_copies : RunsStand → StrobesSeeCopies
strobes_see_copies law design plan fault d strobe rules copy =
    let own : faulty_seen design plan fault strobe ≡ own_samples plan.watched (state_at (good_machine design) plan.end strobe) d = law.sees (faulty_machine design fault) plan.watched plan.end strobe rules
    ∙ own-seen plan.watched d (state_at (good_machine design) plan.end strobe) (state_at (faulty_machine design fault) plan.end strobe) copy.stands in
    record {
      own = own;
      same = λ none. own ∙ same-seen plan.watched d (state_at (good_machine design) plan.end strobe) none ∙ sym (law.sees (good_machine design) plan.watched plan.end strobe rules);
    }
