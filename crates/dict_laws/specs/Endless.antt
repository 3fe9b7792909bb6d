-- Where a full grade has no end neither machine stops, and its samples are those at all strobes (slots and phases by IEEE 1364-2001, clause 5).
use Rattle.std.proofs.Common.{◌≡◌, ℕ, List, [], ◌∷◌, Bool, true, false, refl, sym, ap, ◌∙◌}
use Rattle.std.specs.Prelude.{Option, Some, None, nat_le}
use Rattle.v_design.specs.Designs.{FlatDesign, Machine, StuckAt, TestPlan, faulty_machine}
use Rattle.v_design.specs.Runs.{FirstSlot, first_run}
use Rattle.v_design.specs.Grades.{Samples, samples_at, SlotOutcome, Fine, Race, Hyper, slot_outcome, Stop, first_stop, good_ending, faulty_ending, FaultGrade, FullGrade, ended_in_full}
use Rattle.v_design.specs.Grades.{ended_by_good, full_faulty, full_of, full_grade}
use Rattle.dict_laws.specs.Filled.{good_stop, faulty_stop, faulty_seen}

-- neither machine stops, and these are a fault's samples at all strobes
pub record IsEndless (design : FlatDesign) (plan : TestPlan) (fault : StuckAt) (full : FullGrade) : Type 0 where
  pub good : good_stop design plan ≡ None
  pub faulty : faulty_stop design plan fault ≡ None
  pub samples : full.samples ≡ samples_at (faulty_seen design plan fault) plan.strobes

-- Stops are races or loops

abbrev IsStop : Option Stop → Type 0
IsStop None = Unit {0}
IsStop (Some stop) = stop.outcome ≡ Fine → ⊥

stop-is : (machine : Machine) (slots : List FirstSlot) → IsStop (first_stop machine slots)
stop-is machine [] = tt
stop-is machine (slot ∷ slots) = go (slot_outcome machine slot) (stop-is machine slots)
  where
    go : (outcome : SlotOutcome) → IsStop (first_stop machine slots) →
        IsStop (elim outcome [
          | Fine ↦ first_stop machine slots
          | Race pair ↦ Some (record { time = slot.begins.time; outcome = Race pair })
          | Hyper ↦ Some (record { time = slot.begins.time; outcome = Hyper })
        ])
    go Fine rest = rest
    go (Race pair) rest = λ e. cc
    go Hyper rest = λ e. cc

faulty-ends : (time : ℕ) (outcome : SlotOutcome) → (outcome ≡ Fine → ⊥) → faulty_ending time outcome ≡ None → ⊥
faulty-ends time Fine h e = h refl
faulty-ends time (Race pair) h e = cc
faulty-ends time Hyper h e = cc

some-full : (one other : FullGrade) → Some one ≡ Some other → one ≡ other
some-full one other e = cc

some-none : {A : Type 0} (end : FaultGrade) → Some end ≡ None → A
some-none end e = cc

-- a stop of either machine gives an end

faulty-has : {A : Type 0} (stop : Stop) (seen : Samples) (strobes : List ℕ) (full : FullGrade) → (stop.outcome ≡ Fine → ⊥) → Some (full_faulty (Some stop) seen strobes) ≡ Some full →
    full.end ≡ None → A
faulty-has stop seen strobes full s e n = absurd (faulty-ends stop.time stop.outcome s (ap (λ (f : FullGrade). f.end) (some-full (full_faulty (Some stop) seen strobes) full e) ∙ n))

good-has : {A : Type 0} (time : ℕ) (end : Option FaultGrade) (seen : Samples) (strobes : List ℕ) (full : FullGrade) → ended_by_good time end seen strobes ≡ Some full → full.end ≡ None → A
good-has time None seen strobes full e n = cc
good-has time (Some end) seen strobes full e n = some-none end (ap (λ (f : FullGrade). f.end) (some-full (ended_in_full time (Some end) seen strobes) full e) ∙ n)

abbrev AreNone : Option Stop → Option Stop → Samples → List ℕ → FullGrade → Type 0
AreNone good faulty seen strobes full = (good ≡ None) × (faulty ≡ None) × (full.samples ≡ samples_at seen strobes)

full-none : (good faulty : Option Stop) (seen : Samples) (strobes : List ℕ) (full : FullGrade) → IsStop faulty → full_of good faulty seen strobes ≡ Some full → full.end ≡ None →
    AreNone good faulty seen strobes full
full-none None None seen strobes full s e n = (refl, refl, ap (λ (f : FullGrade). f.samples) (sym (some-full (full_faulty None seen strobes) full e)))
full-none None (Some stop) seen strobes full s e n = faulty-has stop seen strobes full s e n
full-none (Some stop) None seen strobes full s e n = good-has stop.time (good_ending stop.outcome) seen strobes full e n
full-none (Some stop) (Some other) seen strobes full s e n = go (nat_le stop.time other.time) e
  where
    go : (b : Bool) → elim b [ true ↦ ended_by_good stop.time (good_ending stop.outcome) seen strobes | false ↦ Some (full_faulty (Some other) seen strobes) ] ≡ Some full →
        AreNone (Some stop) (Some other) seen strobes full
    go true f = good-has stop.time (good_ending stop.outcome) seen strobes full f n
    go false f = faulty-has other seen strobes full s f n

-- a full grade without an end
pub neither_stops : (design : FlatDesign) (plan : TestPlan) (fault : StuckAt) (full : FullGrade) → full_grade design plan fault ≡ Some full → full.end ≡ None → IsEndless design plan fault full
neither_stops design plan fault full e n =
    let found : AreNone (good_stop design plan) (faulty_stop design plan fault) (faulty_seen design plan fault) plan.strobes full =
    full-none (good_stop design plan) (faulty_stop design plan fault) (faulty_seen design plan fault) plan.strobes full
    (stop-is (faulty_machine design fault) (first_run (faulty_machine design fault) plan.end)) e n in
    record { good = found.0; faulty = found.1; samples = found.2 }
