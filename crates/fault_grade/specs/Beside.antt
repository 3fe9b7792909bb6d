-- A faulty machine beside the good machine's samples, from strobe to strobe and to the end (strobes and slots by IEEE 1364-2001, clause 5).
use Rattle.std.proofs.Common.{◌≡◌, ℕ, zero, suc, ◌+◌, ◌<◌, ◌≤◌, ◌^◌, get_or, List, [], ◌∷◌, ◌++◌, refl, sym, ap, subst, ◌∙◌, arith}
use Rattle.std.specs.Prelude.{Option, Some, None, length, map}
use Rattle.std.proofs.lemmas.List.{length-map}
use Rattle.vf_base.specs.Base.{WatchedBit}
use Rattle.vf_base.specs.Lists.{AllHold}
use Rattle.vf_base.specs.declared.finding.Pair.{Pair}
use Rattle.v_design.specs.Designs.{FlatDesign, FlatObject, Machine, StuckAt, TestPlan, width_in, faulty_machine}
use Rattle.v_design.specs.States.{start}
use Rattle.v_design.specs.Runs.{first_run}
use Rattle.v_design.specs.Grades.{Sample, Stop, first_stop}
use Rattle.v_design.specs.WellFormed.{KeepsRules, IsPlan, IsPlanOf}
use Rattle.order_laws.specs.FirstRuns.{FirstRunsGoOn}
use Rattle.strobe_detect.specs.Graders.{IsWatched}
use Rattle.grade_laws.specs.Ahead.{StopsAfter, Shows}
use Rattle.grade_laws.specs.Decisions.{NotBefore}
use Rattle.grade_laws.specs.Grading.{IsGoodRun, IsBeside, StopsWithin, good_stop, faulty_stop, beside-start, beside-more}
use Rattle.machine.specs.Standing.{IsStanding, machine_kept, state_kept, begins_next}
use Rattle.machine.specs.declared.parts.Machine.{Machine as Simulated}
use Rattle.fault_grade.specs.declared.stop.Stop.{Stop as Found}
use Rattle.fault_grade.specs.Benches.{IsObjectOf}
use Rattle.fault_grade.specs.Stops.{race_stop, race_if, stop_view}
use Rattle.fault_grade.specs.Reached.{GoesOn, IsReached, StopsFirst, Advanced, goes-from-start}
use Rattle.fault_grade.specs.Gradings.{AdvancesTo, less_one, last_before}

-- the machine of a fault went on beside the good machine's samples: these strobes were passed, and these samples are next
pub record IsBesideAt (design : FlatDesign) (plan : TestPlan) (fault : StuckAt) (m : Simulated) (passed : List ℕ) (next : List Sample) : Type 0 where
  pub same_machine : machine_kept m ≡ faulty_machine design fault
  pub now : ℕ
  pub goes : GoesOn now m
  pub beside : IsBeside design plan fault now passed next

-- Lists and numbers

pub some-is : {A : Type 0} (one other : A) → Some one ≡ Some other → one ≡ other
some-is one other e = cc

-- times up to a plan's end are early
pub early : (plan : TestPlan) (time : ℕ) → IsPlan plan → time ≤ plan.end → time ≤ 2 ^ 63
early plan time rules h = let e : plan.end ≤ 1000000000000 = rules.end in omega (arith, h, e)

less-is : (one other : ℕ) → less_one one ≡ Some other → one ≡ other + 1
less-is zero other f = cc
less-is (suc one) other f = let x : one ≡ other = some-is one other f in omega (arith, x)

-- Answers that are known

pub answered : (time : ℕ) (old new : Simulated) (stop known : Option Found) → stop ≡ known → Advanced time old stop new → Advanced time old known new
answered time old new stop known is a = subst (λ s. Advanced time old s new) is a

pub advanced-to : (until other : Option ℕ) (old new : Simulated) (stop known : Option Found) → until ≡ other → stop ≡ known → AdvancesTo until old stop new → AdvancesTo other old known new
advanced-to until other old new stop known same is a = subst (λ s. AdvancesTo other old s new) is (subst (λ u. AdvancesTo u old stop new) same a)

-- The start

pub start-goes : FirstRunsGoOn → (m : Simulated) (machine : Machine) → machine_kept m ≡ machine → KeepsRules machine.design → begins_next m ≡ Some (start machine) → IsStanding m → GoesOn 0 m
start-goes law m machine same rules begins standing =
    goes-from-start law m (subst (λ (x : Machine). KeepsRules x.design) (sym same) rules) standing (begins ∙ ap (λ x. Some (start x)) (sym same))

-- a faulty machine at its start, before the first sample
pub begins-beside : FirstRunsGoOn → (design : FlatDesign) (plan : TestPlan) (fault : StuckAt) (m : Simulated) (shown : List Sample) (stop : Option Stop) → KeepsRules design → IsPlan plan →
    machine_kept m ≡ faulty_machine design fault →
    begins_next m ≡ Some (start (faulty_machine design fault)) → IsStanding m → IsGoodRun design plan shown stop → IsBesideAt design plan fault m [] shown
begins-beside law design plan fault m shown stop rules plan_rules same begins standing good =
    record { same_machine = same; now = 0; goes = start-goes law m (faulty_machine design fault) same rules begins standing; beside = beside-start design plan fault shown stop plan_rules good }

-- A strobe

-- the first stop of a machine that stops so, of which this is known by another name
first-of : (plan : TestPlan) (m : Simulated) (machine : Machine) (until : ℕ) (stop : Found) → machine_kept m ≡ machine → StopsFirst (machine_kept m) until stop → until ≤ plan.end →
    first_stop machine (first_run machine plan.end) ≡ Some (stop_view stop)
first-of plan m machine until stop same first h = subst (λ (x : Machine). first_stop x (first_run x plan.end) ≡ Some (stop_view stop)) same (first plan.end h)

module _ (design : FlatDesign) (plan : TestPlan) (fault : StuckAt) (m new : Simulated) (passed : List ℕ) (sample : Sample) (next : List Sample)
    (at : IsBesideAt design plan fault m passed (sample ∷ next)) where
  pub reached-beside : IsReached sample.time m
  reached-beside = (at.now, at.beside.since.0, at.goes)

  pub early-beside : IsPlan plan → sample.time ≤ 2 ^ 63
  early-beside rules = early plan sample.time rules at.beside.in_time.0

  pub sized-beside : length sample.bits ≡ length plan.watched
  sized-beside = ap length at.beside.bits.0 ∙ length-map plan.watched _

  -- the faulty machine stops
  pub stops-here : (stop : Found) → Advanced sample.time m (Some stop) new → (faulty_stop design plan fault ≡ Some (stop_view stop)) × ((stop_view stop).time ≤ sample.time)
  stops-here stop advanced = (first-of plan m (faulty_machine design fault) sample.time stop at.same_machine advanced.1 at.beside.in_time.0, advanced.0)

  -- it goes on
  pub shows-here : Advanced sample.time m None new → Shows (faulty_machine design fault) plan.end sample.time (state_kept new).values
  shows-here advanced = subst (λ (machine : Machine). Shows machine plan.end sample.time (state_kept new).values) at.same_machine (advanced.2 plan.end at.beside.in_time.0)

  pub goes-beside : Advanced sample.time m None new → IsBesideAt design plan fault new (passed ++ sample.time ∷ []) next
  goes-beside advanced = record {
    same_machine = advanced.0 ∙ at.same_machine;
    now = advanced.1.0;
    goes = advanced.1.2;
    beside = beside-more design plan fault at.now passed sample next at.beside (state_kept new).values (shows-here advanced) advanced.1.0 advanced.1.1;
  }

-- After the last strobe

module _ (design : FlatDesign) (plan : TestPlan) (fault : StuckAt) (m new : Simulated) (passed : List ℕ) (at : IsBesideAt design plan fault m passed []) where
  -- how far the faulty machine runs on
  pub reached-late : (race : Option Pair) (time : ℕ) → good_stop design plan ≡ race_if race → last_before race plan.end ≡ Some time → IsReached time m
  reached-late None time e l = (at.now, subst (λ t. at.now ≤ t) (some-is plan.end time l) at.beside.within, at.goes)
  reached-late (Some race) time e l = (at.now, before at.now (less-is race.time time l) (λ h. subst (StopsAfter at.now) e (at.beside.earlier h)), at.goes)
    where
      before : (now : ℕ) → race.time ≡ time + 1 → (0 < now → now < race.time) → now ≤ time
      before zero f h = omega arith
      before (suc now) f h = let x : suc now < race.time = h (omega arith) in omega (arith, x, f)

  -- it stops, before the good machine
  pub stops-late : (race : Option Pair) (stop : Found) → AdvancesTo (last_before race plan.end) m (Some stop) new → good_stop design plan ≡ race_if race → StopsWithin plan.end (race_if race) →
      (faulty_stop design plan fault ≡ Some (stop_view stop)) × StopsAfter (stop_view stop).time (good_stop design plan)
  stops-late None stop advanced e within =
      (first-of plan m (faulty_machine design fault) plan.end stop at.same_machine advanced.1 (omega arith), subst (StopsAfter (stop_view stop).time) (sym e) tt)
  stops-late (Some race) stop advanced e within = go race.time refl advanced
    where
      go : (time : ℕ) → race.time ≡ time → AdvancesTo (less_one time) m (Some stop) new → (faulty_stop design plan fault ≡ Some (stop_view stop))
          × StopsAfter (stop_view stop).time (good_stop design plan)
      go zero f advanced = cc
      go (suc time) f advanced =
          let by : (stop_view stop).time ≤ time = advanced.0 in
          let after : StopsAfter (stop_view stop).time (Some (race_stop race)) = omega (arith, by, f) in
          (first-of plan m (faulty_machine design fault) time stop at.same_machine advanced.1 (omega (arith, f, within)), subst (StopsAfter (stop_view stop).time) (sym e) after)

  not-before-start : (stop : Option Stop) → NotBefore 0 stop
  not-before-start None = tt
  not-before-start (Some stop) = omega arith

  not-before : (time : ℕ) (stop : Option Stop) → StopsAfter time stop → NotBefore (suc time) stop
  not-before time None a = tt
  not-before time (Some stop) a = omega (arith, a)

  -- it doesn't stop before the good machine's race
  pub not-before-race : (race : Pair) → AdvancesTo (last_before (Some race) plan.end) m None new → race.time ≤ plan.end → NotBefore race.time (faulty_stop design plan fault)
  not-before-race race advanced within = go race.time refl advanced
    where
      go : (time : ℕ) → race.time ≡ time → AdvancesTo (less_one time) m None new → NotBefore race.time (faulty_stop design plan fault)
      go zero f advanced = subst (λ t. NotBefore t (faulty_stop design plan fault)) (sym f) (not-before-start (faulty_stop design plan fault))
      go (suc time) f advanced =
          subst (λ t. NotBefore t (faulty_stop design plan fault)) (sym f)
          (not-before time (faulty_stop design plan fault)
          (subst (λ (machine : Machine). StopsAfter time (first_stop machine (first_run machine plan.end))) at.same_machine (advanced.2 plan.end (omega (arith, f, within))).stops))

  -- it never stops
  pub never-stops : AdvancesTo (last_before None plan.end) m None new → faulty_stop design plan fault ≡ None
  never-stops advanced = subst (λ (machine : Machine). first_stop machine (first_run machine plan.end) ≡ None) at.same_machine advanced.3

-- how far the faulty machine runs on is early
pub early-late : (plan : TestPlan) (race : Option Pair) (time : ℕ) → IsPlan plan → StopsWithin plan.end (race_if race) → last_before race plan.end ≡ Some time → time ≤ 2 ^ 63
early-late plan race time rules within l = early plan time rules (go race within l)
  where
    go : (race : Option Pair) → StopsWithin plan.end (race_if race) → last_before race plan.end ≡ Some time → time ≤ plan.end
    go None w f = let x : plan.end ≡ time = some-is plan.end time f in omega (arith, x)
    go (Some pair) w f = let x : pair.time ≡ time + 1 = less-is pair.time time f in omega (arith, x, w)

-- What is watched

object-there : (objects : List FlatObject) (object bit : ℕ) → bit < get_or (map (λ (o : FlatObject). o.width) objects) object 0 → object < length objects
object-there [] object bit h = absurd (omega (arith, h))
object-there (o ∷ objects) zero bit h = omega arith
object-there (o ∷ objects) (suc object) bit h = let r : object < length objects = object-there objects object bit h in omega (arith, r)

-- what is watched are objects of the design
pub objects-watched : (design : FlatDesign) (watched : List WatchedBit) → AllHold (λ (w : WatchedBit). w.bit < width_in design w.object) watched → AllHold (IsObjectOf design) watched
objects-watched design [] h = tt
objects-watched design (w ∷ watched) h = (object-there design.objects w.object w.bit h.0, objects-watched design watched h.1)

-- and so have values
pub values-watched : (m : Simulated) (watched : List WatchedBit) → length (state_kept m).values ≡ length (machine_kept m).design.objects → AllHold (IsObjectOf (machine_kept m).design) watched →
    AllHold (IsWatched (state_kept m).values) watched
values-watched m [] sized h = tt
values-watched m (w ∷ watched) sized h = (let x : w.object < length (machine_kept m).design.objects = h.0 in omega (arith, sized, x), values-watched m watched sized h.1)

-- of a machine of a design, whose plan says what is watched
pub plan-watched : (design : FlatDesign) (plan : TestPlan) (m : Simulated) → IsPlanOf design plan → (machine_kept m).design ≡ design → IsStanding m →
    AllHold (IsWatched (state_kept m).values) plan.watched
plan-watched design plan m of_design same standing =
    values-watched m plan.watched standing.values (subst (λ (d : FlatDesign). AllHold (IsObjectOf d) plan.watched) (sym same) (objects-watched design plan.watched of_design.watched))
