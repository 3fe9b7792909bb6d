-- What picked strobes detect in every legal order (IEEE 1364-2001, clause 5).
use Rattle.std.proofs.Common.{◌≡◌, ℕ, List, ap}
use Rattle.std.specs.Prelude.{Option, Some, None}
use Rattle.v_design.specs.Designs.{FlatDesign, StuckAt, TestPlan}
use Rattle.v_design.specs.Grades.{Detected, SlotOutcome, Hyper, Stop, Judged}
use Rattle.v_design.specs.WellFormed.{KeepsRules, IsPlan}
use Rattle.v_design.specs.Laws.{GradesHold}
use Rattle.order_laws.specs.Reports.{OrdersExist}
use Rattle.kept_samples.specs.Kept.{good_stop}
use Rattle.pick_laws.specs.Hard.{hard_times, with_strobes}
use Rattle.pick_laws.specs.Detections.{IsDetected, IsCalm, kept_of, KeptDetect, NoneCanGo, EachIsNeeded, KeptArePlans}
use Rattle.dict_report.specs.Outputs.{IsPickText}
use Rattle.dict_report.specs.Orders.{IsDetectedInEachOrder, PickHolds}
use Rattle.dict_report.proofs.Needing.{first-needing}

-- no loop, so no hyperactive stop
calm : (found : Option Stop) → ((time : ℕ) → found ≡ Some (record { time = time; outcome = Hyper }) → ⊥) → IsCalm found
calm None none = tt
calm (Some stop) none = λ e. none stop.time (ap (λ (outcome : SlotOutcome). Some (record { time = stop.time; outcome = outcome })) e)

-- the laws that picked strobes rest on
pub record PickLaws : Type 0 where
  pub detect : KeptDetect
  pub needed : EachIsNeeded
  pub none_can_go : NoneCanGo
  pub plans : KeptArePlans
  pub grades : GradesHold
  pub orders : OrdersExist

module _ (laws : PickLaws) (design : FlatDesign) (plan : TestPlan) (rules : KeepsRules design) (planned : IsPlan plan) where
  in-each-order : (fault : StuckAt) → IsDetected design (with_strobes plan (kept_of design plan)) fault → IsDetectedInEachOrder design (with_strobes plan (kept_of design plan)) fault
  in-each-order fault d =
      let kept = with_strobes plan (kept_of design plan) in
      let orders = laws.orders design kept fault (Detected d.0) rules (laws.plans design plan planned) d.1 in
      record {
        time = d.0;
        grade_is = d.1;
        each = laws.grades design kept fault (Judged (Detected d.0)) rules (laws.plans design plan planned) d.1;
        good_order = orders.0;
        faulty_order = orders.1;
      }

  pub pick-holds : (text : List ℕ) → IsPickText design plan text → PickHolds design plan text
  pick-holds text is =
      let goes_on : IsCalm (good_stop design plan) = calm (good_stop design plan) is.no_loop in
      record {
        text_is = is.text_is;
        detect = λ place fault stands detected. in-each-order fault (laws.detect design plan place fault planned goes_on stands detected);
        none_can_go = λ before strobe after e.
            let own = laws.needed design plan before strobe after planned e in
            let first = first-needing (hard_times design plan) (kept_of design plan) strobe plan.faults own.0 own.1 own.2 own.3 in
            record {
              fault = first.fault;
              printed = first.printed;
              place = first.place;
              listed = first.listed;
              lost = laws.none_can_go design plan first.fault before strobe after planned goes_on e first.needing;
            };
      }
