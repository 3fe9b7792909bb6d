-- Output by output.
use Rattle.std.proofs.Common.{ℕ, List}
use Rattle.v_design.specs.Designs.{FlatDesign, TestPlan}
use Rattle.v_design.specs.WellFormed.{KeepsRules, IsPlan}
use Rattle.dict_report.specs.Outputs.{Output, DictText, Diagnosis, PickText, IsText}
use Rattle.dict_report.specs.Orders.{HoldsInEveryOrder}
use Rattle.dict_report.proofs.Holding.{DictionaryLaws, dict-holds, diagnosis-holds}
use Rattle.dict_report.proofs.Picking.{PickLaws, pick-holds}
use Rattle.dict_report.proofs.law.outputs_hold.Goals as goal

holds : DictionaryLaws → PickLaws → (output : Output) (design : FlatDesign) (plan : TestPlan) (text : List ℕ) → KeepsRules design → IsPlan plan → IsText output design plan text →
    HoldsInEveryOrder output design plan text
holds laws picks DictText design plan text rules planned is = dict-holds laws design plan rules planned text is
holds laws picks (Diagnosis response) design plan text rules planned is = diagnosis-holds laws design plan rules planned response text is
holds laws picks PickText design plan text rules planned is = pick-holds picks design plan rules planned text is

pub returns : goal.returns
returns c =
    holds
    (record {
      faulty = c.known_samples.ensures.faulty;
      good = c.known_samples.ensures.good;
      fits = c.known_samples.ensures.fits;
      grades = c.grades.ensures;
      back = c.patched_samples.ensures;
    })
    (record {
      detect = c.kept_strobes.ensures.detect;
      needed = c.kept_strobes.ensures.needed;
      none_can_go = c.kept_strobes.ensures.none_can_go;
      plans = c.kept_strobes.ensures.plans;
      grades = c.grades.ensures;
      orders = c.orders_exist.ensures;
    })
