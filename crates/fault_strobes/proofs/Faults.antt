-- A fault of a shard, by the strobes that may end its grading (slots by IEEE 1364-2001, clause 5).
use Rattle.std.proofs.Common.{◌≡◌, ℕ, zero, suc, Bool, refl, ◌∙◌}
use Rattle.std.specs.Prelude.{Some}
use Rattle.v_design.specs.Designs.{FlatDesign, StuckAt, TestPlan}
use Rattle.copy_laws.specs.Differences.{Differences}
use Rattle.copy_laws.specs.Windows.{IsCopyAt, time_at}
use Rattle.beside_laws.specs.GoodRuns.{IsAllAt, IsOpenAt}
use Rattle.beside_laws.specs.Shards.{FaultsGoOn}
use Rattle.fault_strobes.specs.Said.{ending_strobes, keeps, plan_by}
use Rattle.fault_strobes.specs.Strobes.{StrobedFaultsGoOn}
use Rattle.fault_strobes.proofs.Ends.{is-plan}
use Rattle.fault_strobes.proofs.Strobes.{as-graded, grader_for}

-- the good first run goes the same way by the plan with other strobes
pub time-same : (design : FlatDesign) (plan : TestPlan) (kept : Bool) (at : ℕ) → time_at design (plan_by kept plan) at ≡ time_at design plan at
time-same design plan kept zero = refl
time-same design plan kept (suc at) = refl

pub open-by : (design : FlatDesign) (plan : TestPlan) (kept : Bool) (through time : ℕ) → IsOpenAt design plan through time → IsOpenAt design (plan_by kept plan) through time
open-by design plan kept through time o = record {
  time_is = time-same design plan kept through ∙ o.time_is;
  early = o.early;
  more = o.more;
  goes_on = o.goes_on;
  state_is = o.state_is;
}

pub all-by : (design : FlatDesign) (plan : TestPlan) (kept : Bool) (through : ℕ) → IsAllAt design plan through → IsAllAt design (plan_by kept plan) through
all-by design plan kept through a = record { time_is = time-same design plan kept through ∙ a.time_is; all = a.all }

pub copy-by : (design : FlatDesign) (plan : TestPlan) (fault : StuckAt) (kept : Bool) (time : ℕ) (d : Differences) → IsCopyAt design plan fault time d → IsCopyAt design (plan_by kept plan) fault time d
copy-by design plan fault kept time d c = record { stands = c.stands; nothing_equal = c.nothing_equal }

pub copy-back : (design : FlatDesign) (plan : TestPlan) (fault : StuckAt) (kept : Bool) (time : ℕ) (d : Differences) → IsCopyAt design (plan_by kept plan) fault time d → IsCopyAt design plan fault time d
copy-back design plan fault kept time d c = record { stands = c.stands; nothing_equal = c.nothing_equal }

pub strobed-faults : FaultsGoOn → StrobedFaultsGoOn
strobed-faults law = record {
  goes_on = λ design plan fault through time passed next said d runs_on g copy.
      law.goes_on design (plan_by (keeps said) plan) fault through time (ending_strobes (keeps said) passed) (ending_strobes (keeps said) next) (grader_for plan said) d
      (open-by design plan (keeps said) through time runs_on) (as-graded design plan fault (Some time) passed next said g) (copy-by design plan fault (keeps said) time d copy);
  ends = λ design plan fault kept through time ended found d runs_on ends low.
      law.ends design (plan_by kept plan) fault through time ended found d (open-by design plan kept through time runs_on) ends low;
  ends_all = λ design plan fault kept through ended found d rules of_plan all ends.
      law.ends_all design (plan_by kept plan) fault through ended found d rules (is-plan kept plan of_plan) (all-by design plan kept through all) ends;
  copies = copy-back;
  judged = λ design plan. refl;
}
