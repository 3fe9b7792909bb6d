use Rattle.std.proofs.Common.{◌≤◌, length, map}
use Rattle.v_design.specs.Plain.{fault_of}
use Rattle.vf_base.specs.Base.{watched_bit}
use Rattle.plan_read.proofs.Ascends.{ascends, plan-keeps}
use Rattle.plan_read.proofs.read.plan_from.Goals as goal

pub invariant_of-result : goal.invariant_of-result
invariant_of-result c =
    let s = c.in_ok-strobes.ensures in
    let few_w : length (map watched_bit c.from_vec.result) ≤ 4096 = rw c.from_vec.ensures c.requires.few_watched in
    let few_f : length (map fault_of c.from_vec-2.result) ≤ 65536 = rw c.from_vec-2.ensures c.requires.few_faults in
    record {
      rules = ∣ plan-keeps c.args.end c.in_ok-strobes.strobes c.args.draft.strobes.items (map watched_bit c.from_vec.result) (map fault_of c.from_vec-2.result) c.requires.early s.ordered
          (s.within c.args.end c.requires.in_time) s.few c.requires.few_strobes few_w few_f ∣₁;
    }

pub returns-clause-ascending : goal.returns-clause-ascending
returns-clause-ascending c = ascends c.in_ok-strobes.strobes c.in_ok-strobes.ensures.ordered
