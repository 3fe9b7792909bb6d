-- What findings on the faults of some shards keep (nothing of the language).
use Rattle.std.proofs.Common.{◌≡◌, ◌<◌, List, length, get_or, All, arith}
use Rattle.std.proofs.lemmas.Option.{slice_get_within}
use Rattle.vf_base.specs.Base.{fault_number}
use Rattle.vf_base.specs.declared.finding.Finding.{Finding}
use Rattle.v_design.specs.Designs.{FlatDesign, TestPlan}
use Rattle.fault_shards.specs.Found.{IsFinding, AreFound}
use Rattle.fault_shards.specs.Shards.{AreShardsOf, fault_count}
use Rattle.fault_shards.specs.declared.shards.Shards.{Shards}

-- each finding is on a listed fault
pub found-listed : (design : FlatDesign) (plan : TestPlan) (shards : Shards) (found : List Finding) → AreShardsOf design plan.faults shards → AreFound design plan found →
    All (λ (finding : Finding). fault_number finding.fault < fault_count shards) found
found-listed design plan shards found cut complete k d below =
    let finding : IsFinding design plan (get_or found k d) = complete.graded k d below in
    let within : fault_number (get_or found k d).fault < length plan.faults = slice_get_within plan.faults (fault_number (get_or found k d).fault) finding.fault finding.listed in
    let count : fault_count shards ≡ length plan.faults = cut.counted in
    omega (arith, within, count)
