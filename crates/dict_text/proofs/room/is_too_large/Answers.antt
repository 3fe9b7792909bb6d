-- A plan is within its limits.
use Rattle.std.proofs.Common.{◌+◌, ◌≤◌, length, ap, arith}
use Rattle.std.proofs.lemmas.List.{length-map}
use Rattle.vf_base.specs.Base.{watched_bit}
use Rattle.v_design.specs.Plain.{fault_of}
use Rattle.v_design.specs.PlainDesigns.{plan_of}
use Rattle.v_design.specs.WellFormed.{IsPlan}
use Rattle.v_design.specs.RulesHold.{plan_rules_hold}
use Rattle.dict_text.proofs.Rooms.{room-fits}
use Rattle.dict_text.proofs.room.is_too_large.Goals as goal

pub overflow_mul-room-2 : goal.overflow_mul-room-2
overflow_mul-room-2 c =
    let rules : IsPlan (plan_of c.args.plan.now) = plan_rules_hold (plan_of c.args.plan.now) c.args.plan.now.rules in
    let strobes : length c.as_slice.result.now ≤ 65536 = omega (arith, ap length c.as_slice.ensures, rules.few_strobes) in
    let bits : length c.as_slice-2.result.now + 16 ≤ 4112 = omega (arith, ap length c.as_slice-2.ensures, length-map c.args.plan.now.watched watched_bit, rules.few_watched) in
    let faults : length c.as_slice-3.result.now ≤ 65536 = omega (arith, ap length c.as_slice-3.ensures, length-map c.args.plan.now.faults fault_of, rules.few_faults) in
    omega (arith, (room-fits (length c.as_slice.result.now) (length c.as_slice-2.result.now + 16) (length c.as_slice-3.result.now) strobes bits faults).1)
