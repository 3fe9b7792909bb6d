use Rattle.std.proofs.Common.{◌≡◌, ◌++◌, ◌∷◌, [], map, take, codes}
use Rattle.v_design.specs.Plain.{fault_of}
use Rattle.v_design.specs.PlainDesigns.{design_of, plan_of}
use Rattle.pick_laws.specs.Kept.{kept_strobes}
use Rattle.vf_pick.specs.Faults.{lists_of}
use Rattle.vf_pick.specs.Texts.{strobe_lines}
use Rattle.vf_pick.proofs.text.write_pick.Given as goal

abbrev pub invariant-picked : goal.invariant-picked
invariant-picked l =
    l.out.items ≡ (codes "vfault pick 1" ++ 10 ∷ [])
    ++ strobe_lines (design_of l.design) (map fault_of l.faults) (lists_of l.hard) (kept_strobes (lists_of l.hard) (plan_of l.plan).strobes)
    (take l.one-index (kept_strobes (lists_of l.hard) (plan_of l.plan).strobes))
