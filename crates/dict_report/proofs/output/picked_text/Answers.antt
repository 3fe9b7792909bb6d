-- The strobes of the plan ascend, and the hard ones are some of them.
use Rattle.std.proofs.Common.{List, ℕ, sym, ap, subst}
use Rattle.std.specs.Prelude.{IsTrue}
use Rattle.vf_base.specs.Lists.{has, AllHold}
use Rattle.v_design.specs.PlainDesigns.{design_of, plan_of}
use Rattle.v_design.specs.RulesHold.{plan_rules_hold}
use Rattle.v_design.specs.WellFormed.{IsAscending}
use Rattle.vf_pick.specs.Faults.{lists_of}
use Rattle.dict_report.proofs.output.picked_text.Goals as goal

pub pick-requires-clause-ascending : goal.pick-requires-clause-ascending
pick-requires-clause-ascending c = subst IsAscending (sym c.as_slice.ensures) (plan_rules_hold (plan_of c.args.plan.now) c.args.plan.now.rules).ascending

-- the hard strobes of some faults are some of these
abbrev AreParts : List ℕ → List (List ℕ) → Type 0
AreParts strobes lists = AllHold (λ times. AllHold (λ time. IsTrue (has strobes time)) times) lists

pub pick-requires-clause-parts : goal.pick-requires-clause-parts
pick-requires-clause-parts c =
    subst (λ strobes. AreParts strobes (lists_of c.as_slice-2.result.now)) (sym c.as_slice.ensures)
    (subst (AreParts c.args.plan.now.strobes) (sym (ap lists_of c.as_slice-2.ensures.value)) (c.in_ok-hard.ensures.parts (design_of c.args.design.now) c.requires).listed)
