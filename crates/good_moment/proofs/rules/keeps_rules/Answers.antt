-- A design that is read keeps its rules.
use Rattle.std.proofs.Common.{sym, subst}
use Rattle.v_design.specs.PlainDesigns.{design_of}
use Rattle.v_design.specs.RulesHold.{rules_hold}
use Rattle.v_design.specs.WellFormed.{KeepsRules}
use Rattle.good_moment.proofs.rules.keeps_rules.Goals as goal

pub returns : goal.returns
returns g c =
    let design = c.design-design.result.now in
    subst KeepsRules (sym c.design-design.ensures.world) (rules_hold (design_of design) design.rules)
