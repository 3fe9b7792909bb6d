-- Before the first window.
use Rattle.std.proofs.Common.{false, sym, subst}
use Rattle.v_design.specs.PlainDesigns.{design_of}
use Rattle.v_design.specs.RulesHold.{rules_hold}
use Rattle.v_design.specs.WellFormed.{KeepsRules}
use Rattle.dict_windows.proofs.Seeing.{see-nothing}
use Rattle.dict_windows.proofs.good.nothing_seen.Goals as goal

pub returns : goal.returns
returns g c =
    see-nothing g.N.World.design g.N.World.plan c.good_run_goes_on.ensures
    (subst KeepsRules (sym c.design-design.ensures.world) (rules_hold (design_of c.design-design.result.now) c.design-design.result.now.rules)) (record { samples = c.new.result; raced = false })
    c.new.ensures.items
