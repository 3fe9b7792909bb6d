use Rattle.std.proofs.Common.{sym, subst}
use Rattle.v_design.specs.PlainDesigns.{design_of}
use Rattle.run_ends.specs.RunEnds.{AreCodesOf}
use Rattle.good_trace.proofs.Growing.{AreCodesOf-compiled}
use Rattle.good_trace.proofs.setup.Setup.codes.Goals as goal

pub returns-clause-world : goal.returns-clause-world
returns-clause-world g c =
    subst (λ design. AreCodesOf design c.deref.result.now) (sym c.self.invariant.design_is)
    (subst (AreCodesOf (design_of c.self.inside.design.now)) (sym c.deref.ensures.value) (AreCodesOf-compiled c.self.inside.design.now c.self.inside.codes.items c.self.invariant.codes_are))
