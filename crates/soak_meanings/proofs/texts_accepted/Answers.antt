-- The unit that the text spells is the one that has the design.
use Rattle.soak_tree.specs.SoakUnits.{soak_unit}
use Rattle.soak_meanings.proofs.texts_accepted.Goals as goal

pub returns : goal.returns
returns c = λ number size least most.
    let text = c.unit_spelled.ensures number size least most in let read = c.plan_there.ensures number size least most in (
      read.0,
      record { unit = soak_unit number size; spelled = record { tokens = text.tokens; are = text.are; spelled = text.spelled; within = text.within }; flat_is = read.1 },
      read.2,
      read.3,
    )
