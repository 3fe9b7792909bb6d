-- The bits before the slot are the good machine's.
use Rattle.std.proofs.Common.{◌++◌, List, map, ap, ◌∙◌}
use Rattle.four_value.specs.declared.logic.Bit.{Bit}
use Rattle.kept_samples.specs.Plain.{sample_of}
use Rattle.slot_strobes.specs.Counts.{samples_of}
use Rattle.slot_strobes.proofs.slot.push_each.Goals as goal

pub returns : goal.returns
returns g c =
    c.in_ok-push_samples.ensures
    ∙ ap (λ (bits : List Bit). map sample_of c.args.kept.now.items ++ samples_of bits c.args.strobes.now) (c.as_slice.ensures.value ∙ c.in_ok-bits.ensures)
