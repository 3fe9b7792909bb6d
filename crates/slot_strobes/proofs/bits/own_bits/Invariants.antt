-- The bits so far.
use Rattle.std.proofs.Common.{◌≡◌, ◌+◌, take, map}
use Rattle.vf_base.specs.Base.{watched_bit}
use Rattle.v_design.specs.Grades.{samples}
use Rattle.between_slots.specs.Between.{state_through}
use Rattle.copy_overlay.specs.Faulty.{faulty_values}
use Rattle.slot_strobes.proofs.bits.own_bits.Given as goal

abbrev pub invariant-watched : goal.invariant-watched
invariant-watched g l =
    l.bits.items
    ≡ samples (map watched_bit (take l.place-index l.watched)) (faulty_values (state_through g.N.World.design g.N.World.plan (l.window.before + l.slot)).values l.copy.values)
