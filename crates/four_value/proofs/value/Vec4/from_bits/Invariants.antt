use Rattle.std.proofs.Common.{◌≡◌, take}
use Rattle.four_value.specs.Bits.{is_unknown}
use Rattle.four_value.specs.Planes.{is_one_or_z, plane_of}
use Rattle.four_value.proofs.value.Vec4.from_bits.Given as goal

abbrev pub invariant-loop-place : goal.invariant-loop-place
invariant-loop-place l = (l.ones ≡ plane_of is_one_or_z (take l.place l.bits)) × (l.unknowns ≡ plane_of is_unknown (take l.place l.bits))
