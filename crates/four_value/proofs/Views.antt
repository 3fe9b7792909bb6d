-- A value and its fields: the width and the two planes.
use Rattle.std.proofs.Common.{◌≡◌, ℕ, ◌+◌, ◌*◌, ◌%◌, ◌^◌, ◌<◌, ◌≤◌, Bool, true, false, [], ◌∷◌, length, refl, ap, sym, ◌∙◌}
use Rattle.std.specs.Prelude.{nat_eq}
use Rattle.four_value.specs.Bits.{is_unknown}
use Rattle.four_value.specs.Planes.{bits_in_planes, is_one_or_z, one_if, plane_of}
use Rattle.four_value.specs.PlanesLaws.{bit_in_planes-digits, length-bits_in_planes, plane_of-ones, plane_of-unknowns}
use Rattle.four_value.specs.Values.{LogicValue, IsWidth}
use Rattle.four_value.specs.declared.value.Vec4.TheInside.{Inside}
use Rattle.four_value.proofs.Planes.{halved, lowest, plane_of-lt}

pub record AreFields (bits : LogicValue) (width ones unknowns : ℕ) : Type 0 where
  pub wide : width ≡ length bits
  pub in_ones : ones ≡ plane_of is_one_or_z bits
  pub in_unknowns : unknowns ≡ plane_of is_unknown bits

pub fields_of : (v : Inside) (bits : LogicValue) → bits_in_planes v.width v.ones v.unknowns ≡ bits →
    (1 ≤ v.width) × (v.width ≤ 128) × (v.ones < 2 ^ v.width) × (v.unknowns < 2 ^ v.width) → AreFields bits v.width v.ones v.unknowns
fields_of v bits e h = record {
  wide = sym (length-bits_in_planes v.width v.ones v.unknowns) ∙ ap length e;
  in_ones = sym (plane_of-ones v.width v.ones v.unknowns h.2) ∙ ap (plane_of is_one_or_z) e;
  in_unknowns = sym (plane_of-unknowns v.width v.ones v.unknowns h.3) ∙ ap (plane_of is_unknown) e;
}

digit : (b : Bool) (m : ℕ) → nat_eq ((one_if b + 2 * m) % 2) 1 ≡ b
digit true m = ap (λ n. nat_eq n 1) (lowest true m)
digit false m = ap (λ n. nat_eq n 1) (lowest false m)

-- the bits of a value's planes are the value
pub bits_in_planes-plane_of : (bits : LogicValue) → bits_in_planes (length bits) (plane_of is_one_or_z bits) (plane_of is_unknown bits) ≡ bits
bits_in_planes-plane_of [] = refl
bits_in_planes-plane_of (b ∷ bits) =
    rw (
      digit (is_one_or_z b) (plane_of is_one_or_z bits),
      digit (is_unknown b) (plane_of is_unknown bits),
      halved (is_one_or_z b) (plane_of is_one_or_z bits),
      halved (is_unknown b) (plane_of is_unknown bits),
      bit_in_planes-digits b,
      bits_in_planes-plane_of bits,
    )

pub view_of : (bits : LogicValue) (width ones unknowns : ℕ) → AreFields bits width ones unknowns → bits_in_planes width ones unknowns ≡ bits
view_of bits width ones unknowns f = rw (f.wide, f.in_ones, f.in_unknowns) (bits_in_planes-plane_of bits)

pub fields_fit : (bits : LogicValue) (width ones unknowns : ℕ) → AreFields bits width ones unknowns → IsWidth width →
    (1 ≤ width) × (width ≤ 128) × (ones < 2 ^ width) × (unknowns < 2 ^ width)
fields_fit bits width ones unknowns f h =
    (h.0, h.1, rw (f.wide, f.in_ones) (plane_of-lt is_one_or_z bits), rw (f.wide, f.in_unknowns) (plane_of-lt is_unknown bits))
