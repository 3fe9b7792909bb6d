-- A bit that is looked for from piece to piece (IEEE 1364-2001, clause 4.2.1).
use Rattle.four_value.specs.Values.{LogicValue, bit_at}
use Rattle.four_value.specs.declared.logic.Bit.{Bit}
use Rattle.v_design.specs.Expressions.{Progress, Needs, Has}
use Rattle.process_operands.specs.declared.part.Sought.{Sought}
use Rattle.process_operands.specs.declared.part.Sought.TheVariants.{Found, Further}

-- the bit that is looked for, over the bits that are still to come
abbrev pub sought_bit : Sought → LogicValue → Bit
sought_bit (Found bit) bits = bit
sought_bit (Further places) bits = bit_at bits places

-- some answer in the stead of another
abbrev pub got : {A B : Type 0} → (A → B) → Progress A → Progress B
got f (Needs object) = Needs object
got f (Has answer left) = Has (f answer) left
