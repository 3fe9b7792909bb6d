-- The bytes of the bits so far.
use Rattle.std.proofs.Common.{◌≡◌, ◌++◌, map, take}
use Rattle.dict_text.specs.Texts.{bit_text}
use Rattle.dict_text.proofs.sample.append_bits.Given as goal

abbrev pub invariant-bits : goal.invariant-bits
invariant-bits l = l.out.items ≡ l.initial.out.items ++ map bit_text (take l.bit-index l.bits)
