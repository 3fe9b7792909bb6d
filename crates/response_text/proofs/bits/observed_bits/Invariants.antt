use Rattle.std.proofs.Common.{◌≡◌, drop}
use Rattle.response_text.specs.Reading.{observed_bits}
use Rattle.response_text.proofs.ObservedBits.{bits_behind}
use Rattle.response_text.proofs.bits.observed_bits.Given as goal

abbrev pub invariant-loop-byte : goal.invariant-loop-byte
invariant-loop-byte l = observed_bits l.bytes ≡ bits_behind l.bits.items (observed_bits (drop l.byte-index l.bytes))
