use Rattle.std.proofs.Common.{Some, ◌∙◌, ap, sym}
use Rattle.response_text.specs.Reading.{observed_bits}
use Rattle.response_text.proofs.ObservedBits.{bits_behind, bits-first, bits-more, bits-stop, bits-end}
use Rattle.response_text.proofs.bits.observed_bits.Goals as goal

pub loop-byte-init : goal.loop-byte-init
loop-byte-init c = bits-first (observed_bits c.args.bytes.now) ∙ ap (λ l. bits_behind l (observed_bits c.args.bytes.now)) (sym c.in_ok-bits.ensures.items)

pub loop-byte-preserved : goal.loop-byte-preserved
loop-byte-preserved c = bits-more _ _ _ c.args.bytes.now c.loop-byte.byte-index _ c.loop-byte-test.true c.loop-byte.invariant c.in-Some.ensures c.in_ok-push.ensures.items

pub returns-in_default : goal.returns-in_default
returns-in_default c = bits-stop _ _ c.args.bytes.now c.loop-byte.byte-index c.loop-byte-test.true c.loop-byte.invariant c.in_default.ensures

pub returns : goal.returns
returns c = ap (λ l. Some l) c.from_vec.ensures ∙ bits-end _ _ c.args.bytes.now c.loop-byte.byte-index c.loop-byte-test.false c.loop-byte.invariant
