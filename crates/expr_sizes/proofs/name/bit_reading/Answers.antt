use Rattle.std.proofs.Common.{◌≡◌, Some, true, false, ap, ap₂, rules, ◌∙◌}
use Rattle.vf_base.specs.Base.{source_place}
use Rattle.v_names.specs.Readings.{Size, alone_faults}
use Rattle.v_names.specs.SizedTrees.{SizedBit}
use Rattle.v_width.specs.SizedViews.{sized_of}
use Rattle.expr_sizes.proofs.ReadingLaws.{bit-ranged, bit-scalar}
use Rattle.expr_sizes.proofs.name.bit_reading.Goals as goal

pub returns-then-not-ranged : goal.returns-then-not-ranged
returns-then-not-ranged c at h =
    let e : c.args.ranged ≡ false = search rules in
    bit-scalar c.args.ranged (source_place c.args.place) c.args.name.now at _ e (c.misused.ensures (alone_faults at) (c.alone_faults.ensures at h))

pub returns : goal.returns
returns c at h =
    let e : c.args.ranged ≡ true = search rules in
    let n : c.in_ok-name.name ≡ c.args.name.now = c.in_ok-name.ensures ∙ c.as_bytes.ensures in
    let i : sized_of c.in_ok-index.index.value ≡ sized_of c.tree_alone-alone.result = search rules in
    bit-ranged c.args.ranged (source_place c.args.place) c.args.name.now at _ e (ap (λ (z : Size). Some z) c.one_bit.ensures) (c.apart-inside.ensures at.here at.inside h.faults_are)
    (λ w s. ap₂ (SizedBit w s) n (i ∙ c.tree_alone-alone.ensures at h))
