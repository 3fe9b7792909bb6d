-- Sample by sample.
use Rattle.std.proofs.Common.{◌+◌, ◌≤◌, ◌++◌, length, map, take, get_or, sym, ap, ◌∙◌, arith}
use Rattle.std.proofs.lemmas.List.{append-nil, take_all, take_more}
use Rattle.kept_samples.specs.Plain.{sample_of}
use Rattle.slot_strobes.specs.Counts.{samples_of}
use Rattle.slot_strobes.proofs.Sampled.{push-more}
use Rattle.slot_strobes.proofs.slot.push_samples.Goals as goal

pub strobes-init : goal.strobes-init
strobes-init c = sym (append-nil (map sample_of c.args.kept.now.items))

pub strobes-preserved : goal.strobes-preserved
strobes-preserved c =
    let old = map sample_of c.args.kept.now.items in
    let strobes = c.args.strobes.now in
    let place = c.strobes.strobe-index in
    ap (map sample_of) c.in_ok-push.ensures.items
    ∙ push-more c.args.bits.now c.strobes.kept.items old (take place strobes) (get_or strobes place 0) _ c.strobes.invariant
    (λ i. record { time = get_or strobes place 0; bits = (c.from_vec.ensures ∙ c.in_ok-own.ensures.items) i })
    ∙ ap (λ l. old ++ samples_of c.args.bits.now l) (sym (take_more strobes place 0 c.strobes-test.true))

pub returns : goal.returns
returns c =
    let past : length c.args.strobes.now ≤ c.strobes.strobe-index = omega (arith, c.strobes-test.false) in
    c.strobes.invariant ∙ ap (λ l. map sample_of c.args.kept.now.items ++ samples_of c.args.bits.now l) (take_all c.strobes.strobe-index c.args.strobes.now past)
