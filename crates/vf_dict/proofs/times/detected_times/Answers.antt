-- Strobe by strobe.
use Rattle.std.proofs.Common.{drop, subst}
use Rattle.kept_samples.specs.declared.kept.Sample.{Sample}
use Rattle.vf_dict.specs.SideBySide.{PassesStrobe}
use Rattle.vf_dict.proofs.Sides.{passed-start, passed-more, passed-all}
use Rattle.vf_dict.proofs.times.detected_times.Goals as goal

pub strobes-init : goal.strobes-init
strobes-init c = passed-start c.args.good.now c.args.differs.now c.new-times.result.items c.new-times.ensures.items

pub strobes-preserved : goal.strobes-preserved
strobes-preserved c =
    passed-more c.args.good.now c.args.differs.now c.strobes.sample-index c.sample-item.result (drop c.strobes.next c.args.differs.now)
    (drop c.in_ok-later.later c.args.differs.now) c.strobes.times.items c.pass_strobe.new.times.items c.strobes-test.true
    c.strobes.invariant (subst (λ (sample : Sample). PassesStrobe sample (drop c.strobes.next c.args.differs.now) c.strobes.times.items
    (drop c.in_ok-later.later c.args.differs.now) c.pass_strobe.new.times.items) c.sample-item.is c.in_ok-later.ensures)

pub returns : goal.returns
returns c = passed-all c.args.good.now c.args.differs.now c.strobes.sample-index (drop c.strobes.next c.args.differs.now) c.strobes.times.items c.strobes-test.false c.strobes.invariant
