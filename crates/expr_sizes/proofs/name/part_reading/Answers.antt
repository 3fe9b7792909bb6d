use Rattle.std.proofs.Common.{◌≡◌, true, [], rules}
use Rattle.vf_base.specs.Base.{source_place}
use Rattle.expr_sizes.specs.Bounds.{bounds_of}
use Rattle.expr_sizes.proofs.NameLaws.{no-first-bound, no-second-bound}
use Rattle.expr_sizes.proofs.name.part_reading.Goals as goal

pub returns-in-None : goal.returns-in-None
returns-in-None c faults h =
    let e : c.args.bounds.ranged ≡ true = search rules in
    no-first-bound c.args.bounds.ranged (bounds_of c.args.bounds) (source_place c.args.place) c.args.name.now faults c.args.from c.args.to _ e c.in-None.is (c.refused.ensures [] faults h)

pub returns-in-None-to : goal.returns-in-None-to
returns-in-None-to c faults h =
    let e : c.args.bounds.ranged ≡ true = search rules in
    no-second-bound c.args.bounds.ranged (bounds_of c.args.bounds) (source_place c.args.place) c.args.name.now faults c.args.from c.args.to c.in-Some.from _ e c.in-Some.is c.in-None-to.is
    (c.refused-in-None-to.ensures [] faults h)
