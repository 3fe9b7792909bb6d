use Rattle.std.proofs.Common.{ℕ, ◌*◌, ◌++◌, [], false, Option, ap, sym, subst, ◌∙◌}
use Rattle.vf_base.specs.Base.{source_place}
use Rattle.v_names.specs.Readings.{alone_faults, replication_reading}
use Rattle.v_names.specs.SizedTrees.{SizedReplication}
use Rattle.v_width.specs.Resized.{with_size}
use Rattle.v_width.specs.ViewLaws.{sized-replication}
use Rattle.expr_sizes.specs.ExprReadings.{IsReading}
use Rattle.expr_sizes.proofs.PartLaws.{replication-none, replication-some}
use Rattle.expr_sizes.proofs.parts.replication_reading.Goals as goal

pub returns-in-None : goal.returns-in-None
returns-in-None c read counted h k =
    let inside = read.inside ++ alone_faults counted in
    let f = c.together-faults.ensures [] read.inside [] (alone_faults counted) h.faults_are k in
    let P : Option ℕ → Type 0 = λ n. IsReading (replication_reading (source_place c.args.place) n read.width read.complete inside read.trees) c.refused.result in
    subst P (sym c.in-None.is) (c.refused.ensures [] inside f)

pub returns-in-None-total : goal.returns-in-None-total
returns-in-None-total c read counted h k =
    let inside = read.inside ++ alone_faults counted in
    let f = c.together-faults.ensures [] read.inside [] (alone_faults counted) h.faults_are k in
    let r = c.refused-in-None-total.result in
    let P : Option ℕ → Type 0 = λ n. IsReading (replication_reading (source_place c.args.place) n read.width read.complete inside read.trees) r in
    subst P (sym c.in-Some.is) (replication-none (source_place c.args.place) c.in-Some.count read inside r c.args.parts.total h.total_is c.in-None-total.is
    (c.refused-in-None-total.ensures [] inside f))

pub returns-in-Some-total : goal.returns-in-Some-total
returns-in-Some-total c read counted h k =
    let inside = read.inside ++ alone_faults counted in
    let f = c.together-faults.ensures [] read.inside [] (alone_faults counted) h.faults_are k in
    let n = c.in-Some.count in
    let seen = sized-replication c.one_bit.result n c.args.parts.trees in
    let P : Option ℕ → Type 0 = λ x. IsReading (replication_reading (source_place c.args.place) x read.width read.complete inside read.trees) c.sized.result in
    subst P (sym c.in-Some.is)
    (replication-some (source_place c.args.place) n read inside c.sized.result c.args.parts.total c.in-Some-total.total c.repeated_size-size.result h.total_is c.in-Some-total.is
    c.repeated_size-size.ensures
    (λ width z.
    c.sized.ensures (n * width) false read.complete inside (λ w s. SizedReplication w s n read.trees) z f (λ w s. ap (λ t. with_size t w s) seen ∙ ap (SizedReplication w s n) (sym h.trees_are))))
