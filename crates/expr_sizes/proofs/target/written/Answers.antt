use Rattle.std.proofs.Common.{refl}
use Rattle.vf_base.specs.Base.{source_place}
use Rattle.expr_sizes.proofs.TargetLaws.{written-may, written-not}
use Rattle.expr_sizes.proofs.target.written.Goals as goal

pub returns-then-may : goal.returns-then-may
returns-then-may c reading h = written-may c.args.may (source_place c.args.place) reading c.args.own c.if-may.true h

pub returns : goal.returns
returns c reading h =
    written-not c.args.may (source_place c.args.place) reading _ c.if-may.false
    (record {
      size_is = refl;
      faults_are = record { all_is = c.wrong_kind-wrong.ensures.all_is; other_is = c.wrong_kind-wrong.ensures.other_is; inside_is = h.faults_are.inside_is; wrong_is = refl };
    })
