use Rattle.std.proofs.Common.{[], Option, option_map, sym, subst}
use Rattle.vf_base.specs.Base.{source_place}
use Rattle.v_names.specs.declared.entry.Entry.{Entry}
use Rattle.v_names.specs.ScopeViews.{entry_of}
use Rattle.v_names.specs.Readings.{alone_faults, indexed_reading}
use Rattle.expr_sizes.specs.ExprReadings.{IsReading}
use Rattle.expr_sizes.proofs.name.indexed_reading.Goals as goal

pub returns-in-None : goal.returns-in-None
returns-in-None c at h =
    let P : Option Entry → Type 0 = λ x. IsReading (indexed_reading (option_map entry_of x) (source_place c.args.place) c.args.name.now at) c.refused.result in
    subst P (sym c.in-None.is) (c.refused.ensures [] (alone_faults at) (c.alone_faults.ensures at h))
