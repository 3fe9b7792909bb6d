-- The first fault of the number.
use Rattle.std.proofs.Common.{sym, ap, ◌∙◌}
use Rattle.std.specs.Prelude.{Some}
use Rattle.std.proofs.lemmas.List.Elements.{All-nil}
use Rattle.vf_base.specs.Base.{fault_number}
use Rattle.copy_shard.proofs.Places.{none-all, none-more, place-at}
use Rattle.copy_shard.proofs.shard.place_of.Goals as goal

pub faults-init : goal.faults-init
faults-init c = All-nil _

pub returns-then-fault-clause-found : goal.returns-then-fault-clause-found
returns-then-fault-clause-found c =
    place-at c.args.faults.now c.faults.place c.index-faults-place.result c.faults-test.true c.index-faults-place.is ∙ ap Some (sym c.fault.ensures ∙ c.if-fault.true)

pub faults-preserved : goal.faults-preserved
faults-preserved c =
    none-more c.args.faults.now (fault_number c.args.fault) c.faults.place c.index-faults-place.result c.faults-test.true c.index-faults-place.is
    (λ same. c.if-fault.false (c.fault.ensures ∙ same)) c.faults.invariant

pub returns-clause-none : goal.returns-clause-none
returns-clause-none c = none-all c.args.faults.now (fault_number c.args.fault) c.faults.place c.faults-test.false c.faults.invariant
