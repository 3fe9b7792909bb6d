-- Those that stand for themselves, fault by fault.
use Rattle.std.proofs.Common.{◌≡◌, ◌≤◌, length, map, arith}
use Rattle.std.proofs.lemmas.List.{length-map}
use Rattle.vf_base.specs.Base.{fault_number}
use Rattle.fault_shards.proofs.Cutting.{own-more, own-other, own-all}
use Rattle.fault_shards.proofs.cut.own_faults.Goals as goal
use Rattle.fault_shards.proofs.cut.own_faults.Goals.{then-first-number+in_ok-push, else-first-number}

pub faults-preserved : goal.faults-preserved
faults-preserved c =
    elim c.if-first-number.branch [
      | then-first-number+in_ok-push w ↦ rw (w.own-is, w.in_ok-push.ensures.items) (own-more c.args.standing.now c.faults.own.items c.faults.number _ c.faults-test.true w.if-first-number.true
          c.faults.invariant)
      | else-first-number w ↦ rw w.own-is (own-other c.args.standing.now c.faults.own.items c.faults.number _ c.faults-test.true w.if-first-number.false c.faults.invariant)
    ]

pub returns-clause-own : goal.returns-clause-own
returns-clause-own c =
    let size : length (map fault_number c.args.standing.now) ≡ length c.args.standing.now = length-map c.args.standing.now fault_number in
    let past : length c.args.standing.now ≤ c.faults.number = c.faults-test.false in
    own-all (map fault_number c.args.standing.now) (map fault_number c.faults.own.items) c.faults.number (omega (arith, size, past)) c.faults.invariant

pub returns-clause-few : goal.returns-clause-few
returns-clause-few c =
    let few : length (map fault_number c.faults.own.items) ≤ c.faults.number = c.faults.invariant.few in
    let size : length (map fault_number c.faults.own.items) ≡ length c.faults.own.items = length-map c.faults.own.items fault_number in
    let end : c.faults.number ≤ length c.args.standing.now = c.faults.auto.number-end in
    omega (arith, few, size, end)
