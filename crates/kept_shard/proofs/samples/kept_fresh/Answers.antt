-- One fault more.
use Rattle.std.proofs.Common.{◌≡◌, [], get_or, map, ap, ◌∙◌}
use Rattle.std.specs.Prelude.{None}
use Rattle.std.proofs.lemmas.List.{take_all}
use Rattle.vf_base.specs.Base.{fault_number}
use Rattle.vf_base.specs.declared.ids.FaultId.{FaultId}
use Rattle.kept_shard.specs.Keeping.{fresh_kept}
use Rattle.kept_shard.proofs.Swapping.{kept-more}
use Rattle.kept_shard.proofs.samples.kept_fresh.Goals as goal

pub faults-preserved : goal.faults-preserved
faults-preserved c =
    let d : FaultId = record { 0 = 0 } in
    let number = get_or c.args.faults.now c.faults.fault-index d in
    let none : c.from_vec.result ≡ [] = c.from_vec.ensures ∙ c.new.ensures.items in
    kept-more c.args.faults.now c.faults.fault-index d c.faults.kept.items c.push.new.self.items (record { fault = number; differs = c.from_vec.result; end = None }) c.faults-test.true
    c.faults.invariant c.in_ok-push.ensures.items (λ i. record (fresh_kept (fault_number number)) { differs = none i })

pub returns : goal.returns
returns c = c.faults.invariant ∙ ap (λ l. map fresh_kept (map fault_number l)) (take_all c.faults.fault-index c.args.faults.now c.faults-test.false)
