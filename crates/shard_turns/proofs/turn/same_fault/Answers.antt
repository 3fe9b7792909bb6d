-- A fault is its number.
use Rattle.std.proofs.Common.{ℕ, ap, eq-eqb}
use Rattle.std.proofs.lemmas.Bool.{eqb-true}
use Rattle.vf_base.specs.declared.ids.FaultId.{FaultId}
use Rattle.shard_turns.proofs.turn.same_fault.Goals as goal

pub returns : goal.returns
returns c = (
  λ yes. ap (λ (n : ℕ). let fault : FaultId = record { 0 = n } in fault) (eqb-true c.args.one.0 c.args.other.0 yes),
  λ same. eq-eqb c.args.one.0 c.args.other.0 (ap (λ (fault : FaultId). fault.0) same),
)
