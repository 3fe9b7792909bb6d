-- By how far it has gone, and the numbers of its faults.
use Rattle.std.proofs.Common.{map, ap, sym, ◌∙◌}
use Rattle.vf_base.specs.Base.{fault_number}
use Rattle.good_trace.specs.Traces.{WindowKept}
use Rattle.shard_turns.proofs.Faults.{faults-one}
use Rattle.shard_turns.proofs.visits.stands_before.Goals as goal

pub returns : goal.returns
returns g c = (
  λ yes. record {
    gone = sym c.at.ensures ∙ c.if-at-before.false ∙ (c.begins-before.ensures.number ∙ ap (λ (w : WindowKept). w.before) c.window.ensures);
    faults = sym c.faults.ensures ∙ ap (map fault_number) (c.same_faults.ensures.0 yes) ∙ c.shard.ensures;
  },
  λ stands. c.same_faults.ensures.1 (faults-one c.faults.result.now c.shard.result.now (c.faults.ensures ∙ stands.faults ∙ sym c.shard.ensures)),
)
