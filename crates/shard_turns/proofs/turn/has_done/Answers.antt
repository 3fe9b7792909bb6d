-- A shard has done the window just where it has gone as far, and its numbers are the same.
use Rattle.std.proofs.Common.{map, ap, sym, ◌∙◌}
use Rattle.vf_base.specs.Base.{fault_number}
use Rattle.good_trace.specs.Traces.{WindowKept}
use Rattle.shard_turns.proofs.Faults.{faults-one}
use Rattle.shard_turns.proofs.turn.has_done.Goals as goal

pub returns : goal.returns
returns g c = (
  λ yes. record {
    gone = sym c.at.ensures ∙ c.if-at-through.false ∙ (c.ends-through.ensures.number ∙ ap (λ (w : WindowKept). w.through) c.window.ensures);
    places = sym c.faults.ensures ∙ ap (map fault_number) (c.same_faults.ensures.0 yes) ∙ c.faults-2.ensures;
  },
  λ done. c.same_faults.ensures.1 (faults-one c.faults.result.now c.faults-2.result.now (c.faults.ensures ∙ done.places ∙ sym c.faults-2.ensures)),
)
