use Rattle.std.proofs.Common.{[], ◌∙◌, ap, sym, subst, length, get_or}
use Rattle.process_code.specs.Codes.{rests_in_code}
use Rattle.process_code.specs.Reached.{CountsOnly, StopsWith}
use Rattle.process_code.proofs.Spots.{state-kept}
use Rattle.process_code.proofs.state.ProcState.copy.Goals as goal

pub returns-clause-state : goal.returns-clause-state
returns-clause-state c code h =
    let operands = c.in_ok-operands.ensures.items ∙ c.deref.ensures.value in
    let counts = c.in_ok-counts.ensures.items ∙ c.deref-2.ensures.value in
    state-kept code c.args.self.now _ h (ap length counts) h.rest
    (record {
      counts = subst (CountsOnly (get_or (rests_in_code code) c.args.self.now.position [])) (sym counts) h.reached.counts;
      stops = subst (StopsWith (rests_in_code code) c.args.self.now.stage) (sym operands) h.reached.stops;
    })
