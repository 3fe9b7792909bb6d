-- What was found is of the shard's faults, which are representatives.
use Rattle.std.proofs.Common.{List, sym, subst, ◌∙◌, ⊎_elim}
use Rattle.std.specs.List.{Contains}
use Rattle.std.proofs.lemmas.List.Elements.{All-contains, All-contains_itself, All-weaker}
use Rattle.vf_base.specs.Base.{fault_number}
use Rattle.vf_base.specs.declared.finding.Finding.{Finding}
use Rattle.v_design.specs.PlainDesigns.{design_of, plan_of}
use Rattle.v_design.specs.RulesHold.{rules_hold, plan_rules_hold}
use Rattle.v_design.specs.WellFormed.{IsPlan, KeepsRules}
use Rattle.fault_shards.specs.Found.{found_faults}
use Rattle.fault_shards.specs.Shards.{representatives_of}
use Rattle.verdict_settle.specs.Settling.{AreSettled}
use Rattle.verdict_words.specs.Seats.{view}
use Rattle.verdict_words.specs.declared.view.Mark.{Mark}
use Rattle.shard_turns.proofs.Faults.{found-listed}
use Rattle.shard_turns.proofs.visits.settle_shard.Goals as goal

pub settle_findings-seat-requires-clause-rules : goal.settle_findings-seat-requires-clause-rules
settle_findings-seat-requires-clause-rules g c κs within = (
  subst KeepsRules (sym c.design-design.ensures.world) (rules_hold (design_of c.design-design.result.now) c.design-design.result.now.rules),
  subst IsPlan (sym c.plan-plan.ensures.world) (plan_rules_hold (plan_of c.plan-plan.result.now) c.plan-plan.result.now.rules),
)

pub returns : goal.returns
returns g c =
    let reps = representatives_of c.args.round.now.shards.now in
    let Listed = λ (m : Mark). Contains reps (fault_number m.fault) in
    let settled = subst (λ (l : List Finding). AreSettled (found_faults l) (view c.args.seat) (view c.settle_findings-seat.result)) (c.deref.ensures.value ∙ c.in_ok-found.ensures)
    c.settle_findings-seat.ensures.settled in record {
      own = c.settle_findings-seat.ensures.own;
      claims = c.settle_findings-seat.ensures.claims;
      moved = λ before.
          All-weaker (Contains (view c.settle_findings-seat.result).moved) Listed
          (λ m there. ⊎_elim (λ was. All-contains Listed (view c.args.seat).moved m before was)
          (λ of. found-listed reps c.args.number c.args.copy.now.faults c.shards_cover.ensures c.requires.faults (fault_number m.fault) of) (settled.moved m there))
          (view c.settle_findings-seat.result).moved (All-contains_itself (view c.settle_findings-seat.result).moved);
    }
