use Rattle.std.proofs.Common.{◌≡◌, map, ap, ◌∙◌, arith}
use Rattle.std.specs.List.{range_with_len}
use Rattle.soak_text.specs.Soak.{stage_of}
use Rattle.soak_text.proofs.Seeds.{stages-more}
use Rattle.soak_text.proofs.draws.draw_stages.Goals as goal

pub stages-preserved : goal.stages-preserved
stages-preserved c = (
  stages-more c.args.number c.args.size c.stages.stage _ _ _ c.stages.invariant.0 (c.next_stage-drawn.ensures.stage c.args.number c.stages.invariant.1) c.in_ok-push.ensures.items,
  c.next_stage-drawn.ensures.state c.args.number c.stages.invariant.1,
)

pub returns : goal.returns
returns c =
    let done : c.stages.stage ≡ c.args.size = omega arith in
    c.stages.invariant.0 ∙ ap (λ n. map (stage_of c.args.number c.args.size) (range_with_len 0 n)) done
