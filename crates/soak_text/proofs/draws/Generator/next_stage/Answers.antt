use Rattle.std.proofs.Common.{◌≡◌, ◌+◌, ◌*◌, suc, arith}
use Rattle.soak_text.proofs.Seeds.{state-next, draw-next, stage-drawn}
use Rattle.soak_text.proofs.draws.Generator.next_stage.Goals as goal

pub returns-clause-stage : goal.returns-clause-stage
returns-clause-stage c = λ seed had.
    let n = 4 * c.args.number in
    let one : n + 1 ≡ suc n = omega arith in
    let two : n + 2 ≡ suc (n + 1) = omega arith in
    let three : n + 3 ≡ suc (n + 2) = omega arith in
    let four : n + 4 ≡ suc (n + 3) = omega arith in
    let first = state-next _ _ seed n (n + 1) had one c.next_draw.ensures.state in
    let second = state-next _ _ seed (n + 1) (n + 2) first two c.next_draw-2.ensures.state in
    let third = state-next _ _ seed (n + 2) (n + 3) second three c.next_draw-3.ensures.state in
    stage-drawn seed c.args.size c.args.number _ _ _ _ _ (draw-next _ _ seed n (n + 1) had one c.next_draw.ensures.draw) c.kind_of-kind.ensures
    (draw-next _ _ seed (n + 1) (n + 2) first two c.next_draw-2.ensures.draw) (draw-next _ _ seed (n + 2) (n + 3) second three c.next_draw-3.ensures.draw)
    (draw-next _ _ seed (n + 3) (n + 4) third four c.next_draw-first.ensures.draw)

pub returns-clause-state : goal.returns-clause-state
returns-clause-state c = λ seed had.
    let n = 4 * c.args.number in
    let one : n + 1 ≡ suc n = omega arith in
    let two : n + 2 ≡ suc (n + 1) = omega arith in
    let three : n + 3 ≡ suc (n + 2) = omega arith in
    let four : 4 * (c.args.number + 1) ≡ suc (n + 3) = omega arith in
    let first = state-next _ _ seed n (n + 1) had one c.next_draw.ensures.state in
    let second = state-next _ _ seed (n + 1) (n + 2) first two c.next_draw-2.ensures.state in
    let third = state-next _ _ seed (n + 2) (n + 3) second three c.next_draw-3.ensures.state in
    state-next _ _ seed (n + 3) (4 * (c.args.number + 1)) third four c.next_draw-first.ensures.state
