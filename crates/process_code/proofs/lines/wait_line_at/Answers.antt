use Rattle.std.proofs.Common.{◌≡◌, ◌≤◌, ◌<◌, ◌-◌, [], ◌∷◌, get_or, sym, ap, ◌∙◌, arith, List}
use Rattle.vf_base.specs.Base.{SourcePlace}
use Rattle.process_code.specs.Rests.{Part}
use Rattle.process_code.specs.Positions.{part_of_head}
use Rattle.process_code.specs.Points.{wait_place}
use Rattle.process_code.proofs.FirstLines.{end-rest, past-rest, spot-rest, first-place}
use Rattle.process_code.proofs.lines.wait_line_at.Goals as goal

pub returns-then-position-eq0 : goal.returns-then-position-eq0
returns-then-position-eq0 c = sym (ap (λ (rest : List Part). (wait_place rest).line) (end-rest c.args.code.now c.args.position c.if-position-eq0.true))

pub returns-then-position-len : goal.returns-then-position-len
returns-then-position-len c =
    sym (ap (λ (rest : List Part). (wait_place rest).line) (past-rest c.args.code.now c.args.position (omega (arith, c.if-position-len.true, c.len.ensures))))

pub returns : goal.returns
returns c =
    let found = spot-rest c.args.code.now c.args.position c.index-spot.result.now c.requires c.if-position-eq0.false
    (omega (arith, c.if-position-len.false, c.len.ensures, c.if-position-eq0.false)) c.index-spot.ensures in
    c.wait_line_of_head.ensures ∙ ap (λ (place : SourcePlace). place.line) (first-place (part_of_head c.index-spot.result.now.head) found.0)
    ∙ ap (λ (rest : List Part). (wait_place rest).line) (sym found.1)
