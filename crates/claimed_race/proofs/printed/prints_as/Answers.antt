use Rattle.std.proofs.Common.{◌≡◌, List, [], ◌∷◌, ◌++◌, ℕ, sym, ap, ◌∙◌}
use Rattle.std.proofs.lemmas.List.{append_cancel_left}
use Rattle.vf_base.specs.Base.{process_number, reported_access}
use Rattle.v_design.specs.PlainDesigns.{design_of}
use Rattle.grade_report.specs.Report.{kind_text}
use Rattle.claimed_race.specs.Tails.{tail_text}
use Rattle.claimed_race.proofs.Parts.{prints-not}
use Rattle.claimed_race.proofs.printed.prints_as.Goals as goal

pub returns-in_default : goal.returns-in_default
returns-in_default c =
    let access = c.args.access in
    prints-not (design_of c.args.design.now) (reported_access access) c.args.text.now
    (λ object e. c.in_default.ensures (object ++ tail_text (process_number access.process) access.line)
    (e ∙ ap (λ (head : List ℕ). head ++ (object ++ tail_text (process_number access.process) access.line)) (sym c.head_of.ensures)))

pub returns-in_default-before : goal.returns-in_default-before
returns-in_default-before c =
    let access = c.args.access in
    let tail : c.as_slice.result.now ≡ tail_text (process_number access.process) access.line = c.as_slice.ensures.value ∙ c.in_ok-write_tail.ensures in
    let whole : c.args.text.now ≡ (kind_text access.kind ++ 32 ∷ []) ++ c.in-Some.rest.now = c.in-Some.ensures ∙ ap (λ (head : List ℕ). head ++ c.in-Some.rest.now) c.head_of.ensures in
    prints-not (design_of c.args.design.now) (reported_access access) c.args.text.now
    (λ object e. c.in_default-before.ensures object
    (append_cancel_left (kind_text access.kind ++ 32 ∷ []) c.in-Some.rest.now (object ++ tail_text (process_number access.process) access.line) (sym whole ∙ e)
    ∙ ap (λ (t : List ℕ). object ++ t) (sym tail)))
