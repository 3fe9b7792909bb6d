use Rattle.std.proofs.Common.{◌≡◌, ◌∙◌, [], Some, None, option_map, length, sym, ap, refl, arith, rules}
use Rattle.v_design.specs.PlainDesigns.{design_of}
use Rattle.text_lines.specs.Plain.{plain_texts}
use Rattle.cert_text.specs.Views.{access_said}
use Rattle.cert_text.proofs.Claimed.{claim-other, race-said, length-texts}
use Rattle.cert_text.proofs.claim.claim_of_race.Goals as goal

pub returns-then-words-ne11 : goal.returns-then-words-ne11
returns-then-words-ne11 c =
    let size : length (plain_texts c.args.words.now) ≡ length c.args.words.now = length-texts c.args.words.now in
    claim-other (design_of c.args.design.now) (plain_texts c.args.words.now) (λ e. c.requires.one (sym size ∙ e)) (λ e. c.requires.two (sym size ∙ e)) (λ e. c.if-words-ne11.true (sym size ∙ e))

pub returns-in_default-first : goal.returns-in_default-first
returns-in_default-first c =
    race-said (design_of c.args.design.now) c.args.words.now (record { ref_ptr = (0, 0); now = [] }) (omega arith) (sym c.is_race.ensures ∙ (search rules))
    (Some c.in-Some.side) (Some (c.in-Some-moment_of.time, c.in-Some-moment_of.phase)) None _ (sym c.in-Some.is ∙ c.side_of.ensures) (sym c.in-Some-moment_of.is ∙ c.moment_of.ensures)
    (ap (option_map access_said) (sym c.in_default-first.is) ∙ c.in_ok-first.ensures) refl

pub returns-in_default-second : goal.returns-in_default-second
returns-in_default-second c =
    race-said (design_of c.args.design.now) c.args.words.now (record { ref_ptr = (0, 0); now = [] }) (omega arith) (sym c.is_race.ensures ∙ (search rules))
    (Some c.in-Some.side) (Some (c.in-Some-moment_of.time, c.in-Some-moment_of.phase)) (Some (access_said c.in-Some-first.first)) None
    (sym c.in-Some.is ∙ c.side_of.ensures) (sym c.in-Some-moment_of.is ∙ c.moment_of.ensures)
    (ap (option_map access_said) (sym c.in-Some-first.is) ∙ c.in_ok-first.ensures) (ap (option_map access_said) (sym c.in_default-second.is) ∙ c.in_ok-second.ensures)

pub returns : goal.returns
returns c =
    race-said (design_of c.args.design.now) c.args.words.now (record { ref_ptr = (0, 0); now = [] }) (omega arith) (sym c.is_race.ensures ∙ (search rules))
    (Some c.in-Some.side) (Some (c.in-Some-moment_of.time, c.in-Some-moment_of.phase)) (Some (access_said c.in-Some-first.first)) (Some (access_said c.in-Some-second.second))
    (sym c.in-Some.is ∙ c.side_of.ensures) (sym c.in-Some-moment_of.is ∙ c.moment_of.ensures)
    (ap (option_map access_said) (sym c.in-Some-first.is) ∙ c.in_ok-first.ensures) (ap (option_map access_said) (sym c.in-Some-second.is) ∙ c.in_ok-second.ensures)
