use Rattle.std.proofs.Common.{◌≡◌, true}
use Rattle.vf_words.specs.Number.{is_plain}
use Rattle.vf_words.proofs.Parsed.{refused, ornate, taken, too-low, too-high, within}
use Rattle.vf_words.proofs.number.number_between.Goals as goal
use Rattle.vf_words.proofs.number.number_between.Goals.{then-not-is_plain-via-then-not-is_plain, then-not-is_plain-via-else-not-is_plain+then-number-least}
use Rattle.vf_words.proofs.number.number_between.Goals.{then-not-is_plain-via-else-not-is_plain+else-number-least+then-most-number}

pub returns-in_default : goal.returns-in_default
returns-in_default c = refused c.args.least c.args.most c.args.word.now c.ranges.most.fits c.in_default.ensures.value.0

pub returns-then-not-is_plain : goal.returns-then-not-is_plain
returns-then-not-is_plain c = elim c.then-not-is_plain.branch [
  | then-not-is_plain-via-then-not-is_plain w ↦
      ornate c.args.least c.args.most c.args.word.now c.ranges.most.fits (cc)
  | then-not-is_plain-via-else-not-is_plain+then-number-least w ↦
      let plain : is_plain c.args.word.now ≡ true = cc in
      too-low c.args.least c.args.most c.in-Ok.number c.args.word.now (taken c.args.word.now c.in-Ok.number plain c.in-Ok.ensures.value.0) w.if-number-least.true
  | then-not-is_plain-via-else-not-is_plain+else-number-least+then-most-number w ↦
      let plain : is_plain c.args.word.now ≡ true = cc in
      too-high c.args.least c.args.most c.in-Ok.number c.args.word.now (taken c.args.word.now c.in-Ok.number plain c.in-Ok.ensures.value.0) w.if-most-number.true
]

pub returns : goal.returns
returns c =
    let plain : is_plain c.args.word.now ≡ true = cc in
    within c.args.least c.args.most c.in-Ok.number c.args.word.now (taken c.args.word.now c.in-Ok.number plain c.in-Ok.ensures.value.0) c.if-number-least.false c.if-most-number.false
