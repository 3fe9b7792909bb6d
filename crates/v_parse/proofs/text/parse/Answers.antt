use Rattle.std.proofs.Common.{sym, ◌∙◌, ap, subst, arith}
use Rattle.v_tree.specs.Views.{unit_of}
use Rattle.v_readers.specs.Given.{Fails}
use Rattle.v_readers.specs.Reading.{Wrong, Deep}
use Rattle.v_parse.specs.Items.{unit_reader}
use Rattle.v_parse.specs.Judged.{unit-found, unit-wrong, unit-deep, unit-only, unit-no_stop, one-unit}
use Rattle.v_parse.proofs.text.parse.Goals as goal

pub returns-in_err-lexemes-clause-one : goal.returns-in_err-lexemes-clause-one
returns-in_err-lexemes-clause-one c = one-unit c.args.tokens.now

pub returns-in-Ok-clause-found : goal.returns-in-Ok-clause-found
returns-in-Ok-clause-found c =
    let read = sym (ap (unit_reader 255) (c.deref.ensures.value ∙ c.in_ok-lexemes.ensures)) ∙ c.in-Ok.ensures.reads in
    (unit-found 255 c.args.tokens.now (unit_of c.in-Ok.unit) c.in-Ok.field-0-1.now read).0

pub returns-in-Ok-clause-within : goal.returns-in-Ok-clause-within
returns-in-Ok-clause-within c =
    let read = sym (ap (unit_reader 255) (c.deref.ensures.value ∙ c.in_ok-lexemes.ensures)) ∙ c.in-Ok.ensures.reads in
    let within = (unit-found 255 c.args.tokens.now (unit_of c.in-Ok.unit) c.in-Ok.field-0-1.now read).1 in
    omega (arith, within)

pub returns-in-Ok-clause-only : goal.returns-in-Ok-clause-only
returns-in-Ok-clause-only c = λ u s h.
    let read = sym (ap (unit_reader 255) (c.deref.ensures.value ∙ c.in_ok-lexemes.ensures)) ∙ c.in-Ok.ensures.reads in
    unit-only 255 c.args.tokens.now u (unit_of c.in-Ok.unit) c.in-Ok.field-0-1.now s (omega (arith, h)) read

pub returns-in-Ok-clause-one : goal.returns-in-Ok-clause-one
returns-in-Ok-clause-one c = one-unit c.args.tokens.now

pub refusal-requires : goal.refusal-requires
refusal-requires c =
    unit-wrong 255 c.args.tokens.now c.in-Err-Wrong.rest.now
    (sym (ap (unit_reader 255) (c.deref.ensures.value ∙ c.in_ok-lexemes.ensures))
    ∙ subst (λ s. Fails s (unit_reader 255 c.deref.result.now)) c.in-Err-Wrong.field-0-is c.in-Err-Wrong.ensures.reads)

pub returns-in-Err-Wrong-clause-only : goal.returns-in-Err-Wrong-clause-only
returns-in-Err-Wrong-clause-only c = λ u s h.
    absurd (unit-no_stop 255 c.args.tokens.now u (record { why = Wrong; rest = c.in-Err-Wrong.rest.now }) s (omega (arith, h))
    (sym (ap (unit_reader 255) (c.deref.ensures.value ∙ c.in_ok-lexemes.ensures))
    ∙ subst (λ s. Fails s (unit_reader 255 c.deref.result.now)) c.in-Err-Wrong.field-0-is c.in-Err-Wrong.ensures.reads))

pub returns-in-Err-Wrong-clause-one : goal.returns-in-Err-Wrong-clause-one
returns-in-Err-Wrong-clause-one c = one-unit c.args.tokens.now

pub returns-in-Err-Deep-clause-only : goal.returns-in-Err-Deep-clause-only
returns-in-Err-Deep-clause-only c = λ u s h.
    absurd (unit-no_stop 255 c.args.tokens.now u (record { why = Deep; rest = c.in-Err-Deep.rest.now }) s (omega (arith, h))
    (sym (ap (unit_reader 255) (c.deref.ensures.value ∙ c.in_ok-lexemes.ensures))
    ∙ subst (λ s. Fails s (unit_reader 255 c.deref.result.now)) c.in-Err-Deep.field-0-is c.in-Err-Deep.ensures.reads))

pub returns-in-Err-Deep-clause-one : goal.returns-in-Err-Deep-clause-one
returns-in-Err-Deep-clause-one c = one-unit c.args.tokens.now

pub returns-in-Err-Deep-clause-fault : goal.returns-in-Err-Deep-clause-fault
returns-in-Err-Deep-clause-fault c = (
  c.in-Err-Deep.rest.now,
  unit-deep 255 c.args.tokens.now c.in-Err-Deep.rest.now
      (sym (ap (unit_reader 255) (c.deref.ensures.value ∙ c.in_ok-lexemes.ensures))
      ∙ subst (λ s. Fails s (unit_reader 255 c.deref.result.now)) c.in-Err-Deep.field-0-is c.in-Err-Deep.ensures.reads),
  c.place_at.ensures,
)

pub returns-clause-one : goal.returns-clause-one
returns-clause-one c = one-unit c.args.tokens.now
