-- Values are equal exactly where they are the same by all four values.
use Rattle.std.proofs.Common.{sym, ap, ◌∙◌}
use Rattle.four_value.specs.Values.{same_value}
use Rattle.four_value.specs.ValueLaws.{from_same_value, same_value-refl}
use Rattle.known_steps.proofs.values.same_value.Goals as goal

pub returns-then-width : goal.returns-then-width
returns-then-width c = (
  λ h. from_same_value c.args.one c.args.other (sym c.same.ensures ∙ h),
  λ e. c.same.ensures ∙ ap (same_value c.args.one) (sym e) ∙ same_value-refl c.args.one,
)
