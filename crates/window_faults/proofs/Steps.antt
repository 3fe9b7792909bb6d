-- A fault that stays the same one (slots by IEEE 1364-2001, clause 5).
use Rattle.std.proofs.Common.{◌≡◌, true, false, refl, ap, ◌∙◌}
use Rattle.std.specs.Prelude.{None, is_some}
use Rattle.slot_strobes.specs.copy_window.ShardFaults.{SameFault}
use Rattle.slot_strobes.specs.copy_window.declared.fault.ShardFault.{ShardFault}
use Rattle.window_faults.specs.Steps.{StaysFault}

pub stays-same : (own : ShardFault) → StaysFault own own
stays-same own = record { place = record { number = refl; kind = refl }; ended = λ some. refl }

pub stays-on : (x y z : ShardFault) → StaysFault x y → StaysFault y z → StaysFault x z
stays-on x y z one two = record {
  place = record { number = two.place.number ∙ one.place.number; kind = two.place.kind ∙ one.place.kind };
  ended = λ some. two.ended (ap (λ (own : ShardFault). is_some own.end) (one.ended some) ∙ some) ∙ one.ended some;
}

-- one whose grading hadn't ended may change
pub stays-open : (x y : ShardFault) → SameFault x y → x.end ≡ None → StaysFault x y
stays-open x y place none = record { place = place; ended = λ some. absurd (let no : is_some x.end ≡ false = ap is_some none in cc) }
