-- What the bits so far say, and what is left to compare, say what all bits say.
use Rattle.std.proofs.Common.{◌≡◌, ◌+◌, ◌||◌, ◌&&◌, drop, map}
use Rattle.four_value.specs.Values.{same_value}
use Rattle.vf_base.specs.Base.{watched_bit}
use Rattle.v_design.specs.Grades.{is_hard, is_possible, some_sample, samples}
use Rattle.between_slots.specs.Between.{state_through}
use Rattle.copy_overlay.specs.Faulty.{faulty_values}
use Rattle.slot_strobes.proofs.bits.compare.Given as goal

abbrev pub invariant-watched : goal.invariant-watched
invariant-watched g l = record {
  hard_so_far :
      (l.hard || some_sample is_hard (samples (map watched_bit (drop l.place-index l.watched)) (state_through g.N.World.design g.N.World.plan (l.window.before + l.slot)).values)
      (samples (map watched_bit (drop l.place-index l.watched)) (faulty_values (state_through g.N.World.design g.N.World.plan (l.window.before + l.slot)).values l.copy.values)))
      ≡ some_sample is_hard (samples (map watched_bit l.watched) (state_through g.N.World.design g.N.World.plan (l.window.before + l.slot)).values)
      (samples (map watched_bit l.watched) (faulty_values (state_through g.N.World.design g.N.World.plan (l.window.before + l.slot)).values l.copy.values));
  possible_so_far :
      (l.possible || some_sample is_possible (samples (map watched_bit (drop l.place-index l.watched)) (state_through g.N.World.design g.N.World.plan (l.window.before + l.slot)).values)
      (samples (map watched_bit (drop l.place-index l.watched)) (faulty_values (state_through g.N.World.design g.N.World.plan (l.window.before + l.slot)).values l.copy.values)))
      ≡ some_sample is_possible (samples (map watched_bit l.watched) (state_through g.N.World.design g.N.World.plan (l.window.before + l.slot)).values)
      (samples (map watched_bit l.watched) (faulty_values (state_through g.N.World.design g.N.World.plan (l.window.before + l.slot)).values l.copy.values));
  same_so_far :
      (l.same && same_value (samples (map watched_bit (drop l.place-index l.watched)) (faulty_values (state_through g.N.World.design g.N.World.plan (l.window.before + l.slot)).values l.copy.values))
      (samples (map watched_bit (drop l.place-index l.watched)) (state_through g.N.World.design g.N.World.plan (l.window.before + l.slot)).values))
      ≡ same_value (samples (map watched_bit l.watched) (faulty_values (state_through g.N.World.design g.N.World.plan (l.window.before + l.slot)).values l.copy.values))
      (samples (map watched_bit l.watched) (state_through g.N.World.design g.N.World.plan (l.window.before + l.slot)).values);
}
