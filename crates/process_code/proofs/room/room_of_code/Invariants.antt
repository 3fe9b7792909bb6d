use Rattle.std.proofs.Common.{◌≡◌, ◌<◌, ℕ, Some}
use Rattle.std.specs.List.{slice_get}
use Rattle.process_code.specs.Positions.{part_of_head}
use Rattle.process_code.specs.StatesOf.{HasRoomFor}
use Rattle.process_code.specs.declared.code.Spot.{Spot}
use Rattle.process_code.proofs.room.room_of_code.Given as goal

abbrev pub invariant-spots : goal.invariant-spots
invariant-spots l = (i : ℕ) (spot : Spot) → i < l.spot-index → slice_get l.spots i ≡ Some spot → HasRoomFor l.room.operands l.room.updates (part_of_head spot.head)
