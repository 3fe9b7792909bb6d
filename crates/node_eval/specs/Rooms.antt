-- The room in which blocks are run (nothing of the language).
use Rattle.std.specs.Prelude.{ℕ, vec_len}
use Rattle.node_eval.specs.declared.room.BlockRoom.{BlockRoom}

-- the number of objects that it is for
abbrev pub room_size : BlockRoom → ℕ
room_size room = vec_len room.places
