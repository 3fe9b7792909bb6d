-- Room for the nodes that a fault reaches (nothing of the language).
use Rattle.std.specs.Prelude.{◌≡◌}
use Rattle.v_design.specs.Designs.{FlatDesign}
use Rattle.v_design.specs.PlainDesigns.{design_of}
use Rattle.net_settle.specs.Marked.{NoneMarked}
use Rattle.net_settle.specs.Rooms.{IsMadeFor}
use Rattle.start_copy.specs.declared.room.StartRoom.{StartRoom}

-- the design of a room
abbrev pub design_in : StartRoom → FlatDesign
design_in room = design_of room.settle.graph.now.design.now

-- the room is for a design, and no node is marked in it
pub record IsRoomFor (design : FlatDesign) (room : StartRoom) : Type 0 where
  pub belongs : design_in room ≡ design
  pub made : IsMadeFor design room.work
  pub none : NoneMarked room.settle.marks.items
