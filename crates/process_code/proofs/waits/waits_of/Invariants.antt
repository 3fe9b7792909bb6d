use Rattle.std.proofs.Common.{take, map}
use Rattle.std.specs.Prelude.{Vec}
use Rattle.std.specs.declared.alloc.Global.{Global}
use Rattle.v_design.specs.declared.tree.WaitEntry.{WaitEntry}
use Rattle.process_code.specs.Waits.{AreWaits}
use Rattle.process_code.proofs.waits.waits_of.Given as goal

abbrev pub invariant-spots : goal.invariant-spots
invariant-spots l = AreWaits (take l.spot-index l.spots) (map (λ (entries : Vec WaitEntry Global). entries.items) l.waits.items)
