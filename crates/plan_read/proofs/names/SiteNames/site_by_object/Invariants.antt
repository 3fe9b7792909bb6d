use Rattle.std.proofs.Common.{length}
use Rattle.v_design.specs.Plain.{object_of}
use Rattle.v_design.specs.PlainDesigns.{design_of}
use Rattle.fault_list.specs.Spelled.{object_spelled}
use Rattle.plan_read.specs.Stems.{stem, object_key}
use Rattle.key_index.specs.Walks.{places_left}
use Rattle.plan_read.proofs.NameWalking.{IsWalk}
use Rattle.plan_read.proofs.names.SiteNames.site_by_object.Given as goal

abbrev pub invariant-places : goal.invariant-places
invariant-places l = IsWalk object_of (object_spelled (design_of l.self.design.now) l.word) object_key (stem l.word) l.self.design.now.objects l.at

abbrev pub decreases-places : goal.decreases-places
decreases-places l = places_left (length l.self.design.now.objects) l.at
