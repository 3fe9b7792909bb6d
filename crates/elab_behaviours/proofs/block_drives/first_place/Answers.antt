use Rattle.std.proofs.Common.{Some, None}
use Rattle.elab_parts.specs.PartViews.{process_of}
use Rattle.elab_behaviours.proofs.Assigning.{place-found}
use Rattle.elab_behaviours.proofs.block_drives.first_place.Goals as goal

pub returns-in-None : goal.returns-in-None
returns-in-None c = place-found c.args.places.now (process_of c.args.process.now) c.args.name.now None c.requires c.in-None.ensures

pub returns-in-Some : goal.returns-in-Some
returns-in-Some c = place-found c.args.places.now (process_of c.args.process.now) c.args.name.now (Some c.in-Some.place) c.requires c.in-Some.ensures
