-- A read and the beginning of a wait have their likes.
use Rattle.std.proofs.Common.{◌≡◌, true, false, sym, subst, rules}
use Rattle.vf_base.specs.Base.{object_number, process_number}
use Rattle.causal_monitor.specs.Notes.{entry_on}
use Rattle.lockstep_notes.specs.Likes.{HasLikeBetween}
use Rattle.lockstep_notes.proofs.Told.{read-seen, wait-seen, read-like, wait-like}
use Rattle.lockstep_notes.proofs.likes.has_like.Goals as goal

pub returns-in-Read : goal.returns-in-Read
returns-in-Read g c = λ yes.
    let window = c.args.window.now in
    let design = g.S.Standing.design c.args.behind.now in
    let shows = g.S.Standing.shows c.args.behind.now in
    subst (HasLikeBetween g.N.World.design g.N.World.plan window.before window.through c.args.first c.args.end c.args.lane design shows) (read-seen c.args.access.now c.in-Read.is)
    (read-like c.stretches_are_told.ensures g.N.World.design g.N.World.plan window.before window.through c.args.first c.args.end c.args.lane design shows
    (object_number c.args.access.now.access.object) (c.reads_object.ensures yes))

pub returns-else-lane : goal.returns-else-lane
returns-else-lane g c = λ yes.
    let window = c.args.window.now in
    let design = g.S.Standing.design c.args.behind.now in
    let shows = g.S.Standing.shows c.args.behind.now in
    let access = c.args.access.now in
    subst (HasLikeBetween g.N.World.design g.N.World.plan window.before window.through c.args.first c.args.end c.args.lane design shows) (wait-seen access c.in-Await.is)
    (wait-like c.waits_are_begun.ensures.begun g.N.World.design g.N.World.plan window.before window.through c.args.first c.args.end c.args.lane design shows
    (process_number access.access.process) (entry_on (object_number access.access.object) access.entry) c.if-lane.false (c.is_waiting.ensures yes))
