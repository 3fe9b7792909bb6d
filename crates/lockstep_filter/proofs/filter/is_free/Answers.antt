-- All that the marks leave open is free.
use Rattle.std.proofs.Common.{◌≡◌, map, true, ap, ◌∙◌, rules}
use Rattle.vf_base.specs.Base.{object_number}
use Rattle.v_design.specs.Designs.{FlatDesign}
use Rattle.phase_reach.specs.lockstep_notes.Notes.{some_reaches}
use Rattle.lockstep_filter.proofs.Free.{FilterLaws, leaves-none}
use Rattle.lockstep_filter.proofs.filter.is_free.Goals as goal

-- what own writes reach is unread
pub noted_are_free-requires-clause-unread : goal.noted_are_free-requires-clause-unread
noted_are_free-requires-clause-unread g c κs within = (let unread : c.reached_are_unread.result ≡ true = search rules in c.reached_are_unread.ensures unread)

pub returns : goal.returns
returns g c =
    let laws : FilterLaws =
    record {
      awaited = c.blocks_suffice.ensures.awaited;
      unwritten = c.objects.ensures.unwritten;
      met = c.objects.ensures.met;
      settled = c.settled_are_free.ensures;
      pairs = c.pairs_tell.ensures.pairs;
      nets = c.nets_are_told.ensures.nets;
      variables = c.nets_are_told.ensures.variables;
      told = c.pairs_are_told.ensures;
      places = c.places_in_windows.ensures;
      alone = c.writers_dont_read.ensures;
      none = c.accesses_are_counted.ensures.none;
      counted = c.accesses_are_counted.ensures.pairs;
      sole = c.unawaited_objects.ensures.sole;
      unread = c.unawaited_objects.ensures.unread;
      waits = c.only_texts_wait.ensures.runs;
    } in
    λ free fault place own pairs noted.
    leaves-none laws g.N.World.design g.N.World.plan fault c.args.window.now.before c.args.window.now.through c.args.end place own pairs c.args.notes.now noted
    (λ object piece reaches.
    let reached : c.reach_all.result ≡ true = search rules in
    let unread : c.reached_are_unread.result ≡ true = search rules in
    let changed : some_reaches g.N.World.design (map object_number c.changed.result.now) object ≡ true = ap (λ l. some_reaches g.N.World.design l object) c.changed.ensures ∙ reaches in
    c.reached_are_unread.ensures unread object
    (c.reach_all.ensures.all reached object (ap (λ (d : FlatDesign). some_reaches d (map object_number c.changed.result.now) object) c.room.invariant.1 ∙ changed)) piece)
    (c.noted_are_free.ensures.free free)
