-- One net piece more is unread.
use Rattle.std.proofs.Common.{◌≡◌, ◌<◌, [], ◌∷◌, map, take, length, get_or, true, sym, ap, ◌∙◌, arith, rules}
use Rattle.std.proofs.lemmas.List.{map-append, take_more}
use Rattle.vf_base.specs.Base.{object_number}
use Rattle.vf_base.specs.Lists.{has}
use Rattle.v_design.specs.Paths.{net_pieces}
use Rattle.lockstep_filter.specs.Free.{IsUnreadNet}
use Rattle.phase_reach.specs.Phases.{noted_phase}
use Rattle.phase_reach.proofs.Loops.{has-more}
use Rattle.lockstep_filter.proofs.objects.reached_are_unread.Goals as goal

pub objects-preserved : goal.objects-preserved
objects-preserved g c =
    let phase = noted_phase g.N.World.design g.N.World.plan c.args.window.now c.args.notes.now c.args.end in
    let reached = c.as_slice-reached.result.now in
    let place = c.objects.place in
    let object = get_or reached place (record { 0 = 0 }) in
    let low : place < length reached = omega arith in
    let taken = take_more reached place (record { 0 = 0 }) low in
    let is = ap (map object_number) taken ∙ map-append object_number (take place reached) (object ∷ []) in
    let yes : c.is_unread_if_net.result ≡ true = search rules in
    λ other e.
    has-more (λ o. has (net_pieces g.N.World.design) o ≡ true → IsUnreadNet phase o) (map object_number (take place reached)) (object_number object) c.objects.invariant
    (c.is_unread_if_net.ensures yes) other (sym (ap (λ l. has l other) is) ∙ e)
