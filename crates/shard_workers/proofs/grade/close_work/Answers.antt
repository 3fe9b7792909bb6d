-- What came back, put in order, the closed board, and the shards.
use Rattle.std.proofs.Common.{◌≡◌, ◌<◌, List, sym, ap, subst, ◌∙◌}
use Rattle.std.specs.List.{All}
use Rattle.vf_base.specs.Base.{fault_number}
use Rattle.vf_base.specs.declared.finding.Finding.{Finding}
use Rattle.v_design.specs.Designs.{FlatDesign, TestPlan}
use Rattle.fault_shards.specs.Found.{AreFound}
use Rattle.fault_shards.specs.Shards.{representatives_of, fault_count}
use Rattle.verdict_words.specs.Last.{sizes_of, last_view}
use Rattle.verdict_words.specs.Seats.{view}
use Rattle.verdict_words.specs.declared.rule.Sizes.{Sizes}
use Rattle.verdict_words.specs.declared.view.View.{View}
use Rattle.shard_workers.specs.Closings.{IsEachOnce}
use Rattle.shard_workers.proofs.Closes.{found-below, work-is}
use Rattle.shard_rounds.specs.copy_shard.Shards.{fault_steps_at}
use Rattle.shard_workers.proofs.Gradings.{shards-sum}
use Rattle.shard_workers.proofs.Ordering.{shards-done, steps-ordered}
use Rattle.shard_workers.proofs.grade.close_work.Goals as goal

pub in_list_order-requires : goal.in_list_order-requires
in_list_order-requires g c = record {
  listed =
      subst (λ (l : List Finding). All (λ (finding : Finding). fault_number finding.fault < fault_count c.args.shards.now) l) (sym c.deref.ensures.value)
      (found-below g.N.World.design g.N.World.plan _ c.args.gathered.findings.items c.requires.place.shards_are.counted c.requires.gathered.harvest.graded);
}

pub returns-clause-work : goal.returns-clause-work
returns-clause-work g c =
    let design : FlatDesign = g.N.World.design in
    let plan : TestPlan = g.N.World.plan in
    let v : View = view c.args.gathered.seat in
    let closed = c.in_ok-closed.ensures in
    let sizes : sizes_of c.in_ok-closed.closed ≡ c.args.board.sizes = closed.0 in
    let last : last_view c.in_ok-closed.closed ≡ v = closed.1 in
    let once : IsEachOnce c.args.board.sizes.claims v.claimed =
    subst (λ (s : Sizes). IsEachOnce s.claims v.claimed) sizes (subst (λ (u : View). IsEachOnce (sizes_of c.in_ok-closed.closed).claims u.claimed) last
    (closed.2.claimed (ap (λ (u : View). u.dry) last ∙ c.requires.gathered.dry))) in
    work-is design plan c.args.shards.now _ c.args.board.sizes v c.args.gathered.findings.items c.shards_cover.ensures c.requires.place.shards_are sizes c.requires.place.faults
    c.requires.place.claims last c.requires.gathered.dry closed.2 c.requires.gathered.harvest c.in_ok-findings.ensures.order
    (λ found. c.in_ok-findings.ensures.grades design plan c.requires.rules c.requires.place.shards_are (subst (AreFound design plan) (sym c.deref.ensures.value) found)) c.requires.goes_on
    (shards-done (representatives_of c.args.shards.now) _ c.args.board.sizes.claims v c.args.gathered.shards.items _ c.in_ok-shards.ensures c.requires.gathered.keeps c.requires.gathered.found once
    c.requires.place.claims)

pub returns-clause-steps : goal.returns-clause-steps
returns-clause-steps g c tally = steps-ordered g.N.World.design g.N.World.plan tally c.args.gathered.shards.items _ c.in_ok-shards.ensures

pub returns-clause-all : goal.returns-clause-all
returns-clause-all g c tally =
    let v : View = view c.args.gathered.seat in
    let closed = c.in_ok-closed.ensures in
    let sizes : sizes_of c.in_ok-closed.closed ≡ c.args.board.sizes = closed.0 in
    let last : last_view c.in_ok-closed.closed ≡ v = closed.1 in
    let once : IsEachOnce c.args.board.sizes.claims v.claimed =
    subst (λ (s : Sizes). IsEachOnce s.claims v.claimed) sizes (subst (λ (u : View). IsEachOnce (sizes_of c.in_ok-closed.closed).claims u.claimed) last
    (closed.2.claimed (ap (λ (u : View). u.dry) last ∙ c.requires.gathered.dry))) in
    shards-sum (fault_steps_at tally) (representatives_of c.args.shards.now) c.in_ok-shards.shards.items
    (shards-done (representatives_of c.args.shards.now) _ c.args.board.sizes.claims v c.args.gathered.shards.items _ c.in_ok-shards.ensures c.requires.gathered.keeps c.requires.gathered.found once
    c.requires.place.claims)
