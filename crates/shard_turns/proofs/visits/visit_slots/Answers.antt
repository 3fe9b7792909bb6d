-- Visit by visit.
use Rattle.std.proofs.Common.{◌≡◌, ℕ, ◌+◌, ◌<◌, ◌≤◌, Option, IfSome, IfNone, refl, ap, subst, ◌∙◌, arith}
use Rattle.fault_shards.specs.Shards.{representatives_of}
use Rattle.verdict_words.specs.Seats.{view}
use Rattle.verdict_words.specs.Views.{lent_share, with_claim, with_none}
use Rattle.verdict_words.specs.declared.view.View.{View}
use Rattle.shard_turns.specs.Backups.{visited_by, visits_in}
use Rattle.shard_turns.specs.Visits.{visit_steps}
use Rattle.shard_turns.proofs.Seats.{settles-none, settles-on}
use Rattle.shard_turns.proofs.Steps.{visits-more, visits-none}
use Rattle.shard_turns.proofs.visits.visit_slots.Goals as goal

pub visits-init : goal.visits-init
visits-init g c = record {
  seat = settles-none (representatives_of c.args.round.now.shards.now) c.args.round.now.board.now c.args.seat c.requires.seat;
  own = c.requires.fresh.own;
  share = refl;
  calls = (let none : (view c.args.backup.visits).calls ≡ 0 = c.requires.fresh.calls in omega (arith, none));
  ticks = λ tally.
      (let from = visits-none g.N.World.design g.N.World.plan tally (representatives_of c.args.round.now.shards.now) c.args.round.now.window.now.before (visited_by c.args.backup) c.requires.fresh.none in
      omega (arith, from));
}

pub next_visit-next-requires-clause-share : goal.next_visit-next-requires-clause-share
next_visit-next-requires-clause-share g c κs within =
    let calls : (view c.visits.backup.visits).calls ≤ visits_in c.args.round.now.backups.now = c.visits.invariant.calls in
    let few : visits_in c.args.round.now.backups.now < 4294967296 = c.args.round.now.backups.now.visits.few in
    let same : (view c.visits.backup.visits).share ≡ (view c.args.backup.visits).share = c.visits.invariant.share in
    let share : lent_share ≤ (view c.args.backup.visits).share = c.requires.fresh.share in
    omega (arith, calls, few, same, share)

pub returns-in_default-clause-visited : goal.returns-in_default-clause-visited
returns-in_default-clause-visited g c =
    let before : View = view c.visits.backup.visits in
    let after : view c.next_visit-next.result.0.visits ≡ with_none before =
    subst (λ (o : Option ℕ). IfNone o (view c.next_visit-next.result.0.visits ≡ with_none before)) c.in_default.is c.next_visit-next.ensures.none in record {
      own = c.next_visit-next.ensures.own;
      share = ap (λ (v : View). v.share) after ∙ c.visits.invariant.share;
      dry = ap (λ (v : View). v.dry) after;
    }

pub returns-in_default-clause-ticks : goal.returns-in_default-clause-ticks
returns-in_default-clause-ticks g c tally =
    let before : View = view c.visits.backup.visits in
    let after : view c.next_visit-next.result.0.visits ≡ with_none before =
    subst (λ (o : Option ℕ). IfNone o (view c.next_visit-next.result.0.visits ≡ with_none before)) c.in_default.is c.next_visit-next.ensures.none in
    let same : visited_by c.next_visit-next.result.0 ≡ visited_by c.visits.backup = ap (λ (v : View). v.claimed) after in
    let reps = representatives_of c.args.round.now.shards.now in
    let from : visit_steps tally reps c.args.round.now.window.now.before (visited_by c.next_visit-next.result.0) ≡ visit_steps tally reps c.args.round.now.window.now.before (visited_by c.visits.backup) =
    ap (visit_steps tally reps c.args.round.now.window.now.before) same in
    let to : visit_steps tally reps c.args.round.now.window.now.through (visited_by c.next_visit-next.result.0) ≡ visit_steps tally reps c.args.round.now.window.now.through (visited_by c.visits.backup) =
    ap (visit_steps tally reps c.args.round.now.window.now.through) same in
    let rises = c.visits.invariant.ticks tally in
    omega (arith, from, to, rises)

pub visit_slot-requires-clause-number : goal.visit_slot-requires-clause-number
visit_slot-requires-clause-number g c κs within =
    (subst (λ (o : Option ℕ). IfSome o (λ n. (n < visits_in c.args.round.now.backups.now) × ((view c.visits.backup.visits).calls ≤ n) ×
    (view c.next_visit-next.result.0.visits ≡ with_claim n (view c.visits.backup.visits)))) c.in-Some.is c.next_visit-next.ensures.some).0

pub visits-preserved : goal.visits-preserved
visits-preserved g c =
    let before : View = view c.visits.backup.visits in
    let number = c.in-Some.number in
    let reps = representatives_of c.args.round.now.shards.now in
    let drawn : (number < visits_in c.args.round.now.backups.now) × (before.calls ≤ number) × (view c.next_visit-next.result.0.visits ≡ with_claim number before) =
    subst (λ (o : Option ℕ). IfSome o (λ n. (n < visits_in c.args.round.now.backups.now) × (before.calls ≤ n) × (view c.next_visit-next.result.0.visits ≡ with_claim n before)))
    c.in-Some.is c.next_visit-next.ensures.some in
    let after : view c.in_ok-own.left.visits ≡ with_claim number before = c.in_ok-own.ensures.backup.same ∙ drawn.2 in record {
      seat = settles-on reps c.args.round.now.board.now c.args.seat c.visits.seat c.in_ok-own.own c.visits.invariant.seat c.in_ok-own.ensures.seat;
      own = c.in_ok-own.ensures.backup.own;
      share = ap (λ (v : View). v.share) after ∙ c.visits.invariant.share;
      calls =
          (let calls : (view c.in_ok-own.left.visits).calls ≡ before.calls + 1 = ap (λ (v : View). v.calls) after in
          let low : number < visits_in c.args.round.now.backups.now = drawn.0 in
          let few : before.calls ≤ number = drawn.1 in
          omega (arith, calls, low, few));
      ticks = λ tally.
          (let rises = c.visits.invariant.ticks tally in
          let one = c.in_ok-own.ensures.ticks tally in
          let from = visits-more g.N.World.design g.N.World.plan tally reps c.args.round.now.window.now.before (visited_by c.visits.backup) (visited_by c.in_ok-own.left) number
          (ap (λ (v : View). v.claimed) after) in
          let to = visits-more g.N.World.design g.N.World.plan tally reps c.args.round.now.window.now.through (visited_by c.visits.backup) (visited_by c.in_ok-own.left) number
          (ap (λ (v : View). v.claimed) after) in
          omega (arith, rises, one, from, to));
    }

pub visits-smaller : goal.visits-smaller
visits-smaller g c =
    let before : View = view c.visits.backup.visits in
    let number = c.in-Some.number in
    let drawn : (number < visits_in c.args.round.now.backups.now) × (before.calls ≤ number) × (view c.next_visit-next.result.0.visits ≡ with_claim number before) =
    subst (λ (o : Option ℕ). IfSome o (λ n. (n < visits_in c.args.round.now.backups.now) × (before.calls ≤ n) × (view c.next_visit-next.result.0.visits ≡ with_claim n before)))
    c.in-Some.is c.next_visit-next.ensures.some in
    let after : view c.in_ok-own.left.visits ≡ with_claim number before = c.in_ok-own.ensures.backup.same ∙ drawn.2 in
    let calls : (view c.in_ok-own.left.visits).calls ≡ before.calls + 1 = ap (λ (v : View). v.calls) after in
    let low : number < visits_in c.args.round.now.backups.now = drawn.0 in
    let few : before.calls ≤ number = drawn.1 in
    omega (arith, calls, low, few)
