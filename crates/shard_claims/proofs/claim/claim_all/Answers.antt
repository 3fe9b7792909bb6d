-- Claim by claim.
use Rattle.std.proofs.Common.{◌≡◌, ℕ, ◌+◌, ◌<◌, ◌≤◌, Option, IfSome, IfNone, ap, sym, subst, ◌∙◌, arith}
use Rattle.fault_shards.specs.Shards.{representatives_of}
use Rattle.verdict_words.specs.Seats.{view, claims_of}
use Rattle.verdict_words.specs.Views.{with_claim, with_none}
use Rattle.verdict_words.specs.declared.view.View.{View}
use Rattle.shard_claims.specs.Workers.{KeepsShards}
use Rattle.shard_claims.specs.WorkerLaws.{keeps-none}
use Rattle.shard_claims.proofs.Claiming.{keeps-more, moved-none}
use Rattle.shard_claims.proofs.Ticks.{claimed-more}
use Rattle.shard_claims.proofs.claim.claim_all.Goals as goal

pub claims-init : goal.claims-init
claims-init g c = record {
  own = c.requires.new.own;
  share = c.requires.new.share;
  moved = c.requires.new.moved;
  calls = (let none : (view c.args.seat).calls ≡ 0 = c.requires.new.calls in omega (arith, none));
  keeps =
      subst (KeepsShards (representatives_of c.args.round.now.shards.now) c.args.round.now.window.now.through (view c.args.seat)) (sym c.new-shards.ensures.items)
      (keeps-none (representatives_of c.args.round.now.shards.now) c.args.round.now.window.now.through (view c.args.seat) c.requires.new.claimed);
  ticks = λ tally. omega arith;
}

pub claim-next-requires-clause-share : goal.claim-next-requires-clause-share
claim-next-requires-clause-share g c κs within =
    let calls : (view c.claims.seat).calls ≤ claims_of c.args.round.now.board.now = c.claims.invariant.calls in
    let few : claims_of c.args.round.now.board.now < 4294967296 = c.args.round.now.board.now.few in
    let share : (view c.claims.seat).share ≡ 8589934592 = c.claims.invariant.share in
    omega (arith, calls, few, share)

pub returns-in_default-clause-claimed : goal.returns-in_default-clause-claimed
returns-in_default-clause-claimed g c =
    let before : View = view c.claims.seat in
    let after : view c.claim-next.result.0 ≡ with_none before = subst (λ (o : Option ℕ). IfNone o (view c.claim-next.result.0 ≡ with_none before)) c.in_default.is c.claim-next.ensures.none in record {
      own = c.claim-next.ensures.own;
      share = ap (λ (v : View). v.share) after ∙ c.claims.invariant.share;
      moved = moved-none (representatives_of c.args.round.now.shards.now) (view c.claim-next.result.0).moved (ap (λ (v : View). v.moved) after ∙ c.claims.invariant.moved);
      dry = ap (λ (v : View). v.dry) after;
      keeps = record { claimed = ap (λ (v : View). v.claimed) after ∙ c.claims.invariant.keeps.claimed; each = c.claims.invariant.keeps.each };
    }

pub begin_shard-requires-clause-number : goal.begin_shard-requires-clause-number
begin_shard-requires-clause-number g c κs within =
    let number = c.in-Some.number in
    let drawn : (number < claims_of c.args.round.now.board.now) × ((view c.claims.seat).calls ≤ number) × (view c.claim-next.result.0 ≡ with_claim number (view c.claims.seat)) =
    subst (λ (o : Option ℕ). IfSome o (λ n. (n < claims_of c.args.round.now.board.now) × ((view c.claims.seat).calls ≤ n) × (view c.claim-next.result.0 ≡ with_claim n (view c.claims.seat)))) c.in-Some.is
    c.claim-next.ensures.some in
    subst (λ n. number < n) c.requires.place.claims drawn.0

pub claims-preserved : goal.claims-preserved
claims-preserved g c =
    let before : View = view c.claims.seat in
    let number = c.in-Some.number in
    let drawn : (number < claims_of c.args.round.now.board.now) × (before.calls ≤ number) × (view c.claim-next.result.0 ≡ with_claim number before) =
    subst (λ (o : Option ℕ). IfSome o (λ n. (n < claims_of c.args.round.now.board.now) × (before.calls ≤ n) × (view c.claim-next.result.0 ≡ with_claim n before))) c.in-Some.is c.claim-next.ensures.some in
    let after : view c.claim-next.result.0 ≡ with_claim number before = drawn.2 in record {
      own = c.claim-next.ensures.own;
      share = ap (λ (v : View). v.share) after ∙ c.claims.invariant.share;
      moved = ap (λ (v : View). v.moved) after ∙ c.claims.invariant.moved;
      calls =
          (let calls : (view c.claim-next.result.0).calls ≡ before.calls + 1 = ap (λ (v : View). v.calls) after in
          let low : number < claims_of c.args.round.now.board.now = drawn.0 in
          let few : before.calls ≤ number = drawn.1 in
          omega (arith, calls, low, few));
      keeps =
          subst (KeepsShards (representatives_of c.args.round.now.shards.now) c.args.round.now.window.now.through (view c.claim-next.result.0)) (sym c.in_ok-push.ensures.items)
          (keeps-more _ _ before (view c.claim-next.result.0) c.claims.shards.items _ c.claims.invariant.keeps (ap (λ (v : View). v.claimed) after)
          (record { low = subst (λ n. number < n) c.requires.place.claims drawn.0; faults = c.in_ok-shard.ensures.faults; gone_is = c.in_ok-shard.ensures.gone }));
      ticks = λ tally.
          claimed-more g.N.World.design g.N.World.plan tally c.claims.shards.items c.push.new.self.items _ c.args.steps.now c.claims.steps c.begin_shard.new.steps c.in_ok-push.ensures.items
          (c.claims.invariant.ticks tally) (c.in_ok-shard.ensures.ticks tally);
    }

pub claims-smaller : goal.claims-smaller
claims-smaller g c =
    let before : View = view c.claims.seat in
    let number = c.in-Some.number in
    let drawn : (number < claims_of c.args.round.now.board.now) × (before.calls ≤ number) × (view c.claim-next.result.0 ≡ with_claim number before) =
    subst (λ (o : Option ℕ). IfSome o (λ n. (n < claims_of c.args.round.now.board.now) × (before.calls ≤ n) × (view c.claim-next.result.0 ≡ with_claim n before))) c.in-Some.is c.claim-next.ensures.some in
    let calls : (view c.claim-next.result.0).calls ≡ before.calls + 1 = ap (λ (v : View). v.calls) drawn.2 in
    let low : number < claims_of c.args.round.now.board.now = drawn.0 in
    let few : before.calls ≤ number = drawn.1 in
    omega (arith, calls, low, few)

pub returns-in_default-clause-ticks : goal.returns-in_default-clause-ticks
returns-in_default-clause-ticks g c = c.claims.invariant.ticks
