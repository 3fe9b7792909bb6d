-- One shard is put with the others, and cut off again behind the window.
use Rattle.std.proofs.Common.{◌≡◌, ◌+◌, ◌++◌, ◌∷◌, ℕ, List, [], take, drop, refl, sym, ap, subst, ◌∙◌, arith}
use Rattle.std.specs.List.{AllZip}
use Rattle.std.proofs.lemmas.List.Elements.{AllZip-push}
use Rattle.vf_base.specs.Lists.{AllHold}
use Rattle.good_trace.specs.Traces.{WindowKept}
use Rattle.shard_windows.specs.copy_window.ShardFaults.{IsShardFault}
use Rattle.shard_windows.specs.window_faults.Steps.{steps_of_faults}
use Rattle.shard_windows.specs.window_faults.Within.{ComesThrough}
use Rattle.shard_windows.proofs.window_faults.Lists.{none-popped}
use Rattle.shard_windows.specs.Reached.{HasReachedIfOpen}
use Rattle.copy_shard.specs.Kept.{IsShard}
use Rattle.copy_shard.specs.Shards.{ShardKept}
use Rattle.copy_shard.specs.Together.{GoesThrough, HasGone}
use Rattle.copy_shard.specs.declared.together.ClaimedShard.{ClaimedShard}
use Rattle.copy_shard.proofs.Joining.{all-front, all-last, first-within, goes-through, no-shards, no-steps, others-reach, others-through, shard-behind, shards-rise}
use Rattle.copy_shard.proofs.together.+advance_rest.Goals as goal

abbrev claimed-as : {N : Type 0} → ℕ → ShardKept → ClaimedShard N
claimed-as number shard = record { number = number; shard = shard }

pub returns-in_default-clause-through : goal.returns-in_default-clause-through
returns-in_default-clause-through g t c =
    let none = none-popped _ c.args.shards.now c.pop.new.self c.in_default.is c.pop.ensures.cases in
    no-shards g.N.World.design g.N.World.plan c.args.window.now.through c.args.shards.now.items c.pop.new.self.items none.0 none.1

pub returns-in_default-clause-ticks : goal.returns-in_default-clause-ticks
returns-in_default-clause-ticks g t c tally =
    let none = none-popped _ c.args.shards.now c.pop.new.self c.in_default.is c.pop.ensures.cases in
    let a = no-steps g.N.World.design g.N.World.plan tally c.args.shards.now.items none.0 in
    let b = no-steps g.N.World.design g.N.World.plan tally c.pop.new.self.items none.1 in
    let rises = c.in_ok-behind.ensures.ticks tally in
    omega (arith, a, b, rises)

pub join_shard-requires-clause-reached : goal.join_shard-requires-clause-reached
join_shard-requires-clause-reached g t c κs within =
    let at = all-last (HasGone c.args.window.now.before) c.pop.new.self.items c.args.shards.now.items c.in-Some.claimed c.in-Some.ensures.items c.requires.gone in
    subst (λ (n : ℕ). HasReachedIfOpen g.N.World.design g.N.World.plan n c.args.reached c.args.faults.now.items) (sym at) c.requires.reached

pub join_shard-requires-clause-faults : goal.join_shard-requires-clause-faults
join_shard-requires-clause-faults g t c κs within =
    let at = all-last (HasGone c.args.window.now.before) c.pop.new.self.items c.args.shards.now.items c.in-Some.claimed c.in-Some.ensures.items c.requires.gone in
    subst (λ (n : ℕ). AllHold (IsShardFault g.N.World.design g.N.World.plan n c.args.reached.passed) c.args.faults.now.items) (sym at) c.requires.faults

pub advance_rest-requires-clause-gone : goal.advance_rest-requires-clause-gone
advance_rest-requires-clause-gone g t c κs within =
    all-front (HasGone c.args.window.now.before) c.pop.new.self.items c.args.shards.now.items c.in-Some.claimed c.in-Some.ensures.items c.requires.gone

pub advance_rest-requires-clause-reached : goal.advance_rest-requires-clause-reached
advance_rest-requires-clause-reached g t c κs within =
    let at = all-last (HasGone c.args.window.now.before) c.pop.new.self.items c.args.shards.now.items c.in-Some.claimed c.in-Some.ensures.items c.requires.gone in
    subst (λ (n : ℕ). HasReachedIfOpen g.N.World.design g.N.World.plan n c.in_ok-joined.joined.reached c.join_shard.new.faults.items) at c.in_ok-joined.ensures.reaches

pub advance_rest-requires-clause-faults : goal.advance_rest-requires-clause-faults
advance_rest-requires-clause-faults g t c κs within =
    let at = all-last (HasGone c.args.window.now.before) c.pop.new.self.items c.args.shards.now.items c.in-Some.claimed c.in-Some.ensures.items c.requires.gone in
    subst (λ (n : ℕ). AllHold (IsShardFault g.N.World.design g.N.World.plan n c.in_ok-joined.joined.reached.passed) c.join_shard.new.faults.items) at c.in_ok-joined.ensures.each

pub leave_shard-requires-clause-first : goal.leave_shard-requires-clause-first
leave_shard-requires-clause-first g t c κs within =
    let size = c.args.faults.now.ok.0 in
    first-within g.N.World.design g.N.World.plan c.in-Some.claimed.shard c.args.faults.now.items c.join_shard.new.faults.items c.advance_rest.new.faults.items c.in_ok-joined.joined
    c.args.window.now.through c.len-first.result c.in_ok-behind-2.behind c.in_ok-joined.ensures c.in_ok-behind-2.ensures.faults c.in_ok-behind-2.ensures.reached (omega (arith, size, c.len-first.ensures))

pub leave_shard-requires-clause-shard : goal.leave_shard-requires-clause-shard
leave_shard-requires-clause-shard g t c κs within =
    let size = c.args.faults.now.ok.0 in
    let gone_is = c.ends-gone.ensures.number ∙ ap (λ (w : WindowKept). w.through) c.window-trace.ensures in
    subst (λ (n : ℕ). IsShard g.N.World.design g.N.World.plan n c.in_ok-behind-2.behind c.in_ok-joined.joined.numbers.items (drop c.len-first.result c.advance_rest.new.faults.items)) (sym gone_is)
    (shard-behind g.N.World.design g.N.World.plan c.in-Some.claimed.shard c.args.faults.now.items c.join_shard.new.faults.items c.advance_rest.new.faults.items c.in_ok-joined.joined
    c.args.window.now.through c.len-first.result c.in_ok-behind-2.behind c.in_ok-joined.ensures c.in_ok-behind-2.ensures.faults c.in_ok-behind-2.ensures.reached (omega (arith, size, c.len-first.ensures)))

pub returns-clause-through : goal.returns-clause-through
returns-clause-through g t c =
    let size = c.args.faults.now.ok.0 in
    let design = g.N.World.design in
    let plan = g.N.World.plan in
    let R = GoesThrough design plan c.args.window.now.through in
    let gone_is = c.ends-gone.ensures.number ∙ ap (λ (w : WindowKept). w.through) c.window-trace.ensures in
    let came : ClaimedShard _ = record { number = c.in-Some.claimed.number; shard = c.in_ok-shard.shard } in
    let one = goes-through design plan c.in-Some.claimed.shard c.args.faults.now.items c.join_shard.new.faults.items c.advance_rest.new.faults.items c.in_ok-joined.joined c.args.window.now.through
    c.len-first.result c.in_ok-behind-2.behind c.in_ok-joined.ensures c.in_ok-behind-2.ensures.faults c.in_ok-behind-2.ensures.reached (omega (arith, size, c.len-first.ensures))
    c.in-Some.claimed.number c.ends-gone.result c.in-Some.claimed came refl (ap (claimed-as c.in-Some.claimed.number) c.in_ok-shard.ensures.shard) gone_is in
    subst (λ (l : List (ClaimedShard _)). AllZip R l c.push.new.self.items) (sym c.in-Some.ensures.items)
    (subst (λ (l : List (ClaimedShard _)). AllZip R (c.pop.new.self.items ++ c.in-Some.claimed ∷ []) l) (sym c.in_ok-push.ensures.items)
    (AllZip-push R c.pop.new.self.items c.advance_rest.new.shards.items c.in-Some.claimed came c.in_ok-behind-2.ensures.through one))

pub returns-clause-reached : goal.returns-clause-reached
returns-clause-reached g t c =
    let size = c.args.faults.now.ok.0 in
    subst (HasReachedIfOpen g.N.World.design g.N.World.plan c.args.window.now.through c.in_ok-behind-2.behind) (sym c.in_ok-shard.ensures.faults)
    (others-reach g.N.World.design g.N.World.plan c.in-Some.claimed.shard c.args.faults.now.items c.join_shard.new.faults.items c.advance_rest.new.faults.items c.in_ok-joined.joined
    c.args.window.now.through c.len-first.result c.in_ok-behind-2.behind c.in_ok-joined.ensures c.in_ok-behind-2.ensures.faults c.in_ok-behind-2.ensures.reached (omega (arith, size, c.len-first.ensures)))

pub returns-clause-faults : goal.returns-clause-faults
returns-clause-faults g t c =
    let size = c.args.faults.now.ok.0 in
    subst (AllZip (ComesThrough g.N.World.design g.N.World.plan c.args.window.now.through c.in_ok-behind-2.behind.passed) c.args.faults.now.items) (sym c.in_ok-shard.ensures.faults)
    (others-through g.N.World.design g.N.World.plan c.in-Some.claimed.shard c.args.faults.now.items c.join_shard.new.faults.items c.advance_rest.new.faults.items c.in_ok-joined.joined
    c.args.window.now.through c.len-first.result c.in_ok-behind-2.behind c.in_ok-joined.ensures c.in_ok-behind-2.ensures.faults c.in_ok-behind-2.ensures.reached (omega (arith, size, c.len-first.ensures)))

pub returns-clause-ticks : goal.returns-clause-ticks
returns-clause-ticks g t c tally =
    let size = c.args.faults.now.ok.0 in
    let design = g.N.World.design in
    let plan = g.N.World.plan in
    let at = all-last (HasGone c.args.window.now.before) c.pop.new.self.items c.args.shards.now.items c.in-Some.claimed c.in-Some.ensures.items c.requires.gone in
    let gone_is = c.ends-gone.ensures.number ∙ ap (λ (w : WindowKept). w.through) c.window-trace.ensures in
    let rest : steps_of_faults tally c.args.window.now.through c.leave_shard.new.faults.items
    ≡ steps_of_faults tally c.args.window.now.through (take c.len-first.result c.advance_rest.new.faults.items) =
    ap (steps_of_faults tally c.args.window.now.through) c.in_ok-shard.ensures.faults in
    let rises = shards-rise design plan c.in-Some.claimed.shard c.args.faults.now.items c.join_shard.new.faults.items c.advance_rest.new.faults.items c.in_ok-joined.joined c.args.window.now.through
    c.len-first.result c.in_ok-behind-2.behind c.in_ok-joined.ensures c.in_ok-behind-2.ensures.faults c.in_ok-behind-2.ensures.reached (omega (arith, size, c.len-first.ensures))
    tally c.args.window.now.before c.in-Some.claimed.number c.ends-gone.result c.args.shards.now.items c.pop.new.self.items c.advance_rest.new.shards.items c.push.new.self.items c.args.steps.now
    c.advance_rest.new.steps at gone_is c.in-Some.ensures.items
    (c.in_ok-push.ensures.items ∙ ap (λ (k : ShardKept). c.advance_rest.new.shards.items ++ claimed-as c.in-Some.claimed.number k ∷ []) c.in_ok-shard.ensures.shard)
    (c.in_ok-behind-2.ensures.ticks tally) in
    omega (arith, rest, rises)
