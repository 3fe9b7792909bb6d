-- Shard by shard.
use Rattle.std.proofs.Common.{◌≡◌, ◌<◌, length, refl, sym, ap, subst, ◌∙◌, arith}
use Rattle.std.proofs.lemmas.List.{length-set}
use Rattle.kept_shard.specs.Keeping.{KeepingShard, numbers_of}
use Rattle.dict_windows.proofs.Shards.{passed-none, passed-more, passed-all, faults-set, steps-set}
use Rattle.dict_windows.proofs.faults.advance_all.Goals as goal

pub shards-init : goal.shards-init
shards-init g c = record { count = refl; faults = refl; passed = passed-none _ _ c.args.shards.now.items c.requires; ticks = λ tally. omega arith }

pub index_mut-own-requires : goal.index_mut-own-requires
index_mut-own-requires g c =
    let same : length c.shards.shards.items ≡ length c.args.shards.now.items = c.shards.invariant.count in
    let now : c.shards.shards.len ≡ length c.shards.shards.items = c.shards.shards.ok.0 in
    let was : c.args.shards.now.len ≡ length c.args.shards.now.items = c.args.shards.now.ok.0 in
    omega (arith, same, now, was, c.shards-test.true)

pub advance-requires-after_bounds : goal.advance-requires-after_bounds
advance-requires-after_bounds g c κs within =
    let same : length c.shards.shards.items ≡ length c.args.shards.now.items = c.shards.invariant.count in
    sym (subst (λ (own : KeepingShard). own.gone ≡ c.args.window.now.before) (sym c.index_mut-own.ensures.value)
    (c.shards.invariant.passed.ahead c.shards.place _ (omega arith) (omega (arith, same, c.shards-test.true))))

pub shards-preserved : goal.shards-preserved
shards-preserved g c =
    let same : length c.shards.shards.items ≡ length c.args.shards.now.items = c.shards.invariant.count in
    let low : c.shards.place < length c.shards.shards.items = omega (arith, same, c.shards-test.true) in
    record {
      count = length-set c.shards.shards.items c.shards.place c.advance.new.self ∙ c.shards.invariant.count;
      faults =
          faults-set c.shards.shards.items c.shards.place c.advance.new.self _ low
          (c.in_ok-advance.ensures.numbers ∙ ap (λ (own : KeepingShard). numbers_of own.kept) c.index_mut-own.ensures.value)
          ∙ c.shards.invariant.faults;
      passed = passed-more _ _ c.shards.shards.items c.shards.place c.advance.new.self low c.in_ok-advance.ensures.gone c.shards.invariant.passed;
      ticks = λ tally.
          steps-set g.N.World.design g.N.World.plan tally c.shards.shards.items c.shards.place c.index_mut-own.result.now c.advance.new.self _ c.args.steps.now c.shards.steps
          c.advance.new.steps low c.index_mut-own.ensures.value (c.shards.invariant.ticks tally) (c.in_ok-advance.ensures.ticks tally);
    }

pub returns-clause-gone : goal.returns-clause-gone
returns-clause-gone g c =
    let same : length c.shards.shards.items ≡ length c.args.shards.now.items = c.shards.invariant.count in
    passed-all _ _ c.shards.shards.items c.shards.place (omega (arith, same, c.shards-test.false)) c.shards.invariant.passed
