-- One worker more.
use Rattle.std.proofs.Common.{ℕ, ◌+◌, ◌<◌, ◌≤◌, ◌≡◌, refl, ap, sym, subst, ◌∙◌, arith}
use Rattle.std.specs.List.{range_with_len}
use Rattle.shard_findings.specs.AllWorkers.{AreWorkersAt, worker_numbers}
use Rattle.shard_findings.proofs.Manning.{rest-first, rest-enough, rest-more, newcomer-new, numbers-more, workers-none, workers-more}
use Rattle.shard_findings.proofs.hiring.hire.Goals as goal

all-numbers : (number count : ℕ) → number ≤ count → count ≤ number → number ≡ count
all-numbers number count low high = omega arith

pub numbers-init : goal.numbers-init
numbers-init g c = record {
  rest = rest-first c.args.board.now c.args.seat c.requires.own c.requires.first;
  workers = λ representatives. subst (AreWorkersAt representatives c.args.board.now 0 0) (sym c.new-workers.ensures.items) (workers-none representatives c.args.board.now 0);
  numbers = ap worker_numbers c.new-workers.ensures.items;
}

pub returns-clause-workers : goal.returns-clause-workers
returns-clause-workers g c = λ representatives.
    subst (λ n. AreWorkersAt representatives c.args.board.now 0 n c.numbers.workers.items) (all-numbers c.numbers.number c.args.count c.numbers.auto.number-end c.numbers-test.false)
    (c.numbers.invariant.workers representatives)

pub returns-clause-numbers : goal.returns-clause-numbers
returns-clause-numbers g c = c.numbers.invariant.numbers ∙ ap (range_with_len 0) (all-numbers c.numbers.number c.args.count c.numbers.auto.number-end c.numbers-test.false)

pub split-rest-requires-clause-own : goal.split-rest-requires-clause-own
split-rest-requires-clause-own g c κs within = c.numbers.invariant.rest.own

pub split-rest-requires-clause-share : goal.split-rest-requires-clause-share
split-rest-requires-clause-share g c κs within =
    rest-enough c.args.board.now c.numbers.number c.numbers.seat (let low : c.numbers.number < c.args.count = c.numbers-test.true in let few : c.args.count ≤ 64 = c.requires.few in omega (arith, low, few))
    c.numbers.invariant.rest

pub numbers-preserved : goal.numbers-preserved
numbers-preserved g c = record {
  rest =
      rest-more c.args.board.now c.numbers.number c.numbers.seat c.split-rest.result.0
      (let low : c.numbers.number < c.args.count = c.numbers-test.true in let few : c.args.count ≤ 64 = c.requires.few in omega (arith, low, few)) c.numbers.invariant.rest
      c.split-rest.ensures.own.0 c.split-rest.ensures.old;
  workers = λ representatives.
      subst (AreWorkersAt representatives c.args.board.now 0 (c.numbers.number + 1)) (sym c.in_ok-push.ensures.items)
      (workers-more representatives c.args.board.now 0 c.numbers.number c.numbers.workers.items _ (c.numbers.invariant.workers representatives)
      (newcomer-new c.args.board.now c.numbers.seat c.split-rest.result.1 c.split-rest.ensures.own.1 c.split-rest.ensures.new, refl));
  numbers = ap worker_numbers c.in_ok-push.ensures.items ∙ numbers-more c.numbers.workers.items _ c.numbers.number c.numbers.invariant.numbers refl;
}
