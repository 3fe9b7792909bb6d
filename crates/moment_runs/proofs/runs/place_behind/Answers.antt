-- One run after another.
use Rattle.std.proofs.Common.{◌≡◌, suc, ◌+◌, ◌-◌, ◌<◌, ◌≤◌, length, map, take, drop, sym, ap, subst, ◌∙◌, arith}
use Rattle.std.specs.Prelude.{Some, slice_get}
use Rattle.std.proofs.lemmas.Bool.{ne_eqb}
use Rattle.vf_base.specs.Base.{process_number}
use Rattle.vf_base.specs.Lists.{has}
use Rattle.window_runs.specs.RunsByProcess.{run_process}
use Rattle.moment_parts.proofs.Below.{at-place}
use Rattle.moment_runs.proofs.Found.{HasNone, none-more, first-place, none-all}
use Rattle.moment_runs.proofs.runs.place_behind.Goals as goal

pub runs-init : goal.runs-init
runs-init c = record {
  from_on = omega arith;
  none = record { none = let e : c.args.from - c.args.from ≡ 0 = omega arith in ap (λ n. has (map run_process (take n (drop c.args.from c.args.runs.now))) (process_number c.args.process)) e };
}

pub runs-preserved : goal.runs-preserved
runs-preserved c =
    let runs = c.args.runs.now in
    let from = c.args.from in
    let place = c.runs.place in
    let run = c.index-runs-place.result in
    let on : from ≤ place = c.runs.invariant.from_on in
    let low : place < length runs = c.runs-test.true in
    let there : slice_get runs (from + (place - from)) ≡ Some run =
    (let e : from + (place - from) ≡ place = omega (arith, on) in ap (λ n. slice_get runs n) e) ∙ at-place runs place run low c.index-runs-place.is in
    record {
      from_on = omega (arith, on);
      none =
          let e : suc (place - from) ≡ place + 1 - from = omega (arith, on) in
          subst (λ n. HasNone runs from n (process_number c.args.process)) e
          (none-more runs from (place - from) (process_number c.args.process) run there
          (ne_eqb (run_process run) (process_number c.args.process) (λ same. c.if-runs-place.false (sym (ap run_process c.index-runs-place.is) ∙ same))) c.runs.invariant.none);
    }

pub returns-then-runs-place-clause-first : goal.returns-then-runs-place-clause-first
returns-then-runs-place-clause-first c others rest are none =
    let runs = c.args.runs.now in
    let from = c.args.from in
    let place = c.runs.place in
    let run = c.index-runs-place.result in
    let on : from ≤ place = c.runs.invariant.from_on in
    let low : place < length runs = c.runs-test.true in
    let there : slice_get runs (from + (place - from)) ≡ Some run =
    (let e : from + (place - from) ≡ place = omega (arith, on) in ap (λ n. slice_get runs n) e) ∙ at-place runs place run low c.index-runs-place.is in
    let own : run_process run ≡ process_number c.args.process = ap run_process c.index-runs-place.is ∙ c.if-runs-place.true in
    let count : place - from ≡ length others = first-place runs from (place - from) (process_number c.args.process) run others rest there own c.runs.invariant.none are none in
    omega (arith, on, count)

pub unreachable-requires : goal.unreachable-requires
unreachable-requires c =
    let on : c.args.from ≤ c.runs.place = c.runs.invariant.from_on in
    none-all c.args.runs.now c.args.from (c.runs.place - c.args.from) (process_number c.args.process) (omega (arith, on, c.runs-test.false)) c.runs.invariant.none c.requires.there
