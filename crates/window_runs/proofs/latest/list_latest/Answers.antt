-- One run more.
use Rattle.std.proofs.Common.{◌≡◌, ◌+◌, ◌<◌, length, refl, ap, ◌∙◌, arith}
use Rattle.std.specs.Prelude.{Some, slice_get}
use Rattle.std.proofs.lemmas.List.{length_push}
use Rattle.std.proofs.lemmas.Option.{slice_get_read, slice_get_within}
use Rattle.window_runs.proofs.Dues.{bounds-more, kept-more}
use Rattle.window_runs.proofs.latest.list_latest.Goals as goal

pub runs-init : goal.runs-init
runs-init c = record {
  count = ap length c.clear-2.ensures.items;
  kept = λ place run low here. absurd (omega (arith, low));
  bounds = λ place low earlier run other order here there same. absurd (omega (arith, low));
}

pub runs-preserved : goal.runs-preserved
runs-preserved c =
    let i = c.runs.run-index in
    let run = c.run-item.result in
    let low : i < length c.args.runs.now = c.runs-test.true in
    let here : slice_get c.args.runs.now i ≡ Some run = slice_get_read c.args.runs.now (length c.args.runs.now) i run refl low c.run-item.is in
    let time = c.in_ok-time.time in
    record {
      count = ap length c.in_ok-push.ensures.items ∙ length_push c.runs.latest.items time ∙ ap (λ n. n + 1) c.runs.invariant.count;
      kept = kept-more c.args.runs.now i run low here c.runs.highest.items c.take_run.new.highest.items c.runs.latest.items c.push.new.self.items time c.runs.invariant.kept
          c.in_ok-time.ensures.rise c.in_ok-time.ensures.time c.in_ok-time.ensures.all;
      bounds = bounds-more c.args.runs.now i run low here c.runs.highest.items c.take_run.new.highest.items c.runs.latest.items c.push.new.self.items time c.runs.invariant.kept
          c.in_ok-time.ensures.rise c.in_ok-time.ensures.time c.in_ok-time.ensures.all c.runs.invariant.count c.runs.invariant.bounds c.in_ok-push.ensures.items;
    }

pub returns : goal.returns
returns c = record {
  count = omega (arith, c.runs.invariant.count, c.runs-test.false);
  bounds = λ place earlier run other order here there same.
      c.runs.invariant.bounds place (let low = slice_get_within c.args.runs.now place run here in omega (arith, low, c.runs-test.false)) earlier run other order here there same;
}
