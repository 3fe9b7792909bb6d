use Rattle.std.proofs.Common.{◌≤◌, rules}
use Rattle.window_runs.specs.Through.{runs_through}
use Rattle.window_runs.proofs.Fronts.{front-of, counts-rise, between-fronts}
use Rattle.window_runs.proofs.parts.runs_between.Goals as goal
use Rattle.window_runs.proofs.parts.runs_between.Goals.{After-count_through-end}

-- the first count is no greater than the second
rise : (c : After-count_through-end) → c.count_through-first.result ≤ c.count_through-end.result
rise c =
    counts-rise c.args.runs.now c.args.after c.args.through c.count_through-first.result c.count_through-end.result c.requires.order c.count_through-first.ensures.within
    c.count_through-first.ensures.before c.count_through-end.ensures.behind

pub slice_bounds-result-count : goal.slice_bounds-result-count
slice_bounds-result-count c = rise (goal.at.slice_bounds-result-count c).After-count_through-end

pub slice_bounds-result-start : goal.slice_bounds-result-start
slice_bounds-result-start c =
    let order = rise (goal.at.slice_bounds-result-start c).After-count_through-end in let within = c.count_through-end.ensures.within in search rules

pub returns : goal.returns
returns c =
    let one = c.count_through-first.ensures in
    let two = c.count_through-end.ensures in
    between-fronts c.args.runs.now (runs_through c.args.after c.args.runs.now) (runs_through c.args.through c.args.runs.now) c.count_through-first.result c.count_through-end.result
    (rise (goal.at.returns c).After-count_through-end)
    (front-of c.args.runs.now c.args.after c.count_through-first.result one.within one.before one.behind)
    (front-of c.args.runs.now c.args.through c.count_through-end.result two.within two.before two.behind)
