-- Before the first window, and behind the last one.
use Rattle.std.proofs.Common.{◌≡◌, ◌+◌, ◌≤◌, true, List, sym, subst, ◌∙◌, refl, arith}
use Rattle.std.specs.Prelude.{Option, sum, sum_by}
use Rattle.v_design.specs.OwnSteps.{good_steps}
use Rattle.kept_shard.specs.Keeping.{full_steps_at}
use Rattle.fault_shards.specs.Shards.{representatives_of}
use Rattle.dict_windows.specs.Faults.{all_steps}
use Rattle.dict_windows.specs.Windows.{AreThrough, StandsBeside}
use Rattle.dict_windows.proofs.Going.{rises-all}
use Rattle.dict_windows.proofs.Seeing.{seen-all}
use Rattle.dict_windows.proofs.keep.keep_in.Goals as goal

pub go_through-requires-clause-stands : goal.go_through-requires-clause-stands
go_through-requires-clause-stands g c κs within =
    subst (λ n. StandsBeside g.N.World.design g.N.World.plan n (record { good = c.nothing_seen-good.result; shards = c.in_ok-own.own })) (sym c.requires.none.0)
    (record { good = c.nothing_seen-good.ensures; shards = c.in_ok-own.ensures.gone })

pub kept_of-requires-after_bounds : goal.kept_of-requires-after_bounds
kept_of-requires-after_bounds g c κs within =
    let over = subst (λ (loops : Option _). AreThrough g.N.World.design g.N.World.plan c.go_through.new.beside loops) c.in_default.is c.in_ok-loops.ensures.through in over.stands.shards

pub returns-in-Some-clause-outcome : goal.returns-in-Some-clause-outcome
returns-in-Some-clause-outcome g c =
    subst (λ (loops : Option _). AreThrough g.N.World.design g.N.World.plan c.go_through.new.beside loops) c.in-Some.is c.in_ok-loops.ensures.through

pub returns-clause-outcome : goal.returns-clause-outcome
returns-clause-outcome g c =
    let over = subst (λ (loops : Option _). AreThrough g.N.World.design g.N.World.plan c.go_through.new.beside loops) c.in_default.is c.in_ok-loops.ensures.through in
    record {
      good = seen-all g.N.World.design g.N.World.plan c.go_through.new.beside.good over.stands.good;
      raced = (over.stands.good.whole refl).1;
      no_loop = over.no_loop;
      faults = c.in_ok-faults.ensures.faults ∙ c.in_ok-loops.ensures.faults ∙ c.in_ok-own.ensures.faults;
      whole = c.in_ok-faults.ensures.whole;
    }

pub returns-clause-ticks : goal.returns-clause-ticks
returns-clause-ticks g c =
    let design = g.N.World.design in
    let plan = g.N.World.plan in
    let moved = c.go_through.new.beside.shards.items in
    let numbers = representatives_of c.args.shards.now in
    record {
      within = λ steps each. c.own_steps_rise.ensures.exist design plan c.go_through.new.steps (c.args.steps.now + (good_steps design plan + sum steps)) (λ tally.
          let most = rises-all design plan tally c.args.ahead.now.run.ran c.go_through.new.ahead.run.ran c.args.steps.now c.go_through.new.steps (sum_by (full_steps_at tally) numbers)
          c.in_ok-own.own.items moved c.in_ok-loops.ensures.ticks c.requires.none.1
          (subst (λ (l : List _). all_steps tally moved ≤ sum_by (full_steps_at tally) l) (c.in_ok-loops.ensures.faults ∙ c.in_ok-own.ensures.faults)
          (c.in_ok-faults.ensures.steps tally)) in
          let all : sum_by (full_steps_at tally) numbers ≡ sum steps =
          c.own_steps_rise.ensures.sums design plan tally true numbers steps
          (λ number found. (let is = (c.requires.shards.representatives.each number).0 found in (is.fault, is.listed))) each in
          omega (arith, most, all));
    }
