-- What the run shows, where it is through.
use Rattle.std.proofs.Common.{refl, subst}
use Rattle.cert_runs.specs.Runs.{TellsThrough}
use Rattle.cert_runs.specs.Searches.{LooksAtLast}
use Rattle.cert_runs.proofs.Showing.{still-run, told-none, told-some}
use Rattle.cert_runs.proofs.asked_run.AskedRun.show.Goals as goal

pub is_through-requires : goal.is_through-requires
is_through-requires c = still-run c.args.self.now c.see_last.new.self c.in_ok-see_last.ensures.same c.requires

pub returns-then-not-branch : goal.returns-then-not-branch
returns-then-not-branch c =
    told-none c.args.self.now c.see_last.new.self c.in_ok-see_last.ensures (subst (λ b. TellsThrough b c.see_last.new.self.run) c.if-not-branch.true c.in_ok-is_through.ensures.tells)

pub returns : goal.returns
returns c =
    told-some c.races_are_looked_for.ensures c.take_shown-shown.result c.args.self.now c.see_last.new.self
    (record c.see_last.new.self { run = c.is_through.new.self; search = c.is_through.new.search }) c.in_ok-see_last.ensures
    (subst (λ b. TellsThrough b c.see_last.new.self.run) c.if-not-branch.false c.in_ok-is_through.ensures.tells)
    (subst (λ b. LooksAtLast b c.see_last.new.self.run c.see_last.new.self.search c.is_through.new.search) c.if-not-branch.false c.in_ok-is_through.ensures.looks) refl
    c.take_shown-shown.ensures
