-- The step is there, and is compared by what it reads.
use Rattle.std.proofs.Common.{rules, ◌≡◌, false, true, sym, ap, ◌∙◌}
use Rattle.std.specs.Prelude.{Some, slice_get}
use Rattle.known_steps.specs.Known.{ReadsOther}
use Rattle.known_steps.proofs.known.known_step.Goals as goal

pub returns-then-not-alike : goal.returns-then-not-alike
returns-then-not-alike g c =
    let there : slice_get c.args.run.now.steps c.args.place ≡ Some c.in-Some.step.now = sym c.in-Some.ensures in
    ReadsOther c.in-Some.step.now there (λ same. let yes : c.reads_alike-alike.result ≡ true = c.reads_alike-alike.ensures.1 same in let no : c.reads_alike-alike.result ≡ false = search (rules, c.if-not-alike.true) in
    absurd (let clash : true ≡ false = sym yes ∙ no in cc))

pub returns : goal.returns
returns g c =
    let there : slice_get c.args.run.now.steps c.args.place ≡ Some c.in-Some.step.now = sym c.in-Some.ensures in
    let yes : c.reads_alike-alike.result ≡ true = search (rules, c.if-not-alike.false) in
    record {
      one = c.in-Some.step.now;
      at = there;
      alike = c.reads_alike-alike.ensures.0 yes;
      line = search rules;
      act = search rules;
      behind = c.stands_behind-next.ensures;
    }
