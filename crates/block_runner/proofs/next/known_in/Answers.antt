-- What the run tells at the place.
use Rattle.std.proofs.Common.{rules, ◌≡◌, ◌∙◌, ℕ, true, false, length, sym, subst}
use Rattle.vf_base.specs.Base.{process_number}
use Rattle.block_events.specs.Runners.{machine_of, state_of}
use Rattle.block_runner.proofs.KnownNext.{read-there, tells-next}
use Rattle.block_runner.proofs.next.known_in.Goals as goal

pub known_step-requires : goal.known_step-requires
known_step-requires c = λ one there.
    let may = c.requires.may in
    let runner = c.args.runner.now in
    let p = process_number c.args.process in
    read-there c.known_steps_go_on.ensures (machine_of runner) (state_of runner) p c.args.found.now c.args.place may.good may.run may.is
    (c.goes_as.ensures.yes (search (rules, c.if-not-goes_as.false)) may.good may.run may.is) one (length (state_of runner).values) there (c.reads_are_there.ensures p)

pub returns-then-not-goes_as : goal.returns-then-not-goes_as
returns-then-not-goes_as c = λ good run is. c.goes_as.ensures.no (search (rules, c.if-not-goes_as.true)) good run is

pub returns : goal.returns
returns c = λ good run is.
    let runner = c.args.runner.now in
    tells-next c.known_steps_go_on.ensures (machine_of runner) (state_of runner) (process_number c.args.process) c.args.found.now c.args.place good run is
    (c.goes_as.ensures.yes (search (rules, c.if-not-goes_as.false)) good run is) c.known_step.result c.known_step.ensures
