-- A run that is found is told of.
use Rattle.std.proofs.Common.{◌<◌, sym, ap, subst, ◌∙◌}
use Rattle.std.specs.Prelude.{slice_get}
use Rattle.std.specs.Option.{option_map}
use Rattle.std.proofs.lemmas.Option.{get_or_from_slice_get, slice_get-map, slice_get_within}
use Rattle.vf_base.specs.Base.{process_number}
use Rattle.process_code.specs.RunEnds.{StandsIn, told_by}
use Rattle.run_ends.specs.RunEnds.{ends_of, told_of}
use Rattle.window_runs.specs.RunsByProcess.{IsRunIndexOf}
use Rattle.window_runs.proofs.phase.PhaseRuns.run.Goals as goal

pub run-requires-clause-process : goal.run-requires-clause-process
run-requires-clause-process c =
    let count = c.requires.tells.index_is.phases_are.numbers in
    let there = c.requires.there in
    subst (λ n. process_number c.args.process < n) (sym count) there

pub run-requires-clause-index : goal.run-requires-clause-index
run-requires-clause-index c =
    let index = c.requires.tells.index_is in
    subst (λ n. IsRunIndexOf n c.args.self.now.runs.now c.args.self.now.index.now) (sym index.phases_are.numbers) index

pub returns : goal.returns
returns c = λ design time runs tells.
    let process = process_number c.args.process in
    let ends = ends_of c.args.self.now.phase process c.args.self.now.runs.now in
    let number = c.args.number in
    record {
      told = λ code own.
          ap (option_map (told_by code)) c.run.ensures ∙ sym (slice_get-map (told_by code) ends number) ∙ ap (λ l. slice_get l number) (tells.told process code own)
          ∙ slice_get-map (told_of time) (runs process) number;
      stand = λ code one own is.
          let there = sym c.run.ensures ∙ is in
          subst (StandsIn code) (get_or_from_slice_get ends number one one there) (tells.stand process code own number one (slice_get_within ends number one there));
    }
