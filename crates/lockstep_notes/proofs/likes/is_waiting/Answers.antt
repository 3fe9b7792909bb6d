-- The process stands where the state behind the block shows it.
use Rattle.std.proofs.Common.{◌≡◌, ◌<◌, true, length, map, refl, sym, ap, subst, arith, rules}
use Rattle.std.specs.Prelude.{Some}
use Rattle.std.proofs.lemmas.Option.{slice_get_read}
use Rattle.vf_base.specs.Base.{object_number, process_number}
use Rattle.v_design.specs.Plain.{entry_of}
use Rattle.v_design.specs.Trees.{Entry}
use Rattle.causal_monitor.specs.Notes.{entry_on}
use Rattle.copy_laws.specs.Filter.{IsIn}
use Rattle.lockstep_notes.proofs.Told.{waiting}
use Rattle.lockstep_notes.proofs.likes.is_waiting.Goals as goal

pub waits-requires : goal.waits-requires
waits-requires g c =
    let codes = c.codes-codes.result.now in
    let code = c.index-codes-process.result in
    let number = process_number c.args.access.now.access.process in
    let low : number < length codes = omega arith in
    (c.codes-codes.ensures.world.each number code (slice_get_read codes (length codes) number code refl low c.index-codes-process.is)).code_of

pub returns : goal.returns
returns g c = λ yes.
    let codes = c.codes-codes.result.now in
    let code = c.index-codes-process.result in
    let number = process_number c.args.access.now.access.process in
    let object = object_number c.args.access.now.access.object in
    let low : number < length codes = omega arith in
    let stepped : c.steps_between.result ≡ true = search rules in
    let entries = c.waits.result.now in
    record {
      stepped = c.steps_between.ensures stepped;
      waits =
          waiting g.N.World.design (g.S.Standing.design c.args.behind.now) (g.S.Standing.shows c.args.behind.now) number codes code c.in-Some-state_of.state.now entries
          (entry_on object c.args.access.now.entry) c.codes-codes.ensures.world (slice_get_read codes (length codes) number code refl low c.index-codes-process.is)
          c.in-Some-state_of.ensures c.waits.ensures
          (subst (λ (e : Entry). IsIn e (map entry_of entries)) (ap (entry_on object) (sym c.in-Some.is)) (c.has_entry.ensures yes));
    }
