-- A block that is noted is taken in, and the notes are of one pair more.
use Rattle.std.proofs.Common.{◌≡◌, ℕ, Bool, false, map, refl, sym, ap, subst, ◌∙◌, rules}
use Rattle.std.specs.Prelude.{Option, Some, None, is_some}
use Rattle.std.proofs.lemmas.Result.{on_ok_weaker}
use Rattle.vf_base.specs.Base.{object_number}
use Rattle.vf_base.specs.declared.ids.ProcId.{ProcId}
use Rattle.v_design.specs.Designs.{good_machine, faulty_machine}
use Rattle.v_design.specs.PhaseLogs.{log_of}
use Rattle.block_filter.specs.Blocks.{all_accesses}
use Rattle.block_told.specs.Tells.{is_lane, noted_seen}
use Rattle.window_tests.specs.lockstep_slots.Places.{state_there}
use Rattle.race_notes.specs.Notes.{OwnBlock}
use Rattle.lockstep_notes.specs.Likes.{LikeSeen, HasLikeBetween}
use Rattle.lockstep_notes.specs.Notes.{own_blocks}
use Rattle.lockstep_notes.proofs.Marks.{wider, takes-in}
use Rattle.lockstep_notes.proofs.Pairs.{block-more}
use Rattle.lockstep_notes.proofs.block.note_block.Goals as goal

-- no process's lane is told where none is
no-lane : (lane : Option ProcId) → is_some lane ≡ false → (process : ℕ) → is_lane lane process ≡ false
no-lane None e process = refl
no-lane (Some one) e process = cc

pub returns-clause-wider : goal.returns-clause-wider
returns-clause-wider g c = on_ok_weaker c.note.result (λ noted. wider g.N.World.design c.args.notes.now c.note.new.self noted.grow) c.note.ensures

pub returns-clause-taken : goal.returns-clause-taken
returns-clause-taken g c =
    on_ok_weaker c.note.result
    (λ noted. λ fault place own ones more others block tells acts.
    takes-in g.N.World.design fault (state_there (good_machine g.N.World.design) place) own.state ones others _ (map object_number c.args.written.now) _ c.args.notes.now c.note.new.self noted
    tells.accesses block.writes
    (λ seen told.
    let like : HasLikeBetween g.N.World.design g.N.World.plan c.args.window.now.before c.args.window.now.through c.args.first c.args.end c.is_some-lane.result
    (g.S.Standing.design c.args.behind.now) (g.S.Standing.shows c.args.behind.now) (noted_seen told.0) = search rules in
    subst (LikeSeen (all_accesses (log_of (good_machine g.N.World.design) (state_there (good_machine g.N.World.design) place) ones))) told.1
    (like place ones more c.requires
    (record {
      at = block.at;
      left = block.left;
      end_is = block.end_is;
      shown = block.shown;
      no_lane = λ none process. sym (acts.lanes process) ∙ no-lane c.args.told.now.lane (sym c.is_some-lane.ensures ∙ none) process;
    })))) c.note.ensures

pub returns-clause-told : goal.returns-clause-told
returns-clause-told g c =
    on_ok_weaker c.note.result
    (λ noted. λ fault place own pairs ones more others tells block told alike.
    let own_block : OwnBlock = record { begins = c.args.first; ends = c.args.end; seen = map noted_seen c.args.told.now.accesses.items } in
    block-more g.N.World.design g.N.World.plan fault c.args.window.now.before c.args.window.now.through c.args.first c.args.end place own pairs c.args.notes.now c.note.new.self ones more others
    own_block tells noted.grow.first_is alike block.end_is refl refl told.accesses
    (noted.notes (own_blocks g.N.World.design fault c.args.notes.now.first own.phase_begins pairs) tells.told)) c.note.ensures
