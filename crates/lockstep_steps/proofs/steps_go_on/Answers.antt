-- The law is proved in `Steps`.
use Rattle.lockstep_steps.proofs.Steps.{steps_go_on}
use Rattle.lockstep_steps.proofs.steps_go_on.Goals as goal

pub returns : goal.returns
returns c =
    steps_go_on
    (record {
      stand = c.runs_stand.ensures;
      copies = c.copies_go_in_lockstep.ensures;
      index = c.index_tells_free.ensures;
      pass = c.writes_pass.ensures;
      side = c.lockstep_is_beside.ensures.beside;
      notes = c.notes_go_on.ensures;
      alike = c.pairs_tell.ensures.more;
      slots = c.slots_in_lockstep.ensures;
      waits = c.only_texts_wait.ensures.runs;
      moments = c.moments_stand.ensures;
      blocks = c.run_blocks_are_whole.ensures;
      phases = c.phases_follow.ensures.phases;
      split = c.phases_follow.ensures.split;
      writes = c.writes_stay.ensures.stay;
      windows = c.places_in_windows.ensures;
    })
