-- The law.
use Rattle.beside_phases.proofs.Beside.{own_steps_go_on}
use Rattle.beside_phases.proofs.own_steps_go_on.Goals as goal

pub returns : goal.returns
returns c =
    own_steps_go_on
    (record {
      index = c.index_tells_free.ensures;
      pass = c.writes_pass.ensures;
      side = c.lockstep_is_beside.ensures.beside;
      slots = c.own_steps_of_slots.ensures.slots;
      numbers = c.run_numbers_go_on.ensures;
      tried = c.tried_steps_go_on.ensures;
      join = c.blocks_are_told.ensures.join;
      follow = c.phases_follow.ensures.phases;
      split = c.phases_follow.ensures.split;
      windows = c.places_in_windows.ensures;
    })
