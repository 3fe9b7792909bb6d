-- The law, part by part.
use Rattle.lockstep_shards.proofs.Entering.{enters, grading}
use Rattle.lockstep_shards.proofs.Keeping.{lockstep-keeps, lockstep-no-states}
use Rattle.lockstep_shards.proofs.Laws.{ShardLaws}
use Rattle.lockstep_shards.proofs.Leaving.{found, leaves, on-time, stays}
use Rattle.lockstep_shards.proofs.Passing.{passes}
use Rattle.lockstep_shards.proofs.Seeing.{finds, sees, stands-at, unseen}
use Rattle.lockstep_shards.proofs.shards_go_in_lockstep.Goals as goal

pub returns : goal.returns
returns c =
    let laws : ShardLaws = record {
      copies = c.copies_go_in_lockstep.ensures;
      grading = c.strobed_gradings_go_on.ensures;
      ends = c.strobed_gradings_end.ensures;
      faults = c.strobed_faults_go_on.ensures;
      stay = c.faults_go_on.ensures;
      good = c.good_run_goes_on.ensures;
      goes = c.runs_go_on.ensures;
      runs = c.runs_stand.ensures;
      see = c.strobes_see.ensures;
      over = c.copies_pass_over.ensures;
      stand = c.states_stand.ensures;
      rest = c.updates_pend.ensures.rest;
      times = c.updates_pend.ensures.time;
      event_times = c.own_runs.ensures.time;
    } in
    record {
      enters = λ design plan fault number time passed own rules stands none due. enters laws design plan fault number time passed own rules stands none due;
      grading = λ design plan fault number time passed own rules stands. grading laws design plan fault number time passed own rules stands;
      strobes = λ design plan fault number time d strobe lockstep low before good_on. stands-at laws design plan fault number time d strobe lockstep low before good_on;
      sees = λ design plan fault now passed next d strobe said new good faulty rules of_plan goes stands seen none is.
          sees laws design plan rules fault d strobe stands good faulty seen now passed next said new of_plan goes none is;
      finds = λ design plan fault now passed next d strobe said new good faulty rules goes stands seen hard is.
          finds laws design plan rules fault d strobe stands good faulty seen now passed next said new goes hard is;
      unseen = λ design plan fault now passed strobes later d said rules of_plan none all goes.
          unseen laws design plan rules of_plan fault d said none strobes now passed later all goes;
      leaves = λ design plan fault number time count now own lockstep listed none more time_is has goes own_time.
          leaves laws design plan fault number time count now own lockstep listed none more time_is has goes own_time;
      found = λ design plan fault number time count ended end own rules ends low listed is within more time_is.
          found laws design plan fault number time count ended end own rules ends low listed is within more time_is;
      stays = λ design plan gone later passed count own rules stands ended low. stays laws design plan gone later passed count own rules stands ended low;
      on_time = λ design plan fault number time d new slot lockstep there after. on-time laws design plan fault number time d new slot lockstep there after;
      passes = λ design plan fault number time last d slot lockstep updates own_time behind alone low stands more.
          passes laws design plan fault number time last d slot lockstep updates own_time behind alone low stands more;
      no_states = λ design plan fault number time kept lockstep. lockstep-no-states laws design plan fault number time kept lockstep;
      keeps = λ design plan fault number time kept lockstep. lockstep-keeps laws design plan fault number time kept lockstep;
    }
