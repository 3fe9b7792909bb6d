-- The search for a claimed race in the phases of a run (phases by IEEE 1364-2001, clause 5).
use Rattle.std.specs.Prelude.{◌≡◌, ℕ, Bool, true, List, Option, Some, None, option_map}
use Rattle.vf_base.specs.Base.{ReportedPair, reported_pair}
use Rattle.v_design.specs.Designs.{Machine}
use Rattle.cert_laws.specs.Replays.{RunLine, SlotAt, PhaseNumber, StepsOf, UpdatesOf, Replay}
use Rattle.replay_laws.specs.Looked.{HasLooked, found_then}
use Rattle.cert_replay.specs.declared.replaying.Replaying.{Replaying}
use Rattle.cert_replay.specs.Kept.{Keeps, HasEnded}
use Rattle.cert_runs.specs.declared.asked.Asked.{Asked}
use Rattle.cert_runs.specs.declared.asked.Asked.TheVariants as asks
use Rattle.cert_runs.specs.declared.search.Search.{Search}
use Rattle.cert_runs.specs.declared.follow.CertRun.{CertRun}
use Rattle.cert_runs.specs.Runs.{KeepsRun}

-- what has been found
abbrev pub found_in : Search → Option ReportedPair
found_in s = option_map reported_pair s.found

-- what has been found once the phase of a replay ends
abbrev pub found_at_end : Asked → Machine → Replay → Option ReportedPair → Option ReportedPair
found_at_end (asks.Samples bound watched strobes) machine replay before = before
found_at_end (asks.Conflict time phase first second) machine replay before = found_then machine time phase first.now second.now replay before
found_at_end asks.Nothing machine replay before = before

-- what has been found after a line of a run: the line of a slot or a phase ends the phase before it
abbrev pub found_by_line : Asked → Machine → RunLine → Replay → Option ReportedPair → Option ReportedPair
found_by_line asked machine (SlotAt time) replay before = found_at_end asked machine replay before
found_by_line asked machine (PhaseNumber number) replay before = found_at_end asked machine replay before
found_by_line asked machine (StepsOf process count) replay before = before
found_by_line asked machine (UpdatesOf process count) replay before = before

-- the same of a run that may have begun
abbrev pub found_on : Asked → Machine → RunLine → Option Replay → Option ReportedPair → Option ReportedPair
found_on asked machine line None before = before
found_on asked machine line (Some replay) before = found_by_line asked machine line replay before

-- a phase that has ended is looked into
pub record LooksAt (r : Replaying) (old new : Search) : Type 0 where
  pub asked : new.asked ≡ old.asked
  pub found : (machine : Machine) (replay : Replay) → HasEnded machine replay r → found_in new ≡ found_at_end old.asked machine replay (found_in old)

-- a phase is looked into, where it ends
pub record LooksIfEnded (ended : Bool) (r : Replaying) (old new : Search) : Type 0 where
  pub asked : new.asked ≡ old.asked
  pub found : ended ≡ true → (machine : Machine) (replay : Replay) → Keeps machine replay r → found_in new ≡ found_at_end old.asked machine replay (found_in old)

-- the phase that a line ends is looked into, where the line is followed
pub record LooksAlong (line : RunLine) (went : Bool) (r : Replaying) (old new : Search) : Type 0 where
  pub asked : new.asked ≡ old.asked
  pub found : went ≡ true → (machine : Machine) (replay : Replay) → Keeps machine replay r → found_in new ≡ found_by_line old.asked machine line replay (found_in old)

-- the same of a run that may have begun
pub record LooksInRun (line : RunLine) (went : Bool) (r : CertRun) (old new : Search) : Type 0 where
  pub asked : new.asked ≡ old.asked
  pub found : went ≡ true → (machine : Machine) (run : Option Replay) → KeepsRun machine run r → found_in new ≡ found_on old.asked machine line run (found_in old)

-- the last phase of a run that is through is looked into
pub record LooksAtLast (through : Bool) (r : CertRun) (old new : Search) : Type 0 where
  pub asked : new.asked ≡ old.asked
  pub found : through ≡ true → (machine : Machine) (replay : Replay) → KeepsRun machine (Some replay) r → found_in new ≡ found_at_end old.asked machine replay (found_in old)

-- what has been found of a claimed race is what is to be found in the phases of the run that have ended
abbrev pub FoundSoFar : Machine → ℕ → ℕ → List ℕ → List ℕ → Option Replay → Option ReportedPair → Type 0
FoundSoFar machine time phase first second None found = found ≡ None
FoundSoFar machine time phase first second (Some replay) found = HasLooked machine time phase first second replay found
