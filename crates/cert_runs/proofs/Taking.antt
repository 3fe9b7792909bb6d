-- A line of a run is taken (IEEE 1364-2001, clause 5).
use Rattle.std.proofs.Common.{◌≡◌, ℕ, Bool, true, false, ◌&&◌, sym, ap, subst, ◌∙◌}
use Rattle.std.specs.Prelude.{Option, Some, None}
use Rattle.v_design.specs.Designs.{Machine}
use Rattle.v_design.specs.States.{turn_of}
use Rattle.v_design.specs.Runs.{ends_by}
use Rattle.cert_laws.specs.Replays.{Replay, RunLine, SlotAt, PhaseNumber, if_allowed, phase_on, slot_on, run_line}
use Rattle.cert_replay.specs.declared.replaying.Replaying.{Replaying}
use Rattle.cert_replay.specs.Kept.{IsReplaying, IsAtPhaseEnd, HasEnded, SameRun, Follows, EndsPhase, Turns, GoesOn, claims_race, bound_kept}
use Rattle.cert_runs.specs.declared.follow.CertRun.{CertRun}
use Rattle.cert_runs.specs.Runs.{KeepsRun, RunGoesOn, FollowsLine, race_of, bound_of, said_by, Tells}

-- the phase may not end
pub slot-stays : (time : ℕ) (old mid : Replaying) → EndsPhase false old mid → Follows (said_by (claims_race old) (bound_kept old) (SlotAt time)) false old mid
slot-stays time old mid e = record { same = e.same; goes_on = λ machine replay k. ap (λ b. if_allowed b (slot_on (bound_kept old) (turn_of replay.now) time replay)) (e.ends machine replay k) }

pub phase-stays : (number : ℕ) (old mid : Replaying) → EndsPhase false old mid → Follows (said_by (claims_race old) (bound_kept old) (PhaseNumber number)) false old mid
phase-stays number old mid e = record { same = e.same; goes_on = λ machine replay k. ap (λ b. if_allowed b (phase_on (turn_of replay.now) number replay)) (e.ends machine replay k) }

same-over : (one mid other : Replaying) → SameRun one mid → SameRun mid other → SameRun one other
same-over one mid other first second = record { race = second.race ∙ first.race; bound = second.bound ∙ first.bound }

-- the phase ends, and a turn follows or not
pub slot-turns : (time : ℕ) (went : Bool) (old mid new : Replaying) → EndsPhase true old mid → Turns (λ replay. slot_on (bound_kept mid) (turn_of replay.now) time replay) went mid new →
    Follows (said_by (claims_race old) (bound_kept old) (SlotAt time)) went old new
slot-turns time went old mid new e t = record {
  same = same-over old mid new e.same t.same;
  goes_on = λ machine replay k.
      let ended = e.ends machine replay k in
      let is : slot_on (bound_kept mid) (turn_of replay.now) time replay ≡ said_by (claims_race old) (bound_kept old) (SlotAt time) machine replay =
      ap (λ n. slot_on n (turn_of replay.now) time replay) e.same.bound ∙ ap (λ b. if_allowed b (slot_on (bound_kept old) (turn_of replay.now) time replay)) (sym ended.0) in
      subst (λ o. GoesOn machine o went new) is (t.goes_on machine replay ended.1);
}

pub phase-turns : (number : ℕ) (went : Bool) (old mid new : Replaying) → EndsPhase true old mid → Turns (λ replay. phase_on (turn_of replay.now) number replay) went mid new →
    Follows (said_by (claims_race old) (bound_kept old) (PhaseNumber number)) went old new
phase-turns number went old mid new e t = record {
  same = same-over old mid new e.same t.same;
  goes_on = λ machine replay k.
      let ended = e.ends machine replay k in
      subst (λ o. GoesOn machine o went new) (ap (λ b. if_allowed b (phase_on (turn_of replay.now) number replay)) (sym ended.0)) (t.goes_on machine replay ended.1);
}

-- the end of a run
pub through-not : (old mid : Replaying) → EndsPhase false old mid → Tells false old
through-not old mid e machine replay k = ap (λ b. b && ends_by (bound_kept old) replay.now) (sym (e.ends machine replay k))

pub through-told : (through : Bool) (old mid : Replaying) → EndsPhase true old mid →
    ((machine : Machine) (replay : Replay) → HasEnded machine replay mid → through ≡ ends_by (bound_kept mid) replay.now) → Tells through old
through-told through old mid e told machine replay k =
    let ended = e.ends machine replay k in
    told machine replay ended.1 ∙ ap (λ n. ends_by n replay.now) e.same.bound ∙ ap (λ b. b && ends_by (bound_kept old) replay.now) (sym ended.0)

-- the phase has ended
pub at-end : (old mid : Replaying) → IsReplaying old → EndsPhase true old mid → IsAtPhaseEnd mid
at-end old mid is e = record { machine = is.machine; replay = is.replay; ended = (e.ends is.machine is.replay is.keeps).1 }

-- a line of a run that has begun
pub goes-run : (line : RunLine) (went : Bool) (old new : CertRun) → old.begun ≡ true → new.begun ≡ old.begun →
    Follows (said_by (race_of old) (bound_of old) line) went old.replaying new.replaying → FollowsLine line went old new
goes-run line went old new begun same f = record { race = f.same.race; bound = f.same.bound; goes_on = go went f }
  where
    go : (w : Bool) → Follows (said_by (race_of old) (bound_of old) line) w old.replaying new.replaying → (machine : Machine) (run : Option Replay) → KeepsRun machine run old →
        RunGoesOn machine (run_line (race_of old) machine (bound_of old) line run) w new
    go w f machine None k = let z : true ≡ false = sym begun ∙ k.0 in cc
    go true f machine (Some replay) k = let n = f.goes_on machine replay k.1 in (n.0, n.1, (same ∙ begun, n.2))
    go false f machine (Some replay) k = f.goes_on machine replay k.1
