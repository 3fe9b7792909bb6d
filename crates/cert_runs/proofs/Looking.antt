-- The phases that the lines of a run end are looked into for a claimed race (IEEE 1364-2001, clause 5).
use Rattle.std.proofs.Common.{◌≡◌, ℕ, Bool, true, false, refl, sym, ap, subst, ◌∙◌}
use Rattle.std.specs.Prelude.{Option, Some, None}
use Rattle.v_design.specs.Designs.{Machine}
use Rattle.cert_laws.specs.Replays.{Replay, RunLine, SlotAt, PhaseNumber, StepsOf, UpdatesOf}
use Rattle.cert_replay.specs.declared.replaying.Replaying.{Replaying}
use Rattle.cert_replay.specs.Kept.{HasEnded, EndsPhase}
use Rattle.cert_runs.specs.declared.asked.Asked.{Asked}
use Rattle.cert_runs.specs.declared.search.Search.{Search}
use Rattle.cert_runs.specs.declared.follow.CertRun.{CertRun}
use Rattle.cert_runs.specs.Runs.{KeepsRun}
use Rattle.cert_runs.specs.Searches.{found_in, found_at_end, found_on, LooksAt, LooksIfEnded, LooksAlong, LooksInRun, LooksAtLast}

-- a phase that has ended is looked into, by what is asked
pub looks-at : (r : Replaying) (old new : Search) (asked : Asked) → old.asked ≡ asked → new.asked ≡ old.asked →
    ((machine : Machine) (replay : Replay) → HasEnded machine replay r → found_in new ≡ found_at_end asked machine replay (found_in old)) → LooksAt r old new
looks-at r old new asked is same found =
    record { asked = same; found = λ machine replay h. found machine replay h ∙ ap (λ a. found_at_end a machine replay (found_in old)) (sym is) }

-- the phase doesn't end
pub looks-not : (r : Replaying) (s : Search) → LooksIfEnded false r s s
looks-not r s = record { asked = refl; found = λ goes. absurd (let z : false ≡ true = goes in cc) }

-- it ends, and is looked into
pub looks-ended : (old mid : Replaying) (s t : Search) → EndsPhase true old mid → LooksAt mid s t → LooksIfEnded true old s t
looks-ended old mid s t e l = record { asked = l.asked; found = λ goes machine replay k. l.found machine replay (e.ends machine replay k).1 }

-- what becomes of the phase is known
pub ended-as : (ended known : Bool) (r : Replaying) (s t : Search) → ended ≡ known → LooksIfEnded ended r s t → LooksIfEnded known r s t
ended-as ended known r s t is l = subst (λ b. LooksIfEnded b r s t) is l

-- the line of a slot or a phase
pub slot-not : (time : ℕ) (r : Replaying) (s t : Search) → LooksIfEnded false r s t → LooksAlong (SlotAt time) false r s t
slot-not time r s t l = record { asked = l.asked; found = λ goes. absurd (let z : false ≡ true = goes in cc) }

pub slot-looks : (time : ℕ) (went : Bool) (r : Replaying) (s t : Search) → LooksIfEnded true r s t → LooksAlong (SlotAt time) went r s t
slot-looks time went r s t l = record { asked = l.asked; found = λ goes machine replay k. l.found refl machine replay k }

pub phase-not : (number : ℕ) (r : Replaying) (s t : Search) → LooksIfEnded false r s t → LooksAlong (PhaseNumber number) false r s t
phase-not number r s t l = record { asked = l.asked; found = λ goes. absurd (let z : false ≡ true = goes in cc) }

pub phase-looks : (number : ℕ) (went : Bool) (r : Replaying) (s t : Search) → LooksIfEnded true r s t → LooksAlong (PhaseNumber number) went r s t
phase-looks number went r s t l = record { asked = l.asked; found = λ goes machine replay k. l.found refl machine replay k }

-- a line of steps ends no phase
pub steps-look : (process count : ℕ) (went : Bool) (r : Replaying) (s : Search) → LooksAlong (StepsOf process count) went r s s
steps-look process count went r s = record { asked = refl; found = λ goes machine replay k. refl }

pub updates-look : (process count : ℕ) (went : Bool) (r : Replaying) (s : Search) → LooksAlong (UpdatesOf process count) went r s s
updates-look process count went r s = record { asked = refl; found = λ goes machine replay k. refl }

-- the end of a run
pub through-looks : (through : Bool) (r : Replaying) (s t : Search) → LooksIfEnded true r s t → LooksIfEnded through r s t
through-looks through r s t l = record { asked = l.asked; found = λ goes machine replay k. l.found refl machine replay k }

-- A run that may have begun

pub run-looks : (line : RunLine) (went : Bool) (r : CertRun) (s t : Search) → r.begun ≡ true → LooksAlong line went r.replaying s t → LooksInRun line went r s t
run-looks line went r s t begun l = record { asked = l.asked; found = go }
  where
    go : went ≡ true → (machine : Machine) (run : Option Replay) → KeepsRun machine run r → found_in t ≡ found_on s.asked machine line run (found_in s)
    go goes machine None k = let z : true ≡ false = sym begun ∙ k.0 in cc
    go goes machine (Some replay) k = l.found goes machine replay k.1

pub first-looks : (line : RunLine) (went : Bool) (r : CertRun) (s : Search) → r.begun ≡ false → LooksInRun line went r s s
first-looks line went r s unbegun = record { asked = refl; found = go }
  where
    go : went ≡ true → (machine : Machine) (run : Option Replay) → KeepsRun machine run r → found_in s ≡ found_on s.asked machine line run (found_in s)
    go goes machine None k = refl
    go goes machine (Some replay) k = let z : false ≡ true = sym unbegun ∙ k.0 in cc

pub last-looks : (through : Bool) (r : CertRun) (s t : Search) → LooksIfEnded through r.replaying s t → LooksAtLast through r s t
last-looks through r s t l = record { asked = l.asked; found = λ goes machine replay k. l.found goes machine replay k.1 }

pub last-not : (r : CertRun) (s : Search) → LooksAtLast false r s s
last-not r s = record { asked = refl; found = λ goes. absurd (let z : false ≡ true = goes in cc) }
