-- A phase that has ended is looked into for a claimed race (IEEE 1364-2001, clause 5).
use Rattle.std.proofs.Common.{◌≡◌, ℕ, List, Bool, true, false, ◌&&◌, refl, sym, ap, subst, ◌∙◌}
use Rattle.std.specs.Prelude.{Option, option_map, nat_eq}
use Rattle.std.proofs.lemmas.Bool.{eq-eqb, ne_eqb}
use Rattle.vf_base.specs.Base.{ReportedPair}
use Rattle.v_design.specs.PlainDesigns.{design_of}
use Rattle.v_design.specs.Designs.{FlatDesign, Machine}
use Rattle.v_design.specs.Grades.{race_of}
use Rattle.v_design.specs.Logs.{LoggedPhase, log_accesses}
use Rattle.v_design.specs.PhaseLogs.{log_of}
use Rattle.causal_monitor.specs.Phases.{IsLogOf}
use Rattle.cert_laws.specs.Replays.{Replay}
use Rattle.replay_laws.specs.Claimed.{first_pair, pair_of_phase}
use Rattle.replay_laws.specs.Looked.{is_there, found_if, found_then}
use Rattle.cert_replay.specs.declared.replaying.Replaying.{Replaying}
use Rattle.cert_replay.specs.Kept.{HasEnded, IsAtPhaseEnd, time_kept}
use Rattle.cert_replay.proofs.Turning.{and-false}

module _ (machine : Machine) (replay : Replay) (r : Replaying) (h : HasEnded machine replay r) (time number : ℕ) (first second : List ℕ) (before : Option ReportedPair) where
  -- the time and the number that are kept are those of the replay
  number-is : r.record.number ≡ replay.number
  number-is = h.recorded.numbered ∙ sym h.number_is

  abbrev found : Bool → Option ReportedPair
  found there = found_if there (pair_of_phase machine time number first second replay.begins replay.events) before

  -- the phase is at another time, or has another number
  pub looked-otherwhen : (time_kept r ≡ time → ⊥) → before ≡ found_then machine time number first second replay before
  looked-otherwhen other = ap found (sym (λ i. ne_eqb replay.now.time time (λ e. other (h.both.table_is.time ∙ e)) i && nat_eq replay.number number))

  pub looked-otherwhere : (r.record.number ≡ number → ⊥) → before ≡ found_then machine time number first second replay before
  looked-otherwhere other =
      ap found (sym ((λ i. nat_eq replay.now.time time && ne_eqb replay.number number (λ e. other (number-is ∙ e)) i) ∙ and-false (nat_eq replay.now.time time)))

  -- it is the one that is claimed
  pub looked-there : (design : FlatDesign) (log : LoggedPhase) (pair : Option ReportedPair) → time_kept r ≡ time → r.record.number ≡ number → design ≡ machine.design →
      log ≡ log_of machine replay.begins replay.events →
      pair ≡ option_map (race_of time number) (first_pair design log first second (log_accesses design log)) → pair ≡ found_then machine time number first second replay before
  looked-there design log pair same_time same_number same_design same_log is =
      is ∙ (λ i. option_map (race_of time number) (first_pair (same_design i) (same_log i) first second (log_accesses (same_design i) (same_log i))))
      ∙ ap found (sym (λ i. eq-eqb replay.now.time time (sym h.both.table_is.time ∙ same_time) i && eq-eqb replay.number number (sym number-is ∙ same_number) i))

-- the log of the phase names objects of the graph's design
pub names-of : (r : Replaying) (is : IsAtPhaseEnd r) (log : LoggedPhase) → IsLogOf is.machine.design log → IsLogOf (design_of r.graph.now.design.now) log
names-of r is log names = subst (λ d. IsLogOf d log) (sym is.ended.graph_is) names
