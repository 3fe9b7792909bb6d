-- Where a run stands: its design's rules, its time, and the values that the strobes see there.
use Rattle.std.proofs.Common.{◌≡◌, ℕ, zero, suc, ◌+◌, ◌<◌, List, [], ◌∷◌, length, map, get_or, Bool, true, false, sym, ap, subst, ◌∙◌, arith}
use Rattle.std.specs.Prelude.{Option, Some, None, nat_eq}
use Rattle.four_value.specs.Values.{LogicValue}
use Rattle.vf_base.specs.Base.{WatchedBit}
use Rattle.vf_base.specs.Lists.{AllHold}
use Rattle.v_design.specs.PlainDesigns.{design_of}
use Rattle.v_design.specs.RulesHold.{rules_hold}
use Rattle.v_design.specs.WellFormed.{KeepsRules}
use Rattle.v_design.specs.Designs.{FlatObject, FlatDesign, Machine, width_in}
use Rattle.v_design.specs.States.{State}
use Rattle.v_design.specs.Runs.{only_if}
use Rattle.strobe_detect.specs.Graders.{IsWatched}
use Rattle.net_state.specs.States.{values_in}
use Rattle.cert_laws.specs.Replays.{RunLine, SlotAt, PhaseNumber, StepsOf, UpdatesOf, Replay, begun, first_line, run_line}
use Rattle.replay_laws.specs.Times.{TimesWithin, TimesGrow}
use Rattle.cert_replay.specs.declared.replaying.Replaying.{Replaying}
use Rattle.cert_replay.specs.Kept.{Keeps}
use Rattle.cert_runs.specs.declared.follow.CertRun.{CertRun}
use Rattle.cert_runs.specs.declared.asked_run.AskedRun.{AskedRun}
use Rattle.cert_runs.specs.Runs.{KeepsRun}
use Rattle.cert_runs.specs.AskedRuns.{KeepsAsked, asked_time, stands_at, values_of}

-- Replays

-- the design keeps its rules
keeps-rules : (machine : Machine) (replay : Replay) (r : Replaying) → Keeps machine replay r → KeepsRules machine.design
keeps-rules machine replay r k =
    subst (λ (m : Machine). KeepsRules m.design) k.amid.both.machine_is
    (rules_hold (design_of r.nets.objects.settle.graph.now.design.now) r.nets.objects.settle.graph.now.design.now.rules)

-- the values are those of the state
keeps-values : (machine : Machine) (replay : Replay) (r : Replaying) → Keeps machine replay r → values_in r.nets ≡ replay.now.values
keeps-values machine replay r k = k.amid.both.nets_are.values ∙ ap (λ (s : State). s.values) (sym k.now_is)

object-there : (objects : List FlatObject) (object bit : ℕ) → bit < get_or (map (λ (o : FlatObject). o.width) objects) object 0 → object < length objects
object-there [] object bit low = absurd (omega (arith, low))
object-there (o ∷ objects) zero bit low = omega arith
object-there (o ∷ objects) (suc object) bit low = let there : object < length objects = object-there objects object bit low in omega (arith, there)

all-watched : (design : FlatDesign) (values : List LogicValue) (watched : List WatchedBit) → length values ≡ length design.objects →
    AllHold (λ (w : WatchedBit). w.bit < width_in design w.object) watched → AllHold (IsWatched values) watched
all-watched design values [] count h = tt
all-watched design values (w ∷ watched) count h =
    (let there : w.object < length design.objects = object-there design.objects w.object w.bit h.0 in omega (arith, count, there), all-watched design values watched count h.1)

-- what is watched has values
keeps-watched : (machine : Machine) (replay : Replay) (r : Replaying) (watched : List WatchedBit) → Keeps machine replay r →
    AllHold (λ (w : WatchedBit). w.bit < width_in machine.design w.object) watched → AllHold (IsWatched (values_in r.nets)) watched
keeps-watched machine replay r watched k h =
    all-watched machine.design (values_in r.nets) watched (r.nets.objects.are.count ∙ ap (λ (m : Machine). length m.design.objects) k.amid.both.machine_is) h

-- Runs

run-keeps : (machine : Machine) (run : Option Replay) (r : CertRun) → KeepsRun machine run r → Keeps machine (stands_at machine run) r.replaying
run-keeps machine None r k = k.1
run-keeps machine (Some replay) r k = k.1

pub asked-rules : (machine : Machine) (run : Option Replay) (r : AskedRun) → KeepsAsked machine run r → KeepsRules machine.design
asked-rules machine run r k = keeps-rules machine (stands_at machine run) r.run.replaying (run-keeps machine run r.run k.keeps)

pub asked-values : (machine : Machine) (run : Option Replay) (r : AskedRun) → KeepsAsked machine run r → values_of r ≡ (stands_at machine run).now.values
asked-values machine run r k = keeps-values machine (stands_at machine run) r.run.replaying (run-keeps machine run r.run k.keeps)

pub asked-watched : (machine : Machine) (run : Option Replay) (r : AskedRun) (watched : List WatchedBit) → KeepsAsked machine run r →
    AllHold (λ (w : WatchedBit). w.bit < width_in machine.design w.object) watched → AllHold (IsWatched (values_of r)) watched
asked-watched machine run r watched k h = keeps-watched machine (stands_at machine run) r.run.replaying watched (run-keeps machine run r.run k.keeps) h

pub asked-time-is : (machine : Machine) (run : Option Replay) (r : AskedRun) → KeepsAsked machine run r → asked_time r ≡ (stands_at machine run).now.time
asked-time-is machine run r k =
    let h = run-keeps machine run r.run k.keeps in h.amid.both.table_is.time ∙ ap (λ (s : State). s.time) (sym h.now_is)

-- Times

pub first-is : (machine : Machine) (line : RunLine) (next : Replay) → first_line machine line ≡ Some next → begun machine ≡ next
first-is machine (SlotAt time) next e = by (nat_eq time 0) e
  where
    by : (b : Bool) → only_if b (begun machine) ≡ Some next → begun machine ≡ next
    by true f = cc
    by false f = cc
first-is machine (PhaseNumber number) next e = cc
first-is machine (StepsOf process count) next e = cc
first-is machine (UpdatesOf process count) next e = cc

-- a line is one turn at most
pub times-on : TimesGrow → (race : Bool) (machine : Machine) (bound turns : ℕ) (line : RunLine) (run : Option Replay) (next : Replay) → KeepsRules machine.design →
    run_line race machine bound line run ≡ Some next → TimesWithin turns (stands_at machine run).now → TimesWithin (turns + 1) next.now
times-on law race machine bound turns line None next rules e times =
    subst (λ (r : Replay). TimesWithin (turns + 1) r.now) (first-is machine line next e) (law.more turns (turns + 1) (begun machine).now (omega arith) times)
times-on law race machine bound turns line (Some replay) next rules e times = law.line race machine bound turns line replay next rules e times
