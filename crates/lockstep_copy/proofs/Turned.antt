-- Turns of own updates.
use Rattle.std.proofs.Common.{◌≡◌, ℕ, List, [], ◌∷◌, ◌++◌, map, Bool, true, false, cond, not, refl, sym, ap, ◌∙◌, append-nil}
use Rattle.std.specs.Prelude.{Option, Some, None, filter, nat_le}
use Rattle.std.specs.Option.{option_map}
use Rattle.v_design.specs.Assignments.{ValueUpdate}
use Rattle.v_design.specs.Plain.{update_of}
use Rattle.v_design.specs.States.{ProcessState, LaterUpdate, TurnKind, PostponedTurn, UpdatesTurn, TimeTurn, found_or, is_any, is_due}
use Rattle.copy_laws.specs.Differences.{own_of}
use Rattle.lockstep_laws.specs.Lockstep.{due_times}
use Rattle.lockstep_laws.specs.Turning.{turned_process}
use Rattle.lockstep_index.specs.Writes.{OwnWrites}
use Rattle.lockstep_slots.specs.Kept.{turned_writes}
use Rattle.lockstep_copy.specs.Kept.{kept_by}
use Rattle.lockstep_copy.specs.Laws.{LanesTellTurns, KeptEnds}
use Rattle.lockstep_copy.specs.declared.own.LockstepCopy.{LockstepCopy}

abbrev update-of : LaterUpdate → ValueUpdate
update-of later = later.update

-- no update is due where none of as many others is, one after the other of the same time
record NoneDue (now : ℕ) (own : List LaterUpdate) : Type 0 where
  due : filter (is_due now) own ≡ []
  rest : filter (λ later. not (is_due now later)) own ≡ own

times-tail : (one other : LaterUpdate) (own good : List LaterUpdate) → due_times (one ∷ own) ≡ due_times (other ∷ good) → due_times own ≡ due_times good
times-tail one other own good e = cc

times-head : (one other : LaterUpdate) (own good : List LaterUpdate) → due_times (one ∷ own) ≡ due_times (other ∷ good) → one.time ≡ other.time
times-head one other own good e = cc

none-due : (now : ℕ) (own good : List LaterUpdate) → due_times own ≡ due_times good → filter (is_due now) good ≡ [] → NoneDue now own
none-due now [] good times none = record { due = refl; rest = refl }
none-due now (one ∷ own) [] times none = cc
none-due now (one ∷ own) (other ∷ good) times none =
    go (is_due now other) refl (ap (λ t. nat_le t now) (times-head one other own good times)) none (λ h. none-due now own good (times-tail one other own good times) h)
  where
    go : (b : Bool) → is_due now other ≡ b → is_due now one ≡ is_due now other → cond b (other ∷ filter (is_due now) good) (filter (is_due now) good) ≡ [] →
        (filter (is_due now) good ≡ [] → NoneDue now own) → NoneDue now (one ∷ own)
    go true e same h later = cc
    go false e same h later =
        let here : is_due now one ≡ false = same ∙ e in
        let more = later h in
        record {
          due = ap (λ b. cond b (one ∷ filter (is_due now) own) (filter (is_due now) own)) here ∙ more.due;
          rest = ap (λ b. cond (not b) (one ∷ filter (λ later. not (is_due now later)) own) (filter (λ later. not (is_due now later)) own)) here ∙ ap (λ l. one ∷ l) more.rest;
        }

stays : (now : ℕ) (own : OwnWrites) → NoneDue now own.later → turned_writes now UpdatesTurn own ≡ own
stays now own none = λ i. record { later = none.rest i; lane = (ap (λ l. own.lane ++ map update-of l) none.due ∙ append-nil own.lane) i }

by-due : (now : ℕ) (own : OwnWrites) (good due : List LaterUpdate) → due_times own.later ≡ due_times good → filter (is_due now) good ≡ due →
    turned_writes now UpdatesTurn own ≡ cond (is_any (map update-of due)) (turned_writes now UpdatesTurn own) own
by-due now own good [] times is = stays now own (none-due now own.later good times is)
by-due now own good (one ∷ due) times is = refl

not-any : (lane : List ValueUpdate) → lane ≡ [] → is_any lane ≡ false
not-any lane none = ap is_any none

pub lanes_tell_turns : LanesTellTurns
lanes_tell_turns now PostponedTurn own good times none = sym (ap (λ b. cond b (turned_writes now UpdatesTurn own) own) (not-any good.lane none))
lanes_tell_turns now UpdatesTurn own good times none =
    by-due now own good.later (filter (is_due now) good.later) times refl
    ∙ ap (λ (l : List ValueUpdate). cond (is_any (l ++ map update-of (filter (is_due now) good.later))) (turned_writes now UpdatesTurn own) own) (sym none)
lanes_tell_turns now (TimeTurn time) own good times none = sym (ap (λ b. cond b (turned_writes now UpdatesTurn own) own) (not-any good.lane none))

-- A slot's end

abbrev later-of : OwnWrites → List LaterUpdate
later-of own = own.later

pub kept_ends : KeptEnds
kept_ends own values updates = record {
  values = λ object. refl;
  activities = λ process. refl;
  updates = λ process. told (map update_of (found_or [] (own_of own.lanes process))) (own_of own.copy.updates process);
  values_ascend = values;
  activities_ascend = tt;
  updates_ascend = updates;
}
  where
    told : (lane : List ValueUpdate) (found : Option (List LaterUpdate)) →
        found ≡ option_map later-of (option_map (λ (later : List LaterUpdate). record { later = later; lane = lane }) found)
    told lane None = refl
    told lane (Some later) = refl
