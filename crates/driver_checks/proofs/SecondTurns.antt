-- The first two of some variables by depth, one variable more at a time.
use Rattle.std.proofs.Common.{◌≡◌, ℕ, ◌+◌, ◌<◌, List, [], ◌∷◌, ◌++◌, length, get_or, take, map, Option, Some, None, sym, ap, ap₂, ◌∙◌}
use Rattle.std.specs.Prelude.{option_map}
use Rattle.std.specs.Borrow.{Bor}
use Rattle.v_elab.specs.Parts as plain
use Rattle.v_elab.specs.Drivers.{by_depth}
use Rattle.elab_parts.specs.declared.signal.Signal.{Signal}
use Rattle.elab_wires.specs.SignalTables.{signal_borrowed}
use Rattle.elab_wires.specs.Turns.{taken-more}
use Rattle.elab_wires.specs.Depths.{first_two, sooner}
use Rattle.driver_checks.specs.Seconds.{two_of, second_with, two-more}

pub signals-turn : (signals : List (Bor Signal)) (i : ℕ) (x : Bor Signal) (first second : Option (Bor Signal)) (sooner_one : Bor Signal) (later : Option (Bor Signal)) → i < length signals →
    x ≡ get_or signals i x →
    two_of (option_map signal_borrowed first) (option_map signal_borrowed second) ≡ first_two (by_depth (map signal_borrowed (take i signals))) →
    signal_borrowed sooner_one ≡ sooner (signal_borrowed x) (option_map signal_borrowed first) →
    option_map signal_borrowed later ≡ second_with (option_map signal_borrowed first) (option_map signal_borrowed second) (signal_borrowed x) →
    Some (signal_borrowed sooner_one, option_map signal_borrowed later) ≡ first_two (by_depth (map signal_borrowed (take (i + 1) signals)))
signals-turn signals i x first second sooner_one later low is had one other =
    ap₂ (λ (s : plain.Signal) (t : Option plain.Signal). Some (s, t)) one other
    ∙ two-more (map signal_borrowed (take i signals)) (option_map signal_borrowed first) (option_map signal_borrowed second) (signal_borrowed x) had
    ∙ ap (λ ss. first_two (by_depth ss)) (sym (taken-more signal_borrowed signals i x low is))
