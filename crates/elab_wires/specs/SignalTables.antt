-- Nets and variables under their names (nothing of the language).
use Rattle.std.specs.Prelude.{◌≡◌, ℕ, List, map}
use Rattle.std.specs.Borrow.{Bor}
use Rattle.key_index.specs.Groups.{keyed_of}
use Rattle.key_index.specs.declared.grouped.Keyed.{Keyed}
use Rattle.v_elab.specs.Parts as plain
use Rattle.elab_parts.specs.PartViews.{joining_of, signal_of}
use Rattle.elab_parts.specs.declared.signal.Joining.{Joining}
use Rattle.elab_parts.specs.declared.signal.Signal.{Signal}

-- what a reference to how a port is joined shows
abbrev pub joining_borrowed : Bor Joining → plain.Joining
joining_borrowed j = joining_of j.now

-- what a reference to a signal shows
abbrev pub signal_borrowed : Bor Signal → plain.Signal
signal_borrowed s = signal_of s.now

abbrev pub signal_seen : List ℕ × Bor Signal → plain.Signal
signal_seen p = signal_borrowed p.1

-- a signal that stands under its own name
abbrev pub IsOwn : List ℕ × Bor Signal → Type 0
IsOwn p = p.0 ≡ p.1.now.name

abbrev pub signals_listed : List (Keyed (Bor Signal)) → List plain.Signal
signals_listed items = map signal_seen (map keyed_of items)
