-- Which of the events from one moment of a window to before another pass a test (events and their accesses by IEEE 1364-2001, clause 5).
use Rattle.std.specs.Prelude.{◌≡◌, ◌&&◌, ℕ, ◌<◌, ◌≤◌, Bool, true, false, not, List}
use Rattle.v_design.specs.Designs.{Machine}
use Rattle.trace_window.specs.Moments.{Seen}
use Rattle.trace_window.specs.Touched.{touched_at, written_at}

-- no moment from one to before another passes a test
abbrev pub NoMoment : (ℕ → Bool) → ℕ → ℕ → Type 0
NoMoment test first end = (moment : ℕ) → first ≤ moment → moment < end → test moment ≡ false

-- some moment does
pub record SomeMoment (test : ℕ → Bool) (first end : ℕ) : Type 0 where
  pub moment : ℕ
  pub since : first ≤ moment
  pub before : moment < end
  pub passes : test moment ≡ true

-- those that do lie in some spans
abbrev pub OnlyWithin : (ℕ → Type 0) → (ℕ → Bool) → ℕ → ℕ → Type 0
OnlyWithin covers test first end = (moment : ℕ) → first ≤ moment → moment < end → test moment ≡ true → covers moment

-- from one moment to before another all lie in some spans, and the one is among them
pub record IsSpanEnd (covers : ℕ → Type 0) (moment end : ℕ) : Type 0 where
  pub behind : moment < end
  pub covered : (other : ℕ) → moment ≤ other → other < end → covers other

-- whether the event of a number, if there is one, reads an object: it reads or writes it, and doesn't write it
abbrev pub read_at : Machine → List Seen → ℕ → ℕ → Bool
read_at machine events object number = touched_at machine events object number && not (written_at machine events object number)
