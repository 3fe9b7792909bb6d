-- The first of several times (nothing of the language).
use Rattle.std.specs.Prelude.{ℕ, Bool, true, false, Option, Some, None}

-- a time that stands stays, and else this one comes where a test holds
abbrev pub first_time : Option ℕ → Bool → ℕ → Option ℕ
first_time (Some first) holds time = Some first
first_time None true time = Some time
first_time None false time = None
