-- The room of a dictionary is a number of 64 bits.
use Rattle.std.proofs.Common.{ℕ, ◌*◌, ◌≤◌, arith}
use Rattle.std.proofs.Math.Nat.{mul-le-mul_right}

pub room-fits : (strobes bits faults : ℕ) → strobes ≤ 65536 → bits ≤ 4112 → faults ≤ 65536 → (strobes * bits ≤ 269484032) × (strobes * bits * faults ≤ 17660905521152)
room-fits strobes bits faults h k l =
    let first : strobes * bits ≤ 65536 * bits = mul-le-mul_right bits h in
    let one : strobes * bits ≤ 269484032 = omega arith in
    let second : strobes * bits * faults ≤ 269484032 * faults = mul-le-mul_right faults one in
    (one, omega arith)
