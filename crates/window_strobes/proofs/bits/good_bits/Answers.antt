-- Each watched object is one of the design.
use Rattle.std.proofs.Common.{ℕ, zero, suc, ◌<◌, List, [], ◌∷◌, get_or, length, map, arith}
use Rattle.vf_base.specs.Base.{watched_bit}
use Rattle.vf_base.specs.Lists.{AllHold}
use Rattle.window_strobes.specs.Watched.{IsObjectOf}
use Rattle.window_strobes.proofs.bits.good_bits.Goals as goal

-- what holds of all elements holds of one
all-at : {A B : Type 0} (P : B → Type 0) (f : A → B) (xs : List A) (place : ℕ) (d : A) → AllHold P (map f xs) → place < length xs → P (f (get_or xs place d))
all-at P f [] place d all low = absurd (omega (arith, low))
all-at P f (x ∷ xs) zero d all low = all.0
all-at P f (x ∷ xs) (suc place) d all low = all-at P f xs place d all.1 (omega (arith, low))

pub value_at-requires-after_bounds : goal.value_at-requires-after_bounds
value_at-requires-after_bounds g c κs within =
    all-at (IsObjectOf g.N.World.design) watched_bit c.args.watched.now c.watched.place-index _ c.requires.watched c.watched-test.true
