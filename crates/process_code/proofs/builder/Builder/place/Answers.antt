-- The spot that is pushed, and its open ways.
use Rattle.std.proofs.Common.{◌≡◌, ◌≤◌, ◌+◌, length, ℕ, List, [], ◌∷◌, ◌++◌, refl, arith, length-append}
use Rattle.std.proofs.lemmas.Grind.{common_steps}
use Rattle.process_code.specs.Compiling.{IsInStep, IsBelow, Places, Compiles}
use Rattle.process_code.specs.declared.code.Ways.{Ways}
use Rattle.process_code.proofs.Growing.{sized-push}
use Rattle.process_code.proofs.builder.Builder.place.Goals as goal

pub returns : goal.returns
returns c = (
  record {
    spot = record { head = c.args.head; next = c.args.next };
    way = record { inner = 0; other = 0; items = c.new.result };
    head_is = refl;
    next_is = refl;
    spots = c.in_ok-push.ensures.items;
    ways = c.in_ok-push-2.ensures.items;
    repeats = refl;
    own_is = grind (arith, common_steps);
  },
  record {
    sized = sized-push c.args.self.now.spots.items _ _ c.in_ok-push.ensures.items c.requires.sized c.requires.in_step.sized;
    ways = grind (arith, common_steps);
    repeats = grind (arith, common_steps);
  },
)
