-- From the last fault to the first.
use Rattle.std.proofs.Common.{◌≡◌, ℕ, suc, ◌+◌, ◌<◌, ◌≤◌, Bool, true, false, List, [], ◌∷◌, ◌++◌, length, map, set, refl, sym, ap, subst, ◌∙◌, arith}
use Rattle.std.specs.Prelude.{Option, None, Some, IsSome, is_some, option_to_list, slice_get, sum_by}
use Rattle.std.proofs.lemmas.List.{length-map, length-set, length_push}
use Rattle.std.proofs.lemmas.Option.{slice_get_within}
use Rattle.copy_lockstep.specs.copy_window.declared.fault.ShardFault.{ShardFault}
use Rattle.copy_lockstep.specs.window_faults.Steps.{StaysFault, steps_of_fault, steps_of_faults}
use Rattle.copy_lockstep.specs.window_faults.Within.{IsWithin}
use Rattle.copy_lockstep.specs.window_faults.declared.at.FaultAt.{FaultAt}
use Rattle.shard_slots.specs.Slots.{WentIf, somes, tried_if}
use Rattle.copy_lockstep.specs.phase_faults.Beside.{ticked_of}
use Rattle.copy_lockstep.specs.phase_faults.declared.beside.FaultBeside.{FaultBeside}
use Rattle.copy_lockstep.proofs.window_faults.Lists.{at-front, at-last, at-read, mixed, mixed-all, mixed-less, mixed-none, none-popped, sum-empty, zip-length, zip-refl, zip-set}
use Rattle.shard_slots.proofs.Looping.{from-there, still-before}
use Rattle.copy_lockstep.proofs.window_faults.Steps.{stays-on, stays-same}
use Rattle.shard_slots.proofs.Leaving.{RisesSoFar, one-more}
use Rattle.shard_slots.proofs.Somes.{Last, last-found, last-of, sum-last}
use Rattle.shard_slots.proofs.leave.leave_each.Goals as goal

-- the fault that is left last
last-left : (founds : List (Option FaultBeside)) (entered rest : List Bool) (goes : Bool) → entered ≡ map is_some founds → entered ≡ rest ++ goes ∷ [] → Last founds rest goes
last-left founds entered rest goes are split = last-of founds rest goes (sym are ∙ split)

-- there are as many before it as are told of
front-size : (founds : List (Option FaultBeside)) (rest : List Bool) (goes : Bool) (last : Last founds rest goes) → length last.front ≡ length rest
front-size founds rest goes last = sym (ap length last.before_are ∙ length-map last.front is_some)

all-size : (founds : List (Option FaultBeside)) (rest : List Bool) (goes : Bool) (last : Last founds rest goes) → length founds ≡ length last.front + 1
all-size founds rest goes last = ap length last.all ∙ length_push last.front last.last

-- what goes on of it is taken
taken-last : (founds : List (Option FaultBeside)) (rest : List Bool) (goes : Bool) (last : Last founds rest goes) (old new : List FaultBeside) (taken : Option FaultBeside) → old ≡ somes founds →
    old ≡ new ++ option_to_list taken → (goes ≡ false → taken ≡ None) → (goes ≡ true → 0 < length old → IsSome taken) → (taken ≡ last.last) × (new ≡ somes last.front)
taken-last founds rest goes last old new taken is split none some =
    last-found last.front last.last taken old new (is ∙ ap somes last.all) split (λ e. none (last.flag_is ∙ e)) (λ e. some (last.flag_is ∙ e))

pub faults-init : goal.faults-init
faults-init g c =
    let founds = c.requires.gone.founds in
    let size = c.requires.gone.are.beside in
    record {
      zip = zip-refl StaysFault stays-same c.args.faults.now.items;
      count = c.requires.gone.are.count;
      founds = founds;
      entered_are = c.requires.gone.entered_are;
      besides_are = c.requires.gone.besides_are;
      left = omega (arith, size);
      each = c.requires.gone.are.each;
      within = λ place own at past here there. (let low = slice_get_within c.args.faults.now.items place own here in absurd (omega (arith, past, low, size)));
      come = λ place own at past here there none. (let low = slice_get_within c.args.faults.now.items place own here in absurd (omega (arith, past, low, size)));
      room = c.requires.room;
      ticks = λ tally.
          (let before = c.args.window.now.before in
          let faults = c.args.faults.now.items in
          let all : mixed (steps_of_fault tally (before + (c.args.slot + 1))) (steps_of_fault tally (before + c.args.slot)) (length founds) faults ≡ steps_of_faults tally (before + c.args.slot) faults =
          mixed-all (steps_of_fault tally (before + (c.args.slot + 1))) (steps_of_fault tally (before + c.args.slot)) (length founds) faults (omega (arith, size)) in
          omega (arith, all));
    }

pub index_mut-own-requires : goal.index_mut-own-requires
index_mut-own-requires g c =
    let founds = c.faults.invariant.founds in
    let rest = c.pop.new.self.items in
    let last = last-left founds c.faults.entered.items rest c.in-Some.goes c.faults.invariant.entered_are c.in-Some.ensures.items in
    let front = front-size founds rest c.in-Some.goes last in
    let all = all-size founds rest c.in-Some.goes last in
    omega (arith, c.len-place.ensures, c.pop.new.self.ok.0, front, all, c.faults.invariant.left)

pub index_mut-at-requires : goal.index_mut-at-requires
index_mut-at-requires g c =
    let founds = c.faults.invariant.founds in
    let rest = c.pop.new.self.items in
    let last = last-left founds c.faults.entered.items rest c.in-Some.goes c.faults.invariant.entered_are c.in-Some.ensures.items in
    let front = front-size founds rest c.in-Some.goes last in
    let all = all-size founds rest c.in-Some.goes last in
    omega (arith, c.len-place.ensures, c.pop.new.self.ok.0, front, all, c.faults.invariant.left, c.faults.invariant.count)

pub leave_one-requires-clause-went : goal.leave_one-requires-clause-went
leave_one-requires-clause-went g c κs within =
    let window = c.args.window.now in
    let founds = c.faults.invariant.founds in
    let rest = c.pop.new.self.items in
    let last = last-left founds c.faults.entered.items rest c.in-Some.goes c.faults.invariant.entered_are c.in-Some.ensures.items in
    let front = front-size founds rest c.in-Some.goes last in
    let all = all-size founds rest c.in-Some.goes last in
    let taken = taken-last founds rest c.in-Some.goes last c.faults.besides.items c.last_if-found.new.besides.items c.last_if-found.result c.faults.invariant.besides_are c.last_if-found.ensures.items
    c.last_if-found.ensures.none c.last_if-found.ensures.some in
    let low : c.len-place.result < length c.faults.faults.items = omega (arith, c.len-place.ensures, c.pop.new.self.ok.0, front, all, c.faults.invariant.left) in
    let place_is : c.len-place.result ≡ length last.front = omega (arith, c.len-place.ensures, c.pop.new.self.ok.0, front) in
    let there : slice_get founds c.len-place.result ≡ Some last.last =
    ap (slice_get founds) place_is ∙ subst (λ (l : List (Option FaultBeside)). slice_get l (length last.front) ≡ Some last.last) (sym last.all) (at-last last.front last.last) in
    subst (WentIf g.N.World.design g.N.World.plan window.before window.through c.args.slot c.index_mut-own.result.now c.index_mut-at.result.now) (sym taken.0)
    (c.faults.invariant.each c.len-place.result c.index_mut-own.result.now c.index_mut-at.result.now last.last
    (at-read c.faults.faults.items c.len-place.result c.index_mut-own.result.now low c.index_mut-own.ensures.value)
    (at-read c.faults.ats.items c.len-place.result c.index_mut-at.result.now (omega (arith, low, c.faults.invariant.count)) c.index_mut-at.ensures.value) there)

pub faults-preserved : goal.faults-preserved
faults-preserved g c =
    let design = g.N.World.design in
    let plan = g.N.World.plan in
    let window = c.args.window.now in
    let xs = c.faults.faults.items in
    let ys = c.faults.ats.items in
    let founds = c.faults.invariant.founds in
    let rest = c.pop.new.self.items in
    let last = last-left founds c.faults.entered.items rest c.in-Some.goes c.faults.invariant.entered_are c.in-Some.ensures.items in
    let front = front-size founds rest c.in-Some.goes last in
    let all = all-size founds rest c.in-Some.goes last in
    let taken = taken-last founds rest c.in-Some.goes last c.faults.besides.items c.last_if-found.new.besides.items c.last_if-found.result c.faults.invariant.besides_are c.last_if-found.ensures.items
    c.last_if-found.ensures.none c.last_if-found.ensures.some in
    let i = c.len-place.result in
    let own = c.leave_one.new.own in
    let at = c.leave_one.new.at in
    let low : i < length xs = omega (arith, c.len-place.ensures, c.pop.new.self.ok.0, front, all, c.faults.invariant.left) in
    let place_is : i ≡ length last.front = omega (arith, c.len-place.ensures, c.pop.new.self.ok.0, front) in
    let same = zip-length StaysFault c.args.faults.now.items xs c.faults.invariant.zip in
    let R = WentIf design plan window.before window.through c.args.slot in
    let P = IsWithin design plan window.before window.through in
    let Q : ShardFault → FaultAt → Type 0 = λ (o : ShardFault) (a : FaultAt). o.end ≡ None → c.args.slot + 1 ≤ a.slot in
    record {
      zip = zip-set StaysFault stays-on c.args.faults.now.items xs i c.index_mut-own.result.now own c.faults.invariant.zip c.index_mut-own.ensures.value (omega (arith, low, same))
          c.in_ok-leave_one.ensures.stays;
      count = length-set ys i at ∙ c.faults.invariant.count ∙ sym (length-set xs i own);
      founds = last.front;
      entered_are = last.before_are;
      besides_are = taken.1;
      left = (let kept = length-set xs i own in omega (arith, kept, place_is, low));
      each = still-before P R xs ys last.front i own at low c.faults.invariant.count (sym place_is)
          (λ place u v w one two three. c.faults.invariant.each place u v w one two
          (subst (λ (l : List (Option FaultBeside)). slice_get l place ≡ Some w) (sym last.all) (at-front last.front last.last w place three)))
          (λ place w three. (let before = slice_get_within last.front place w three in omega (arith, before, place_is)));
      within = λ place u v past one two. from-there P R xs ys i own at low c.faults.invariant.count c.in_ok-leave_one.ensures.within
          (λ j a b late here there. c.faults.invariant.within j a b (omega (arith, late, place_is, all)) here there) place u v (omega (arith, past, place_is)) one two;
      come = λ place u v past one two. from-there Q R xs ys i own at low c.faults.invariant.count c.in_ok-leave_one.ensures.come
          (λ j a b late here there. c.faults.invariant.come j a b (omega (arith, late, place_is, all)) here there) place u v (omega (arith, past, place_is)) one two;
      room = c.in_ok-leave_one.ensures.room;
      ticks = λ tally.
          (let f = steps_of_fault tally (window.before + (c.args.slot + 1)) in
          let h = steps_of_fault tally (window.before + c.args.slot) in
          let size : length founds ≡ suc i = omega (arith, place_is, all) in
          let so_far = subst (λ (n : ℕ). RisesSoFar (steps_of_faults tally (window.before + c.args.slot) c.args.faults.now.items) (sum_by ticked_of c.args.besides.items)
          (sum_by ticked_of c.faults.besides.items) c.args.steps.now (mixed f h n xs) c.faults.steps) size (c.faults.invariant.ticks tally) in
          let left : sum_by ticked_of c.faults.besides.items ≡ sum_by ticked_of c.last_if-found.new.besides.items + tried_if c.last_if-found.result =
          ap (sum_by ticked_of) (c.faults.invariant.besides_are ∙ ap somes last.all)
          ∙ sum-last ticked_of tried_if refl (λ (x : FaultBeside). refl) last.front last.last
          ∙ (λ i. sum_by ticked_of (sym taken.1 i) + tried_if (sym taken.0 i)) in
          subst (λ (n : ℕ). RisesSoFar (steps_of_faults tally (window.before + c.args.slot) c.args.faults.now.items) (sum_by ticked_of c.args.besides.items)
          (sum_by ticked_of c.last_if-found.new.besides.items) c.args.steps.now (mixed f h n (set xs i own)) c.leave_one.new.steps) place_is
          (one-more _ _ _ _ (mixed f h (suc i) xs) (mixed f h i (set xs i own)) (h c.index_mut-own.result.now) (f own) (tried_if c.last_if-found.result) c.args.steps.now c.faults.steps
          c.leave_one.new.steps so_far left (mixed-less f h i xs c.index_mut-own.result.now own low c.index_mut-own.ensures.value) (c.in_ok-leave_one.ensures.ticks tally)));
    }

pub faults-smaller : goal.faults-smaller
faults-smaller g c =
    let size = length_push c.pop.new.self.items c.in-Some.goes in
    let all : length c.faults.entered.items ≡ length (c.pop.new.self.items ++ c.in-Some.goes ∷ []) = ap length c.in-Some.ensures.items in
    omega (arith, size, all)

-- where none is left
none-left : (founds : List (Option FaultBeside)) (entered : List Bool) → entered ≡ map is_some founds → length entered ≡ 0 → length founds ≡ 0
none-left founds entered are none = (let size = length-map founds is_some in let count : length entered ≡ length (map is_some founds) = ap length are in omega (arith, size, count, none))

no-besides : (founds : List (Option FaultBeside)) (besides : List FaultBeside) → besides ≡ somes founds → length founds ≡ 0 → length besides ≡ 0
no-besides [] besides are none = ap length are
no-besides (found ∷ founds) besides are none = absurd (omega (arith, none))

pub returns-clause-within : goal.returns-clause-within
returns-clause-within g c =
    let none = none-popped _ c.faults.entered c.pop.new.self c.in_default.is c.pop.ensures.cases in
    let nothing = none-left c.faults.invariant.founds c.faults.entered.items c.faults.invariant.entered_are none.0 in
    record {
      count = c.faults.invariant.count;
      each = λ place own at here there. c.faults.invariant.within place own at (omega (arith, nothing)) here there;
      come = λ place own at here there. c.faults.invariant.come place own at (omega (arith, nothing)) here there;
    }

pub returns-clause-faults : goal.returns-clause-faults
returns-clause-faults g c = c.faults.invariant.zip

pub returns-clause-ticks : goal.returns-clause-ticks
returns-clause-ticks g c tally =
    let before = c.args.window.now.before in
    let f = steps_of_fault tally (before + (c.args.slot + 1)) in
    let h = steps_of_fault tally (before + c.args.slot) in
    let none = none-popped _ c.faults.entered c.pop.new.self c.in_default.is c.pop.ensures.cases in
    let nothing = none-left c.faults.invariant.founds c.faults.entered.items c.faults.invariant.entered_are none.0 in
    let left = sum-empty ticked_of c.faults.besides.items (no-besides c.faults.invariant.founds c.faults.besides.items c.faults.invariant.besides_are nothing) in
    let so_far = subst (λ (n : ℕ). RisesSoFar (steps_of_faults tally (before + c.args.slot) c.args.faults.now.items) (sum_by ticked_of c.args.besides.items)
    (sum_by ticked_of c.faults.besides.items) c.args.steps.now (mixed f h n c.faults.faults.items) c.faults.steps) nothing (c.faults.invariant.ticks tally) in
    let to = mixed-none f h c.faults.faults.items in
    omega (arith, left, so_far, to)
