-- Drivers of bits that are taken one after the other, and runs of bits with one driver.
use Rattle.std.proofs.Common.{◌≡◌, ℕ, zero, suc, ◌+◌, ◌-◌, min, ◌<◌, ◌≤◌, cond, Bool, true, false, ◌||◌, ◌⊎◌, inl, inr, List, [], ◌∷◌, ◌++◌, map, replicate, length, get_or, set, drop, Option, Some}
use Rattle.std.proofs.Common.{None, is_some, nat_eq, refl, sym, ap, ap₂, subst, append_assoc, Result, Ok, Err, IfOk, IfErr, ◌∙◌, arith, add-one, zero-add}
use Rattle.std.proofs.Math.ListN.{drop_of_length-le}
use Rattle.std.proofs.Math.Seq.{drop-cons, drop-nil}
use Rattle.std.proofs.lemmas.Bool.{cases_eq, eq-eqb, ne_eqb}
use Rattle.std.proofs.lemmas.List.{get_or-set_same, get_or-set_other, length-set, map-append}
use Rattle.v_design.specs.Expressions.{up_from}
use Rattle.vf_base.specs.Lists.{has}
use Rattle.vf_base.specs.Base.{SourcePlace, source_place}
use Rattle.v_ports.specs.Pieces.{DrivenRun, lesser_if, least_among, SecondDriver, second_if, second_driver, driver_of_bit, CutPiece, same_driver, grown_or_new, bit_before, pieces_from, pieces_of}
use Rattle.v_ports.specs.Pieces.{DriveOfRun, run_of_drive, unless_second, cut_pieces}
use Rattle.v_ports.specs.declared.cut.Drive.{Drive}
use Rattle.v_ports.specs.declared.cut.Piece.{Piece}
use Rattle.v_ports.specs.declared.fault.PortFault.{PortFault}
use Rattle.v_ports.specs.declared.fault.PortFault.TheVariants.{NoMemory}
use Rattle.std.specs.declared.alloc.Global.{Global}
use Rattle.std.specs.declared.vec.Vec.{Vec}
use Rattle.v_ports.specs.Cuts.{drive_of, piece_of, PiecesGive, owner_at, first_owned, owned_after, leading, first_run, cut_from}

-- Numbers in order

pub up-step : (bit end : ℕ) → bit < end → up_from bit (end - bit) ≡ bit ∷ up_from (bit + 1) (end - (bit + 1))
up-step bit end below = let e : end - bit ≡ suc (end - (bit + 1)) = omega arith in ap (up_from bit) e

pub up-none : (bit end : ℕ) → end ≤ bit → up_from bit (end - bit) ≡ []
up-none bit end past = let e : end - bit ≡ 0 = omega arith in ap (up_from bit) e

-- The first bit that is taken

lesser-low : (low : ℕ) (rest : Option ℕ) → ((o : ℕ) → rest ≡ Some o → low ≤ o) → lesser_if true low rest ≡ Some low
lesser-low low None h = refl
lesser-low low (Some o) h = let below : low ≤ o = h o refl in let e : min low o ≡ low = omega arith in ap (λ k. Some k) e

above-by : (here : Bool) (low : ℕ) (rest : Option ℕ) → ((o : ℕ) → rest ≡ Some o → low + 1 ≤ o) → (o : ℕ) → lesser_if here low rest ≡ Some o → low ≤ o
above-by true low None h o e = let same : low ≡ o = cc in omega arith
above-by true low (Some p) h o e = let same : min low p ≡ o = cc in let above : low + 1 ≤ p = h p refl in omega arith
above-by false low rest h o e = let above : low + 1 ≤ o = h o e in omega arith

least-above : (taken : List ℕ) (n low o : ℕ) → least_among taken (up_from low n) ≡ Some o → low ≤ o
least-above taken zero low o e = cc
least-above taken (suc n) low o e = above-by (has taken low) low (least_among taken (up_from (low + 1) n)) (λ p h. least-above taken n (low + 1) p h) o e

first-by : (owned here : Bool) (low : ℕ) (first rest : Option ℕ) → owned ≡ here → first ≡ rest → ((o : ℕ) → rest ≡ Some o → low ≤ o) → cond owned (Some low) first ≡ lesser_if here low rest
first-by true true low first rest same e h = sym (lesser-low low rest h)
first-by true false low first rest same e h = cc
first-by false true low first rest same e h = cc
first-by false false low first rest same e h = e

pub first-least : (owners : List (Option ℕ)) (taken : List ℕ) → ((b : ℕ) → is_some (owner_at owners b) ≡ has taken b) → (n low : ℕ) →
    first_owned owners (up_from low n) ≡ least_among taken (up_from low n)
first-least owners taken same zero low = refl
first-least owners taken same (suc n) low =
    first-by (is_some (owner_at owners low)) (has taken low) low (first_owned owners (up_from (low + 1) n)) (least_among taken (up_from (low + 1) n)) (same low)
    (first-least owners taken same n (low + 1))
    (λ o e. let above : low + 1 ≤ o = least-above taken n (low + 1) o e in omega arith)

none-here : (here : Bool) (low : ℕ) (rest : Option ℕ) → lesser_if here low rest ≡ None → here ≡ false
none-here true low None e = cc
none-here true low (Some o) e = cc
none-here false low rest e = refl

none-after : (here : Bool) (low : ℕ) (rest : Option ℕ) → lesser_if here low rest ≡ None → rest ≡ None
none-after true low None e = refl
none-after true low (Some o) e = cc
none-after false low rest e = e

none-by : (taken : List ℕ) (low b : ℕ) (among : Bool) → has taken low ≡ false → (among ≡ true → has taken b ≡ false) → (low ≡ b) ⊎ (low ≡ b → ⊥) → (nat_eq low b || among) ≡ true → has taken b ≡ false
none-by taken low b among free h (inl same) e = ap (has taken) (sym same) ∙ free
none-by taken low b among free h (inr other) e = let there = rw (ne_eqb low b other) at e in h there

pub none-taken : (taken : List ℕ) (n low b : ℕ) → least_among taken (up_from low n) ≡ None → has (up_from low n) b ≡ true → has taken b ≡ false
none-taken taken zero low b e there = cc
none-taken taken (suc n) low b e there =
    let rest = least_among taken (up_from (low + 1) n) in
    none-by taken low b (has (up_from (low + 1) n) b) (none-here (has taken low) low rest e) (none-taken taken n (low + 1) b (none-after (has taken low) low rest e)) (cases_eq low b) there

pub first-goes : (owners : List (Option ℕ)) (bit end : ℕ) (first : Option ℕ) → bit < end → is_some (owner_at owners bit) ≡ false → first ≡ first_owned owners (up_from bit (end - bit))
    → first ≡ first_owned owners (up_from (bit + 1) (end - (bit + 1)))
first-goes owners bit end first below free e =
    e ∙ ap (first_owned owners) (up-step bit end below) ∙ ap (λ h. cond h (Some bit) (first_owned owners (up_from (bit + 1) (end - (bit + 1))))) free

-- Bits that get a driver

one-owned : (number low b : ℕ) (owners : List (Option ℕ)) (among : Bool) → low < length owners → (low ≡ b) ⊎ (low ≡ b → ⊥)
    → cond among (Some number) (owner_at (set owners low (Some number)) b) ≡ cond (nat_eq low b || among) (Some number) (owner_at owners b)
one-owned number low b owners true below (inl same) = rw (eq-eqb low b same) refl
one-owned number low b owners false below (inl same) =
    ap (λ o. owner_at (set owners low (Some number)) o) (sym same) ∙ get_or-set_same owners low (Some number) None below
    ∙ sym (ap (λ h. cond (h || false) (Some number) (owner_at owners b)) (eq-eqb low b same))
one-owned number low b owners among below (inr other) =
    ap (λ o. cond among (Some number) o) (get_or-set_other owners low b (Some number) None (λ same. other (sym same)))
    ∙ sym (ap (λ h. cond (h || among) (Some number) (owner_at owners b)) (ne_eqb low b other))

pub owned-at : (number n low b : ℕ) (owners : List (Option ℕ)) → low + n ≤ length owners →
    owner_at (owned_after number owners (up_from low n)) b ≡ cond (has (up_from low n) b) (Some number) (owner_at owners b)
owned-at number zero low b owners within = refl
owned-at number (suc n) low b owners within =
    let long = length-set owners low (Some number) in
    owned-at number n (low + 1) b (set owners low (Some number)) (omega (arith, long))
    ∙ one-owned number low b owners (has (up_from (low + 1) n) b) (omega arith) (cases_eq low b)

pub owned-long : (number n low : ℕ) (owners : List (Option ℕ)) → length (owned_after number owners (up_from low n)) ≡ length owners
owned-long number zero low owners = refl
owned-long number (suc n) low owners = owned-long number n (low + 1) (set owners low (Some number)) ∙ length-set owners low (Some number)

pub owned-goes : (number bit end : ℕ) (owners whole : List (Option ℕ)) → bit < end → whole ≡ owned_after number owners (up_from bit (end - bit))
    → whole ≡ owned_after number (set owners bit (Some number)) (up_from (bit + 1) (end - (bit + 1)))
owned-goes number bit end owners whole below e = e ∙ ap (owned_after number owners) (up-step bit end below)

-- The drives that are left

abbrev pub or_owner : Option ℕ → Option ℕ → Option ℕ
or_owner None other = other
or_owner (Some owner) other = Some owner

-- the drives before those that are left have taken their bits
pub record AreTaken (runs left : List DrivenRun) (number : ℕ) (owners : List (Option ℕ)) (width : ℕ) : Type 0 where
  pub taken : List ℕ
  pub seconds : second_driver taken left ≡ second_driver [] runs
  pub owned : (b : ℕ) → is_some (owner_at owners b) ≡ has taken b
  pub drivers : (b : ℕ) → or_owner (owner_at owners b) (driver_of_bit number left b) ≡ driver_of_bit 0 runs b
  pub long : length owners ≡ width

has-append : (xs ys : List ℕ) (n : ℕ) → has (xs ++ ys) n ≡ (has xs n || has ys n)
has-append [] ys n = refl
has-append (x ∷ xs) ys n = ap (λ h. nat_eq x n || h) (has-append xs ys n) ∙ or-assoc (nat_eq x n) (has xs n) (has ys n)
  where
    or-assoc : (a b c : Bool) → (a || (b || c)) ≡ ((a || b) || c)
    or-assoc true b c = refl
    or-assoc false b c = refl

unowned-at : (width b : ℕ) → owner_at (replicate width None) b ≡ None
unowned-at zero b = refl
unowned-at (suc width) zero = refl
unowned-at (suc width) (suc b) = unowned-at width b

long-unowned : (width : ℕ) → length (replicate {A = Option ℕ} width None) ≡ width
long-unowned zero = refl
long-unowned (suc width) = ap (λ k. suc k) (long-unowned width)

pub none-yet : (runs : List DrivenRun) (owners : List (Option ℕ)) (width : ℕ) → owners ≡ replicate width None → AreTaken runs runs 0 owners width
none-yet runs owners width e = record {
  taken = [];
  seconds = refl;
  owned = λ b. ap (λ os. is_some (owner_at os b)) e ∙ ap is_some (unowned-at width b);
  drivers = λ b. ap (λ os. or_owner (owner_at os b) (driver_of_bit 0 runs b)) e ∙ ap (λ o. or_owner o (driver_of_bit 0 runs b)) (unowned-at width b);
  long = ap length e ∙ long-unowned width;
}

owned-by : (among : Bool) (number : ℕ) (owner : Option ℕ) (before : Bool) → is_some owner ≡ before → is_some (cond among (Some number) owner) ≡ (before || among)
owned-by true number owner true e = refl
owned-by true number owner false e = refl
owned-by false number owner true e = e
owned-by false number owner false e = e

-- with the driver's number for its bits
driver-by : (among : Bool) (number : ℕ) (owner rest all : Option ℕ) → (among ≡ true → is_some owner ≡ false) → or_owner owner (cond among (Some number) rest) ≡ all →
    or_owner (cond among (Some number) owner) rest ≡ all
driver-by true number None rest all free e = e
driver-by true number (Some owner) rest all free e = let there = free refl in cc
driver-by false number owner rest all free e = e

here-cond : (runs : List DrivenRun) (run : DrivenRun) (number b : ℕ) → driver_of_bit number (run ∷ runs) b ≡ cond (has run.bits b) (Some number) (driver_of_bit (number + 1) runs b)
here-cond runs run number b = by (has run.bits b) refl
  where
    by : (h : Bool) → has run.bits b ≡ h → driver_of_bit number (run ∷ runs) b ≡ cond (has run.bits b) (Some number) (driver_of_bit (number + 1) runs b)
    by true e = rw e refl
    by false e = rw e refl

-- one drive more, no bit of which has a driver
pub one-taken : (runs rest : List DrivenRun) (number width low n : ℕ) (place : SourcePlace) (owners : List (Option ℕ)) →
    AreTaken runs (record { bits = up_from low n; place = place } ∷ rest) number owners width
    → low + n ≤ width → first_owned owners (up_from low n) ≡ None → AreTaken runs rest (number + 1) (owned_after number owners (up_from low n)) width
one-taken runs rest number width low n place owners t within free =
    let within' : low + n ≤ length owners = omega (arith, t.long) in
    let none : least_among t.taken (up_from low n) ≡ None = sym (first-least owners t.taken t.owned n low) ∙ free in
    record {
      taken = t.taken ++ up_from low n;
      seconds = sym (ap (λ found. second_if place found (second_driver (t.taken ++ up_from low n) rest)) none) ∙ t.seconds;
      owned = λ b.
          ap is_some (owned-at number n low b owners within') ∙ owned-by (has (up_from low n) b) number (owner_at owners b) (has t.taken b) (t.owned b) ∙ sym (has-append t.taken (up_from low n) b);
      drivers = λ b.
          ap (λ o. or_owner o (driver_of_bit (number + 1) rest b)) (owned-at number n low b owners within')
          ∙ driver-by (has (up_from low n) b) number (owner_at owners b) (driver_of_bit (number + 1) rest b) (driver_of_bit 0 runs b) (λ there. t.owned b ∙ none-taken t.taken n low b none there)
          (ap (or_owner (owner_at owners b)) (sym (here-cond rest (record { bits = up_from low n; place = place }) number b)) ∙ t.drivers b);
      long = owned-long number n low owners ∙ t.long;
    }

-- a drive with a bit that has a driver
pub taken-twice : (runs rest : List DrivenRun) (number width low n bit : ℕ) (place : SourcePlace) (owners : List (Option ℕ)) →
    AreTaken runs (record { bits = up_from low n; place = place } ∷ rest) number owners width
    → first_owned owners (up_from low n) ≡ Some bit → second_driver [] runs ≡ Some (record { place = place; bit = bit })
taken-twice runs rest number width low n bit place owners t found =
    sym t.seconds ∙ ap (λ least. second_if place least (second_driver (t.taken ++ up_from low n) rest)) (sym (first-least owners t.taken t.owned n low) ∙ found)

-- a list whose elements are those of a function
listed-by : (f : ℕ → Option ℕ) (owners : List (Option ℕ)) (low : ℕ) → ((b : ℕ) → owner_at owners b ≡ f (low + b)) → owners ≡ map f (up_from low (length owners))
listed-by f [] low e = refl
listed-by f (owner ∷ owners) low e =
    let first : low + 0 ≡ low = omega arith in
    ap₂ (λ o os. o ∷ os) (e 0 ∙ ap f first)
    (listed-by f owners (low + 1) (λ b. let next : low + suc b ≡ low + 1 + b = omega arith in e (suc b) ∙ ap f next))

or-none : (owner : Option ℕ) → or_owner owner None ≡ owner
or-none None = refl
or-none (Some owner) = refl

pub all-taken : (runs : List DrivenRun) (number width : ℕ) (owners : List (Option ℕ)) → AreTaken runs [] number owners width →
    (second_driver [] runs ≡ None) × (owners ≡ map (driver_of_bit 0 runs) (up_from 0 width))
all-taken runs number width owners t = (
  sym t.seconds,
  listed-by (driver_of_bit 0 runs) owners 0 (λ b. sym (or-none (owner_at owners b)) ∙ t.drivers b ∙ ap (driver_of_bit 0 runs) (sym (zero-add b)))
      ∙ ap (λ n. map (driver_of_bit 0 runs) (up_from 0 n)) t.long,
)

-- Runs with one driver

same-self : (driver : Option ℕ) → same_driver driver driver ≡ true
same-self None = refl
same-self (Some driver) = eq-eqb driver driver refl

some-same : (one other : ℕ) → (one ≡ other) ⊎ (one ≡ other → ⊥) → nat_eq one other ≡ true → Some one ≡ Some other
some-same one other (inl same) e = ap (λ n. Some n) same
some-same one other (inr differ) e = let f = ne_eqb one other differ in cc

pub same-is : (one other : Option ℕ) → same_driver one other ≡ true → one ≡ other
same-is None None e = refl
same-is None (Some other) e = cc
same-is (Some one) None e = cc
same-is (Some one) (Some other) e = some-same one other (cases_eq one other) e

-- a run of one bit and so many more, and the pieces behind it
abbrev run_and_rest : ℕ → Option ℕ → List (Option ℕ) → ℕ → List CutPiece
run_and_rest bit owner owners more = record { low = bit; width = suc more; driver = owner } ∷ cut_from (bit + suc more) (drop more owners)

longer-run : (bit : ℕ) (owner : Option ℕ) (owners : List (Option ℕ)) → cut_from (bit + 1) (owner ∷ owners) ≡ run_and_rest (bit + 1) owner owners (leading owner owners)
    → cut_from bit (owner ∷ owner ∷ owners) ≡ run_and_rest bit owner (owner ∷ owners) (leading owner (owner ∷ owners))
longer-run bit owner owners e =
    let more = leading owner owners in
    let rest = cut_from (bit + 1 + suc more) (drop more owners) in
    let here : grown_or_new (same_driver owner owner) bit owner (record { low = bit + 1; width = suc more; driver = owner }) rest ≡ record { low = bit; width = suc more + 1; driver = owner } ∷ rest
    = ap (λ b. grown_or_new b bit owner (record { low = bit + 1; width = suc more; driver = owner }) rest) (same-self owner) in
    let width : suc more + 1 ≡ suc (suc more) = omega arith in
    let behind : bit + 1 + suc more ≡ bit + suc (suc more) = omega arith in
    let counted : suc more ≡ leading owner (owner ∷ owners) = sym (ap (λ b. cond b (suc more) 0) (same-self owner)) in
    ap (bit_before bit owner) e ∙ here
    ∙ ap₂ (λ w b. record { low = bit; width = w; driver = owner } ∷ cut_from b (drop more owners)) width behind
    ∙ ap (run_and_rest bit owner (owner ∷ owners)) counted

new-run : (bit : ℕ) (owner next : Option ℕ) (owners : List (Option ℕ)) → same_driver owner next ≡ false → cut_from (bit + 1) (next ∷ owners) ≡ run_and_rest (bit + 1) next owners (leading next owners)
    → cut_from bit (owner ∷ next ∷ owners) ≡ run_and_rest bit owner (next ∷ owners) (leading owner (next ∷ owners))
new-run bit owner next owners differ e =
    let more = leading next owners in
    let piece : CutPiece = record { low = bit + 1; width = suc more; driver = next } in
    let rest = cut_from (bit + 1 + suc more) (drop more owners) in
    let here : grown_or_new (same_driver owner next) bit owner piece rest ≡ record { low = bit; width = 1; driver = owner } ∷ piece ∷ rest = ap (λ b. grown_or_new b bit owner piece rest) differ in
    let counted : 0 ≡ leading owner (next ∷ owners) = sym (ap (λ b. cond b (suc (leading owner owners)) 0) differ) in
    ap (bit_before bit owner) e ∙ here ∙ ap (λ ps. record { low = bit; width = 1; driver = owner } ∷ ps) (sym e)
    ∙ ap (run_and_rest bit owner (next ∷ owners)) counted

next-run : (same : Bool) (bit : ℕ) (owner next : Option ℕ) (owners : List (Option ℕ)) → same_driver owner next ≡ same →
    cut_from (bit + 1) (next ∷ owners) ≡ run_and_rest (bit + 1) next owners (leading next owners)
    → cut_from bit (owner ∷ next ∷ owners) ≡ run_and_rest bit owner (next ∷ owners) (leading owner (next ∷ owners))
next-run true bit owner next owners h e =
    let P : Option ℕ → Type 0 = λ o. cut_from bit (o ∷ next ∷ owners) ≡ run_and_rest bit o (next ∷ owners) (leading o (next ∷ owners)) in
    subst P (sym (same-is owner next h)) (longer-run bit next owners e)
next-run false bit owner next owners h e = new-run bit owner next owners h e

whole-run : (bit : ℕ) (owner : Option ℕ) (owners : List (Option ℕ)) → cut_from bit (owner ∷ owners) ≡ run_and_rest bit owner owners (leading owner owners)
whole-run bit owner [] = refl
whole-run bit owner (next ∷ owners) = next-run (same_driver owner next) bit owner next owners refl (whole-run (bit + 1) next owners)

dropped : (m n : ℕ) (xs : List (Option ℕ)) → drop m (drop n xs) ≡ drop (n + m) xs
dropped m zero xs = ap (λ k. drop k xs) (sym (zero-add m))
dropped m (suc n) [] = drop-nil m ∙ sym (drop-nil {A = Option ℕ} (suc n + m))
dropped m (suc n) (x ∷ xs) = let k : suc (n + m) ≡ suc n + m = omega arith in dropped m n xs ∙ ap (λ j. drop j (x ∷ xs)) k

pub run-cut : (owners : List (Option ℕ)) (low end : ℕ) → low < length owners → end ≡ low + first_run (drop low owners)
    → cut_from low (drop low owners) ≡ record { low = low; width = end - low; driver = owner_at owners low } ∷ cut_from end (drop end owners)
run-cut owners low end below e =
    let more = leading (owner_at owners low) (drop (suc low) owners) in
    let begins : drop low owners ≡ owner_at owners low ∷ drop (suc low) owners = drop-cons owners low None below in
    let reaches : end ≡ low + suc more = e ∙ ap (λ os. low + first_run os) begins in
    let width : suc more ≡ end - low = omega arith in
    let behind : drop more (drop (suc low) owners) ≡ drop end owners = dropped more (suc low) owners ∙ ap (λ k. drop k owners) (let k : suc low + more ≡ end = omega arith in k) in
    ap (cut_from low) begins ∙ whole-run low (owner_at owners low) (drop (suc low) owners)
    ∙ ap₂ (λ w os. record { low = low; width = w; driver = owner_at owners low } ∷ cut_from (low + suc more) os) width behind
    ∙ ap (λ k. record { low = low; width = end - low; driver = owner_at owners low } ∷ cut_from k (drop end owners)) (sym reaches)

-- Ends of runs

pub run-begins : (owners : List (Option ℕ)) (low : ℕ) → low < length owners → low + first_run (drop low owners) ≡ low + 1 + leading (owner_at owners low) (drop (low + 1) owners)
run-begins owners low below =
    let more = leading (owner_at owners low) (drop (low + 1) owners) in
    let begins : drop low owners ≡ owner_at owners low ∷ drop (low + 1) owners = drop-cons owners low None below ∙ ap (λ k. owner_at owners low ∷ drop k owners) (sym (add-one low)) in
    let e : low + suc more ≡ low + 1 + more = omega arith in
    ap (λ os. low + first_run os) begins ∙ e

leading-by : (same : Bool) (driver : Option ℕ) (owners : List (Option ℕ)) (bit : ℕ) → bit < length owners → same_driver driver (owner_at owners bit) ≡ same
    → leading driver (drop bit owners) ≡ cond same (suc (leading driver (drop (bit + 1) owners))) 0
leading-by same driver owners bit below e =
    let begins : drop bit owners ≡ owner_at owners bit ∷ drop (bit + 1) owners = drop-cons owners bit None below ∙ ap (λ k. owner_at owners bit ∷ drop k owners) (sym (add-one bit)) in
    ap (leading driver) begins ∙ ap (λ b. cond b (suc (leading driver (drop (bit + 1) owners))) 0) e

pub run-goes : (driver : Option ℕ) (owners : List (Option ℕ)) (bit : ℕ) → bit < length owners → same_driver driver (owner_at owners bit) ≡ true →
    bit + leading driver (drop bit owners) ≡ bit + 1 + leading driver (drop (bit + 1) owners)
run-goes driver owners bit below e =
    let more = leading driver (drop (bit + 1) owners) in
    let k : bit + suc more ≡ bit + 1 + more = omega arith in
    ap (λ n. bit + n) (leading-by true driver owners bit below e) ∙ k

pub run-ends : (driver : Option ℕ) (owners : List (Option ℕ)) (bit : ℕ) → bit < length owners → same_driver driver (owner_at owners bit) ≡ false → bit + leading driver (drop bit owners) ≡ bit
run-ends driver owners bit below e = let k : bit + 0 ≡ bit = omega arith in ap (λ n. bit + n) (leading-by false driver owners bit below e) ∙ k

-- The pieces of all bits

pub pieces-cut : (runs : List DrivenRun) (n low : ℕ) → pieces_from runs (up_from low n) ≡ cut_from low (map (driver_of_bit 0 runs) (up_from low n))
pieces-cut runs zero low = refl
pieces-cut runs (suc n) low = ap (bit_before low (driver_of_bit 0 runs low)) (pieces-cut runs n (low + 1))

pub owners-short : (runs : List DrivenRun) (width : ℕ) (owners : List (Option ℕ)) → owners ≡ map (driver_of_bit 0 runs) (up_from 0 width) → length owners ≡ width
owners-short runs width owners e = ap length e ∙ long width 0
  where
    long : (n low : ℕ) → length (map (driver_of_bit 0 runs) (up_from low n)) ≡ n
    long zero low = refl
    long (suc n) low = ap (λ k. suc k) (long n (low + 1))

-- one run more
pub one-run : (pieces new : List Piece) (piece : Piece) (owners : List (Option ℕ)) (low end : ℕ) → map piece_of pieces ++ cut_from low (drop low owners) ≡ cut_from 0 owners →
    new ≡ pieces ++ piece ∷ []
    → piece_of piece ≡ record { low = low; width = end - low; driver = owner_at owners low } → low < length owners → end ≡ low + first_run (drop low owners)
    → map piece_of new ++ cut_from end (drop end owners) ≡ cut_from 0 owners
one-run pieces new piece owners low end covered pushed same below e =
    let rest = cut_from end (drop end owners) in
    ap (λ ps. map piece_of ps ++ rest) pushed ∙ ap (λ ps. ps ++ rest) (map-append piece_of pieces (piece ∷ [])) ∙ append_assoc (map piece_of pieces) (piece_of piece ∷ []) rest
    ∙ ap (λ ps. map piece_of pieces ++ ps) (ap (λ p. p ∷ rest) same ∙ sym (run-cut owners low end below e)) ∙ covered

pieces-by : (result : Result (Vec Piece Global) PortFault) (pieces : List CutPiece) → IfOk result (λ answer. map piece_of answer.items ≡ pieces) → IfErr result (λ fault. fault ≡ NoMemory) →
    PiecesGive (Ok pieces) result
pieces-by (Ok answer) pieces ok err = ok
pieces-by (Err fault) pieces ok err = let P : PortFault → Type 0 = λ f. PiecesGive (Ok pieces) (Err f) in subst P (sym err) tt

pub pieces-give : (width : ℕ) (drives : List DriveOfRun) (owners : List (Option ℕ)) (result : Result (Vec Piece Global) PortFault) → second_driver [] (map run_of_drive drives) ≡ None
    → owners ≡ map (driver_of_bit 0 (map run_of_drive drives)) (up_from 0 width) → IfOk result (λ answer. map piece_of answer.items ≡ cut_from 0 owners) → IfErr result (λ fault. fault ≡ NoMemory)
    → PiecesGive (cut_pieces width drives) result
pieces-give width drives owners result none e ok err =
    let runs = map run_of_drive drives in
    let Q : List CutPiece → Type 0 = λ ps. PiecesGive (Ok ps) result in
    let P : Option SecondDriver → Type 0 = λ second. PiecesGive (unless_second second (pieces_of width runs)) result in
    subst P (sym none) (subst Q (ap (cut_from 0) e ∙ sym (pieces-cut runs width 0)) (pieces-by result (cut_from 0 owners) ok err))

-- The code's drives

abbrev pub runs_of_drives : List Drive → List DrivenRun
runs_of_drives drives = map run_of_drive (map drive_of drives)

abbrev pub blank_drive : Drive
blank_drive = record { low = 0; width = 0; place = record { line = 0; column = 0 } }

left-here : (drives : List Drive) (place : ℕ) → place < length drives → runs_of_drives (drop place drives) ≡ run_of_drive (drive_of (get_or drives place blank_drive)) ∷
    runs_of_drives (drop (place + 1) drives)
left-here drives place below = ap runs_of_drives (drop-cons drives place blank_drive below)
    ∙ ap (λ k. run_of_drive (drive_of (get_or drives place blank_drive)) ∷ runs_of_drives (drop k drives)) (sym (add-one place))

begins-with : (drives : List Drive) (place width : ℕ) (owners : List (Option ℕ)) → place < length drives → AreTaken (runs_of_drives drives) (runs_of_drives (drop place drives)) place owners width
    → AreTaken (runs_of_drives drives) (run_of_drive (drive_of (get_or drives place blank_drive)) ∷ runs_of_drives (drop (place + 1) drives)) place owners width
begins-with drives place width owners below t = let P : List DrivenRun → Type 0 = λ left. AreTaken (runs_of_drives drives) left place owners width in subst P (left-here drives place below) t

run-width : (low n : ℕ) → up_from low (low + n - low) ≡ up_from low n
run-width low n = let e : low + n - low ≡ n = omega arith in ap (up_from low) e

pub drive-taken : (drives : List Drive) (place width : ℕ) (owners new : List (Option ℕ)) (drive : Drive) → AreTaken (runs_of_drives drives) (runs_of_drives (drop place drives)) place owners width
    → place < length drives → drive ≡ get_or drives place blank_drive → drive.low + drive.width ≤ width → first_owned owners (up_from drive.low (drive.low + drive.width - drive.low)) ≡ None
    → new ≡ owned_after place owners (up_from drive.low (drive.low + drive.width - drive.low)) → AreTaken (runs_of_drives drives) (runs_of_drives (drop (place + 1) drives)) (place + 1) new width
drive-taken drives place width owners new drive t below same within free e =
    let P : Drive → Type 0 = λ d. AreTaken (runs_of_drives drives) (run_of_drive (drive_of d) ∷ runs_of_drives (drop (place + 1) drives)) place owners width in
    let here : P drive = subst P (sym same) (begins-with drives place width owners below t) in
    let Q : List (Option ℕ) → Type 0 = λ os. AreTaken (runs_of_drives drives) (runs_of_drives (drop (place + 1) drives)) (place + 1) os width in
    subst Q (sym (e ∙ ap (owned_after place owners) (run-width drive.low drive.width)))
    (one-taken (runs_of_drives drives) (runs_of_drives (drop (place + 1) drives)) place width drive.low drive.width (source_place drive.place) owners here within
    (sym (ap (first_owned owners) (run-width drive.low drive.width)) ∙ free))

pub drive-twice : (drives : List Drive) (place width bit : ℕ) (owners : List (Option ℕ)) (drive : Drive) → AreTaken (runs_of_drives drives) (runs_of_drives (drop place drives)) place owners width
    → place < length drives → drive ≡ get_or drives place blank_drive → first_owned owners (up_from drive.low (drive.low + drive.width - drive.low)) ≡ Some bit
    → second_driver [] (runs_of_drives drives) ≡ Some (record { place = source_place drive.place; bit = bit })
drive-twice drives place width bit owners drive t below same found =
    let P : Drive → Type 0 = λ d. AreTaken (runs_of_drives drives) (run_of_drive (drive_of d) ∷ runs_of_drives (drop (place + 1) drives)) place owners width in
    let here : P drive = subst P (sym same) (begins-with drives place width owners below t) in
    taken-twice (runs_of_drives drives) (runs_of_drives (drop (place + 1) drives)) place width drive.low drive.width bit (source_place drive.place) owners here
    (sym (ap (first_owned owners) (run-width drive.low drive.width)) ∙ found)

pub none-left-of : (drives : List Drive) (place width : ℕ) (owners : List (Option ℕ)) → AreTaken (runs_of_drives drives) (runs_of_drives (drop place drives)) place owners width → length drives ≤ place
    → (second_driver [] (runs_of_drives drives) ≡ None) × (owners ≡ map (driver_of_bit 0 (runs_of_drives drives)) (up_from 0 width))
none-left-of drives place width owners t past =
    let P : List Drive → Type 0 = λ left. AreTaken (runs_of_drives drives) (runs_of_drives left) place owners width in
    all-taken (runs_of_drives drives) place width owners (subst P (drop_of_length-le drives past) t)
