-- A plan that a text spells is a plan of the design.
use Rattle.std.proofs.Common.{◌≡◌, ℕ, zero, suc, ◌+◌, ◌-◌, ◌<◌, ◌≤◌, Bool, true, false, IsTrue, List, [], ◌∷◌, ◌++◌, length, map, Option, Some, None, refl, ap, sym, ◌∙◌, subst, arith, cond, find}
use Rattle.std.specs.Prelude.{slice_get, nat_eq, nat_lt, get_or, if◌then◌else◌}
use Rattle.std.specs.List.{Contains, list_all}
use Rattle.std.specs.Option.{option_and_then}
use Rattle.std.specs.Str.{bytes_eq}
use Rattle.std.proofs.lemmas.Bool.{eqb-true, and_parts, false≢true}
use borrow.Author.Tests.{ltb-true}
use Rattle.vf_base.specs.Base.{WatchedBit}
use Rattle.vf_base.specs.Lists.{joined, map_numbered, AllHold}
use Rattle.v_design.specs.Trees.{Piece}
use Rattle.v_design.specs.Expressions.{up_from}
use Rattle.v_design.specs.Designs.{FlatObject, NameJoined, FlatDesign, FaultSite, StuckAt, TestPlan, width_in}
use Rattle.v_design.specs.Sites.{sites_of, faults_of}
use Rattle.v_design.specs.WellFormed.{KeepsRules, IsSizedName, IsPlanOf, has_width, width_is, have_widths}
use Rattle.v_design.specs.declared.logic.ObjectKind.{ObjectKind}
use Rattle.v_design.specs.declared.logic.ObjectKind.TheVariants.{Var, Word, Net}
use Rattle.fault_list.specs.Spelled.{bit_spelled, piece_bit, place_spelled, site_spelled}
use Rattle.fault_list.specs.Members.{In, here, there, in-cons, up-in, find-sound, contains-in, width-at}
use Rattle.fault_list.specs.ListedSites.{spelled-listed}
use Rattle.plan_read.specs.Forms.{PlanLine, Empty, Ends, Watches, Strobes, Lists, ListsAll, Formless}
use Rattle.plan_read.specs.Watched.{bit_of, object_bits, pieces_bits, bit_if, held_if, all_or_one, bits_by_kind, bits_in_object, bits_in_joined, bits_upwards, bits_spelled}
use Rattle.plan_read.specs.Spelled.{bits_on, fault_at, faults_on, bits_of, listed_faults, plan_lines, Spells}
use Rattle.plan_read.proofs.Reversed.{all-reverse}

all-append : {A : Type 0} (P : A → Type 0) (xs ys : List A) → AllHold P xs → AllHold P ys → AllHold P (xs ++ ys)
all-append P [] ys one other = other
all-append P (x ∷ xs) ys one other = (one.0, all-append P xs ys one.1 other)

all-joined : {A : Type 0} (P : A → Type 0) (lists : List (List A)) → AllHold (λ l. AllHold P l) lists → AllHold P (joined lists)
all-joined P [] all = tt
all-joined P (l ∷ lists) all = all-append P l (joined lists) all.0 (all-joined P lists all.1)

-- each element of a mapped list, by the elements
all-map : {A B : Type 0} (P : B → Type 0) (f : A → B) (xs : List A) → ((x : A) → In x xs → P (f x)) → AllHold P (map f xs)
all-map P f [] each = tt
all-map P f (x ∷ xs) each = (each x (here xs), all-map P f xs (λ y h. each y (there x xs h)))

all-numbered : {A B : Type 0} (P : B → Type 0) (f : ℕ → A → B) (n : ℕ) (xs : List A) → ((i : ℕ) (x : A) → slice_get xs i ≡ Some x → P (f (n + i) x)) → AllHold P (map_numbered f n xs)
all-numbered P f n [] each = tt
all-numbered P f n (x ∷ xs) each = (
  (let e : n + 0 ≡ n = omega arith in subst (λ k. P (f k x)) e (each 0 x refl)),
  all-numbered P f (n + 1) xs (λ i y at. let e : n + suc i ≡ n + 1 + i = omega arith in subst (λ k. P (f k y)) e (each (suc i) y at)),
)

-- Faults

module _ (design : FlatDesign) where
  all-both : (sites : List FaultSite) → ((site : FaultSite) → In site sites → In site (sites_of design)) →
      AllHold (λ (fault : StuckAt). Contains (sites_of design) fault.site) (joined (map (λ site. record { site = site; value = false } ∷ record { site = site; value = true } ∷ []) sites))
  all-both [] each = tt
  all-both (site ∷ sites) each =
      let one : Contains (sites_of design) site = contains-in site (sites_of design) (each site (here sites)) in
      (one, (one, all-both sites (λ s h. each s (there site sites h))))

  fault-listed : (found : Option FaultSite) (value : Bool) → ((site : FaultSite) → found ≡ Some site → Contains (sites_of design) site) →
      AllHold (λ (fault : StuckAt). Contains (sites_of design) fault.site) (fault_at found value)
  fault-listed None value each = tt
  fault-listed (Some site) value each = (each site refl, tt)

  line-listed : (line : PlanLine) → AllHold (λ (fault : StuckAt). Contains (sites_of design) fault.site) (faults_on design line)
  line-listed Empty = tt
  line-listed (Ends time) = tt
  line-listed (Watches name) = tt
  line-listed (Strobes from step to) = tt
  line-listed (Lists name value) = fault-listed (site_spelled design name) value (λ site e. spelled-listed design name site e)
  line-listed ListsAll = all-both (sites_of design) (λ site h. h)
  line-listed Formless = tt

  lines-listed : (lines : List PlanLine) → AllHold (λ (fault : StuckAt). Contains (sites_of design) fault.site) (listed_faults design lines)
  lines-listed [] = tt
  lines-listed (line ∷ lines) = all-append (λ (fault : StuckAt). Contains (sites_of design) fault.site) (faults_on design line) (listed_faults design lines) (line-listed line) (lines-listed lines)

-- Watched bits

module _ (design : FlatDesign) (rules : KeepsRules design) where
  -- so many bits of an object, up to its width
  bits-there : (object count width : ℕ) → count ≤ width → width_in design object ≡ width → AllHold (λ (w : WatchedBit). w.bit < width_in design w.object) (object_bits object count)
  bits-there object count width few is =
      all-map (λ (w : WatchedBit). w.bit < width_in design w.object) (bit_of object) (up_from 0 count)
      (λ bit h. let range = up-in 0 count bit h in let low : bit < count = omega (arith, range.1) in omega (arith, is))

  one-there : (object : ℕ) (found : FlatObject) (answer : Option ℕ) → slice_get design.objects object ≡ Some found → ((bit : ℕ) → answer ≡ Some bit → bit < found.width) →
      AllHold (λ (w : WatchedBit). w.bit < width_in design w.object) (bit_if object answer)
  one-there object found None at each = tt
  one-there object found (Some bit) at each = let low : bit < found.width = each bit refl in let is : width_in design object ≡ found.width = width-at design.objects object found at in
      (omega (arith, is), tt)

  kind-there : (kind : ObjectKind) (bits : List WatchedBit) → AllHold (λ (w : WatchedBit). w.bit < width_in design w.object) bits →
      AllHold (λ (w : WatchedBit). w.bit < width_in design w.object) (bits_by_kind kind bits)
  kind-there Var bits all = all
  kind-there Word bits all = tt
  kind-there Net bits all = all

  either-there : (whole : Bool) (all one : List WatchedBit) → AllHold (λ (w : WatchedBit). w.bit < width_in design w.object) all → AllHold (λ (w : WatchedBit). w.bit < width_in design w.object) one →
      AllHold (λ (w : WatchedBit). w.bit < width_in design w.object) (all_or_one whole all one)
  either-there true all one first second = first
  either-there false all one first second = second

  object-there : (word : List ℕ) (number : ℕ) (object : FlatObject) → slice_get design.objects number ≡ Some object →
      AllHold (λ (w : WatchedBit). w.bit < width_in design w.object) (bits_in_object word number object)
  object-there word number object at =
      let is : width_in design number ≡ object.width = width-at design.objects number object at in
      kind-there object.kind (all_or_one (bytes_eq object.name word) (object_bits number object.width) (bit_if number (bit_spelled object word)))
      (either-there (bytes_eq object.name word) (object_bits number object.width) (bit_if number (bit_spelled object word))
      (bits-there number object.width object.width (omega arith) is)
      (one-there number object (bit_spelled object word) at
      (λ bit e. let r = find-sound _ (up_from 0 object.width) bit e in let range = up-in 0 object.width bit r.0 in omega (arith, range.1))))

  -- a piece has the width of its object
  width-of-piece : (piece : Piece) → has_width design piece ≡ true → width_in design piece.object ≡ piece.width
  width-of-piece piece e = by (slice_get design.objects piece.object) refl e
    where
      by : (found : Option FlatObject) → slice_get design.objects piece.object ≡ found → width_is piece.width found ≡ true → width_in design piece.object ≡ piece.width
      by None at h = absurd (false≢true h)
      by (Some object) at h = width-at design.objects piece.object object at ∙ eqb-true object.width piece.width h

  pieces-there : (pieces : List Piece) → have_widths design pieces ≡ true → AllHold (λ (w : WatchedBit). w.bit < width_in design w.object) (pieces_bits pieces)
  pieces-there [] e = tt
  pieces-there (piece ∷ pieces) e =
      let p = and_parts (has_width design piece) (have_widths design pieces) e in
      all-append (λ (w : WatchedBit). w.bit < width_in design w.object) (object_bits piece.object piece.width) (pieces_bits pieces)
      (bits-there piece.object piece.width piece.width (omega arith) (width-of-piece piece p.0)) (pieces-there pieces p.1)

  -- the object and the bit of an answer
  abbrev object-held : Option (ℕ × ℕ) → ℕ
  object-held None = 0
  object-held (Some held) = held.0

  abbrev bit-held : Option (ℕ × ℕ) → ℕ
  bit-held None = 0
  bit-held (Some held) = held.1

  held-there : (pieces : List Piece) (place object bit : ℕ) → have_widths design pieces ≡ true → piece_bit pieces place ≡ Some (object, bit) → bit < width_in design object
  held-there [] place object bit e h = absurd (cc)
  held-there (piece ∷ pieces) place object bit e h =
      let p = and_parts (has_width design piece) (have_widths design pieces) e in
      elim (nat_lt place piece.width) as (λ b. nat_lt place piece.width ≡ b → cond b (Some (piece.object, place)) (piece_bit pieces (place - piece.width)) ≡ Some (object, bit) →
      bit < width_in design object) [
        | true ↦ λ low s. let one : piece.object ≡ object = ap object-held s in let two : place ≡ bit = ap bit-held s in let lt : place < piece.width = ltb-true place piece.width low in
            subst (λ o. bit < width_in design o) one (let is : width_in design piece.object ≡ piece.width = width-of-piece piece p.0 in omega (arith, is))
        | false ↦ λ high s. held-there pieces (place - piece.width) object bit p.1 s
      ] refl h

  name-there : (word : List ℕ) (name : NameJoined) → IsSizedName design name → AllHold (λ (w : WatchedBit). w.bit < width_in design w.object) (bits_in_joined word name)
  name-there word name sized =
      either-there (bytes_eq name.name word) (pieces_bits name.vector.pieces) (held_if (option_and_then (piece_bit name.vector.pieces) (place_spelled name word)))
      (pieces-there name.vector.pieces sized.0) (placed (place_spelled name word))
    where
      at-place : (held : Option (ℕ × ℕ)) (place : ℕ) → piece_bit name.vector.pieces place ≡ held → AllHold (λ (w : WatchedBit). w.bit < width_in design w.object) (held_if held)
      at-place None place e = tt
      at-place (Some pair) place e = (held-there name.vector.pieces place pair.0 pair.1 sized.0 e, tt)

      placed : (place : Option ℕ) → AllHold (λ (w : WatchedBit). w.bit < width_in design w.object) (held_if (option_and_then (piece_bit name.vector.pieces) place))
      placed None = tt
      placed (Some place) = at-place (piece_bit name.vector.pieces place) place refl

  names-there : (word : List ℕ) (names : List NameJoined) → AllHold (IsSizedName design) names →
      AllHold (λ (w : WatchedBit). w.bit < width_in design w.object) (joined (map (bits_in_joined word) names))
  names-there word [] sized = tt
  names-there word (name ∷ names) sized =
      all-append (λ (w : WatchedBit). w.bit < width_in design w.object) (bits_in_joined word name) (joined (map (bits_in_joined word) names)) (name-there word name sized.0)
      (names-there word names sized.1)

  upwards-there : (word : List ℕ) → AllHold (λ (w : WatchedBit). w.bit < width_in design w.object) (bits_upwards design word)
  unfolding bits_upwards
  upwards-there word =
      all-append (λ (w : WatchedBit). w.bit < width_in design w.object) (joined (map_numbered (bits_in_object word) 0 design.objects)) (joined (map (bits_in_joined word) design.joined))
      (all-joined (λ (w : WatchedBit). w.bit < width_in design w.object) (map_numbered (bits_in_object word) 0 design.objects)
      (all-numbered (λ l. AllHold (λ (w : WatchedBit). w.bit < width_in design w.object) l) (bits_in_object word) 0 design.objects
      (λ i object at. let e : i ≡ 0 + i = omega arith in subst (λ k. AllHold (λ (w : WatchedBit). w.bit < width_in design w.object) (bits_in_object word k object)) e (object-there word i object at))))
      (names-there word design.joined rules.joined)

  spelled-there : (word : List ℕ) → AllHold (λ (w : WatchedBit). w.bit < width_in design w.object) (bits_spelled design word)
  unfolding bits_spelled
  spelled-there word = all-reverse (λ (w : WatchedBit). w.bit < width_in design w.object) (bits_upwards design word) (upwards-there word)

  line-there : (line : PlanLine) → AllHold (λ (w : WatchedBit). w.bit < width_in design w.object) (bits_on design line)
  line-there Empty = tt
  line-there (Ends time) = tt
  line-there (Watches name) = spelled-there name
  line-there (Strobes from step to) = tt
  line-there (Lists name value) = tt
  line-there ListsAll = tt
  line-there Formless = tt

  lines-there : (lines : List PlanLine) → AllHold (λ (w : WatchedBit). w.bit < width_in design w.object) (bits_of design lines)
  lines-there [] = tt
  lines-there (line ∷ lines) = all-append (λ (w : WatchedBit). w.bit < width_in design w.object) (bits_on design line) (bits_of design lines) (line-there line) (lines-there lines)

-- what a text spells over a design is a plan of that design
pub plan-fits : (design : FlatDesign) (text : List ℕ) (plan : TestPlan) → KeepsRules design → Spells design text plan → IsPlanOf design plan
plan-fits design text plan rules spells = record {
  watched = subst (AllHold (λ (w : WatchedBit). w.bit < width_in design w.object)) (sym spells.lines.watched) (lines-there design rules (plan_lines text));
  faults = subst (AllHold (λ (fault : StuckAt). Contains (sites_of design) fault.site)) (sym spells.lines.faults) (lines-listed design (plan_lines text));
}
