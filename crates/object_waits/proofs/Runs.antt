-- The bits of a piece that are in a run of bits are where two intervals overlap.
use Rattle.std.proofs.Common.{◌≡◌, ℕ, zero, suc, ◌+◌, ◌-◌, ◌<◌, ◌≤◌, min, max, Bool, true, false, ◌&&◌, List, [], ◌∷◌, ◌++◌, map, replicate, Option, Some, None, nat_le, refl, sym, ap, ap₂, ◌∙◌, inl}
use Rattle.std.proofs.Common.{inr, arith}
use Rattle.std.specs.Prelude.{nat_eq, nat_lt, if◌then◌else◌}
use Rattle.std.proofs.lemmas.Bool.{cases_Bool, eqb-true, le-leb}
use Rattle.std.proofs.lemmas.Bool.Decides.{leb_tells}
use Rattle.four_value.specs.declared.logic.Edge.{Edge}
use Rattle.four_value.specs.declared.logic.Edge.TheVariants.{Any, Pos, Neg}
use Rattle.v_design.specs.Trees.{Piece, Entry}
use Rattle.v_design.specs.Expressions.{up_from}
use Rattle.v_elab.specs.Statements.{run_within, entry_on, entries_on, places_by_edge, least_place}
use Rattle.object_waits.specs.Selects.{run_places, least_width, width_by_edge}

-- One place

abbrev bits : ℕ → ℕ → Option Entry
bits low width = Some (record { object = 0; low = low; width = width; edge = Any })

abbrev run : ℕ → ℕ → List (Option ℕ)
run start count = map Some (up_from start count)

both : (a b : Bool) → a ≡ true → b ≡ true → (a && b) ≡ true
both a b h k = ap₂ (λ x y. x && y) h k

left-out : (a b : Bool) → a ≡ false → (a && b) ≡ false
left-out a b h = ap (λ x. x && b) h

right-out : (a b : Bool) → b ≡ false → (a && b) ≡ false
right-out true b h = h
right-out false b h = refl

inside : (low high place : ℕ) → low ≤ place → place < high → (nat_le low place && nat_lt place high) ≡ true
inside low high place h k =
    elim (leb_tells low place) [
      | inl least ↦
          elim (leb_tells (suc place) high) [
            | inl most ↦ both (nat_le low place) (nat_lt place high) least.0 most.0
            | inr past ↦ let over = past.1 in absurd (omega (arith, over, k))
          ]
      | inr before ↦ let under = before.1 in absurd (omega (arith, under, h))
    ]

before-it : (low high place : ℕ) → place < low → (nat_le low place && nat_lt place high) ≡ false
before-it low high place h =
    elim (leb_tells low place) [
      | inl least ↦ let over = least.1 in absurd (omega (arith, over, h))
      | inr before ↦ left-out (nat_le low place) (nat_lt place high) before.0
    ]

past-it : (low high place : ℕ) → high ≤ place → (nat_le low place && nat_lt place high) ≡ false
past-it low high place h =
    elim (leb_tells (suc place) high) [
      | inl most ↦ let under = most.1 in absurd (omega (arith, under, h))
      | inr past ↦ right-out (nat_le low place) (nat_lt place high) past.0
    ]

first-bit : (low high place : ℕ) (places : List (Option ℕ)) → (nat_le low place && nat_lt place high) ≡ true →
    run_within low high (Some place ∷ places) None ≡ run_within low high places (bits (place - low) 1)
first-bit low high place places e = rw e

more-bit : (low high place : ℕ) (places : List (Option ℕ)) (l w : ℕ) → (nat_le low place && nat_lt place high) ≡ true →
    run_within low high (Some place ∷ places) (bits l w) ≡ run_within low high places (bits l (w + 1))
more-bit low high place places l w e = rw e

no-bit : (low high place : ℕ) (places : List (Option ℕ)) (found : Option Entry) → (nat_le low place && nat_lt place high) ≡ false →
    run_within low high (Some place ∷ places) found ≡ run_within low high places found
no-bit low high place places found e = rw e

-- Runs

-- a run past the piece
run-past : (low high start count : ℕ) (found : Option Entry) → high ≤ start → run_within low high (run start count) found ≡ found
run-past low high start zero found h = refl
run-past low high start (suc count) found h =
    no-bit low high start (run (start + 1) count) found (past-it low high start h) ∙ run-past low high (start + 1) count found (omega (arith, h))

same-bits : (l w w' : ℕ) → w ≡ w' → bits l w ≡ bits l w'
same-bits l w w' e = ap (bits l) e

-- a run that goes on in the piece
run-on : (low high start count l w : ℕ) → low ≤ start → start ≤ high → run_within low high (run start count) (bits l w) ≡ bits l (w + (min high (start + count) - start))
run-on low high start zero l w h k = same-bits l w (w + (min high (start + 0) - start)) (omega (arith, k))
run-on low high start (suc count) l w h k =
    elim (leb_tells (suc start) high) [
      | inl most ↦
          let less = most.1 in
          more-bit low high start (run (start + 1) count) l w (inside low high start h less)
          ∙ run-on low high (start + 1) count l (w + 1) (omega (arith, h)) (omega (arith, less))
          ∙ same-bits l (w + 1 + (min high (start + 1 + count) - (start + 1))) (w + (min high (start + suc count) - start)) (omega (arith, less))
      | inr past ↦
          let over = past.1 in
          run-past low high start (suc count) (bits l w) (omega (arith, over)) ∙ same-bits l w (w + (min high (start + suc count) - start)) (omega (arith, over, k))
    ]

-- a run that has bits of the piece
pub run-some : (low high start count : ℕ) → max low start < min high (start + count) → run_within low high (run start count) None ≡ bits (max low start - low)
    (min high (start + count) - max low start)
run-some low high start zero h = absurd (omega (arith, h))
run-some low high start (suc count) h =
    elim (leb_tells low start) [
      | inl least ↦
          let from = least.1 in
          let less : start < high = omega (arith, h) in
          let low_is : start - low ≡ max low start - low = omega (arith, from) in
          let width_is : 1 + (min high (start + 1 + count) - (start + 1)) ≡ min high (start + suc count) - max low start = omega (arith, from, less) in
          first-bit low high start (run (start + 1) count) (inside low high start from less)
          ∙ run-on low high (start + 1) count (start - low) 1 (omega (arith, from)) (omega (arith, less))
          ∙ ap₂ bits low_is width_is
      | inr before ↦
          let under = before.1 in
          let low_is : max low (start + 1) - low ≡ max low start - low = omega (arith, under) in
          let width_is : min high (start + 1 + count) - max low (start + 1) ≡ min high (start + suc count) - max low start = omega (arith, under) in
          no-bit low high start (run (start + 1) count) None (before-it low high start under)
          ∙ run-some low high (start + 1) count (omega (arith, h, under))
          ∙ ap₂ bits low_is width_is
    ]

-- a run that has none
pub run-none : (low high start count : ℕ) → min high (start + count) ≤ max low start → run_within low high (run start count) None ≡ None
run-none low high start zero h = refl
run-none low high start (suc count) h =
    elim (leb_tells low start) [
      | inl least ↦
          let from = least.1 in
          run-past low high start (suc count) None (omega (arith, h, from))
      | inr before ↦
          let under = before.1 in
          no-bit low high start (run (start + 1) count) None (before-it low high start under) ∙ run-none low high (start + 1) count (omega (arith, h, under))
    ]

-- Margins

outside-first : (low high n : ℕ) (places : List (Option ℕ)) (found : Option Entry) → run_within low high (replicate n None ++ places) found ≡ run_within low high places found
outside-first low high zero places found = refl
outside-first low high (suc n) places found = outside-first low high n places found

outside-alone : (low high n : ℕ) (found : Option Entry) → run_within low high (replicate n None) found ≡ found
outside-alone low high zero found = refl
outside-alone low high (suc n) found = outside-alone low high n found

outside-last : (low high start count n : ℕ) (found : Option Entry) → run_within low high (run start count ++ replicate n None) found ≡ run_within low high (run start count) found
outside-last low high start zero n found = outside-alone low high n found
outside-last low high start (suc count) n found = outside-last low high (start + 1) count n _

one-least : (width : ℕ) → least_width 0 (suc width) ≡ 1
one-least width = ap (λ b. if b then 1 else 0) (le-leb 1 (suc width) (omega arith))

not-zero : (n : ℕ) → nat_eq (suc n) 0 ≡ false
not-zero n =
    elim (cases_Bool (nat_eq (suc n) 0)) [
      | inl same ↦ let is = eqb-true (suc n) 0 same in absurd (omega (arith, is))
      | inr other ↦ other
    ]

none-least : (below width : ℕ) → least_width (suc below) width ≡ 0
none-least below width = ap (λ b. if b && nat_lt 0 width then 1 else 0) (not-zero below)

-- of a select with an edge
least-same : (low high below start width above : ℕ) → run_within low high (least_place (run_places below start width above)) None ≡ run_within low high (run start (least_width below width)) None
least-same low high zero start zero zero = refl
least-same low high zero start zero (suc above) = refl
least-same low high zero start (suc width) above = ap (λ w. run_within low high (run start w) None) (sym (one-least width))
least-same low high (suc below) start width above = ap (λ w. run_within low high (run start w) None) (sym (none-least below width))

-- the bits of a piece that an entry is on
pub edge-same : (edge : Edge) (low high below start width above : ℕ) →
    run_within low high (places_by_edge edge (run_places below start width above)) None ≡ run_within low high (run start (width_by_edge edge below width)) None
edge-same Any low high below start width above = outside-first low high below (run start width ++ replicate above None) None ∙ outside-last low high start width above None
edge-same Pos low high below start width above = least-same low high below start width above
edge-same Neg low high below start width above = least-same low high below start width above

-- the entries are those on the run alone
pub entries_same : (edge : Edge) (below start width above offset : ℕ) (pieces : List Piece) →
    entries_on edge (places_by_edge edge (run_places below start width above)) offset pieces ≡ entries_on edge (run start (width_by_edge edge below width)) offset pieces
entries_same edge below start width above offset [] = refl
entries_same edge below start width above offset (piece ∷ pieces) =
    ap₂ (λ found rest. entry_on piece edge found ++ rest) (edge-same edge offset (offset + piece.width) below start width above)
    (entries_same edge below start width above (offset + piece.width) pieces)

-- One piece

pub entry_some : (edge : Edge) (piece : Piece) (offset start count first end : ℕ) → first ≡ max offset start → end ≡ min (offset + piece.width) (start + count) → first < end →
    entry_on piece edge (run_within offset (offset + piece.width) (run start count) None) ≡ record { object = piece.object; low = first - offset; width = end - first; edge = edge } ∷ []
entry_some edge piece offset start count first end f e h =
    let less : max offset start < min (offset + piece.width) (start + count) = omega (arith, f, e, h) in
    ap (entry_on piece edge) (run-some offset (offset + piece.width) start count less ∙ ap₂ bits (ap (λ x. x - offset) (sym f)) (ap₂ (λ x y. x - y) (sym e) (sym f)))

pub entry_none : (edge : Edge) (piece : Piece) (offset start count first end : ℕ) → first ≡ max offset start → end ≡ min (offset + piece.width) (start + count) → end ≤ first →
    entry_on piece edge (run_within offset (offset + piece.width) (run start count) None) ≡ []
entry_none edge piece offset start count first end f e h =
    ap (entry_on piece edge) (run-none offset (offset + piece.width) start count (omega (arith, f, e, h)))
