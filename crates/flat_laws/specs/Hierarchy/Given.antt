-- What the walk through a hierarchy gives of its nets, variables and memories: names that differ, and ports that are joined with what has their width (IEEE 1364-2001, clause 12.3 and clause 12.4).
use Rattle.std.proofs.Common.{◌≡◌, ℕ, zero, suc, ◌<◌, ◌≤◌, Bool, true, false, ◌&&◌, List, [], ◌∷◌, length, Option, Some, None, refl, ap, ap₂, sym, ◌∙◌, arith}
use Rattle.std.specs.Prelude.{nat_eq, slice_get}
use Rattle.std.proofs.lemmas.Bool.{eq-eqb, eqb-true}
use Rattle.four_value.specs.Values.{LogicValue}
use Rattle.v_design.specs.Sized.{most_bits}
use Rattle.v_tree.specs.Trees.{Identifier, same_name}
use Rattle.v_names.specs.Scopes.{range_width}
use Rattle.v_names.specs.SizedLaws.{and-left, and-right}
use Rattle.v_elab.specs.Connections.{most_depth}
use Rattle.v_elab.specs.Parts.{Joining, Signal, WalkedMemory, Part, SignalPart, MemoryPart, AssignPart, GatePart, ProcessPart, InstancePart}
use Rattle.v_elab.specs.Drivers.{signals_of, signal_if, signal_named, joined_into, up_or, outermost_within, outermost}
use Rattle.flat_laws.specs.Lists.{same_some}

-- Names

pub equal-name : (one other : Identifier) → same_name one other ≡ true → one ≡ other
equal-name [] [] e = refl
equal-name [] (b ∷ other) e = absurd (cc)
equal-name (a ∷ one) [] e = absurd (cc)
equal-name (a ∷ one) (b ∷ other) e =
    ap₂ (λ n (l : Identifier). n ∷ l) (eqb-true a b (and-left (nat_eq a b) (same_name one other) e)) (equal-name one other (and-right (nat_eq a b) (same_name one other) e))

pub both-true : (a b : Bool) → a ≡ true → b ≡ true → (a && b) ≡ true
both-true true b e d = d
both-true false b e d = absurd (cc)

pub name-same : (name : Identifier) → same_name name name ≡ true
name-same [] = refl
name-same (a ∷ name) = both-true (nat_eq a a) (same_name name name) (eq-eqb a a refl) (name-same name)

-- The names of parts

-- the name of a net, a variable or a memory
abbrev pub part_name : Part → Option Identifier
part_name (SignalPart signal) = Some signal.name
part_name (MemoryPart memory) = Some memory.name
part_name _ = None

-- a net or a variable has at most as many bits as a vector may have, and a first content of its width; it stands at most as deep as an instance may
pub record IsSizedSignal (signal : Signal) : Type 0 where
  pub most : range_width signal.range ≤ most_bits
  pub first : (value : LogicValue) → signal.first ≡ Some value → length value ≡ range_width signal.range
  pub depth : signal.depth ≤ most_depth

-- a port is joined with a net or a variable of its width that stands less deep
pub record IsJoinedWith (signals : List Signal) (signal : Signal) (joining : Joining) : Type 0 where
  pub number : ℕ
  pub outer : Signal
  pub is : slice_get signals number ≡ Some outer
  pub name : outer.name ≡ joining.into
  pub depth : outer.depth < signal.depth
  pub width : range_width outer.range ≡ range_width signal.range

-- the nets, variables and memories of a hierarchy
pub record IsHierarchy (parts : List Part) : Type 0 where
  -- no two have one name
  pub once : (i j : ℕ) (one other : Part) (name : Identifier) → slice_get parts i ≡ Some one → slice_get parts j ≡ Some other → part_name one ≡ Some name → part_name other ≡ Some name → i ≡ j
  pub signals : (i : ℕ) (signal : Signal) → slice_get parts i ≡ Some (SignalPart signal) → IsSizedSignal signal
  pub memories : (i : ℕ) (memory : WalkedMemory) → slice_get parts i ≡ Some (MemoryPart memory) → range_width memory.range ≤ most_bits
  pub joins : (i : ℕ) (signal : Signal) (joining : Joining) → slice_get parts i ≡ Some (SignalPart signal) → signal.joined ≡ Some joining → IsJoinedWith (signals_of parts) signal joining

-- Signals among the parts

-- a signal stands among the parts
pub signal-part : (parts : List Part) (i : ℕ) (signal : Signal) → slice_get (signals_of parts) i ≡ Some signal → (k : ℕ) × (slice_get parts k ≡ Some (SignalPart signal))
signal-part [] i signal at = absurd (cc)
signal-part (SignalPart first ∷ parts) zero signal at = (0, ap (λ s. Some (SignalPart s)) (same_some first signal at))
signal-part (SignalPart first ∷ parts) (suc i) signal at = let r = signal-part parts i signal at in (suc r.0, r.1)
signal-part (MemoryPart memory ∷ parts) i signal at = let r = signal-part parts i signal at in (suc r.0, r.1)
signal-part (AssignPart drives value ∷ parts) i signal at = let r = signal-part parts i signal at in (suc r.0, r.1)
signal-part (GatePart name kind drives path terminals ∷ parts) i signal at = let r = signal-part parts i signal at in (suc r.0, r.1)
signal-part (ProcessPart process ∷ parts) i signal at = let r = signal-part parts i signal at in (suc r.0, r.1)
signal-part (InstancePart ∷ parts) i signal at = let r = signal-part parts i signal at in (suc r.0, r.1)

part-signal : (one other : Signal) → SignalPart one ≡ SignalPart other → one ≡ other
part-signal one other e = cc

-- two signals of one name are one
pub signals-once : (parts : List Part) → IsHierarchy parts → (i j : ℕ) (one other : Signal) → slice_get (signals_of parts) i ≡ Some one → slice_get (signals_of parts) j ≡ Some other →
    one.name ≡ other.name → one ≡ other
signals-once parts hierarchy i j one other at_i at_j e =
    let first = signal-part parts i one at_i in
    let second = signal-part parts j other at_j in
    let same : first.0 ≡ second.0 = hierarchy.once first.0 second.0 (SignalPart one) (SignalPart other) other.name first.1 second.1 (ap Some e) refl in
    part-signal one other (same_some (SignalPart one) (SignalPart other) (sym first.1 ∙ ap (slice_get parts) same ∙ second.1))

-- a signal that a name finds is one of the name
pub named-at : (signals : List Signal) (name : Identifier) (signal : Signal) → signal_named signals name ≡ Some signal → (i : ℕ) × (slice_get signals i ≡ Some signal) × (signal.name ≡ name)
named-at [] name signal e = absurd (cc)
named-at (first ∷ signals) name signal e =
    by_test (same_name first.name name) refl (ap (λ b. signal_if b first (signal_named signals name)) refl ∙ e) (λ rest. named-at signals name signal rest)
  where
    by_test : (test : Bool) → same_name first.name name ≡ test → signal_if test first (signal_named signals name) ≡ Some signal →
        (signal_named signals name ≡ Some signal → (i : ℕ) × (slice_get signals i ≡ Some signal) × (signal.name ≡ name)) →
        (i : ℕ) × (slice_get (first ∷ signals) i ≡ Some signal) × (signal.name ≡ name)
    by_test true is d rest = let same = same_some first signal d in (0, d, ap (λ (s : Signal). s.name) (sym same) ∙ equal-name first.name name is)
    by_test false is d rest = let r = rest d in (suc r.0, r.1, r.2)

-- each signal is found by its name
some-named : (signals : List Signal) (i : ℕ) (signal : Signal) → slice_get signals i ≡ Some signal → (found : Signal) × (signal_named signals signal.name ≡ Some found)
some-named [] i signal at = absurd (cc)
some-named (first ∷ signals) zero signal at =
    let same : same_name first.name signal.name ≡ true = ap (λ (s : Signal). same_name first.name s.name) (sym (same_some first signal at)) ∙ name-same first.name in
    (first, ap (λ b. signal_if b first (signal_named signals signal.name)) same)
some-named (first ∷ signals) (suc i) signal at = by_test (same_name first.name signal.name) (some-named signals i signal at)
  where
    by_test : (test : Bool) → (found : Signal) × (signal_named signals signal.name ≡ Some found) → (found : Signal) × (signal_if test first (signal_named signals signal.name) ≡ Some found)
    by_test true r = (first, refl)
    by_test false r = r

pub signal-found : (parts : List Part) → IsHierarchy parts → (i : ℕ) (signal : Signal) → slice_get (signals_of parts) i ≡ Some signal → signal_named (signals_of parts) signal.name ≡ Some signal
signal-found parts hierarchy i signal at =
    let found = some-named (signals_of parts) i signal at in
    let there = named-at (signals_of parts) signal.name found.0 found.1 in
    found.1 ∙ ap Some (signals-once parts hierarchy there.0 i found.0 signal there.1 at there.2)

-- Outermost names

-- the net or variable that a signal is at last joined into
pub record IsAtLast (signals : List Signal) (signal : Signal) (name : Identifier) : Type 0 where
  pub number : ℕ
  pub outer : Signal
  pub is : slice_get signals number ≡ Some outer
  pub name_is : name ≡ outer.name
  pub unjoined : outer.joined ≡ None
  pub width : range_width outer.range ≡ range_width signal.range

at-last : (parts : List Part) → IsHierarchy parts → (levels i : ℕ) (signal : Signal) → slice_get (signals_of parts) i ≡ Some signal → signal.depth ≤ levels →
    IsAtLast (signals_of parts) signal (outermost_within levels (signals_of parts) signal.name)
at-last parts hierarchy zero i signal at low = by_joined signal.joined refl
  where
    by_joined : (joined : Option Joining) → signal.joined ≡ joined → IsAtLast (signals_of parts) signal signal.name
    by_joined None e = record { number = i; outer = signal; is = at; name_is = refl; unjoined = e; width = refl }
    by_joined (Some joining) e =
        let part = signal-part parts i signal at in
        let j = hierarchy.joins part.0 signal joining part.1 e in
        let less = j.depth in
        absurd (omega (arith, less, low))
at-last parts hierarchy (suc levels) i signal at low = by_joined signal.joined refl (λ k outer there less. at-last parts hierarchy levels k outer there less)
  where
    signals : List Signal
    signals = signals_of parts

    step : (joined : Option Joining) → signal.joined ≡ joined → outermost_within (suc levels) signals signal.name ≡ up_or (outermost_within levels signals) signal.name joined
    step joined e = ap (λ found. up_or (outermost_within levels signals) signal.name (joined_into found)) (signal-found parts hierarchy i signal at)
        ∙ ap (up_or (outermost_within levels signals) signal.name) e

    by_joined : (joined : Option Joining) → signal.joined ≡ joined →
        ((k : ℕ) (outer : Signal) → slice_get signals k ≡ Some outer → outer.depth ≤ levels → IsAtLast signals outer (outermost_within levels signals outer.name)) →
        IsAtLast signals signal (outermost_within (suc levels) signals signal.name)
    by_joined None e onward = record { number = i; outer = signal; is = at; name_is = step None e; unjoined = e; width = refl }
    by_joined (Some joining) e onward =
        let part = signal-part parts i signal at in
        let j = hierarchy.joins part.0 signal joining part.1 e in
        let less = j.depth in
        let last = onward j.number j.outer j.is (omega (arith, less, low)) in
        record {
          number = last.number;
          outer = last.outer;
          is = last.is;
          name_is = step (Some joining) e ∙ ap (outermost_within levels signals) (sym j.name) ∙ last.name_is;
          unjoined = last.unjoined;
          width = last.width ∙ j.width;
        }

-- the name that a signal's name is at last joined into is that of an unjoined signal of its width
pub outermost-is : (parts : List Part) → IsHierarchy parts → (i : ℕ) (signal : Signal) → slice_get (signals_of parts) i ≡ Some signal →
    IsAtLast (signals_of parts) signal (outermost (signals_of parts) signal.name)
outermost-is parts hierarchy i signal at =
    let part = signal-part parts i signal at in at-last parts hierarchy most_depth i signal at (hierarchy.signals part.0 signal part.1).depth
