-- The name of each register of the generated design spells one bit (the forms of names are this program's own).
use Rattle.std.proofs.Common.{◌≡◌, ℕ, suc, ◌+◌, ◌<◌, ◌≤◌, Bool, true, false, List, [], ◌∷◌, ◌++◌, length, map, cond, find, refl, sym, ap, ◌∙◌, arith, inl, inr, length-append}
use Rattle.std.specs.List.{flat_map}
use Rattle.std.specs.Str.{bytes_eq}
use Rattle.std.proofs.lemmas.Bool.{cases_eq}
use Rattle.std.proofs.lemmas.List.{length-reverse}
use Rattle.vf_base.specs.Base.{WatchedBit}
use Rattle.vf_base.specs.Lists.{AllHold, joined, map_numbered}
use Rattle.vf_base.specs.declared.ids.Place.{Place}
use Rattle.v_design.specs.Expressions.{up_from}
use Rattle.v_design.specs.Designs.{FlatDesign, NameJoined}
use Rattle.v_tree.specs.Trees.{Identifier, same_name}
use Rattle.v_scan.specs.Texts.{place_behind}
use Rattle.v_comb.proofs.Tables.{same-equal, equal-same, same-turned, bytes-same}
use Rattle.v_names.specs.Scopes.{Scope}
use Rattle.v_elab.specs.Parts.{Signal}
use Rattle.v_elab.specs.Drivers.{is_unjoined}
use Rattle.v_elab.specs.Objects.{HeldObject, joined_if, names_joined}
use Rattle.plan_read.specs.Watched.{object_bits, bit_if, all_or_one, bits_in_object, bits_in_joined, bits_upwards, bits_spelled}
use Rattle.soak_text.specs.declared.draws.Stage.{Stage}
use Rattle.soak_text.specs.Soak.{register_line}
use Rattle.soak_tree.specs.SoakUnits.{register_name}
use Rattle.soak_tree.specs.Stages.{IsStage}
use Rattle.soak_flat.proofs.Apart.{Numbered, at_registers, at_gates}
use Rattle.soak_flat.proofs.Once.{all-weaker, DiffersBy, ApartBy, of_that_name, none-of-name}
use Rattle.soak_flat.proofs.Parts.{IsWithin, variable_signal}
use Rattle.soak_flat.proofs.Driven.{next_stage, register_signals, signal_name, all_signals, signals-are, each-signal, registers-apart}
use Rattle.soak_flat.proofs.Held.{numbered-both, lists-both, variable_held, wires_held, variables_held, all_held}
use Rattle.soak_flat.proofs.Accepted.{soak_design}
use Rattle.soak_plan.proofs.Counted.{numbered-mapped}

none-more : {A : Type 0} (l : List A) → l ++ [] ≡ l
none-more [] = refl
none-more (x ∷ l) = ap (λ r. x ∷ r) (none-more l)

-- one at most has a name
few-of-name : {A : Type 0} (name : A → Identifier) (n : Identifier) (xs : List A) → ApartBy name xs → length (of_that_name name n xs) ≤ 1
few-of-name name n [] apart = omega arith
few-of-name {A} name n (x ∷ xs) apart = by (same_name (name x) n) refl (few-of-name name n xs apart.1)
  where
    by : (b : Bool) → same_name (name x) n ≡ b → length (of_that_name name n xs) ≤ 1 → length (cond b (x ∷ of_that_name name n xs) (of_that_name name n xs)) ≤ 1
    by true e rest =
        let none : of_that_name name n xs ≡ [] =
        none-of-name name n xs (all-weaker (DiffersBy name x) (λ y. same_name (name y) n ≡ false)
        (λ y differs. same-turned (name y) n ∙ (ap (λ m. same_name m (name y)) (sym (same-equal (name x) n e)) ∙ differs)) xs apart.0) in
        omega (arith, ap (λ l. length l) none)
    by false e rest = rest

module _ (scope : Scope) (stages : List Stage) (numbered : Numbered 0 stages) (are : AllHold IsStage stages) (within : AllHold (IsWithin (length stages)) stages) (low : length stages ≤ 4000) (number : ℕ) (there : number < length stages) where
  abbrev design : FlatDesign
  design = soak_design scope stages numbered are within low

  abbrev word : List ℕ
  word = register_name number

  abbrev bits_at : ℕ → HeldObject → List WatchedBit
  bits_at n held = bits_in_object word n held.object

  wires-bits : (n : ℕ) (some : List Stage) (place : Place) → joined (map_numbered bits_at n (wires_held scope some place)) ≡ []
  wires-bits n [] place = refl
  wires-bits n (stage ∷ some) place = wires-bits (n + 1) some (next_stage scope stage place)

  -- the bit of a register of this name alone
  register-bits : (n other : ℕ) (name : List ℕ) → name ≡ register_name other →
      length (all_or_one (bytes_eq (register_name other) word) (object_bits n 1) (bit_if n (find (λ bit. bytes_eq name word) (up_from 0 1)))) ≡ cond (same_name (register_name other) word) 1 0
  register-bits n other name same =
      ap (λ (l : List ℕ). length (all_or_one (bytes_eq (register_name other) word) (object_bits n 1) (bit_if n (find (λ bit. bytes_eq l word) (up_from 0 1))))) same
      ∙ (elim (bytes_eq (register_name other) word) as (λ b. length (all_or_one b (object_bits n 1) (bit_if n (find (λ bit. b) (up_from 0 1)))) ≡ cond b 1 0) [ true ↦ refl | false ↦ refl ]
      ∙ ap (λ b. cond b 1 0) (bytes-same (register_name other) word ∙ same-turned word (register_name other)))

  registers-bits : (n : ℕ) (some : List Stage) (place : Place) →
      length (joined (map_numbered bits_at n (map variable_held (register_signals scope some place)))) ≡ length (of_that_name signal_name word (register_signals scope some place))
  registers-bits n [] place = refl
  registers-bits n (stage ∷ some) place =
      let next = place_behind place (register_line stage) in
      let here = bits_at n (variable_held (variable_signal scope (register_name stage.number) stage.first place)) in
      let rest = joined (map_numbered bits_at (n + 1) (map variable_held (register_signals scope some next))) in
      let found = of_that_name signal_name word (register_signals scope some next) in
      let s = variable_signal scope (register_name stage.number) stage.first place in
      length-append here rest
      ∙ (ap (λ k. k + length rest) (register-bits n stage.number (register_name stage.number ++ []) (none-more (register_name stage.number)))
      ∙ (ap (λ k. cond (same_name (register_name stage.number) word) 1 0 + k) (registers-bits (n + 1) some next)
      ∙ elim (same_name (register_name stage.number) word) as (λ b. cond b 1 0 + length found ≡ length (cond b (s ∷ found) found)) [ true ↦ omega arith | false ↦ omega arith ]))

  -- a register of this name is there
  some-register : (from : ℕ) (some : List Stage) (place : Place) → from ≤ number → number < from + length some → Numbered from some →
      1 ≤ length (of_that_name signal_name word (register_signals scope some place))
  some-register from [] place from_low high order = absurd (omega (arith, from_low, high))
  some-register from (stage ∷ some) place from_low high order =
      let next = place_behind place (register_line stage) in
      let found = of_that_name signal_name word (register_signals scope some next) in
      let s = variable_signal scope (register_name stage.number) stage.first place in
      elim (cases_eq stage.number number) [
        | inl same ↦
            let here : length (of_that_name signal_name word (register_signals scope (stage ∷ some) place)) ≡ suc (length found) =
            ap (λ b. length (cond b (s ∷ found) found)) (equal-same (register_name stage.number) word (ap register_name same)) in
            omega (arith, here)
        | inr other ↦
            either (same_name (register_name stage.number) word) s found (some-register (from + 1) some next (above from stage.number number order.0 from_low other) (omega (arith, high)) order.1)
      ]
    where
      above : (from here number : ℕ) → here ≡ from → from ≤ number → (here ≡ number → ⊥) → from + 1 ≤ number
      above from here number e low other = grind arith

      either : (b : Bool) (s : Signal) (found : List Signal) → 1 ≤ length found → 1 ≤ length (cond b (s ∷ found) found)
      either true s found h = omega arith
      either false s found h = h

  none-joined : (signals : List Signal) (objects : List HeldObject) (some : List Signal) → AllHold (λ (s : Signal). is_unjoined s ≡ true) some →
      flat_map (λ (s : Signal). joined_if (is_unjoined s) signals objects s) some ≡ []
  none-joined signals objects [] h = refl
  none-joined signals objects (s ∷ some) h =
      ap (λ b. joined_if b signals objects s ++ flat_map (λ (s : Signal). joined_if (is_unjoined s) signals objects s) some) h.0 ∙ none-joined signals objects some h.1

  joined-none : design.joined ≡ []
  joined-none =
      ap (λ (l : List Signal). names_joined l (all_held scope stages)) (signals-are scope stages)
      ∙ none-joined (all_signals scope stages) (all_held scope stages) (all_signals scope stages) (each-signal scope (λ (s : Signal). is_unjoined s ≡ true) refl (λ stage place. refl) (λ stage place. refl) stages)

  -- the name spells one bit
  pub one-bit : length (bits_spelled design word) ≡ 1
  unfolding bits_spelled bits_upwards
  one-bit =
      let variables = variables_held scope stages in
      let wires = wires_held scope stages (at_gates stages) in
      let front = joined (map_numbered bits_at 0 variables) in
      let registers = register_signals scope stages at_registers in
      let objects : length (joined (map_numbered (bits_in_object word) 0 design.objects)) ≡ length front =
      ap (λ (l : List (List WatchedBit)). length (joined l)) (numbered-mapped (bits_in_object word) (λ (held : HeldObject). held.object) 0 (all_held scope stages) ∙ numbered-both bits_at 0 variables wires)
      ∙ (ap (λ l. length l) (lists-both (map_numbered bits_at 0 variables) (map_numbered bits_at (0 + length variables) wires)
      ∙ ap (λ l. front ++ l) (wires-bits (0 + length variables) stages (at_gates stages)))
      ∙ (length-append front [] ∙ omega arith)) in
      let named = registers-bits 1 stages at_registers in
      let few = few-of-name signal_name word registers (registers-apart scope stages numbered are within 0 stages at_registers numbered are) in
      let some = some-register 0 stages at_registers (omega arith) (omega (arith, there)) numbered in
      let bits = joined (map_numbered (bits_in_object word) 0 design.objects) in
      let rest = joined (map (bits_in_joined word) design.joined) in
      let none : length rest ≡ 0 = ap (λ (l : List NameJoined). length (joined (map (bits_in_joined word) l))) joined-none in
      length-reverse (bits ++ rest) ∙ (length-append bits rest ∙ omega (arith, objects, named, few, some, none))
