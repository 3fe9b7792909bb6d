-- Processes that are woken one after another (waits by IEEE 1364-2001, clause 9.7).
use Rattle.std.proofs.Common.{◌≡◌, ℕ, zero, suc, ◌+◌, ◌<◌, ◌≤◌, Bool, true, false, ◌||◌, List, [], ◌∷◌, ◌++◌, map, length, get_or, take, refl, sym, ap, subst, ◌∙◌, arith, append-nil, append_assoc}
use Rattle.std.specs.Prelude.{Some, slice_get}
use Rattle.std.proofs.lemmas.List.{map-append, take_more}
use Rattle.std.proofs.lemmas.Option.{slice_get_within, slice_get-get_or}
use Rattle.vf_base.specs.Base.{process_number}
use Rattle.vf_base.specs.Lists.{has}
use Rattle.vf_base.specs.declared.ids.ProcId.{ProcId}
use Rattle.process_code.specs.Points.{Point}
use Rattle.process_code.specs.declared.state.ProcState.{ProcState}
use Rattle.process_code.specs.declared.state.Stage.TheVariants as stages
use Rattle.moment_parts.specs.Within.{IsReadied, IsWokenIf, AreWoken}
use Rattle.passed_blocks.specs.window_wakes.declared.wake.Wake.{Wake}
use Rattle.passed_blocks.proofs.shown_blocks.Told.{has-append}

some-is : (a b : ProcState) → Some a ≡ Some b → a ≡ b
some-is a b e = cc

woken-none : (states : List ProcState) → AreWoken [] states states
woken-none states = record { count = refl; each = λ p before behind was here. some-is behind before (sym here ∙ was) }

readied-twice : (one two three : ProcState) → IsReadied one two → IsReadied two three → IsReadied one three
readied-twice one two three first last = record {
  point = last.point ∙ ap (λ (point : Point). record point { stage = stages.Ready }) first.point;
  state_of = λ code is. last.state_of code (first.state_of code is);
}

woken-twice : (a b : Bool) (one two three : ProcState) → IsWokenIf a one two → IsWokenIf b two three → IsWokenIf (a || b) one three
woken-twice true true one two three first last = readied-twice one two three first last
woken-twice true false one two three first same = subst (IsReadied one) (sym same) first
woken-twice false true one two three same last = subst (λ s. IsReadied s three) same last
woken-twice false false one two three same more = more ∙ same

woken-push : (processes : List ℕ) (q : ℕ) (old between new : List ProcState) → AreWoken processes old between → AreWoken (q ∷ []) between new → AreWoken (processes ++ q ∷ []) old new
woken-push processes q old between new first last = record {
  count = last.count ∙ first.count;
  each = λ p before behind was here.
      let low : p < length between =
      (let l : p < length new = slice_get_within new p behind here in let e : length new ≡ length between = last.count in omega (arith, l, e)) in
      let mid : slice_get between p ≡ Some (get_or between p behind) = slice_get-get_or between p behind low in
      subst (λ b. IsWokenIf b before behind) (sym (has-append processes (q ∷ []) p))
      (woken-twice (has processes p) (has (q ∷ []) p) before (get_or between p behind) behind (first.each p before (get_or between p behind) was mid) (last.each p (get_or between p behind) behind mid here));
}

-- so many of some wakes
pub record AreWokenSoFar (count : ℕ) (wakes : List Wake) (old new : List ProcState) (acted more : List ProcId) : Type 0 where
  pub states : AreWoken (map (λ (wake : Wake). process_number wake.process) (take count wakes)) old new
  pub listed : map process_number more ≡ map process_number acted ++ map (λ (wake : Wake). process_number wake.process) (take count wakes)

pub so-far-none : (wakes : List Wake) (states : List ProcState) (acted : List ProcId) → AreWokenSoFar 0 wakes states states acted acted
so-far-none wakes states acted = record { states = woken-none states; listed = sym (append-nil (map process_number acted)) }

pub so-far-more : (count : ℕ) (wakes : List Wake) (wake : Wake) (old between new : List ProcState) (acted more now : List ProcId) (none : Wake) → count < length wakes → wake ≡ get_or wakes count none →
    AreWoken (process_number wake.process ∷ []) between new → now ≡ more ++ wake.process ∷ [] → AreWokenSoFar count wakes old between acted more →
    AreWokenSoFar (count + 1) wakes old new acted now
so-far-more count wakes wake old between new acted more now none low is last pushed had = record {
  states =
      subst (λ l. AreWoken l old new) (sym next)
      (woken-push (map (λ (w : Wake). process_number w.process) (take count wakes)) (process_number wake.process) old between new had.states last);
  listed =
      ap (map process_number) pushed ∙ map-append process_number more (wake.process ∷ []) ∙ ap (λ l. l ++ process_number wake.process ∷ []) had.listed
      ∙ append_assoc (map process_number acted) (map (λ (w : Wake). process_number w.process) (take count wakes)) (process_number wake.process ∷ [])
      ∙ ap (λ l. map process_number acted ++ l) (sym next);
}
  where
    next : map (λ (w : Wake). process_number w.process) (take (count + 1) wakes) ≡ map (λ (w : Wake). process_number w.process) (take count wakes) ++ process_number wake.process ∷ []
    next =
        ap (map (λ (w : Wake). process_number w.process)) (take_more wakes count none low ∙ ap (λ w. take count wakes ++ w ∷ []) (sym is))
        ∙ map-append (λ (w : Wake). process_number w.process) (take count wakes) (wake ∷ [])

pub so-far-all : (count : ℕ) (wakes : List Wake) (old new : List ProcState) (acted more : List ProcId) → length wakes ≤ count → AreWokenSoFar count wakes old new acted more →
    AreWoken (map (λ (wake : Wake). process_number wake.process) wakes) old new × (map process_number more ≡ map process_number acted ++ map (λ (wake : Wake). process_number wake.process) wakes)
so-far-all count wakes old new acted more past had = (
  subst (λ l. AreWoken (map (λ (w : Wake). process_number w.process) l) old new) (take-past count wakes past) had.states,
  had.listed ∙ ap (λ l. map process_number acted ++ map (λ (w : Wake). process_number w.process) l) (take-past count wakes past),
)
  where
    take-past : {A : Type 0} (k : ℕ) (xs : List A) → length xs ≤ k → take k xs ≡ xs
    take-past zero [] low = refl
    take-past (suc k) [] low = refl
    take-past zero (x ∷ xs) low = absurd (omega (arith, low))
    take-past (suc k) (x ∷ xs) low = ap (λ l. x ∷ l) (take-past k xs (omega (arith, low)))
