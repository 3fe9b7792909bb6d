-- Lists that grow at their end.
use Rattle.std.proofs.Common.{◌≡◌, ℕ, zero, suc, ◌+◌, ◌<◌, List, [], ◌∷◌, ◌++◌, length, get_or, take, refl, sym, ap, subst, ◌∙◌, arith, ◌⊎◌, inl, inr}
use Rattle.std.specs.Prelude.{Some, map, option_map, slice_get}
use Rattle.std.proofs.lemmas.List.{take_more, length-map, length_push}
use Rattle.std.proofs.lemmas.Option.{slice_get_within, slice_get-get_or, slice_get-map}
use Rattle.vf_base.specs.Lists.{AllHold}
use Rattle.v_design.specs.Designs.{FlatDesign}
use Rattle.v_design.specs.Plain.{process_of, statement_of}
use Rattle.v_design.specs.PlainDesigns.{design_of}
use Rattle.v_design.specs.Sized.{IsSizedStatement}
use Rattle.v_design.specs.WellFormed.{IsProcessOf}
use Rattle.v_design.specs.declared.plan.Design.{Design}
use Rattle.v_design.specs.declared.plan.Process.{Process}
use Rattle.process_code.specs.declared.code.Code.{Code}
use Rattle.process_code.specs.Codes.{IsCodeOf}
use Rattle.run_ends.specs.RunEnds.{AreCodesOf}
use Rattle.good_trace.specs.Setups.{AreCompiled}

same_some : {A : Type 0} (x y : A) → Some x ≡ Some y → x ≡ y
same_some x y e = cc

-- what stands in a list with one element more stood there before, or is that element
pub slice_get-push : {A : Type 0} (xs : List A) (x y : A) (place : ℕ) → slice_get (xs ++ x ∷ []) place ≡ Some y → (slice_get xs place ≡ Some y) ⊎ ((place ≡ length xs) × (x ≡ y))
slice_get-push [] x y zero e = inr (refl, same_some x y e)
slice_get-push [] x y (suc place) e = cc
slice_get-push (z ∷ xs) x y zero e = inl e
slice_get-push (z ∷ xs) x y (suc place) e = elim (slice_get-push xs x y place e) [ inl h ↦ inl h | inr h ↦ inr (let k : place ≡ length xs = h.0 in omega (arith, k), h.1) ]

-- codes of no process
pub AreCompiled-none : AreCompiled [] []
AreCompiled-none = record {
  count = refl;
  each = λ number process code at here. let low : number < 0 = slice_get_within [] number process at in absurd (omega arith);
}

-- one process more with its code
pub AreCompiled-more : (processes : List Process) (i : ℕ) (process : Process) (codes : List Code) (code : Code) → i < length processes → process ≡ get_or processes i process →
    AreCompiled (take i processes) codes → IsCodeOf process code →
    AreCompiled (take (i + 1) processes) (codes ++ code ∷ [])
AreCompiled-more processes i process codes code low read had is =
    subst (λ l. AreCompiled l (codes ++ code ∷ [])) (sym grown) record {
      count = let more = length_push codes code in let most = length_push (take i processes) process in omega (arith, had.count, more, most);
      each = λ number other own at here. elim (slice_get-push (take i processes) process other number at) [
        | inl h ↦ elim (slice_get-push codes code own number here) [
          | inl k ↦ had.each number other own h k
          | inr k ↦ let less : number < length (take i processes) = slice_get_within (take i processes) number other h in absurd (omega (arith, had.count, k.0))
        ]
        | inr h ↦ elim (slice_get-push codes code own number here) [
          | inl k ↦ let less : number < length codes = slice_get_within codes number own k in absurd (omega (arith, had.count, h.0))
          | inr k ↦ subst (λ (c : Code). IsCodeOf other c) k.1 (subst (λ (p : Process). IsCodeOf p code) h.1 is)
        ]
      ];
    }
  where
    grown : take (i + 1) processes ≡ take i processes ++ process ∷ []
    grown = take_more processes i process low ∙ ap (λ p. take i processes ++ p ∷ []) (sym read)

-- compiled codes are codes of the design's processes
pub AreCodesOf-compiled : (design : Design) (codes : List Code) → AreCompiled design.processes codes → AreCodesOf (design_of design) codes
AreCodesOf-compiled design codes had = record {
  count = had.count ∙ sym (length-map design.processes process_of);
  each = λ number code here.
      let low : number < length codes = slice_get_within codes number code here in
      let process : Process = get_or design.processes number code.process.now in
      let at : slice_get design.processes number ≡ Some process = slice_get-get_or design.processes number code.process.now (omega (arith, had.count, low)) in
      let is : IsCodeOf process code = had.each number process code at here in
      record {
        process_is = slice_get-map process_of design.processes number ∙ ap (option_map process_of) at ∙ ap (λ p. Some (process_of p)) (sym is.process_is);
        code_of = subst (λ (p : Process). IsCodeOf p code) (sym is.process_is) is;
      };
}

-- the bodies of a design's processes are sized
pub sized-processes : (design : FlatDesign) (processes : List Process) → AllHold (IsProcessOf design) (map process_of processes) →
    AllHold (λ (process : Process). IsSizedStatement (statement_of process.body)) processes
sized-processes design [] h = tt
sized-processes design (process ∷ processes) h = (h.0.sized, sized-processes design processes h.1)
