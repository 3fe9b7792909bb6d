-- Where the processes stand at the start, one after the other.
use Rattle.std.proofs.Common.{◌≡◌, ℕ, ◌+◌, ◌<◌, List, [], ◌∷◌, ◌++◌, length, get_or, take, sym, ap, subst, ◌∙◌, inl, inr, arith}
use Rattle.std.proofs.lemmas.List.{take_more, length_push}
use Rattle.std.proofs.lemmas.Option.{slice_get_within}
use Rattle.process_code.specs.declared.code.Code.{Code}
use Rattle.process_code.specs.declared.state.ProcState.{ProcState}
use Rattle.good_trace.specs.Starting.{IsFirstState, AreFirstStates}
use Rattle.good_trace.proofs.Growing.{slice_get-push}

-- one process more
pub AreFirstStates-more : (codes : List Code) (i : ℕ) (code : Code) (states : List ProcState) (state : ProcState) → i < length codes → code ≡ get_or codes i code →
    AreFirstStates (take i codes) states → IsFirstState code state → AreFirstStates (take (i + 1) codes) (states ++ state ∷ [])
AreFirstStates-more codes i code states state low read had is =
    subst (λ l. AreFirstStates l (states ++ state ∷ [])) (sym grown) record {
      count = let more = length_push states state in let most = length_push (take i codes) code in omega (arith, had.count, more, most);
      each = λ number own other at here. elim (slice_get-push (take i codes) code own number at) [
        | inl h ↦ elim (slice_get-push states state other number here) [
          | inl k ↦ had.each number own other h k
          | inr k ↦ let less : number < length (take i codes) = slice_get_within (take i codes) number own h in absurd (omega (arith, had.count, k.0))
        ]
        | inr h ↦ elim (slice_get-push states state other number here) [
          | inl k ↦ let less : number < length states = slice_get_within states number other k in absurd (omega (arith, had.count, h.0))
          | inr k ↦ subst (λ (s : ProcState). IsFirstState own s) k.1 (subst (λ (c : Code). IsFirstState c state) h.1 is)
        ]
      ];
    }
  where
    grown : take (i + 1) codes ≡ take i codes ++ code ∷ []
    grown = take_more codes i code low ∙ ap (λ p. take i codes ++ p ∷ []) (sym read)
