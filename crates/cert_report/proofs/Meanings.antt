-- A place of the list means one thing over a design and a plan: a certificate, or one reason why there is none.
use Rattle.std.proofs.Common.{◌≡◌, ℕ, ◌-◌, ◌<◌, ◌≤◌, List, length, refl, sym, ap, subst, ◌∙◌, ◌⊎◌, inl, inr, arith}
use Rattle.std.specs.Prelude.{Option, Some, None, Result, Ok, Err}
use Rattle.std.proofs.lemmas.Option.{slice_get_within}
use Rattle.v_design.specs.Designs.{FlatDesign, TestPlan, StuckAt}
use Rattle.v_design.specs.Grades.{Stop, grade}
use Rattle.vf_certify.specs.fault_grade.Results.{LoopsAt}
use Rattle.cert_laws.specs.Written.{certificate}
use Rattle.cert_report.specs.declared.fault.CertifyFault.{CertifyFault}
use Rattle.cert_report.specs.declared.fault.CertifyFault.TheVariants.{NoFault, GoodLoop, NoMemory}
use Rattle.cert_report.specs.Certificates.{listed, IsCertificateText, IsFaultOf, Means, IsTheMeaning}

some-is : {A : Type 0} (one other : A) → Some one ≡ Some other → one ≡ other
some-is one other e = cc

abbrev time_or : ℕ → Option Stop → ℕ
time_or t None = t
time_or t (Some stop) = stop.time

-- a fault that is listed isn't past the list
pub within-list : (plan : TestPlan) (place : ℕ) (fault : StuckAt) → listed plan place ≡ Some fault → place ≤ length plan.faults
within-list plan place fault is = let within = slice_get_within plan.faults (place - 1) fault is in omega (arith, within)

past-list : (plan : TestPlan) (place : ℕ) (fault : StuckAt) → listed plan place ≡ Some fault → length plan.faults < place → ⊥
past-list plan place fault is few = let within = slice_get_within plan.faults (place - 1) fault is in omega (arith, within, few)

module _ (design : FlatDesign) (plan : TestPlan) (place : ℕ) where
  -- a certificate is one text
  one-text : (one other : List ℕ) → IsCertificateText design plan place one → IsCertificateText design plan place other → one ≡ other
  one-text one other h d =
      let fault : h.fault ≡ d.fault = some-is h.fault d.fault (sym h.is_listed ∙ d.is_listed) in
      let line : h.line ≡ d.line = some-is h.line d.line (sym h.graded ∙ (ap (λ f. grade design plan f) fault ∙ d.graded)) in
      h.text_is ∙ ((λ i. certificate design plan (fault i) (line i)) ∙ sym d.text_is)

  pub text-told : (text : List ℕ) → IsCertificateText design plan place text → IsTheMeaning design plan place (Ok text)
  text-told text is = record { means = is; only = only }
    where
      only : (other : Result (List ℕ) CertifyFault) → Means design plan place other → other ≡ Ok text
      only (Ok other) m = ap (λ t. Ok t) (one-text other text m is)
      only (Err (NoFault number)) m = absurd (past-list plan place is.fault is.is_listed m.1)
      only (Err (GoodLoop time)) m = absurd (is.no_loop time m.1)
      only (Err NoMemory) m = absurd m

  pub none-told : length plan.faults < place → IsTheMeaning design plan place (Err (NoFault place))
  none-told few = record { means = (refl, few); only = only }
    where
      only : (other : Result (List ℕ) CertifyFault) → Means design plan place other → other ≡ Err (NoFault place)
      only (Ok other) m = absurd (past-list plan place m.fault m.is_listed few)
      only (Err (NoFault number)) m = ap (λ n. Err (NoFault n)) m.0
      only (Err (GoodLoop time)) m = let low : place ≤ length plan.faults = m.0 in absurd (omega (arith, low, few))
      only (Err NoMemory) m = absurd m

  pub loop-told : (time : ℕ) → place ≤ length plan.faults → LoopsAt design plan time → IsTheMeaning design plan place (Err (GoodLoop time))
  loop-told time low loops = record { means = (low, loops); only = only }
    where
      only : (other : Result (List ℕ) CertifyFault) → Means design plan place other → other ≡ Err (GoodLoop time)
      only (Ok other) m = absurd (m.no_loop time loops)
      only (Err (NoFault number)) m = let few : length plan.faults < place = m.1 in absurd (omega (arith, low, few))
      only (Err (GoodLoop other)) m = ap (λ t. Err (GoodLoop t)) (ap (time_or time) (sym m.1 ∙ loops))
      only (Err NoMemory) m = absurd m

  pub fault-told : (reason : CertifyFault) → (reason ≡ NoMemory) ⊎ IsFaultOf design plan place reason → (reason ≡ NoMemory) ⊎ IsTheMeaning design plan place (Err reason)
  fault-told (NoFault number) (inl want) = inl want
  fault-told (NoFault number) (inr is) = inr (told number is.0)
    where
      told : (n : ℕ) → n ≡ place → IsTheMeaning design plan place (Err (NoFault n))
      told n same = subst (λ k. IsTheMeaning design plan place (Err (NoFault k))) (sym same) (none-told is.1)
  fault-told (GoodLoop time) (inl want) = inl want
  fault-told (GoodLoop time) (inr is) = inr (loop-told time is.0 is.1)
  fault-told NoMemory told = inl refl
