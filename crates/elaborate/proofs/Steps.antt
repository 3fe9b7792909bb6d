-- What each step of reading tells of the text (nothing of the language).
use Rattle.std.proofs.Common.{◌≡◌, ℕ, ◌<◌, List, Option, Some, None, Result, Ok, Err, refl, sym, ap, subst, ◌∙◌, ◌⊎◌, inl, inr, arith}
use Rattle.std.specs.Prelude.{◌≢◌}
use Rattle.v_design.specs.Designs.{FlatDesign}
use Rattle.v_tree.specs.Tokens.{SourceToken}
use Rattle.v_tree.specs.Trees.{Identifier, SourceUnit}
use Rattle.v_scan.specs.Texts as texts
use Rattle.v_scan.specs.declared.fault.ScanFault.{ScanFault}
use Rattle.v_scan.specs.declared.fault.ScanFault.TheVariants as scans
use Rattle.v_parse.specs.Spelling.{SpellsUnit}
use Rattle.v_parse.specs.Heights.{unit_height}
use Rattle.v_parse.specs.Refusals as units
use Rattle.v_parse.specs.declared.fault.ParseFault.{ParseFault}
use Rattle.v_parse.specs.declared.fault.ParseFault.TheVariants as parses
use Rattle.v_elab.specs.declared.Mode.{Mode}
use Rattle.v_elab.specs.Refusals.{Refusal}
use Rattle.v_elab.specs.Flat.{flat}
use Rattle.elaborate.specs.ElabFaults.{refusal_of, IsRefusal, IsElabFault}
use Rattle.elaborate.specs.declared.fault.ElabFault.{ElabFault}
use Rattle.elaborate.specs.declared.design_fault.DesignFault.{DesignFault}
use Rattle.elaborate.specs.declared.design_fault.DesignFault.TheVariants.{Scan, Parse, Elab, NoMemory}
use Rattle.elaborate.specs.Meanings.{IsUnitOf, HasNoUnit, Means, IsTheMeaning, scan_fault, parse_fault, elab_fault_if, elab_fault}
use Rattle.elaborate.proofs.Stops.{one-fault, no-fault}
use Rattle.elaborate.proofs.Refused.{one-refusal}

-- the answer is want of memory, or what the text means
abbrev pub Answers : List ℕ → Identifier → Mode → DesignFault → Type 0
Answers text top mode fault = (fault ≡ NoMemory) ⊎ IsTheMeaning text top mode (Err fault)

abbrev design_or : FlatDesign → Result FlatDesign Refusal → FlatDesign
design_or design (Ok other) = other
design_or design (Err refusal) = design

abbrev refusal_or : Refusal → Result FlatDesign Refusal → Refusal
refusal_or refusal (Ok design) = refusal
refusal_or refusal (Err other) = other

module _ (text : List ℕ) (top : Identifier) (mode : Mode) where
  -- Tokens

  scan-means : (fault : ScanFault) → texts.IsFault text fault → fault ≢ scans.NoMemory → ((tokens : List SourceToken) → texts.AreTokens text tokens → fault ≡ scans.NoMemory)
      → ((other : ScanFault) → texts.IsFault text other → other ≢ scans.NoMemory → (fault ≡ other) ⊎ (fault ≡ scans.NoMemory)) → IsTheMeaning text top mode (Err (Scan fault))
  scan-means fault is told each_text each_fault = record { means = (is, told); only = only }
    where
      same : (other : ScanFault) → (fault ≡ other) ⊎ (fault ≡ scans.NoMemory) → ◌≡◌ {A = Result FlatDesign DesignFault} (Err (Scan other)) (Err (Scan fault))
      same other (inl e) = ap (λ f. Err (Scan f)) (sym e)
      same other (inr e) = absurd (told e)

      only : (other : Result FlatDesign DesignFault) → Means text top mode other → other ≡ Err (Scan fault)
      only (Ok design) m = absurd (told (each_text m.spelled.tokens m.spelled.are))
      only (Err (Scan other)) m = same other (each_fault other m.0 m.1)
      only (Err (Parse other)) m = absurd (told (each_text m.0.tokens m.0.are))
      only (Err (Elab other)) m = absurd (told (each_text m.spelled.tokens m.spelled.are))
      only (Err NoMemory) m = absurd m

  pub scan-told : (fault : ScanFault) → texts.IsFault text fault → ((tokens : List SourceToken) → texts.AreTokens text tokens → fault ≡ scans.NoMemory)
      → ((other : ScanFault) → texts.IsFault text other → other ≢ scans.NoMemory → (fault ≡ other) ⊎ (fault ≡ scans.NoMemory)) → Answers text top mode (scan_fault fault)
  scan-told (scans.BadByte place) is each_text each_fault = inr (scan-means (scans.BadByte place) is (λ e. cc) each_text each_fault)
  scan-told (scans.BadNumber place) is each_text each_fault = inr (scan-means (scans.BadNumber place) is (λ e. cc) each_text each_fault)
  scan-told (scans.Unclosed place) is each_text each_fault = inr (scan-means (scans.Unclosed place) is (λ e. cc) each_text each_fault)
  scan-told scans.TooLong is each_text each_fault = inr (scan-means scans.TooLong is (λ e. cc) each_text each_fault)
  scan-told scans.NoMemory is each_text each_fault = inl refl

  -- What tokens spell

  module _ (tokens : List SourceToken) (are : texts.AreTokens text tokens) (one : (other : List SourceToken) → texts.AreTokens text other → tokens ≡ other)
      (none : (fault : ScanFault) → texts.IsFault text fault → fault ≢ scans.NoMemory → ⊥) where
    spelled-here : (u : SourceUnit) → IsUnitOf text u → SpellsUnit u tokens
    spelled-here u h = subst (SpellsUnit u) (sym (one h.tokens h.are)) h.spelled

    stops-here : (fault : ParseFault) → HasNoUnit text fault → units.IsFault 255 tokens fault
    stops-here fault h = subst (λ ts. units.IsFault 255 ts fault) (sym (one h.tokens h.are)) h.stops

    parse-means : (fault : ParseFault) → units.IsFault 255 tokens fault → fault ≢ parses.NoMemory → ((u : SourceUnit) → SpellsUnit u tokens → unit_height u < 256 → fault ≡ parses.NoMemory)
        → IsTheMeaning text top mode (Err (Parse fault))
    parse-means fault is told each = record { means = (record { tokens = tokens; are = are; stops = is }, told); only = only }
      where
        only : (other : Result FlatDesign DesignFault) → Means text top mode other → other ≡ Err (Parse fault)
        only (Ok design) m = absurd (told (each m.unit (spelled-here m.unit m.spelled) m.spelled.within))
        only (Err (Scan other)) m = absurd (none other m.0 m.1)
        only (Err (Parse other)) m = ap (λ f. Err (Parse f)) (one-fault 255 tokens other fault (stops-here other m.0) is m.1 told)
        only (Err (Elab other)) m = absurd (told (each m.unit (spelled-here m.unit m.spelled) m.spelled.within))
        only (Err NoMemory) m = absurd m

    pub parse-told : (fault : ParseFault) → units.IsFault 255 tokens fault → ((u : SourceUnit) → SpellsUnit u tokens → unit_height u < 256 → fault ≡ parses.NoMemory) →
        Answers text top mode (parse_fault fault)
    parse-told (parses.Unexpected place) is each = inr (parse-means (parses.Unexpected place) is (λ e. cc) each)
    parse-told (parses.Unsupported place) is each = inr (parse-means (parses.Unsupported place) is (λ e. cc) each)
    parse-told (parses.TooDeep place) is each = inr (parse-means (parses.TooDeep place) is (λ e. cc) each)
    parse-told parses.NoMemory is each = inl refl

    -- What the unit means

    module _ (u : SourceUnit) (spelled : SpellsUnit u tokens) (low : unit_height u < 256) (only_unit : (other : SourceUnit) → SpellsUnit other tokens → unit_height other < 256 → u ≡ other) where
      unit-is : IsUnitOf text u
      unit-is = record { tokens = tokens; are = are; spelled = spelled; within = low }

      flat-here : (other : SourceUnit) (answer : Result FlatDesign Refusal) → IsUnitOf text other → flat other top mode ≡ answer → flat u top mode ≡ answer
      flat-here other answer h e = ap (λ v. flat v top mode) (only_unit other (spelled-here other h) h.within) ∙ e

      never-parse : (fault : ParseFault) → HasNoUnit text fault → fault ≢ parses.NoMemory → ⊥
      never-parse fault h m = no-fault 255 tokens u fault spelled (omega (arith, low)) (stops-here fault h) m

      ok-is : (one other : FlatDesign) → ◌≡◌ {A = Result FlatDesign Refusal} (Ok one) (Ok other) → one ≡ other
      ok-is one other e = ap (design_or one) e

      err-is : (one other : Refusal) → ◌≡◌ {A = Result FlatDesign Refusal} (Err one) (Err other) → one ≡ other
      err-is one other e = ap (refusal_or one) e

      pub design-told : (design : FlatDesign) → flat u top mode ≡ Ok design → IsTheMeaning text top mode (Ok design)
      design-told design e = record { means = record { unit = u; spelled = unit-is; flat_is = e }; only = only }
        where
          only : (other : Result FlatDesign DesignFault) → Means text top mode other → other ≡ Ok design
          only (Ok other) m = ap (λ d. Ok d) (ok-is other design (sym (flat-here m.unit (Ok other) m.spelled m.flat_is) ∙ e))
          only (Err (Scan other)) m = absurd (none other m.0 m.1)
          only (Err (Parse other)) m = absurd (never-parse other m.0 m.1)
          only (Err (Elab other)) m = let same : ◌≡◌ {A = Result FlatDesign Refusal} (Ok design) (Err m.refusal) = sym e ∙ flat-here m.unit (Err m.refusal) m.spelled m.refused in absurd (cc)
          only (Err NoMemory) m = absurd m

      elab-means : (fault : ElabFault) (refusal : Refusal) → refusal_of fault ≡ Some refusal → flat u top mode ≡ Err refusal → IsTheMeaning text top mode (Err (Elab fault))
      elab-means fault refusal told e = record { means = record { unit = u; spelled = unit-is; refusal = refusal; told = told; refused = e }; only = only }
        where
          only : (other : Result FlatDesign DesignFault) → Means text top mode other → other ≡ Err (Elab fault)
          only (Ok other) m = let same : ◌≡◌ {A = Result FlatDesign Refusal} (Err refusal) (Ok other) = sym e ∙ flat-here m.unit (Ok other) m.spelled m.flat_is in absurd (cc)
          only (Err (Scan other)) m = absurd (none other m.0 m.1)
          only (Err (Parse other)) m = absurd (never-parse other m.0 m.1)
          only (Err (Elab other)) m =
              let same : m.refusal ≡ refusal = err-is m.refusal refusal (sym (flat-here m.unit (Err m.refusal) m.spelled m.refused) ∙ e) in
              ap (λ f. Err (Elab f)) (one-refusal other fault (m.told ∙ ap (λ r. Some r) same ∙ sym told))
          only (Err NoMemory) m = absurd m

      pub elab-told : (fault : ElabFault) → IsElabFault (flat u top mode) fault → Answers text top mode (elab_fault fault)
      elab-told fault is = by (refusal_of fault) refl is
        where
          by : (reason : Option Refusal) → refusal_of fault ≡ reason → IsRefusal (flat u top mode) reason → Answers text top mode (elab_fault_if fault reason)
          by None e h = inl refl
          by (Some refusal) e h = inr (elab-means fault refusal e h)
