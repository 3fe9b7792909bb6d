-- The lines of the picked strobes so far, and the fault of each.
use Rattle.std.proofs.Common.{◌≡◌, ℕ, zero, suc, ◌+◌, ◌<◌, ◌≤◌, List, [], ◌∷◌, ◌++◌, Bool, true, false, map, length, get_or, take, refl, sym, ap, subst, ◌∙◌, arith, append_assoc, append-nil, take_all}
use Rattle.std.specs.Prelude.{Option, Some, option_map, slice_get, find, cond, count_by, codes}
use Rattle.std.specs.List.{AllZip, zip, fold}
use Rattle.std.proofs.lemmas.List.{map_more, length-map, get_or-map}
use Rattle.std.proofs.lemmas.Option.{slice_get-get_or}
use Rattle.std.proofs.lemmas.Slice.Zip.{AllZip-long}
use Rattle.vf_base.specs.Base.{fault_number}
use Rattle.vf_base.specs.Lists.{joined}
use Rattle.v_design.specs.Expressions.{up_from}
use Rattle.v_design.specs.Designs.{FlatDesign, StuckAt}
use Rattle.v_design.specs.Plain.{fault_of}
use Rattle.v_design.specs.declared.plan.Fault.{Fault}
use Rattle.strobe_detect.specs.declared.hard.Hard.{Hard}
use Rattle.pick_laws.specs.Kept.{kept_strobes, needs}
use Rattle.vf_pick.specs.Faults.{lists_of, AreInOrder}
use Rattle.vf_pick.specs.Picks.{StandsFor, ArePicked}
use Rattle.vf_pick.specs.Texts.{fault_needing, strobe_line, strobe_text, has_strobe, pick_total, strobe_lines, pick_text}
use Rattle.vf_pick.specs.declared.picking.Picked.{Picked}

-- The fault of a picked strobe

-- the first fault that needs a strobe, by its place in the list
record Needs (faults : List StuckAt) (hard : List Hard) (kept : List ℕ) (strobe number : ℕ) (one : Hard) : Type 0 where
  place : ℕ
  at : fault_number one.fault ≡ number + place
  low : place < length faults
  is : fault_needing kept strobe faults (lists_of hard) ≡ slice_get faults place

heads : (x y : ℕ) (xs ys : List ℕ) → x ∷ xs ≡ y ∷ ys → (x ≡ y) × (xs ≡ ys)
heads x y xs ys e = (cc, cc)

some-hard : (one other : Hard) → Some one ≡ Some other → one ≡ other
some-hard one other e = cc

-- the faults that need a strobe, of some and those behind them
abbrev needing_if : Bool → StuckAt → List ℕ → List ℕ → ℕ → List StuckAt → List (List ℕ) → Option StuckAt
needing_if b fault times kept strobe faults hard =
    option_map (λ (pair : StuckAt × List ℕ). pair.0) (cond b (Some (fault, times)) (find (λ (pair : StuckAt × List ℕ). needs kept strobe pair.1) (zip faults hard)))

needing : (kept : List ℕ) (strobe number : ℕ) (faults : List StuckAt) (hard : List Hard) (one : Hard) → map (λ (h : Hard). fault_number h.fault) hard ≡ up_from number (length faults) →
    find (λ (other : Hard). needs kept strobe other.times) hard ≡ Some one → Needs faults hard kept strobe number one
needing kept strobe number faults [] one e f = cc
needing kept strobe number [] (h ∷ hard) one e f = cc
needing kept strobe number (fault ∷ faults) (h ∷ hard) one e f =
    let parts = heads (fault_number h.fault) number (map (λ (o : Hard). fault_number o.fault) hard) (up_from (number + 1) (length faults)) e in
    go (needs kept strobe h.times) refl f parts.0 (λ g. needing kept strobe (number + 1) faults hard one parts.1 g)
  where
    go : (b : Bool) → needs kept strobe h.times ≡ b → cond b (Some h) (find (λ (other : Hard). needs kept strobe other.times) hard) ≡ Some one → fault_number h.fault ≡ number →
        (find (λ (other : Hard). needs kept strobe other.times) hard ≡ Some one → Needs faults hard kept strobe (number + 1) one) → Needs (fault ∷ faults) (h ∷ hard) kept strobe number one
    go true b g here rest =
        let same : fault_number one.fault ≡ number = ap (λ (o : Hard). fault_number o.fault) (sym (some-hard h one g)) ∙ here in record {
          place = 0;
          at = omega (arith, same);
          low = omega arith;
          is = ap (λ t. needing_if t fault h.times kept strobe faults (lists_of hard)) b;
        }
    go false b g here rest =
        let later = rest g in record {
          place = suc later.place;
          at = omega (arith, later.at);
          low = omega (arith, later.low);
          is = ap (λ t. needing_if t fault h.times kept strobe faults (lists_of hard)) b ∙ later.is;
        }

zip-at : {A B : Type 0} (R : A → B → Type 0) (xs : List A) (ys : List B) (i : ℕ) (d : A) (e : B) → AllZip R xs ys → i < length ys → (i < length xs) × R (get_or xs i d) (get_or ys i e)
zip-at R [] [] i d e h low = absurd (omega (arith, low))
zip-at R [] (y ∷ ys) i d e h low = absurd h
zip-at R (x ∷ xs) [] i d e h low = absurd h
zip-at R (x ∷ xs) (y ∷ ys) zero d e h low = (omega arith, h.0)
zip-at R (x ∷ xs) (y ∷ ys) (suc i) d e h low = let rest = zip-at R xs ys i d e h.1 (omega (arith, low)) in (omega (arith, rest.0), rest.1)

-- a picked strobe's fault is listed, and is the one of its line
pub record IsOf (design : FlatDesign) (faults : List Fault) (hard : List Hard) (kept : List ℕ) (i : ℕ) (picked : Picked) : Type 0 where
  pub within : i < length kept
  pub low : fault_number picked.fault < length faults
  pub line : (d : Fault) →
      strobe_text design (get_or kept i 0) (fault_needing kept (get_or kept i 0) (map fault_of faults) (lists_of hard))
      ≡ strobe_line design picked.time (fault_of (get_or faults (fault_number picked.fault) d))

pub picked-at : (design : FlatDesign) (faults own : List Fault) (hard : List Hard) (kept : List ℕ) (picked : List Picked) (i : ℕ) (e : Picked) → faults ≡ own →
    AreInOrder (length (map fault_of own)) hard → AllZip (StandsFor hard kept) kept picked → i < length picked → IsOf design faults hard kept i (get_or picked i e)
picked-at design faults own hard kept picked i e same order all low =
    let here = zip-at (StandsFor hard kept) kept picked i 0 e all low in
    let strobe : ℕ = get_or kept i 0 in
    let one : Picked = get_or picked i e in
    let first = needing kept strobe 0 (map fault_of faults) hard here.1.1.0 (subst (λ (fs : List Fault). AreInOrder (length (map fault_of fs)) hard) (sym same) order) here.1.1.1 in
    let long = length-map faults fault_of in
    let place : fault_number one.fault ≡ first.place = ap fault_number here.1.1.2 ∙ first.at ∙ zero-plus first.place in
    record {
      within = here.0;
      low = omega (arith, first.low, long, place);
      line = λ d.
          ap (strobe_text design strobe)
          (first.is ∙ (slice_get-get_or (map fault_of faults) first.place (fault_of d) first.low
          ∙ ap Some (get_or-map fault_of faults first.place d (fault_of d) (omega (arith, first.low, long)) ∙ ap (λ k. fault_of (get_or faults k d)) (sym place))))
          ∙ ap (λ t. strobe_line design t (fault_of (get_or faults (fault_number one.fault) d))) (sym here.1.0);
    }
  where
    zero-plus : (n : ℕ) → 0 + n ≡ n
    zero-plus n = omega arith

-- Lines

joined-push : (xs : List (List ℕ)) (x : List ℕ) → joined (xs ++ x ∷ []) ≡ joined xs ++ x
joined-push [] x = append-nil x
joined-push (y ∷ xs) x = ap (λ l. y ++ l) (joined-push xs x) ∙ sym (append_assoc y (joined xs) x)

-- one more line
pub lines-more : (f : ℕ → List ℕ) (strobes : List ℕ) (i : ℕ) (base out more line : List ℕ) → i < length strobes → out ≡ base ++ joined (map f (take i strobes)) → more ≡ out ++ line →
    f (get_or strobes i 0) ≡ line → more ≡ base ++ joined (map f (take (i + 1) strobes))
lines-more f strobes i base out more line low had added is =
    let so_far : List ℕ = joined (map f (take i strobes)) in
    let grown : joined (map f (take (i + 1) strobes)) ≡ so_far ++ line =
    ap joined (map_more f strobes i 0 low) ∙ (joined-push (map f (take i strobes)) (f (get_or strobes i 0)) ∙ ap (λ l. so_far ++ l) is) in
    added ∙ (ap (λ l. l ++ line) had ∙ (append_assoc base so_far line ∙ ap (λ l. base ++ l) (sym grown)))

-- after the last line come the totals
lines-done : (f : ℕ → List ℕ) (strobes : List ℕ) (i : ℕ) (base out text total : List ℕ) → length strobes ≤ i → out ≡ base ++ joined (map f (take i strobes)) → text ≡ out ++ total →
    text ≡ base ++ (joined (map f strobes) ++ total)
lines-done f strobes i base out text total past had added =
    added ∙ (ap (λ l. l ++ total) (had ∙ ap (λ l. base ++ joined (map f l)) (take_all i strobes past)) ∙ append_assoc base (joined (map f strobes)) total)

-- Totals

counted-from : (n : ℕ) (hard : List Hard) →
    fold (λ (a : ℕ) (one : Hard). a + cond (has_strobe one.times) 1 0) n hard ≡ fold (λ (a : ℕ) (times : List ℕ). a + cond (has_strobe times) 1 0) n (lists_of hard)
counted-from n [] = refl
counted-from n (one ∷ hard) = counted-from (n + cond (has_strobe one.times) 1 0) hard

-- the whole text
pub text-done : (design : FlatDesign) (faults own : List Fault) (hard : List Hard) (strobes seen : List ℕ) (picked : List Picked) (i detected : ℕ) (out text : List ℕ) →
    faults ≡ own → seen ≡ strobes → ArePicked strobes hard picked → length picked ≤ i → detected ≡ count_by (λ (one : Hard). has_strobe one.times) hard →
    out ≡ (codes "vfault pick 1" ++ 10 ∷ []) ++ strobe_lines design (map fault_of faults) (lists_of hard) (kept_strobes (lists_of hard) strobes) (take i (kept_strobes (lists_of hard) strobes)) →
    text ≡ out ++ pick_total (length seen) (length picked) detected → text ≡ pick_text design (map fault_of own) strobes (lists_of hard)
text-done design faults own hard strobes seen picked i detected out text same_faults same_strobes all past counted had added =
    let kept : List ℕ = kept_strobes (lists_of hard) strobes in
    let long : length picked ≡ length kept = AllZip-long (StandsFor hard kept) kept picked all in
    let total : pick_total (length seen) (length picked) detected ≡ pick_total (length strobes) (length kept) (count_by has_strobe (lists_of hard)) =
    λ k. pick_total (length (same_strobes k)) (long k) ((counted ∙ counted-from 0 hard) k) in
    lines-done (λ strobe. strobe_text design strobe (fault_needing kept strobe (map fault_of own) (lists_of hard))) kept i (codes "vfault pick 1" ++ 10 ∷ []) out text
    (pick_total (length strobes) (length kept) (count_by has_strobe (lists_of hard))) (omega (arith, past, long))
    (had ∙ ap (λ (fs : List Fault). (codes "vfault pick 1" ++ 10 ∷ []) ++ strobe_lines design (map fault_of fs) (lists_of hard) kept (take i kept)) same_faults)
    (added ∙ ap (λ l. out ++ l) total)
