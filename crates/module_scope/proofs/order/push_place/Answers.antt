use Rattle.std.proofs.Common.{◌≡◌, ℕ, ◌<◌, List, [], ◌∷◌, ◌++◌, sym, ap, ◌∙◌, inl, inr, arith}
use Rattle.vf_base.specs.Lists.{has}
use Rattle.graph_order.specs.ListLaws.{has_push}
use Rattle.module_scope.specs.Below.{AreBelow}
use Rattle.module_scope.proofs.order.push_place.Goals as goal

more-below : (count : ℕ) (old new : List ℕ) (x : ℕ) → AreBelow count old → x < count → new ≡ old ++ x ∷ [] → AreBelow count new
more-below count old new x h low pushed = record {
  below = λ n e. elim (has_push old x n (sym (ap (λ (l : List ℕ). has l n) pushed) ∙ e)) [ inl before ↦ h.below n before | inr last ↦ omega (arith, low, last) ];
}

pub returns-in_ok-push-in-Some : goal.returns-in_ok-push-in-Some
returns-in_ok-push-in-Some c =
    more-below c.args.count c.args.needs.now.items c.push.new.self.items c.in-Some.place c.requires.needs
    (c.requires.places.below c.as_bytes.result.now c.in-Some.place (sym c.in-Some.ensures)) c.in_ok-push-in-Some.ensures.items
