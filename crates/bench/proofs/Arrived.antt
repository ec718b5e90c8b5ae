-- Under a fate that a byte can stand for, an IN brings a packet just where its result is 0. Assumes nothing.
use Rattle.std.proofs.Common.{◌≡◌, ℕ, false, cond, eqb, ltb, List, length, sym, refl, ap, ◌∙◌, arith}
use Rattle.std.proofs.lemmas.Bool.{cond_both, ne_eqb}
use Rattle.port.specs.declared.fates.Fate.{Fate}
use Rattle.port.specs.declared.fates.Fate.TheVariants.{Arrives, Lost, Unheard, Nak, Stall}
use Rattle.port.specs.declared.toggles.Toggle.{Toggle}
use Rattle.port.specs.Devices.{Devices}
use Rattle.port.specs.Fates.{Real}
use Rattle.port.specs.Reactions.{Outcome, outcome, in_at, at_place, in_outcome}
use Rattle.devices.specs.Arrivals.{brings}

not_0 : (f : Devices → ℕ → Outcome) (d : Devices) (i : ℕ) → eqb (f d i).code 0 ≡ false → eqb (at_place f d i).code 0 ≡ false
unfolding at_place
not_0 f d i h = cond_both (ltb i (length d.endpoints)) (f d i) (outcome 14 d) (λ o. eqb o.code 0 ≡ false) (λ _. h) λ _. refl

module _ (address : ℕ) (d : Devices) (number : ℕ) (toggle : Toggle) (code : ℕ) where
  same_test : (fate : Fate) → Real fate → code ≡ (in_outcome address fate d number toggle).code → brings fate code ≡ eqb code 0
  same_test Arrives r e = refl
  same_test (Lost n) r e = sym (ap (λ m. eqb m 0) e ∙ not_0 (in_at (Lost n) toggle) d _ (ne_eqb n 0 (λ z. omega arith)))
  same_test (Unheard n) r e = refl
  same_test Nak r e = sym (ap (λ m. eqb m 0) e ∙ not_0 (in_at Nak toggle) d _ refl)
  same_test Stall r e = sym (ap (λ m. eqb m 0) e ∙ not_0 (in_at Stall toggle) d _ refl)

  pub arrived : (fate : Fate) → Real fate → code ≡ (in_outcome address fate d number toggle).code → (bytes before after : List ℕ) → after ≡ cond (brings fate code) bytes before → after ≡ cond (eqb code 0) bytes before
  arrived fate r e bytes before after h = h ∙ ap (λ b. cond b bytes before) (same_test fate r e)
