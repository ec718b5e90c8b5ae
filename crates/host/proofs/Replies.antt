-- What an endpoint that is not halted makes of one packet, whatever the fate: the six replies. Assumes nothing.
use Rattle.std.proofs.Common.{◌≡◌, ℕ, ◌+◌, ◌≤◌, true, false, not, ltb, List, length}
use Rattle.std.proofs.lemmas.Bool.{cond_both, both_ways, not-true, not-false}
use Rattle.port.specs.declared.fates.Fate.{Fate}
use Rattle.port.specs.declared.fates.Fate.TheVariants.{Arrives, Lost, Unheard, Nak, Stall}
use Rattle.port.specs.declared.toggles.Toggle.{Toggle}
use Rattle.port.specs.Fates.{Real}
use Rattle.port.specs.Toggles.{agree}
use Rattle.port.specs.Endpoints.{Endpoint, halt, took}
use Rattle.port.specs.Reactions.{Met, met, out_reaches, out_met}

pub data Reply (toggle : Toggle) (bytes : List ℕ) (e : Endpoint) : Met → Type 0 where
  taken : agree toggle e.toggle ≡ true → Reply toggle bytes e (met 0 (took bytes e))
  repeated : agree toggle e.toggle ≡ false → Reply toggle bytes e (met 0 e)
  busy : Reply toggle bytes e (met 4 e)
  stalled : Reply toggle bytes e (met 5 (halt e))
  lost : (code : ℕ) → 7 ≤ code → Reply toggle bytes e (met code e)
  unheard_taken : (code : ℕ) → 7 ≤ code → agree toggle e.toggle ≡ true → Reply toggle bytes e (met code (took bytes e))

module _ (toggle : Toggle) (bytes : List ℕ) (e : Endpoint) (live : e.halted ≡ false) where
  reached : Reply toggle bytes e (out_reaches toggle bytes e)
  reached =
      let P : Met → Type 0 = Reply toggle bytes e in
      cond_both e.halted (met 5 e) _ P (λ h. absurd (both_ways e.halted live h)) λ _.
      cond_both (not (agree toggle e.toggle)) (met 0 e) _ P (λ h. repeated (not-true (agree toggle e.toggle) h)) λ same.
      cond_both (ltb e.capacity (length e.taken + length bytes)) (met 4 e) (met 0 (took bytes e)) P (λ _. busy) λ _.
      taken (not-false (agree toggle e.toggle) same)

  reached_unheard : (code : ℕ) → 7 ≤ code → Reply toggle bytes e (met code (out_reaches toggle bytes e).endpoint)
  reached_unheard code h =
      let P : Met → Type 0 = λ m. Reply toggle bytes e (met code m.endpoint) in
      cond_both e.halted (met 5 e) _ P (λ x. absurd (both_ways e.halted live x)) λ _.
      cond_both (not (agree toggle e.toggle)) (met 0 e) _ P (λ _. lost code h) λ same.
      cond_both (ltb e.capacity (length e.taken + length bytes)) (met 4 e) (met 0 (took bytes e)) P (λ _. lost code h) λ _.
      unheard_taken code h (not-false (agree toggle e.toggle) same)

  pub reply : (fate : Fate) → Real fate → Reply toggle bytes e (out_met fate toggle bytes e)
  reply Arrives r = reached
  reply (Lost code) r = lost code r.0
  reply (Unheard code) r = reached_unheard code r.0
  reply Nak r = busy
  reply Stall r = stalled
