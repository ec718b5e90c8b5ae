-- What an endpoint makes of one IN, whatever the fate: the five replies. Assumes nothing.
use Rattle.std.proofs.Common.{◌≡◌, ℕ, ◌<◌, ◌≤◌, Bool, true, false, cond, ltb, List, [], ◌∷◌, length, refl, arith}
use Rattle.std.proofs.lemmas.Bool.{cond_both, ltb-true}
use Rattle.port.specs.declared.fates.Fate.{Fate}
use Rattle.port.specs.declared.fates.Fate.TheVariants.{Arrives, Lost, Unheard, Nak, Stall}
use Rattle.port.specs.declared.toggles.Toggle.{Toggle}
use Rattle.port.specs.Fates.{Real}
use Rattle.port.specs.Toggles.{agree}
use Rattle.port.specs.Endpoints.{Endpoint, halt, handed}
use Rattle.port.specs.Reactions.{Met, met, in_reaches, in_met}

-- a first packet and others
pub record Waits (packets : List (List ℕ)) : Type 0 where
  pub packet : List ℕ
  pub later : List (List ℕ)
  pub split : packets ≡ packet ∷ later

waits : (packets : List (List ℕ)) → 0 < length packets → Waits packets
waits [] h = absurd (omega arith)
waits (p ∷ ps) h = record { packet = p; later = ps; split = refl }

-- the first packet comes, and the device goes on to the next or keeps it; or one comes that came before, and the device goes on; or
-- nothing comes, and the device is as it was, but perhaps halted
pub data InReply (toggle : Toggle) (e : Endpoint) : Met → Type 0 where
  came : agree toggle e.toggle ≡ true → Waits e.waiting → InReply toggle e (met 0 (handed e))
  came_kept : agree toggle e.toggle ≡ true → Waits e.waiting → InReply toggle e (met 0 e)
  again : agree toggle e.toggle ≡ false → Waits e.waiting → InReply toggle e (met 6 (handed e))
  nothing : (code : ℕ) → 1 ≤ code → InReply toggle e (met code e)
  stalled : InReply toggle e (met 5 (halt e))

module _ (toggle : Toggle) (e : Endpoint) where
  waiting_reply : (heard : Bool) → Waits e.waiting → InReply toggle e (met (cond (agree toggle e.toggle) 0 6) (cond heard (handed e) e))
  waiting_reply true w =
      cond_both (agree toggle e.toggle) 0 6 (λ code. InReply toggle e (met code (handed e))) (λ same. came same w) (λ other. again other w)
  waiting_reply false w =
      cond_both (agree toggle e.toggle) 0 6 (λ code. InReply toggle e (met code e)) (λ same. came_kept same w) (λ _. nothing 6 (omega arith))

  reached : (heard : Bool) → InReply toggle e (in_reaches heard toggle e)
  reached heard =
      let P : Met → Type 0 = InReply toggle e in
      cond_both e.halted (met 5 e) _ P (λ _. nothing 5 (omega arith)) λ _.
      cond_both (ltb 0 (length e.waiting)) (met (cond (agree toggle e.toggle) 0 6) (cond heard (handed e) e)) (met 4 e) P
      (λ h. waiting_reply heard (waits e.waiting (ltb-true 0 (length e.waiting) h)))
      (λ _. nothing 4 (omega arith))

  pub in_reply : (fate : Fate) → Real fate → InReply toggle e (in_met fate toggle e)
  in_reply Arrives r = reached true
  in_reply (Lost code) r = nothing code (let h = r.0 in omega arith)
  in_reply (Unheard code) r = reached false
  in_reply Nak r = nothing 4 (omega arith)
  in_reply Stall r = stalled
