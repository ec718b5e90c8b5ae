-- What a tap keeps of an exchange. Assumes nothing.
use Rattle.std.specs.Prelude.{◌≡◌, ℕ, List, [], ◌∷◌, ◌++◌, ◌⊎◌}
use Rattle.analyser.specs.declared.exchanges.Exchange.{Exchange}

-- one exchange more, of just these bytes, behind those before it
pub record OneMore (sent answered : List ℕ) (before after : List Exchange) : Type 0 where
  pub kept : Exchange
  pub sent_bytes : kept.sent.items ≡ sent
  pub answered_bytes : kept.answered.items ≡ answered
  pub behind : after ≡ before ++ (kept ∷ [])

-- that, or the same as before
abbrev pub OneMoreOrNone : List ℕ → List ℕ → List Exchange → List Exchange → Type 0
OneMoreOrNone sent answered before after = (OneMore sent answered before after) ⊎ (after ≡ before)
