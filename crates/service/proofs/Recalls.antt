-- What one call more does to the words of the promise: where pipes lead, what was handed over and what waited, which messages there are.
-- Assumes nothing.
use Rattle.std.proofs.Common.{arith, ◌≡◌, ℕ, true, false, ◌≢◌, [], ◌∷◌, ◌++◌, Some, None, refl, ap, ◌∙◌, append-nil}
use Rattle.std.proofs.lemmas.Grind.{common_steps}
use Rattle.service.specs.Asks.{Ask, open_pipe, send_message, fetch_into, recover_pipe, look_at, close_pipe}
use Rattle.service.specs.Histories.{Event, History}
use Rattle.service.specs.Words.{Lead, succeeds, opens, or_else, lead_of, message_of, messages_to, renews, packets_of, handed_since, waiting_there, waited_since}

module _ (n : ℕ) (e : Event) (past : History) where
  pub lead_same : opens n e.ask (succeeds e.reply) ≡ None → lead_of n (e ∷ past) ≡ lead_of n past
  unfolding lead_of
  lead_same h = ap (λ o. or_else o (lead_of n past)) h

  pub lead_new : (l : Lead) → opens n e.ask (succeeds e.reply) ≡ Some l → lead_of n (e ∷ past) ≡ Some l
  unfolding lead_of
  lead_new l h = ap (λ o. or_else o (lead_of n past)) h

  pub handed_more : renews n e ≡ false → handed_since n (e ∷ past) ≡ handed_since n past ++ packets_of n e.ask e.reply (lead_of n past)
  unfolding handed_since
  handed_more h = grind (arith, common_steps)

  pub handed_same : renews n e ≡ false → packets_of n e.ask e.reply (lead_of n past) ≡ [] → handed_since n (e ∷ past) ≡ handed_since n past
  handed_same h none = handed_more h ∙ ap (λ l. handed_since n past ++ l) none ∙ append-nil (handed_since n past)

  pub handed_none : renews n e ≡ true → handed_since n (e ∷ past) ≡ []
  unfolding handed_since
  handed_none h = grind (arith, common_steps)

  pub waited_same : renews n e ≡ false → waited_since n (e ∷ past) ≡ waited_since n past
  unfolding waited_since
  waited_same h = grind (arith, common_steps)

  pub waited_new : renews n e ≡ true → waited_since n (e ∷ past) ≡ waiting_there (lead_of n (e ∷ past)) e.bus
  unfolding waited_since
  waited_new h = grind (arith, common_steps)

pub messages_more : (a n : ℕ) (e : Event) (past : History) → messages_to a n (e ∷ past) ≡ message_of a n e.ask e.reply past ++ messages_to a n past
unfolding messages_to
messages_more a n e past = refl

-- the call tells nothing new of this pipe: it neither opens nor recovers it with success, nor hands over a packet of it
pub record Inert (n : ℕ) (e : Event) (past : History) : Type 0 where
  pub unopened : opens n e.ask (succeeds e.reply) ≡ None
  pub unrenewed : renews n e ≡ false
  pub unhanded : packets_of n e.ask e.reply (lead_of n past) ≡ []

-- the pipe that a call is about
abbrev pub pipe_of : Ask → ℕ
pipe_of (open_pipe n a e d size limit) = n
pipe_of (send_message n message) = n
pipe_of (fetch_into n buffer) = n
pipe_of (recover_pipe n) = n
pipe_of (look_at n) = n
pipe_of (close_pipe n) = n

module _ (n : ℕ) where
  -- a call about another pipe
  pub inert_elsewhere : (e : Event) (past : History) → n ≢ pipe_of e.ask → Inert n e past
  inert_elsewhere e past ne = grind (arith, common_steps)
