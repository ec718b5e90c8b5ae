-- Calls that change nothing keep what is sound: those that declined, and looks. Assumes nothing.
use Rattle.std.proofs.Common.{◌≡◌, ℕ, false, cond, eqb, List, [], ◌∷◌, ◌++◌, Some, None, Option, sym, refl, ap, ◌∙◌, subst, inl, append-nil, arith}
use Rattle.std.proofs.lemmas.Grind.{common_steps}
use Rattle.std.proofs.lemmas.Bool.{cond_both}
use Rattle.port.specs.declared.directions.Direction.TheVariants.{Out}
use Rattle.pipes.specs.declared.answers.Answer.{Answer}
use Rattle.pipes.specs.declared.refusals.Refusal.{Refusal}
use Rattle.pipes.specs.Answers.{declined}
use Rattle.pipes.specs.Refusals.{refusal_number}
use Rattle.host.specs.Handing.{handed_over}
use Rattle.host.specs.Effects.{endpoint_at}
use Rattle.service.specs.Asks.{Ask, send_message, fetch_into, answers, brings}
use Rattle.service.specs.Serving.{State}
use Rattle.service.specs.Histories.{Event, History}
use Rattle.service.specs.Words.{Lead, succeeds, lead_of, Message, goes_to, message_of, messages_to, packets_of, by_size}
use Rattle.service.specs.Laws.{Took, more, SlipsAreTrue}
use Rattle.service.proofs.Recalls.{Inert, messages_more}
use Rattle.service.proofs.Sounds.{Sound}
use Rattle.service.proofs.Frames.{untouched}
use Rattle.service.proofs.Keeps.{still_sound, slips_stay}

-- no refusal has the number 0
pub not_zero : (why : Refusal) → eqb (refusal_number why) 0 ≡ false
not_zero why = grind (arith, common_steps)

-- a call that did not succeed, and brought no packet
pub inert_failed : (n : ℕ) (e : Event) (past : History) → succeeds e.reply ≡ false → packets_of n e.ask e.reply (lead_of n past) ≡ [] → Inert n e past
inert_failed n e past failed none = grind (arith, common_steps)

-- a reply that is not a fetch's brings no packet
pub no_packets : (n : ℕ) (ask : Ask) (a : Answer) (l : Option Lead) → packets_of n ask (answers a) l ≡ []
no_packets n ask a l = grind (arith, common_steps)

-- nor does a fetch that declined
none_over : (size : ℕ) (why : Refusal) (buffer : List ℕ) → handed_over size (declined why) buffer ≡ []
unfolding handed_over
none_over size why buffer = grind (arith, common_steps)

by_size_none : (l : Option Lead) (why : Refusal) (buffer : List ℕ) → by_size l (declined why) buffer ≡ []
by_size_none None why buffer = refl
by_size_none (Some l) why buffer = none_over l.size why buffer

fetched_none : (n m : ℕ) (buffer filled : List ℕ) (why : Refusal) (l : Option Lead) → packets_of n (fetch_into m buffer) (brings (declined why) filled) l ≡ []
fetched_none n m buffer filled why l = cond_both (eqb m n) (by_size l (declined why) filled) [] (λ x. x ≡ []) (λ _. by_size_none l why filled) (λ _. refl)

module _ (s : State) (past : History) (sound : Sound s past) where
  -- a call that sends nothing
  pub quiet_slips : (e : Event) → ((x y : ℕ) → message_of x y e.ask e.reply past ≡ []) → SlipsAreTrue (e ∷ past) s.bus
  quiet_slips e none = slips_stay 0 0 Out s.bus s.bus (untouched 0 0 Out s.bus sound.quiet) past e none (λ k. refl) sound.slips

  -- a call that declined, and is no send and no fetch
  pub declined_sound : (e : Event) (why : Refusal) → e.reply ≡ answers (declined why) → ((x y : ℕ) → message_of x y e.ask e.reply past ≡ []) → Sound s (e ∷ past)
  declined_sound e why is none =
      still_sound s past sound e
      (λ n. inert_failed n e past (ap succeeds is ∙ not_zero why) (ap (λ r. packets_of n e.ask r (lead_of n past)) is ∙ no_packets n e.ask (declined why) (lead_of n past)))
      (quiet_slips e none)

  -- a fetch that declined
  pub fetch_declined_sound : (e : Event) (m : ℕ) (buffer filled : List ℕ) (why : Refusal) → e.ask ≡ fetch_into m buffer → e.reply ≡ brings (declined why) filled → Sound s (e ∷ past)
  fetch_declined_sound e m buffer filled why asks is =
      still_sound s past sound e
      (λ n. inert_failed n e past (ap succeeds is ∙ not_zero why) ((λ i. packets_of n (asks i) (is i) (lead_of n past)) ∙ fetched_none n m buffer filled why (lead_of n past)))
      (quiet_slips e (λ x y. ap (λ a. message_of x y a e.reply past) asks))

  -- a send that declined: its message was sent with nothing taken of it
  pub send_declined_sound : (e : Event) (m : ℕ) (message : List ℕ) (why : Refusal) → e.ask ≡ send_message m message → e.reply ≡ answers (declined why) → Sound s (e ∷ past)
  send_declined_sound e m message why asks is =
      still_sound s past sound e
      (λ n. inert_failed n e past (ap succeeds is ∙ not_zero why) ((λ i. packets_of n (asks i) (is i) (lead_of n past))))
      (λ k within out.
      let x = (endpoint_at s.bus k).address in
      let y = (endpoint_at s.bus k).number in
      let taken = (endpoint_at s.bus k).taken in
      let h = sound.slips k within out in
      let msg : Message = record { bytes = message; answer = declined why } in
      let all : messages_to x y (e ∷ past) ≡ cond (goes_to x y (lead_of m past)) (msg ∷ []) [] ++ messages_to x y past = messages_more x y e past ∙ (λ i. message_of x y (asks i) (is i) past ++ messages_to x y past) in
      subst (λ l. Took l taken) (sym all)
      (cond_both (goes_to x y (lead_of m past)) (msg ∷ []) [] (λ l. Took (l ++ messages_to x y past) taken)
      (λ _. subst (Took (msg ∷ messages_to x y past)) (append-nil taken) (more msg 0 (inl refl) (omega arith) h))
      (λ _. h)))
