-- The promise over every list of calls: what is sound at first stays sound, and the laws hold after each call. Assumes nothing.
use Rattle.std.proofs.Common.{◌≡◌, ℕ, zero, suc, ◌≤◌, List, [], ◌∷◌, ◌++◌, length, take, None, sym, refl, ap, ◌∙◌, subst, arith}
use Rattle.std.proofs.lemmas.Grind.{common_steps}
use Rattle.std.proofs.ByRecursion.{All-get_or}
use Rattle.std.proofs.lemmas.List.{take_all}
use Rattle.port.specs.Endpoints.{nowhere, FreshEndpoint}
use Rattle.port.specs.Bus.{Bus, Fresh}
use Rattle.pipes.specs.Tables.{pipe_at, unused}
use Rattle.pipes.specs.Checks.{open_refusal, present, admit_send, admit_fetch, admit_recover}
use Rattle.service.specs.Asks.{Ask, open_pipe, send_message, fetch_into, recover_pipe, look_at, close_pipe, Reply}
use Rattle.service.specs.Serving.{State, state, step, replies, at_the_end}
use Rattle.service.specs.Histories.{History, event, going_on, history}
use Rattle.service.specs.Words.{messages_to, handed_since, waited_since}
use Rattle.service.specs.Laws.{Took, nothing, LabelsAreTrue, Laws, Kept, Promised, PromisedOnward, story, SlipsAfter, TogglesAfter, EverySlipIsTrue, EveryLabelIsTrue, EveryToggleShownIsTrue}
use Rattle.service.proofs.Sounds.{Sound}
use Rattle.service.proofs.Keeps.{still_sound}
use Rattle.service.proofs.Declines.{inert_failed, quiet_slips}
use Rattle.service.proofs.Closes.{close_sound}
use Rattle.service.proofs.Opens.{open_sound}
use Rattle.service.proofs.Recovers.{recover_sound}
use Rattle.service.proofs.Sends.{send_sound}
use Rattle.service.proofs.Fetches.{fetch_sound}
use Rattle.service.proofs.Shown.{laws_hold}

-- every call keeps what is sound
pub step_sound : (s : State) (past : History) → Sound s past → (ask : Ask) → Sound (step s ask).state (event ask (step s ask).reply (step s ask).state ∷ past)
step_sound s past sound (open_pipe n a e d size limit) = open_sound s past sound n a e d size limit (open_refusal s.places n a e d size limit) refl
step_sound s past sound (send_message n message) = send_sound s past sound n message (admit_send s.places n (length message)) refl
step_sound s past sound (fetch_into n buffer) = fetch_sound s past sound n buffer (admit_fetch s.places n (length buffer)) refl
step_sound s past sound (recover_pipe n) = recover_sound s past sound n (admit_recover s.places n) refl
step_sound s past sound (look_at n) =
    let e = event (look_at n) (step s (look_at n)).reply s in
    still_sound s past sound e (λ m. inert_failed m e past refl refl) (quiet_slips s past sound e (λ x y. refl))
step_sound s past sound (close_pipe n) = close_sound s past sound n (present s.places n) refl

none_there : (n : ℕ) → pipe_at unused n ≡ None
none_there n = grind (arith, common_steps)

-- an unused host on a fresh port
pub fresh_sound : (b : Bus) → Fresh b → Sound (state unused b) []
unfolding messages_to handed_since waited_since
fresh_sound b fresh =
    record {
      quiet = record { no_sending = ap (λ c. c.sending) fresh.chip_fresh; no_setup = ap (λ c. c.setup) fresh.chip_fresh; none_received = ap (λ c. c.received) fresh.chip_fresh };
      wide = (let l : length unused ≡ 8 = refl in omega arith);
      distinct = fresh.endpoints_formed.distinct;
      apart = λ i j p q ne there _. let none = none_there i in cc;
      pipes = λ n p there. let none = none_there n in cc;
      slips = λ k within out. subst (Took []) (sym (All-get_or FreshEndpoint b.devices.endpoints k nowhere within fresh.endpoints_fresh)) nothing;
      labels = λ n. ([], refl);
    }

-- the laws hold after every number of the calls that are left
keeps_on : (asks : List Ask) (s : State) (past : History) → Sound s past → Laws past → (k : ℕ) → k ≤ length asks → Laws (going_on past s (take k asks) (take k (replies s asks)))
unfolding going_on replies
keeps_on [] s past sound laws zero h = laws
keeps_on [] s past sound laws (suc k) h = absurd (omega arith)
keeps_on (ask ∷ asks) s past sound laws zero h = laws
keeps_on (ask ∷ asks) s past sound laws (suc k) h =
    let next = step_sound s past sound ask in
    keeps_on asks (step s ask).state (event ask (step s ask).reply (step s ask).state ∷ past) next (laws_hold (step s ask).state _ next ask (step s ask).reply) k (omega arith)

replies_long : (s : State) (asks : List Ask) → length (replies s asks) ≡ length asks
unfolding replies
replies_long s [] = refl
replies_long s (ask ∷ asks) = ap suc (replies_long (step s ask).state asks)

pub promised : (s : State) (asks : List Ask) (given : List Reply) → given ≡ replies s asks → Promised s asks given
promised s asks given is unused_at_first fresh =
    subst (Kept s asks) (sym is)
    (λ k h. keeps_on asks s [] (subst (λ places. Sound (state places s.bus) []) (sym unused_at_first) (fresh_sound s.bus fresh)) tt k h)

-- lists that are served one after another are one list
replies_join : (s : State) (earlier asks : List Ask) → replies s (earlier ++ asks) ≡ replies s earlier ++ replies (at_the_end s earlier) asks
unfolding replies at_the_end
replies_join s [] asks = refl
replies_join s (ask ∷ earlier) asks = ap (λ l. (step s ask).reply ∷ l) (replies_join (step s ask).state earlier asks)

pub promised_onward : (s : State) (asks : List Ask) (given : List Reply) → given ≡ replies s asks → PromisedOnward s asks given
promised_onward s asks given is start earlier unused_at_first fresh reached =
    promised start (earlier ++ asks) (replies start earlier ++ given)
    (ap (λ l. replies start earlier ++ l) (is ∙ ap (λ x. replies x asks) reached) ∙ sym (replies_join start earlier asks))
    unused_at_first fresh

-- each law by itself
whole : (b : Bus) (asks : List Ask) → Fresh b → Laws (story b asks)
whole b asks fresh =
    let s = state unused b in
    let long = replies_long s asks in
    subst Laws
    (λ i. history s (take_all (length asks) asks (omega arith) i) (take_all (length asks) (replies s asks) (omega arith) i))
    (promised s asks (replies s asks) refl refl fresh (length asks) (omega arith))

slip_part : (past : History) → Laws past → SlipsAfter past
slip_part past h = grind (arith, common_steps)

label_part : (past : History) → Laws past → LabelsAreTrue past
unfolding handed_since waited_since
label_part [] laws n = ([], refl)
label_part (e ∷ past) laws n = laws.labels n

toggle_part : (past : History) → Laws past → TogglesAfter past
toggle_part past h = grind (arith, common_steps)

pub every_slip_is_true : EverySlipIsTrue
every_slip_is_true b asks fresh = slip_part (story b asks) (whole b asks fresh)

pub every_label_is_true : EveryLabelIsTrue
every_label_is_true b asks fresh = label_part (story b asks) (whole b asks fresh)

pub every_toggle_shown_is_true : EveryToggleShownIsTrue
every_toggle_shown_is_true b asks fresh = toggle_part (story b asks) (whole b asks fresh)
