-- What the worked runs need besides computing: that their buses are fresh, and what a run cannot have been. Assumes nothing.
use Rattle.std.proofs.Common.{◌≡◌, ℕ, ◌+◌, ◌⊎◌, List, [], ◌∷◌, ◌++◌, length, get_or, take, Some, None, ap, ◌∙◌, ⊎_elim, arith}
use Rattle.std.proofs.lemmas.Grind.{common_steps}
use Rattle.port.specs.Endpoints.{Endpoint, InRange}
use Rattle.port.specs.Bus.{Fresh}
use Rattle.pipes.specs.declared.refusals.Refusal.TheVariants.{ThirdMiss}
use Rattle.pipes.specs.Answers.{answered}
use Rattle.service.specs.Words.{Message}
use Rattle.service.specs.Laws.{Took}
use Rattle.service.specs.Runs.{bus_of, printer, pad, slip, next_slip}

-- one endpoint alone, in range and with nothing taken
pub alone_fresh : (e : Endpoint) (fates : List ℕ) → InRange e → e.taken ≡ [] → Fresh (bus_of e fates)
alone_fresh e fates range none = grind (arith, common_steps)

pub printer_fresh : (fates : List ℕ) → Fresh (bus_of printer fates)
printer_fresh fates = grind (arith, common_steps)

pub pad_fresh : (fates : List ℕ) → Fresh (bus_of pad fates)
pad_fresh fates = grind (arith, common_steps)

-- what was taken of a list of messages, one message back
Back : List Message → List ℕ → Type 0
Back [] bytes = bytes ≡ []
Back (m ∷ ms) bytes = (n : ℕ) × (before : List ℕ) × ((n ≡ m.answer.sent) ⊎ (n ≡ m.answer.sent + m.answer.doubtful)) × (bytes ≡ before ++ take n m.bytes) × Took ms before

back : {ms : List Message} {bytes : List ℕ} → Took ms bytes → Back ms bytes
unfolding Back
back h = grind (arith, common_steps)

-- eight bytes of the first slip are not what is taken of both slips, if all of the second was sent
pub not_taken : Took (record { bytes = next_slip; answer = answered None 8 0 1 0 } ∷ record { bytes = slip; answer = answered (Some ThirdMiss) 0 8 3 14 } ∷ []) (take 8 slip) → ⊥
unfolding Back
not_taken took =
    let (n, before, which, is, earlier) = back took in
    let (k, start, which', is', first) = back earlier in
    let none : start ≡ [] = back first in
    let eight : n ≡ 8 = ⊎_elim (λ e. e) (λ e. omega arith) which in
    let all : take 8 slip ≡ take k slip ++ next_slip = is ∙ (λ i. is' i ++ take (eight i) next_slip) ∙ ap (λ l. (l ++ take k slip) ++ next_slip) none in
    ⊎_elim
    (λ e. let head : ◌≡◌ {A = ℕ} 48 97 = ap (λ l. get_or l 0 0) (all ∙ ap (λ j. take j slip ++ next_slip) e) in omega arith)
    (λ e. let long : ◌≡◌ {A = ℕ} 8 16 = ap length (all ∙ ap (λ j. take j slip ++ next_slip) (let z : k ≡ 8 = omega arith in z)) in omega arith)
    which'
