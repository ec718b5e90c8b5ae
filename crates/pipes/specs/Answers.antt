-- Answers: their number, and the answer of a call that declined. Assumes nothing.
use Rattle.std.specs.Prelude.{ℕ, Some, None, Option}
use Rattle.port.specs.declared.toggles.Toggle.{Toggle}
use Rattle.pipes.specs.declared.answers.Answer.{Answer}
use Rattle.pipes.specs.declared.answers.Looked.{Looked}
use Rattle.pipes.specs.declared.pipes.Standing.{Standing}
use Rattle.pipes.specs.declared.refusals.Refusal.{Refusal}
use Rattle.pipes.specs.Refusals.{refusal_number}

-- 0 for success, else the number of the refusal
abbrev pub number_of : Option Refusal → ℕ
number_of None = 0
number_of (Some refusal) = refusal_number refusal

abbrev pub answer_number : Answer → ℕ
answer_number a = number_of a.refusal

-- every answer is made here: that of a fetch, and that of any other call. What a call does not name is 0
abbrev pub answer_with : Option Refusal → ℕ → ℕ → ℕ → ℕ → ℕ → Answer
answer_with refusal sent received doubtful tries last =
    record { refusal = refusal; sent = sent; received = received; doubtful = doubtful; tries = tries; last = last }

abbrev pub answered : Option Refusal → ℕ → ℕ → ℕ → ℕ → Answer
answered refusal sent doubtful tries last = answer_with refusal sent 0 doubtful tries last

abbrev pub fetched : Option Refusal → ℕ → ℕ → ℕ → Answer
fetched refusal received tries last = answer_with refusal 0 received 0 tries last

-- the call declined: nothing but the refusal
abbrev pub declined : Refusal → Answer
declined refusal = answered (Some refusal) 0 0 0 0

-- what a look shows of a pipe
abbrev pub looked_at : Standing → Toggle → Looked
looked_at standing toggle = record { standing = standing; toggle = toggle }
