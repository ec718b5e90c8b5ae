-- What a fetch hands over, read off its answer, its buffer and the packet size: packets. Assumes nothing.
use Rattle.std.specs.Prelude.{ℕ, zero, suc, ◌-◌, ◌*◌, ◌/◌, cond, ◌&&◌, List, [], ◌∷◌, ◌++◌, length, take, drop, ◌==◌, nat_lt}
use Rattle.pipes.specs.declared.answers.Answer.{Answer}
use Rattle.pipes.specs.Answers.{answer_number}

-- the first n packets of this size
abbrev pub cut_packets : ℕ → ℕ → List ℕ → List (List ℕ)
cut_packets zero size bytes = []
cut_packets (suc n) size bytes = take size bytes ∷ cut_packets n size (drop size bytes)

-- the packets of full size that came: as many as go into the bytes received
abbrev pub full_packets : ℕ → Answer → List ℕ → List (List ℕ)
full_packets size answer buffer = cut_packets (answer.received / size) size buffer

-- the shorter packet that ended the fetch, perhaps an empty one: it came if the answer is 0 and the buffer is not full
abbrev pub short_packet : ℕ → Answer → List ℕ → List (List ℕ)
short_packet size answer buffer =
    cond (answer_number answer == 0 && nat_lt answer.received (length buffer))
    (take (answer.received - answer.received / size * size) (drop (answer.received / size * size) buffer) ∷ [])
    []

-- the packets that a fetch with this answer and this buffer handed over
unfoldable pub handed_over : ℕ → Answer → List ℕ → List (List ℕ)
handed_over size answer buffer = full_packets size answer buffer ++ short_packet size answer buffer
