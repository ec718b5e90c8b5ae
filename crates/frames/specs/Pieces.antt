-- A many-access in frames: how many data bytes each frame has, and which frames there are. Assumes nothing.
use Rattle.std.specs.Prelude.{ℕ, zero, suc, cond, List, [], ◌∷◌, map, length, take, drop, nat_le}
use Rattle.frames.specs.Registers.{stays_at}
use Rattle.frames.specs.Asked.{Asked}
use Rattle.frames.specs.Format.{command_of, register_of, body_of}

-- the most data bytes that go into a frame: 64 at a register that stays, and 1 where the next byte would be at another register
abbrev pub frame_size : ℕ → ℕ
frame_size register = cond (stays_at register) 64 1

-- bytes cut from the front into pieces of a size, the last of them what is left; at most so many pieces
abbrev pub cut : ℕ → ℕ → List ℕ → List (List ℕ)
cut zero size bytes = []
cut (suc most) size [] = []
cut (suc most) size (byte ∷ bytes) = take size (byte ∷ bytes) ∷ cut most size (drop size (byte ∷ bytes))

-- there are never more pieces than bytes
abbrev pub pieces : ℕ → List ℕ → List (List ℕ)
pieces size bytes = cut (length bytes) size bytes

-- the pieces, each behind its command
abbrev pub row : ℕ → ℕ → List ℕ → List (List ℕ)
row command size bytes = map (λ piece. command ∷ piece) (pieces size bytes)

-- the frames of a many-access, in order; none at a register that no command byte can name
abbrev pub frames_of : Asked → List (List ℕ)
frames_of a = cond (nat_le (register_of a) 31) (row (command_of a) (frame_size (register_of a)) (body_of a)) []
