-- What follows from the format of frames and from the rules by which a many-access is cut into them. Assumes nothing.
use Rattle.std.specs.Prelude.{◌≡◌, ℕ, ◌+◌, ◌*◌, ◌/◌, ◌%◌, ◌<◌, ◌≤◌, true, cond, List, [], ◌∷◌, ◌++◌, length, take, replicate, Some}
use Rattle.port.specs.Bus.{Bus}
use Rattle.port.specs.Accesses.{after_put, got, after_get}
use Rattle.frames.specs.Asked.{Asked, puts, gets}
use Rattle.frames.specs.Format.{put_command, get_command, command_of, fits, written_length, written, command_puts, body, read}
use Rattle.frames.specs.Pieces.{pieces, frames_of}
use Rattle.frames.specs.Chains.{Chain}

-- an access that was written is read back from the bytes that were written
abbrev pub WrittenIsReadBack : Type 0
WrittenIsReadBack = (a : Asked) (buffer : List ℕ) → fits a buffer ≡ true → read (take (written_length a buffer) (written a buffer)) ≡ Some a

-- a frame with its ignored parts 0: bits 2 and 0 of the command, and the data bytes of a get; what follows the 64 data bytes is no part of it
abbrev pub plain_command : ℕ → ℕ
plain_command command = command / 8 * 8 + command / 2 % 2 * 2

abbrev pub plain : ℕ → List ℕ → List ℕ
plain command bytes = plain_command command ∷ cond (command_puts command) (body bytes) (replicate (length (body bytes)) 0)

-- an access that was read, written into a buffer with room for it, is the frame that it was read from, its ignored parts 0
abbrev pub ReadIsWrittenPlain : Type 0
ReadIsWrittenPlain =
    (command : ℕ) (bytes buffer : List ℕ) (a : Asked) → command < 256 → 1 + length (body bytes) ≤ length buffer → read (command ∷ bytes) ≡ Some a → take (written_length a buffer) (written a buffer) ≡ plain command bytes

-- the commands of put R2, get R31 and put R30
abbrev pub KnownCommands : Type 0
KnownCommands =
    ((bytes : List ℕ) → command_of (puts 2 bytes) ≡ 0x12)
    × ((count : ℕ) → command_of (gets 31 count) ≡ 0xF8)
    × ((bytes : List ℕ) → command_of (puts 30 bytes) ≡ 0xF2)

-- one byte is one frame, whatever the register; no byte is no frame
abbrev pub OneByteOneFrame : Type 0
OneByteOneFrame =
    (register : ℕ) → register ≤ 31
    → ((value : ℕ) → frames_of (puts register (value ∷ [])) ≡ (put_command register ∷ (value ∷ [])) ∷ [])
    × (frames_of (gets register 1) ≡ (get_command register ∷ (0 ∷ [])) ∷ [])
    × (frames_of (puts register []) ≡ [])
    × (frames_of (gets register 0) ≡ [])

-- pieces of a size: joined they are the bytes, each but the last is full, and the last is not empty
abbrev pub Filled : ℕ → List (List ℕ) → List ℕ → Type 0
Filled size [] bytes = bytes ≡ []
Filled size (piece ∷ []) bytes = (piece ≡ bytes) × (0 < length piece) × (length piece ≤ size)
Filled size (piece ∷ (next ∷ others)) bytes =
    (length piece ≡ size) × ((rest : List ℕ) × (piece ++ rest ≡ bytes) × (Filled size (next ∷ others) rest))

abbrev pub PiecesAreFilled : Type 0
PiecesAreFilled = (size : ℕ) (bytes : List ℕ) → 0 < size → Filled size (pieces size bytes) bytes

-- a wire that is nothing but the record of what it heard: after a chain of frames it has just those more, in their order
abbrev pub ChainsAreWhole : Type 0
ChainsAreWhole =
    (frames before after : List (List ℕ)) → Chain (λ (earlier : List (List ℕ)) frame later. later ≡ earlier ++ (frame ∷ [])) frames before after → after ≡ before ++ frames

-- a port does nothing at a register above 31, and gets there give 0
abbrev pub NothingAbove31 : Type 0
NothingAbove31 =
    (register : ℕ) → 31 < register
    → ((value : ℕ) (b : Bus) → after_put register value b ≡ b) × ((b : Bus) → got register b ≡ 0) × ((b : Bus) → after_get register b ≡ b)
