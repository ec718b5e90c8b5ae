-- The format of a frame: what is written for an access, and which access is read from bytes. Assumes nothing.
use Rattle.std.specs.Prelude.{ℕ, ◌+◌, ◌*◌, ◌/◌, ◌%◌, Bool, cond, ◌&&◌, List, [], ◌∷◌, ◌++◌, length, take, drop, replicate, Some, None, Option, ◌==◌, nat_le}
use Rattle.frames.specs.Asked.{Asked, puts, gets}

-- the command byte, from its most significant bit: the register in five bits, 0, 1 for a put and 0 for a get, 0
abbrev pub put_command : ℕ → ℕ
put_command register = register * 8 + 2

abbrev pub get_command : ℕ → ℕ
get_command register = register * 8

abbrev pub command_of : Asked → ℕ
command_of (puts register bytes) = put_command register
command_of (gets register count) = get_command register

abbrev pub register_of : Asked → ℕ
register_of (puts register bytes) = register
register_of (gets register count) = register

-- the data bytes: those to put, or as many zeros as there are bytes to get
abbrev pub body_of : Asked → List ℕ
body_of (puts register bytes) = bytes
body_of (gets register count) = replicate count 0

abbrev pub count_of : Asked → ℕ
count_of (puts register bytes) = length bytes
count_of (gets register count) = count

abbrev pub frame_of : Asked → List ℕ
frame_of a = command_of a ∷ body_of a

-- an access has a frame if its register has five bits and its data bytes are at most 64
abbrev pub framed : Asked → Bool
framed a = nat_le (register_of a) 31 && nat_le (count_of a) 64

-- it is written if it has a frame, and the buffer has room for it
abbrev pub fits : Asked → List ℕ → Bool
fits a buffer = framed a && nat_le (1 + count_of a) (length buffer)

abbrev pub written_length : Asked → List ℕ → ℕ
written_length a buffer = cond (fits a buffer) (1 + count_of a) 0

-- the buffer keeps what lies past the frame, and is untouched where nothing is written
abbrev pub written : Asked → List ℕ → List ℕ
written a buffer = cond (fits a buffer) (frame_of a ++ drop (1 + count_of a) buffer) buffer

-- a command byte taken apart: bits 2 and 0 are not looked at
abbrev pub command_puts : ℕ → Bool
command_puts command = command / 2 % 2 == 1

abbrev pub command_register : ℕ → ℕ
command_register command = command / 8

-- the data bytes of a frame: at most 64, and what follows them is no part of it
abbrev pub body : List ℕ → List ℕ
body bytes = take 64 bytes

-- the access that a command byte and the data bytes ask for
abbrev pub asked_by : ℕ → List ℕ → Asked
asked_by command bytes = cond (command_puts command) (puts (command_register command) bytes) (gets (command_register command) (length bytes))

abbrev pub read : List ℕ → Option Asked
read [] = None
read (command ∷ bytes) = Some (asked_by command (body bytes))
