-- What an exchange of bytes over a wire does to the port behind it, and what it answers. Assumes nothing.
use Rattle.std.specs.Prelude.{ℕ, zero, suc, cond, List, [], ◌∷◌, ◌++◌, length, drop, replicate}
use Rattle.port.specs.Bus.{Bus}
use Rattle.port.specs.Accesses.{after_put, got, after_get}
use Rattle.frames.specs.declared.duplexes.Duplex.{Duplex}
use Rattle.frames.specs.declared.duplexes.Duplex.TheVariants.{Half, Full}
use Rattle.frames.specs.Registers.{next_register}
use Rattle.frames.specs.Format.{command_puts, command_register, body}

-- each data byte of a put frame is put, at the register that stays or goes one further
abbrev pub after_put_body : ℕ → List ℕ → Bus → Bus
after_put_body register [] b = b
after_put_body register (value ∷ values) b = after_put_body (next_register register) values (after_put register value b)

-- for each data byte of a get frame one is got
abbrev pub got_body : ℕ → ℕ → Bus → List ℕ
got_body register zero b = []
got_body register (suc n) b = got register b ∷ got_body (next_register register) n (after_get register b)

abbrev pub after_got_body : ℕ → ℕ → Bus → Bus
after_got_body register zero b = b
after_got_body register (suc n) b = after_got_body (next_register register) n (after_get register b)

-- the answer in the place of the command byte: R25 as it is before the frame, or 0
abbrev pub first_answer : Duplex → Bus → ℕ
first_answer Full b = got 25 b
first_answer Half b = 0

-- the answers in the place of the data bytes: 0 for each that was put, or the bytes got
abbrev pub body_answers : ℕ → List ℕ → Bus → List ℕ
body_answers command bytes b =
    cond (command_puts command) (replicate (length bytes) 0) (got_body (command_register command) (length bytes) b)

abbrev pub after_body : ℕ → List ℕ → Bus → Bus
after_body command bytes b =
    cond (command_puts command) (after_put_body (command_register command) bytes b) (after_got_body (command_register command) (length bytes) b)

-- the whole of an exchange; what lies past the 64 data bytes stays as it is and does nothing
abbrev pub exchanged : Duplex → List ℕ → Bus → List ℕ
exchanged duplex [] b = []
exchanged duplex (command ∷ bytes) b = first_answer duplex b ∷ (body_answers command (body bytes) b ++ drop 64 bytes)

abbrev pub after_exchange : List ℕ → Bus → Bus
after_exchange [] b = b
after_exchange (command ∷ bytes) b = after_body command (body bytes) b
