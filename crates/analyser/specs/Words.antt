-- An exchange in words: a line for the command byte, and one for each data byte. Assumes nothing.
use Rattle.std.specs.Prelude.{ℕ, ◌-◌, ◌^◌, ◌==◌, false, cond, List, [], ◌∷◌, ◌++◌, codes, slice_index}
use Rattle.std.specs.Fmt.{digits, decimal, padded_integral, format_spec}
use Rattle.frames.specs.Asked.{Asked, puts, gets}
use Rattle.frames.specs.Format.{register_of, body, asked_by}

-- a byte in two hexadecimal digits
abbrev pub hex : ℕ → List ℕ
hex byte = padded_integral (format_spec 32 0 4 2 (2 ^ 64 - 1)) false [] (digits 16 false byte)

abbrev pub way : Asked → List ℕ
way (puts register bytes) = codes "put to"
way (gets register count) = codes "get from"

-- what a data byte at a register means
abbrev pub meaning : ℕ → List ℕ
meaning register =
    cond (register == 2) (codes "one byte into the send buffer")
    (cond (register == 7) (codes "how many of these bytes go")
    (cond (register == 25) (codes "the done flag is cleared")
    (cond (register == 28) (codes "the printer's address")
    (cond (register == 29) (codes "the send toggle: 40 sets DATA0, 80 sets DATA1")
    (cond (register == 30) (codes "launch: 20 is OUT, and the endpoint is added")
    (cond (register == 31) (codes "the toggles, and the result code in the low four bits")
    (codes "another register")))))))

abbrev pub command_line : ℕ → ℕ → Asked → List ℕ
command_line out back access =
    codes "  out " ++ (hex out ++ (codes " in " ++ (hex back ++ (codes "  command: " ++ (way access ++ (codes " R" ++ (decimal (register_of access) ++ (10 ∷ []))))))))

abbrev pub data_line : List ℕ → ℕ → ℕ → List ℕ
data_line meant out back = codes "    out " ++ (hex out ++ (codes " in " ++ (hex back ++ (codes "  " ++ (meant ++ (10 ∷ []))))))

-- as many as there are bytes on both sides
abbrev pub data_lines : List ℕ → List ℕ → List ℕ → List ℕ
data_lines meant [] answered = []
data_lines meant (out ∷ sent) [] = []
data_lines meant (out ∷ sent) (back ∷ answered) = data_line meant out back ++ data_lines meant sent answered

-- nothing where no frame was sent, or none answered
abbrev pub words : List ℕ → List ℕ → List ℕ
words [] answered = []
words (out ∷ sent) [] = []
words (out ∷ sent) (back ∷ answered) =
    command_line out back (asked_by out (body sent)) ++ data_lines (meaning (register_of (asked_by out (body sent)))) sent answered

-- what comes back of the frame that gets the flags
abbrev pub flags_text : List ℕ → List ℕ
flags_text bytes =
    codes "The flags of R25 through a wire over a port over a wire: out c8 00, in " ++ (hex (slice_index bytes 0) ++ (codes " " ++ hex (slice_index bytes 1)))
