-- How numbers, bytes and choices are written in a script, each as one word. Assumes nothing.
use Rattle.std.specs.Prelude.{◌≡◌, ◌≢◌, ℕ, ◌/◌, ◌%◌, ◌<◌, ◌≤◌, Bool, true, false, List, [], ◌∷◌, codes, flat_map, replicate, slice_index, vec_len, MatchResult, Result, Vec}
use Rattle.std.specs.Fmt.{decimal, digit_glyph}
use Rattle.std.specs.declared.alloc.Global.{Global}
use Rattle.port.specs.declared.directions.Direction.{Direction}
use Rattle.port.specs.declared.directions.Direction.TheVariants.{Out, In}
use Rattle.frames.specs.declared.duplexes.Duplex.TheVariants.{Half, Full}
use Rattle.scripts.specs.declared.buses.Bus.{Bus}
use Rattle.scripts.specs.declared.buses.Bus.TheVariants.{Direct, Framed}
use Rattle.scripts.specs.declared.errors.LineError.{LineError}
use Rattle.scripts.specs.declared.errors.LineError.TheVariants.{NotUnderstood}

-- a byte in hexadecimal: two digits, the letters in lower case
abbrev pub hex_pair : ℕ → List ℕ
hex_pair b = digit_glyph false (b / 16) ∷ digit_glyph false (b % 16) ∷ []

-- bytes in hexadecimal, `-` for none
abbrev pub hex_text : List ℕ → List ℕ
hex_text [] = codes "-"
hex_text (b ∷ bs) = flat_map hex_pair (b ∷ bs)

abbrev pub written_bytes : Vec ℕ Global → List ℕ
written_bytes v = hex_text v.items

-- each number of the list is a byte
abbrev pub AreBytes : Vec ℕ Global → Type 0
AreBytes v = (k : ℕ) → slice_index v.items k < 256

-- a buffer of so many bytes 0xee, at most 4,096, of which only the length is written
abbrev pub written_length : Vec ℕ Global → List ℕ
written_length v = decimal (vec_len v)

abbrev pub IsBlank : Vec ℕ Global → Type 0
IsBlank v = (vec_len v ≤ 4096) × (v.items ≡ replicate (vec_len v) 0xee)

abbrev pub direction_word : Direction → List ℕ
direction_word Out = codes "out"
direction_word In = codes "in"

-- whether an endpoint is halted
abbrev pub life_word : Bool → List ℕ
life_word true = codes "halted"
life_word false = codes "live"

abbrev pub bus_word : Bus → List ℕ
bus_word Direct = codes "direct"
bus_word (Framed Half) = codes "framed-half"
bus_word (Framed Full) = codes "framed-full"

-- what is read is a value that is so written and in range; and what is not understood writes no value in range
abbrev pub Reads : {T W : Type 0} → (T → W) → (T → Type 0) → W → Result T LineError → Type 0
Reads {T} writes InRange written r =
    MatchResult r (λ x. (written ≡ writes x) × InRange x) (λ e. e ≡ NotUnderstood → (x : T) → InRange x → written ≢ writes x)

-- a choice is always in range
abbrev pub Anything : {T : Type 0} → T → Type 0
Anything x = Unit {0}
