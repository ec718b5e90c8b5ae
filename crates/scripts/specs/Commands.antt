-- How commands are written, each in words of its own, and what a line says. Assumes nothing.
use Rattle.std.specs.Prelude.{◌≡◌, ℕ, ◌^◌, ◌<◌, ◌==◌, List, [], ◌∷◌, codes, map, MatchResult, Result}
use Rattle.std.specs.Borrow.{Bor}
use Rattle.std.specs.Fmt.{decimal}
use Rattle.std.specs.List.{slice_split}
use Rattle.service.specs.declared.calls.Call.{Call as ServiceCall}
use Rattle.service.specs.declared.calls.Call.TheVariants.{Open, Send, Fetch, Recover, Look, Close}
use Rattle.scripts.specs.declared.commands.Command.{Command}
use Rattle.scripts.specs.declared.commands.Command.TheVariants.{Nothing, New, Drive, Endpoint, Packet, Fates, Put, Get, Frame, Call, Show}
use Rattle.scripts.specs.declared.errors.LineError.{LineError}
use Rattle.scripts.specs.declared.errors.LineError.TheVariants.{NotUnderstood}
use Rattle.scripts.specs.Words.{written_bytes, AreBytes, written_length, IsBlank, direction_word, life_word, bus_word}

-- the words of a call of the host; of the buffer of a fetch only the length is written
abbrev pub written_call : ServiceCall → List (List ℕ)
written_call (Open n p) =
    codes "open" ∷ decimal n ∷ decimal p.address ∷ decimal p.endpoint ∷ direction_word p.direction ∷ decimal p.size ∷ decimal p.limit ∷ []
written_call (Send n message) = codes "send" ∷ decimal n ∷ written_bytes message ∷ []
written_call (Fetch n buffer) = codes "fetch" ∷ decimal n ∷ written_length buffer ∷ []
written_call (Recover n) = codes "recover" ∷ decimal n ∷ []
written_call (Look n) = codes "look" ∷ decimal n ∷ []
written_call (Close n) = codes "close" ∷ decimal n ∷ []

-- the words of a command
abbrev pub written : Command → List (List ℕ)
written Nothing = []
written New = codes "new" ∷ []
written (Drive bus) = codes "bus" ∷ bus_word bus ∷ []
written (Endpoint p) = codes "cell" ∷ decimal p.address ∷ decimal p.number ∷ direction_word p.direction ∷ decimal p.toggle ∷ life_word p.halted ∷ decimal p.capacity ∷ []
written (Packet a n bytes) = codes "wait" ∷ decimal a ∷ decimal n ∷ written_bytes bytes ∷ []
written (Fates bytes) = codes "fates" ∷ written_bytes bytes ∷ []
written (Put r v) = codes "put" ∷ decimal r ∷ decimal v ∷ []
written (Get r) = codes "get" ∷ decimal r ∷ []
written (Frame bytes) = codes "frame" ∷ written_bytes bytes ∷ []
written (Call c) = written_call c
written Show = codes "show" ∷ []

abbrev pub IsByte : ℕ → Type 0
IsByte n = n < 2 ^ 8

-- the numbers of a call are bytes, and the buffer of a fetch is blank
abbrev pub CallFits : ServiceCall → Type 0
CallFits (Open n p) = IsByte n × IsByte p.address × IsByte p.endpoint × IsByte p.size × IsByte p.limit
CallFits (Send n message) = IsByte n × AreBytes message
CallFits (Fetch n buffer) = IsByte n × IsBlank buffer
CallFits (Recover n) = IsByte n
CallFits (Look n) = IsByte n
CallFits (Close n) = IsByte n

-- a command that words write, its numbers in range
abbrev pub Fits : Command → Type 0
Fits Nothing = ⊥
Fits New = Unit {0}
Fits (Drive bus) = Unit {0}
Fits (Endpoint p) = IsByte p.address × IsByte p.number × IsByte p.toggle × (p.capacity < 2 ^ 16)
Fits (Packet a n bytes) = IsByte a × IsByte n × AreBytes bytes
Fits (Fates bytes) = AreBytes bytes
Fits (Put r v) = IsByte r × IsByte v
Fits (Get r) = IsByte r
Fits (Frame bytes) = AreBytes bytes
Fits (Call c) = CallFits c
Fits Show = Unit {0}

-- the bytes of words
abbrev pub texts : List (Bor (List ℕ)) → List (List ℕ)
texts words = map (λ word. word.now) words

-- a line is cut into words at its spaces
abbrev pub words_of : List ℕ → List (List ℕ)
words_of line = slice_split (λ b. b == 32) line

-- an empty line, or a comment: it begins with `#`
abbrev pub IsIdle : List ℕ → Type 0
IsIdle [] = Unit {0}
IsIdle (b ∷ bs) = b ≡ 35

-- what a line says: nothing, or the command that its words write
abbrev pub Says : List ℕ → Command → Type 0
Says line Nothing = IsIdle line
Says line command = (words_of line ≡ written command) × Fits command

-- the command that is read is what the line says, and a line that is not understood says none
abbrev pub ReadsLine : List ℕ → Result Command LineError → Type 0
ReadsLine line r = MatchResult r (λ command. Says line command) (λ e. e ≡ NotUnderstood → (command : Command) → ¬ Says line command)
