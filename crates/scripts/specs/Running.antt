-- What a script prints, line by line. Assumes nothing.
use Rattle.std.specs.Prelude.{◌≡◌, ◌≢◌, ℕ, ◌+◌, ◌==◌, ◌⊎◌, Bool, true, false, List, [], ◌∷◌, ◌++◌, codes, Result, Ok, Err}
use Rattle.std.specs.Fmt.{decimal}
use Rattle.std.specs.List.{slice_split}
use Rattle.service.specs.declared.calls.Call.TheVariants.{Fetch}
use Rattle.scripts.specs.Commands.{Says}
use Rattle.scripts.specs.Errors.{error_text}
use Rattle.scripts.specs.Saying.{said_text}
use Rattle.scripts.specs.Scenes.{Scene, fresh_scene, Obeys}
use Rattle.scripts.specs.declared.commands.Command.{Command}
use Rattle.scripts.specs.declared.commands.Command.TheVariants.{Call}
use Rattle.scripts.specs.declared.errors.LineError.{LineError}
use Rattle.scripts.specs.declared.errors.LineError.TheVariants.{NotUnderstood, NoMemory}
use Rattle.scripts.specs.declared.running.Vocabulary.{Vocabulary}
use Rattle.scripts.specs.declared.running.Vocabulary.TheVariants.{Whole, WithoutFetch}
use Rattle.scripts.specs.declared.saying.Said.{Said}

-- the command is understood
abbrev pub has : Vocabulary → Command → Bool
has Whole command = true
has WithoutFetch (Call (Fetch n buffer)) = false
has WithoutFetch _ = true

-- a line says no command, or one that is not understood
abbrev pub IsMute : Vocabulary → List ℕ → Type 0
IsMute v line = ((command : Command) × Says line command × (has v command ≡ false)) ⊎ ((command : Command) → ¬ Says line command)

-- a line does what its command does; one that is not understood does nothing; nor does one that could not be read for want of memory
abbrev pub Answers : Vocabulary → List ℕ → Scene → Result Said LineError → Scene → Type 0
Answers v line t r s =
    ((command : Command) × Says line command × (has v command ≡ true) × Obeys command t r s)
    ⊎ ((IsMute v line × (r ≡ Err NotUnderstood) × (s ≡ t)) ⊎ ((r ≡ Err NoMemory) × (s ≡ t)))

-- what is printed of the line with this number
abbrev pub line_text : ℕ → Result Said LineError → List ℕ
line_text n (Ok said) = said_text said
line_text n (Err e) = codes "line " ++ (decimal n ++ (codes ": " ++ (error_text e ++ codes "\n")))

abbrev pub TellsLine : Vocabulary → ℕ → List ℕ → Scene → List ℕ → Scene → Type 0
TellsLine v n line t text s = (r : Result Said LineError) × Answers v line t r s × (r ≢ Err NoMemory) × (text ≡ line_text n r)

-- lines, one after another, from the scene before them to the scene after them
abbrev pub TellsLines : Vocabulary → ℕ → List (List ℕ) → Scene → List ℕ → Scene → Type 0
TellsLines v n [] t text s = (text ≡ []) × (s ≡ t)
TellsLines v n (line ∷ lines) t text s =
    (first : List ℕ) × (between : Scene) × (rest : List ℕ) × TellsLine v n line t first between × TellsLines v (n + 1) lines between rest s × (text ≡ first ++ rest)

-- a script, cut at its line feeds
abbrev pub Tells : Vocabulary → List ℕ → List ℕ → Type 0
Tells v script text = (s : Scene) × TellsLines v 1 (slice_split (λ b. b == 10) script) fresh_scene text s
