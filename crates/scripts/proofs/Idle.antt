-- What a line says, by its words.
use Rattle.std.proofs.Common.{◌≡◌, ◌≢◌, ℕ, ◌≤◌, List, [], ◌∷◌, length, get_or, Result, Ok, Err, arith}
use Rattle.std.specs.Str.{IsUtf8}
use Rattle.scripts.proofs.Ascii.{is_text}
use Rattle.scripts.specs.Commands.{written, Fits, words_of, IsIdle, Says, ReadsLine}
use Rattle.scripts.specs.Words.{Reads}
use Rattle.scripts.specs.declared.commands.Command.{Command}
use Rattle.scripts.specs.declared.commands.Command.TheVariants.{Nothing}
use Rattle.scripts.specs.declared.errors.LineError.{LineError}

-- a command that a line's words write is what the line says
pub said : (line : List ℕ) (x : Command) → words_of line ≡ written x → Fits x → Says line x
said line Nothing e fits = absurd fits
said line x e fits = (e, fits)

-- and where the words write none, a line that is not idle says none
pub unsaid : (line : List ℕ) (x : Command) → ¬ IsIdle line → ((y : Command) → Fits y → words_of line ≢ written y) → ¬ Says line x
unsaid line Nothing busy none = λ idle. busy idle
unsaid line x busy none = λ (e, fits). none x fits e

pub read_by_words : (line : List ℕ) (r : Result Command LineError) → ¬ IsIdle line → Reads written Fits (words_of line) r → ReadsLine line r
read_by_words line (Ok x) busy (e, fits) = said line x e fits
read_by_words line (Err e) busy none = λ is x. unsaid line x busy (none is)

pub busy : (line : List ℕ) → 1 ≤ length line → get_or line 0 0 ≢ 35 → ¬ IsIdle line
busy [] long first = λ _. absurd (omega arith)
busy (b ∷ bs) long first = first

-- bytes that are no text say nothing
pub no_text : (line : List ℕ) (x : Command) → ¬ IsIdle line → ¬ IsUtf8 line → ¬ Says line x
no_text line x busy none = unsaid line x busy (λ y fits e. none (is_text line y e fits))
