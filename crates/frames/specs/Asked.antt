-- What an access asks for: bytes to put to a register, or a count of bytes to get from one. Assumes nothing.
use Rattle.std.specs.Prelude.{ℕ, List}
use Rattle.frames.specs.declared.formats.Access.{Access}
use Rattle.frames.specs.declared.formats.Access.TheVariants.{Put, Get}

pub data Asked : Type 0 where
  puts : ℕ → List ℕ → Asked
  gets : ℕ → ℕ → Asked

-- what an access of the code stands for, its bytes and not where they lie
abbrev pub asked : Access → Asked
asked (Put register bytes) = puts register bytes.now
asked (Get register count) = gets register count
