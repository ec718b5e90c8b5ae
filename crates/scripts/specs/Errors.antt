-- Why a line is not obeyed, and how that is printed. Assumes nothing.
use Rattle.std.specs.Prelude.{ℕ, List, codes}
use Rattle.scripts.specs.declared.errors.LineError.{LineError}
use Rattle.scripts.specs.declared.errors.LineError.TheVariants.{NotUnderstood, NoMemory}

abbrev pub error_text : LineError → List ℕ
error_text NotUnderstood = codes "not understood"
error_text NoMemory = codes "out of memory"
