-- The result code of a transaction is its own low four bits. Assumes nothing.
use Rattle.std.proofs.Common.{◌≡◌, ℕ, ◌%◌, ◌<◌, arith}

pub low_four : (code meant : ℕ) → code ≡ meant → meant < 16 → code % 16 ≡ code
low_four code meant e h = omega arith
