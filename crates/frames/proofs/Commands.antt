-- A command byte read back, and the zeros that are written for a get. Assumes nothing.
use Rattle.std.proofs.Common.{◌≡◌, ℕ, ◌+◌, ◌≤◌, ◌++◌, sym, true, false, [], length, drop, replicate, arith}
use Rattle.std.proofs.lemmas.List.{take_all, drop_all, length-replicate, replicate-append-replicate}
use Rattle.std.proofs.lemmas.Bool.Decides.{nat_tests}
use Rattle.frames.specs.Format.{put_command, get_command, command_puts, command_register, body}

module _ (register : ℕ) where
  pub put_puts : command_puts (put_command register) ≡ true
  put_puts = grind (arith, nat_tests)

  pub get_gets : command_puts (get_command register) ≡ false
  get_gets = grind (arith, nat_tests)

  pub put_register : command_register (put_command register) ≡ register
  put_register = omega arith

  pub get_register : command_register (get_command register) ≡ register
  get_register = omega arith

pub zeros_length : (n : ℕ) → length (replicate {A = ℕ} n 0) ≡ n
zeros_length n = length-replicate n 0

pub zeros_parts : (n a b : ℕ) → n ≡ a + b → replicate {A = ℕ} n 0 ≡ replicate a 0 ++ replicate b 0
zeros_parts n a b e = rw e (sym (replicate-append-replicate a b 0))

pub zeros_body : (n : ℕ) → n ≤ 64 → body (replicate n 0) ≡ replicate n 0
zeros_body n h = take_all 64 (replicate n 0) (let l = zeros_length n in omega arith)

pub zeros_past : (n : ℕ) → n ≤ 64 → drop 64 (replicate {A = ℕ} n 0) ≡ []
zeros_past n h = drop_all 64 (replicate n 0) (let l = zeros_length n in omega arith)
