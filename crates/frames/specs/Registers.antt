-- Which registers a frame stays at, and where it goes on from the others. Assumes nothing.
use Rattle.std.specs.Prelude.{ℕ, ◌+◌, Bool, cond, ◌||◌, ◌==◌, nat_le}

-- R0 to R4, R20 and R31 stay
abbrev pub stays_at : ℕ → Bool
stays_at register = nat_le register 4 || register == 20 || register == 31

-- the register of the next data byte: the same, or one further
abbrev pub next_register : ℕ → ℕ
next_register register = cond (stays_at register) register (register + 1)
