-- The legal values of R30: which transaction each launches. Assumes nothing.
use Rattle.std.specs.Prelude.{ℕ, ◌-◌, cond, ◌&&◌, Some, None, Ok, Err, Option, Result, ◌==◌, nat_le}
use Rattle.port.specs.declared.transactions.Transaction.{Transaction}
use Rattle.port.specs.declared.transactions.IllegalLaunch.{IllegalLaunch}
use Rattle.port.specs.declared.transactions.Transaction.TheVariants.{Setup, In, Out, HsIn}

-- 0x10 is SETUP, 0x80 is HS-IN, 1 to 15 is IN and 0x21 to 0x2F is OUT at that endpoint; no other value is legal
abbrev pub transaction_of : ℕ → Option Transaction
transaction_of value =
    cond (value == 0x10) (Some Setup)
    (cond (value == 0x80) (Some HsIn)
    (cond (nat_le 1 value && nat_le value 15) (Some (In value))
    (cond (nat_le 0x21 value && nat_le value 0x2F) (Some (Out (value - 0x20)))
    None)))

-- the same as a conversion that can fail: what stands for no transaction is handed back
abbrev pub legal_or : ℕ → Option Transaction → Result Transaction IllegalLaunch
legal_or value (Some t) = Ok t
legal_or value None = Err (record { 0 = value })

abbrev pub legal : ℕ → Result Transaction IllegalLaunch
legal value = legal_or value (transaction_of value)
