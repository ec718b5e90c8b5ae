-- Data toggles: the other one, when two are the same, and their numbers. Assumes nothing.
use Rattle.std.specs.Prelude.{ℕ, Bool, true, false, cond, ◌==◌}
use Rattle.port.specs.declared.toggles.Toggle.{Toggle}
use Rattle.port.specs.declared.toggles.Toggle.TheVariants.{Data0, Data1}

-- the toggle of the packet that follows
abbrev pub flip : Toggle → Toggle
flip Data0 = Data1
flip Data1 = Data0

abbrev pub agree : Toggle → Toggle → Bool
agree Data0 Data0 = true
agree Data0 Data1 = false
agree Data1 Data0 = false
agree Data1 Data1 = true

-- the number of a toggle, as registers hold it
abbrev pub bit : Toggle → ℕ
bit Data0 = 0
bit Data1 = 1

-- the toggle of a number: DATA0 for 0, DATA1 for any other
abbrev pub toggle_of : ℕ → Toggle
toggle_of n = cond (n == 0) Data0 Data1
