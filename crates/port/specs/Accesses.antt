-- The four register accesses: the meaning after each, and the bytes that gets answer, for every register number. Assumes nothing.
use Rattle.std.specs.Prelude.{ℕ, zero, suc, cond, List, [], ◌∷◌, length, ◌==◌, slice_index}
use Rattle.port.specs.Chip.{load_sending, load_setup, set_count, clear_flags, set_address, set_toggles, take_incoming, flags, status}
use Rattle.port.specs.Bus.{Bus, with_chip}
use Rattle.port.specs.Launches.{launch}

-- put a byte: R2 send buffer, R4 setup buffer, R7 send count, R25 flags, R28 address, R29 toggles, R30 launch; any other
-- register takes nothing
unfoldable pub after_put : ℕ → ℕ → Bus → Bus
after_put register value b =
    cond (register == 2) (with_chip b (load_sending b.chip value))
    (cond (register == 4) (with_chip b (load_setup b.chip value))
    (cond (register == 7) (with_chip b (set_count b.chip value))
    (cond (register == 25) (with_chip b (clear_flags b.chip value))
    (cond (register == 28) (with_chip b (set_address b.chip value))
    (cond (register == 29) (with_chip b (set_toggles b.chip value))
    (cond (register == 30) (launch value b)
    b))))))

-- get a byte: R1 the next received byte, 0 if none, R6 how many are left, R25 the flags, R28 the address, R31 toggles and
-- result; any other register gives 0
unfoldable pub got : ℕ → Bus → ℕ
got register b =
    cond (register == 1) (slice_index b.chip.incoming 0)
    (cond (register == 6) (length b.chip.incoming)
    (cond (register == 25) (flags b.chip)
    (cond (register == 28) b.chip.address
    (cond (register == 31) (status b.chip)
    0))))

-- only R1 is changed by being read: the byte is taken
unfoldable pub after_get : ℕ → Bus → Bus
after_get register b = cond (register == 1) (with_chip b (take_incoming b.chip)) b

-- many bytes at one register: the single access, again and again
abbrev pub after_puts : ℕ → List ℕ → Bus → Bus
after_puts register [] b = b
after_puts register (value ∷ values) b = after_puts register values (after_put register value b)

abbrev pub gots : ℕ → ℕ → Bus → List ℕ
gots register zero b = []
gots register (suc n) b = got register b ∷ gots register n (after_get register b)

abbrev pub after_gets : ℕ → ℕ → Bus → Bus
after_gets register zero b = b
after_gets register (suc n) b = after_gets register n (after_get register b)
