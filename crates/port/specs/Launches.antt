-- A launch: what a put of any value to R30 does. Assumes nothing.
use Rattle.std.specs.Prelude.{ℕ, Bool, true, false, cond, List, Some, None, Option, ◌==◌}
use Rattle.port.specs.declared.fates.Fate.{Fate}
use Rattle.port.specs.declared.toggles.Toggle.{Toggle}
use Rattle.port.specs.declared.transactions.Transaction.{Transaction}
use Rattle.port.specs.declared.transactions.Transaction.TheVariants.{Setup, In, Out, HsIn}
use Rattle.port.specs.Toggles.{flip}
use Rattle.port.specs.Transactions.{transaction_of}
use Rattle.port.specs.Chip.{Chip, packet, request, ended}
use Rattle.port.specs.Devices.{Devices}
use Rattle.port.specs.Reactions.{Outcome, out_outcome, in_outcome, setup_outcome, hs_outcome}
use Rattle.port.specs.Bus.{Bus, with_chip, next_fate, later_fates}

-- a toggle after a transaction with this result: it flips on result 0 and on no other
abbrev pub advanced : ℕ → Toggle → Toggle
advanced code toggle = cond (code == 0) (flip toggle) toggle

-- the chip as each launch leaves it. A launch that moves no data toggle and brings no bytes
abbrev pub ends_plain : ℕ → Chip → Chip
ends_plain code c = ended c code c.send_toggle c.receive_toggle c.incoming c.received

-- an OUT: result 0 flips the send toggle
abbrev pub ends_out : ℕ → Chip → Chip
ends_out code c = ended c code (advanced code c.send_toggle) c.receive_toggle c.incoming c.received

-- an IN: on result 0 the packet is received and the receive toggle flips
abbrev pub ends_in : ℕ → List ℕ → Chip → Chip
ends_in code bytes c =
    ended c code c.send_toggle (advanced code c.receive_toggle)
    (cond (code == 0) bytes c.incoming)
    (cond (code == 0) true c.received)

-- the chip and the devices after a transaction under a fate: who answers, and what the chip makes of it
abbrev pub outcome_of : Transaction → Fate → Chip → Devices → Outcome
outcome_of Setup fate c d = setup_outcome c.address fate d (request c)
outcome_of (In number) fate c d = in_outcome c.address fate d number c.receive_toggle
outcome_of (Out number) fate c d = out_outcome c.address fate d number c.send_toggle (packet c)
outcome_of HsIn fate c d = hs_outcome c.address fate d

abbrev pub ends : Transaction → Outcome → Chip → Chip
ends Setup o c = ends_plain o.code c
ends (In number) o c = ends_in o.code o.bytes c
ends (Out number) o c = ends_out o.code c
ends HsIn o c = ends_plain o.code c

-- an IN is not legal while a received packet waits to be cleared
abbrev pub held : Transaction → Chip → Bool
held Setup c = false
held (In number) c = c.received
held (Out number) c = false
held HsIn c = false

-- a legal launch takes one fate
unfoldable pub carried : Transaction → Bus → Bus
carried t b =
    let o = outcome_of t (next_fate b.fates) b.chip b.devices in
    record { chip = ends t o b.chip; devices = o.devices; fates = later_fates b.fates }

-- an illegal one takes none and touches no device: result 2
unfoldable pub refused : Bus → Bus
refused b = with_chip b (ends_plain 2 b.chip)

-- a legal value launches its transaction, unless a received packet holds it up
abbrev pub started : Transaction → Bus → Bus
started t b = cond (held t b.chip) (refused b) (carried t b)

abbrev pub launch_of : Option Transaction → Bus → Bus
launch_of None b = refused b
launch_of (Some t) b = started t b

unfoldable pub launch : ℕ → Bus → Bus
launch value b = launch_of (transaction_of value) b
