-- What a bench chip stands for: its chip record, its devices and the fates that are left. Assumes nothing.
use Rattle.std.specs.Prelude.{◌≡◌, [], None}
use Rattle.port.specs.Chip.{fresh_chip}
use Rattle.port.specs.declared.fates.Fate.{Fate}
use Rattle.port.specs.declared.transactions.Transaction.{Transaction}
use Rattle.port.specs.Bus.{Bus}
use Rattle.port.specs.Launches.{outcome_of, ends}
use Rattle.parts.specs.Queues.{queue_bytes}
use Rattle.parts.specs.Records.{chip_of}
use Rattle.devices.specs.Devices.{devices_of}
use Rattle.bench.specs.declared.boards.Board.{Board}
use Rattle.bench.specs.declared.chips.BenchChip.{BenchChip}

abbrev pub bus_of : BenchChip → Bus
bus_of b = record { chip = chip_of b.board.chip; devices = devices_of b.board.devices; fates = queue_bytes b.fates }

-- a board after a transaction under a fate: the chip and the devices are what the rules of a launch make of them
pub record Transacted (t : Transaction) (fate : Fate) (before after : Board) : Type 0 where
  pub on_chip : chip_of after.chip ≡ ends t (outcome_of t fate (chip_of before.chip) (devices_of before.devices)) (chip_of before.chip)
  pub on_devices : devices_of after.devices ≡ (outcome_of t fate (chip_of before.chip) (devices_of before.devices)).devices

-- a fresh chip on a bus without devices, and no fates
abbrev pub empty_bus : Bus
empty_bus = record { chip = fresh_chip; devices = record { endpoints = []; heard = None }; fates = [] }
