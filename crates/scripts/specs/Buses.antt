-- The bench chip as it is driven, directly or by frames. Assumes nothing.
use Rattle.port.specs.Bus.{Bus as Meant}
use Rattle.bench.specs.Chips.{bus_of}
use Rattle.bench.specs.declared.chips.BenchChip.{BenchChip}
use Rattle.scripts.specs.declared.buses.Bus.{Bus}
use Rattle.scripts.specs.declared.buses.Bus.TheVariants as bus
use Rattle.scripts.specs.declared.buses.Driven.{Driven}
use Rattle.scripts.specs.declared.buses.Driven.TheVariants as driven

-- the chip at the end of the bus
abbrev pub driven_chip : Driven → BenchChip
driven_chip (driven.Direct chip) = chip
driven_chip (driven.Framed port) = port.wire.port

abbrev pub driven_by : Driven → Bus
driven_by (driven.Direct chip) = bus.Direct
driven_by (driven.Framed port) = bus.Framed port.wire.duplex

-- either way the port stands for the chip's bus
abbrev pub driven_bus : Driven → Meant
driven_bus d = bus_of (driven_chip d)
