-- What is printed of a bus: a line for each endpoint, and one for the fates left. Assumes nothing.
use Rattle.std.specs.Prelude.{ℕ, List, [], ◌∷◌, ◌++◌, codes, flat_map, length}
use Rattle.std.specs.Fmt.{decimal}
use Rattle.port.specs.declared.directions.Direction.{Direction}
use Rattle.port.specs.declared.directions.Direction.TheVariants.{Out, In}
use Rattle.port.specs.Bus.{Bus}
use Rattle.port.specs.Endpoints.{Endpoint}
use Rattle.port.specs.Toggles.{bit}
use Rattle.scripts.specs.Words.{hex_text, direction_word, life_word}

-- where an endpoint is
abbrev pub place_text : Endpoint → List ℕ
place_text e = codes "cell " ++ (decimal e.address ++ (codes " " ++ (decimal e.number ++ (codes " " ++ direction_word e.direction))))

-- and its state
abbrev pub state_text : Endpoint → List ℕ
state_text e = codes "toggle " ++ (decimal (bit e.toggle) ++ (codes " " ++ (life_word e.halted ++ (codes " capacity " ++ decimal e.capacity))))

-- a packet, behind a space
abbrev pub packet_text : List ℕ → List ℕ
packet_text packet = codes " " ++ hex_text packet

abbrev pub waiting_text : List (List ℕ) → List ℕ
waiting_text [] = codes " none"
waiting_text (packet ∷ packets) = flat_map packet_text (packet ∷ packets)

-- the bytes that an OUT endpoint has taken, or the packets that wait at an IN endpoint
abbrev pub held_at : Direction → Endpoint → List ℕ
held_at Out e = codes "taken " ++ hex_text e.taken
held_at In e = codes "waiting" ++ waiting_text e.waiting

abbrev pub held_text : Endpoint → List ℕ
held_text e = held_at e.direction e

abbrev pub endpoint_text : Endpoint → List ℕ
endpoint_text e = place_text e ++ (codes " " ++ (state_text e ++ (codes " " ++ (held_text e ++ codes "\n"))))

abbrev pub bus_text : Bus → List ℕ
bus_text b = flat_map endpoint_text b.devices.endpoints ++ (codes "fates " ++ (decimal (length b.fates) ++ codes "\n"))
