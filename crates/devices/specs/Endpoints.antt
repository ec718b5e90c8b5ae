-- What an endpoint in memory stands for. Assumes nothing.
use Rattle.std.specs.Prelude.{ℕ, List, map, vec_items}
use Rattle.std.specs.VecDeque.{deque_items}
use Rattle.port.specs.Endpoints.{Endpoint}
use Rattle.parts.specs.Rooms.{room_bytes, room_size}
use Rattle.devices.specs.declared.endpoints.DeviceEndpoint.{DeviceEndpoint}
use Rattle.devices.specs.declared.packets.Packet.{Packet}

abbrev pub packet_bytes : Packet → List ℕ
packet_bytes p = vec_items p.bytes

abbrev pub endpoint_of : DeviceEndpoint → Endpoint
endpoint_of e =
    record {
      address = e.spot.address;
      number = e.spot.number;
      direction = e.spot.direction;
      toggle = e.toggle;
      halted = e.halted;
      capacity = room_size e.taken;
      taken = room_bytes e.taken;
      waiting = map packet_bytes (deque_items e.waiting);
    }
