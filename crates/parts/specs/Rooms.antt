-- What a room holds, and its size. Assumes nothing.
use Rattle.std.specs.Prelude.{◌≡◌, ℕ, List, vec_items}
use Rattle.parts.specs.declared.rooms.Room.{Room}

abbrev pub room_bytes : Room → List ℕ
room_bytes room = vec_items room.bytes

abbrev pub room_size : Room → ℕ
room_size room = room.size

-- the room holds these bytes, and is of this size
abbrev pub Holds : List ℕ → ℕ → Room → Type 0
Holds bytes size room = (room_bytes room ≡ bytes) × (room_size room ≡ size)
