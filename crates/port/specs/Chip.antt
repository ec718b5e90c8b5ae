-- The chip record: what the host chip holds between two accesses. Assumes nothing.
use Rattle.std.specs.Prelude.{ℕ, ◌+◌, ◌-◌, ◌*◌, ◌/◌, ◌%◌, Bool, true, false, cond, List, [], ◌∷◌, ◌++◌, length, take, drop, replicate, ◌==◌, nat_le, nat_lt}
use Rattle.port.specs.declared.toggles.Toggle.{Toggle}
use Rattle.port.specs.declared.toggles.Toggle.TheVariants.{Data0, Data1}
use Rattle.port.specs.Toggles.{bit}

pub record Chip : Type 0 where
  -- the send buffer, loaded by R2: at most 64 bytes
  pub sending : List ℕ
  -- how many bytes the next OUT sends, set by R7: at most 64
  pub count : ℕ
  -- the setup buffer, loaded by R4: at most 8 bytes
  pub setup : List ℕ
  -- the bytes received and not yet taken by R1: at most 64
  pub incoming : List ℕ
  -- the device address that the next launch goes to, set by R28
  pub address : ℕ
  -- the toggle that the next OUT carries, and the one that the next IN expects
  pub send_toggle : Toggle
  pub receive_toggle : Toggle
  -- the result code of the last launch: 0 to 15
  pub result : ℕ
  -- a launch has ended; the send buffer is free; a packet was received
  pub done : Bool
  pub free : Bool
  pub received : Bool

-- the record of a chip that nothing was put to: the send buffer is free, and the rest is empty or 0
abbrev pub fresh_chip : Chip
fresh_chip =
    record {
      sending = [];
      count = 0;
      setup = [];
      incoming = [];
      address = 0;
      send_toggle = Data0;
      receive_toggle = Data0;
      result = 0;
      done = false;
      free = true;
      received = false;
    }

-- one flag as the weight that it has in a register
abbrev pub weight : Bool → ℕ → ℕ
weight true w = w
weight false w = 0

-- whether the bit of this weight (a power of two) is set in a byte
abbrev pub has_bit : ℕ → ℕ → Bool
has_bit w byte = byte / w % 2 == 1

-- a buffer of this size after one byte more: a byte beyond the size is dropped
abbrev pub loaded : ℕ → ℕ → List ℕ → List ℕ
loaded size byte bytes = cond (nat_lt (length bytes) size) (bytes ++ byte ∷ []) bytes

-- the first n bytes, and zeros where there are fewer
abbrev pub filled : ℕ → List ℕ → List ℕ
filled n bytes = take n bytes ++ replicate (n - length bytes) 0

-- a toggle after a put to R29: the one bit makes it DATA1, the other DATA0; both at once, or neither, leave it
abbrev pub toggled : Bool → Bool → Toggle → Toggle
toggled true true toggle = toggle
toggled true false toggle = Data1
toggled false true toggle = Data0
toggled false false toggle = toggle

module _ (c : Chip) where
  -- put R2: one byte more in the send buffer
  abbrev pub load_sending : ℕ → Chip
  load_sending byte =
      record {
        sending = loaded 64 byte c.sending;
        count = c.count;
        setup = c.setup;
        incoming = c.incoming;
        address = c.address;
        send_toggle = c.send_toggle;
        receive_toggle = c.receive_toggle;
        result = c.result;
        done = c.done;
        free = c.free;
        received = c.received;
      }

  -- put R4: one byte more in the setup buffer
  abbrev pub load_setup : ℕ → Chip
  load_setup byte =
      record {
        sending = c.sending;
        count = c.count;
        setup = loaded 8 byte c.setup;
        incoming = c.incoming;
        address = c.address;
        send_toggle = c.send_toggle;
        receive_toggle = c.receive_toggle;
        result = c.result;
        done = c.done;
        free = c.free;
        received = c.received;
      }

  -- the send count and the flag free
  abbrev pub with_count : ℕ → Bool → Chip
  with_count n flag =
      record {
        sending = c.sending;
        count = n;
        setup = c.setup;
        incoming = c.incoming;
        address = c.address;
        send_toggle = c.send_toggle;
        receive_toggle = c.receive_toggle;
        result = c.result;
        done = c.done;
        free = flag;
        received = c.received;
      }

  -- put R7: at most 64 sets the send count, and the send buffer is no longer free; a larger value does nothing
  abbrev pub set_count : ℕ → Chip
  set_count n = cond (nat_le n 64) (with_count n false) c

  -- put R25: bit 7 clears done; bit 2 clears received and empties the receive buffer
  abbrev pub clear_flags : ℕ → Chip
  clear_flags byte =
      record {
        sending = c.sending;
        count = c.count;
        setup = c.setup;
        incoming = cond (has_bit 4 byte) [] c.incoming;
        address = c.address;
        send_toggle = c.send_toggle;
        receive_toggle = c.receive_toggle;
        result = c.result;
        done = cond (has_bit 128 byte) false c.done;
        free = c.free;
        received = cond (has_bit 4 byte) false c.received;
      }

  -- put R28: the low seven bits are the address
  abbrev pub set_address : ℕ → Chip
  set_address byte =
      record {
        sending = c.sending;
        count = c.count;
        setup = c.setup;
        incoming = c.incoming;
        address = byte % 128;
        send_toggle = c.send_toggle;
        receive_toggle = c.receive_toggle;
        result = c.result;
        done = c.done;
        free = c.free;
        received = c.received;
      }

  -- put R29: bits 7 and 6 set the send toggle, bits 5 and 4 the receive toggle
  abbrev pub set_toggles : ℕ → Chip
  set_toggles byte =
      record {
        sending = c.sending;
        count = c.count;
        setup = c.setup;
        incoming = c.incoming;
        address = c.address;
        send_toggle = toggled (has_bit 128 byte) (has_bit 64 byte) c.send_toggle;
        receive_toggle = toggled (has_bit 32 byte) (has_bit 16 byte) c.receive_toggle;
        result = c.result;
        done = c.done;
        free = c.free;
        received = c.received;
      }

  -- get R1: the next received byte is taken
  abbrev pub take_incoming : Chip
  take_incoming =
      record {
        sending = c.sending;
        count = c.count;
        setup = c.setup;
        incoming = drop 1 c.incoming;
        address = c.address;
        send_toggle = c.send_toggle;
        receive_toggle = c.receive_toggle;
        result = c.result;
        done = c.done;
        free = c.free;
        received = c.received;
      }

  -- get R25: the flags done, free and received
  abbrev pub flags : ℕ
  flags = weight c.done 128 + weight c.free 8 + weight c.received 4

  -- get R31: the two toggles and the result code
  abbrev pub status : ℕ
  status = 32 * bit c.send_toggle + 16 * bit c.receive_toggle + c.result

  -- the packet that an OUT sends: the first bytes of the send buffer, by the count, zeros where fewer are loaded
  abbrev pub packet : List ℕ
  packet = filled c.count c.sending

  -- the eight bytes that a SETUP sends, zeros where fewer are loaded
  abbrev pub request : List ℕ
  request = filled 8 c.setup

  -- how every launch ends, legal or not: this result, these toggles, what was received; the send and setup buffers are empty,
  -- the send count is 0, and free and done are set
  abbrev pub ended : ℕ → Toggle → Toggle → List ℕ → Bool → Chip
  ended code send receive bytes flag =
      record {
        sending = [];
        count = 0;
        setup = [];
        incoming = bytes;
        address = c.address;
        send_toggle = send;
        receive_toggle = receive;
        result = code;
        done = true;
        free = true;
        received = flag;
      }
