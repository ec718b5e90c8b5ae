-- What the record in memory stands for. Assumes nothing.
use Rattle.std.specs.Prelude.{ℕ, List, drop}
use Rattle.port.specs.Chip.{Chip}
use Rattle.parts.specs.Rooms.{room_bytes}
use Rattle.parts.specs.declared.inboxes.Inbox.{Inbox}
use Rattle.parts.specs.declared.records.ChipRecord.{ChipRecord}

-- the bytes that were received and not yet taken
abbrev pub inbox_bytes : Inbox → List ℕ
inbox_bytes inbox = drop inbox.read (room_bytes inbox.room)

abbrev pub chip_of : ChipRecord → Chip
chip_of r =
    record {
      sending = room_bytes r.sending;
      count = r.count;
      setup = room_bytes r.setup;
      incoming = inbox_bytes r.incoming;
      address = r.address;
      send_toggle = r.send_toggle;
      receive_toggle = r.receive_toggle;
      result = r.result;
      done = r.done;
      free = r.free;
      received = r.received;
    }

-- the chip with another send buffer, and with another setup buffer
module _ (c : Chip) where
  abbrev pub with_sending : List ℕ → Chip
  with_sending bytes =
      record {
        sending = bytes;
        count = c.count;
        setup = c.setup;
        incoming = c.incoming;
        address = c.address;
        send_toggle = c.send_toggle;
        receive_toggle = c.receive_toggle;
        result = c.result;
        done = c.done;
        free = c.free;
        received = c.received;
      }

  abbrev pub with_setup : List ℕ → Chip
  with_setup bytes =
      record {
        sending = c.sending;
        count = c.count;
        setup = bytes;
        incoming = c.incoming;
        address = c.address;
        send_toggle = c.send_toggle;
        receive_toggle = c.receive_toggle;
        result = c.result;
        done = c.done;
        free = c.free;
        received = c.received;
      }
