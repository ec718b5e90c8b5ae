-- One try as the row of register accesses that it makes: the meaning after it, and what it answers. Assumes nothing.
use Rattle.std.specs.Prelude.{ℕ, ◌+◌, ◌/◌, ◌%◌, Bool, cond, List, ◌++◌, length, drop, Some, None, Option, ◌==◌, nat_le}
use Rattle.port.specs.declared.toggles.Toggle.{Toggle}
use Rattle.port.specs.declared.toggles.Toggle.TheVariants.{Data0, Data1}
use Rattle.port.specs.Bus.{Bus}
use Rattle.port.specs.Accesses.{after_put, after_puts, got, gots, after_get, after_gets}
use Rattle.attempt.specs.declared.tries.Arrival.{Arrival}
use Rattle.attempt.specs.declared.tries.Arrival.TheVariants.{Nothing, Read, TooLong}

-- what is put to R29 for an OUT, and for an IN
abbrev pub send_control : Toggle → ℕ
send_control Data0 = 0x40
send_control Data1 = 0x80

abbrev pub receive_control : Toggle → ℕ
receive_control Data0 = 0x10
receive_control Data1 = 0x20

-- the launch values of OUT and IN at an endpoint: its number has four bits
abbrev pub out_value : ℕ → ℕ
out_value endpoint = 0x20 + endpoint % 16

abbrev pub in_value : ℕ → ℕ
in_value endpoint = endpoint % 16

-- R31 taken apart: the result code, the send toggle and the receive toggle
abbrev pub code_of : ℕ → ℕ
code_of status = status % 16

abbrev pub send_bit : ℕ → ℕ
send_bit status = status / 32 % 2

abbrev pub receive_bit : ℕ → ℕ
receive_bit status = status / 16 % 2

-- how every try begins: the address, and the toggle where the transaction has one
abbrev pub begun : ℕ → Option ℕ → Bus → Bus
begun address None b = after_put 28 address b
begun address (Some control) b = after_put 29 control (after_put 28 address b)

-- a launch, and the bus once its result was got
abbrev pub launched : ℕ → Bus → Bus
launched value b = after_put 30 value b

abbrev pub result_got : Bus → Bus
result_got b = after_get 31 b

-- OUT: the packet is loaded to R2 and its length to R7
module _ (address endpoint : ℕ) (toggle : Toggle) (bytes : List ℕ) (b : Bus) where
  abbrev pub out_launched : Bus
  out_launched = launched (out_value endpoint) (after_put 7 (length bytes) (after_puts 2 bytes (begun address (Some (send_control toggle)) b)))

  -- the result code, and the send toggle after it
  abbrev pub out_answer : ℕ × ℕ
  out_answer = (code_of (got 31 out_launched), send_bit (got 31 out_launched))

  abbrev pub after_out : Bus
  after_out = after_put 25 0x80 (result_got out_launched)

-- SETUP and HS-IN, a stage of a control request: the setup bytes, of which HS-IN has none, are loaded to R4
module _ (address value : ℕ) (setup : List ℕ) (b : Bus) where
  abbrev pub stage_launched : Bus
  stage_launched = launched value (after_puts 4 setup (begun address None b))

  -- the result code; the toggle of a stage is 0
  abbrev pub stage_answer : ℕ × ℕ
  stage_answer = (code_of (got 31 stage_launched), 0)

  abbrev pub after_stage : Bus
  after_stage = after_put 25 0x80 (result_got stage_launched)

-- the packet that an IN with result 0 received: how long it is, and, unless that is more than the room, its bytes
module _ (room : List ℕ) (b : Bus) where
  abbrev pub packet_length : ℕ
  packet_length = got 6 b

  abbrev pub fits_room : Bool
  fits_room = nat_le packet_length (length room)

  abbrev pub arrived : Arrival
  arrived = cond fits_room (Read packet_length) TooLong

  -- the room afterwards: the bytes at its front, the rest as it was
  abbrev pub room_read : List ℕ
  room_read = cond fits_room (gots 1 packet_length (after_get 6 b) ++ drop packet_length room) room

  abbrev pub after_read : Bus
  after_read = cond fits_room (after_gets 1 packet_length (after_get 6 b)) (after_get 6 b)

-- IN: the room is as long as the packet size
module _ (address endpoint : ℕ) (toggle : Toggle) (room : List ℕ) (b : Bus) where
  abbrev pub in_launched : Bus
  in_launched = launched (in_value endpoint) (begun address (Some (receive_control toggle)) b)

  -- the result code, and the receive toggle after it
  abbrev pub in_answer : ℕ × ℕ
  in_answer = (code_of (got 31 in_launched), receive_bit (got 31 in_launched))

  -- result 0: a packet was received
  abbrev pub in_succeeds : Bool
  in_succeeds = code_of (got 31 in_launched) == 0

  abbrev pub in_arrival : Arrival
  in_arrival = cond in_succeeds (arrived room (result_got in_launched)) Nothing

  abbrev pub in_room : List ℕ
  in_room = cond in_succeeds (room_read room (result_got in_launched)) room

  abbrev pub after_in : Bus
  after_in = cond in_succeeds (after_put 25 0x84 (after_read room (result_got in_launched))) (after_put 25 0x80 (result_got in_launched))
