-- Written and read, read and written. Assumes nothing.
use Rattle.std.proofs.Common.{◌≡◌, ℕ, ◌<◌, ◌≤◌, true, false, List, length, take, Some, inl, inr, refl, ◌∙◌, arith, rules}
use Rattle.std.proofs.lemmas.Grind.{common_steps}
use Rattle.std.proofs.lemmas.List.{take_all, length-take}
use Rattle.std.proofs.lemmas.Bool.{cases_Bool}
use Rattle.std.proofs.lemmas.Bool.Decides.{nat_tests}
use Rattle.frames.specs.Asked.{Asked, puts, gets}
use Rattle.frames.specs.Format.{register_of, count_of, frame_of, fits, written_length, written, command_puts, command_register, body, asked_by, read}
use Rattle.frames.specs.Laws.{WrittenIsReadBack, ReadIsWrittenPlain, plain}
use Rattle.frames.proofs.Commands.{put_puts, get_gets, put_register, get_register, zeros_length, zeros_body}

-- the frame, as it is cut off the buffer
alone : (a : Asked) (buffer : List ℕ) → fits a buffer ≡ true → take (written_length a buffer) (written a buffer) ≡ frame_of a
alone a buffer t = grind (arith, common_steps)

small : (a : Asked) (buffer : List ℕ) → fits a buffer ≡ true → count_of a ≤ 64
small a buffer t = grind (arith, nat_tests)

read_frame : (a : Asked) → count_of a ≤ 64 → read (frame_of a) ≡ Some a
read_frame (puts r bytes) h = rw (take_all 64 bytes h, put_puts r, put_register r)
read_frame (gets r n) h = rw (zeros_body n h, get_gets r, get_register r, zeros_length n)

pub written_is_read_back : WrittenIsReadBack
written_is_read_back a buffer t = rw (alone a buffer t) (read_frame a (small a buffer t))

-- the access that a command byte asks for
module _ (command : ℕ) (bytes : List ℕ) (byte : command < 256) where
  frame_as_put : command_puts command ≡ true → frame_of (puts (command_register command) (body bytes)) ≡ plain command bytes
  frame_as_put t = grind (arith, nat_tests)

  frame_as_get : command_puts command ≡ false → frame_of (gets (command_register command) (length (body bytes))) ≡ plain command bytes
  frame_as_get f = grind (arith, nat_tests)

  asks_plain : (a : Asked) → a ≡ asked_by command (body bytes) → (frame_of a ≡ plain command bytes) × (register_of a ≤ 31) × (count_of a ≡ length (body bytes))
  asks_plain a e =
      elim (cases_Bool (command_puts command)) [
        | inl t ↦ rw (e, t) (rw t at (frame_as_put t), omega arith, refl)
        | inr f ↦ rw (e, f) (rw f at (frame_as_get f), omega arith, refl)
      ]

pub read_is_written_plain : ReadIsWrittenPlain
read_is_written_plain command bytes buffer a byte room e =
    let asks = asks_plain command bytes byte a (let same : a ≡ asked_by command (body bytes) = cc in same) in
    let short : length (body bytes) ≤ 64 = simp length-take (omega arith) in
    let fit : fits a buffer ≡ true = search rules in
    alone a buffer fit ∙ asks.0
