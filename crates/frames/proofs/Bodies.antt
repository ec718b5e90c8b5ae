-- One data byte more of a frame, from the front. Assumes nothing.
use Rattle.std.proofs.Common.{◌≡◌, ℕ, suc, ◌+◌, ◌-◌, ◌<◌, min, List, ◌∷◌, ◌++◌, length, take, drop, set, append_assoc, arith}
use Rattle.std.proofs.lemmas.List.{take_min, drop_min, take_more_set, length-set}
use Rattle.port.specs.Bus.{Bus}
use Rattle.port.specs.Accesses.{got, after_get}
use Rattle.frames.specs.Registers.{next_register}
use Rattle.frames.specs.declared.duplexes.Duplex.{Duplex}
use Rattle.frames.specs.Format.{body}
use Rattle.frames.specs.Exchanges.{got_body, after_got_body, first_answer, body_answers, after_body, exchanged, after_exchange}

-- the get of a byte leads from what is left before it to what is left after it
one_less : (n i : ℕ) → i < n → n - i ≡ suc (n - (i + 1))
one_less n i h = omega arith

module _ (r r' : ℕ) (bytes : List ℕ) (i x : ℕ) (b b' : Bus) (h : i < length bytes) (n : r' ≡ next_register r) (e : b' ≡ after_get r b) where
  pub get_more : (last : Bus) → after_got_body r (length bytes - i) b ≡ last → after_got_body r' (length (set bytes i x) - (i + 1)) b' ≡ last
  get_more last inv = rw (length-set, n, e) (rw (one_less (length bytes) i h) at inv)

  pub got_more : (all : List ℕ) → x ≡ got r b → take i bytes ++ got_body r (length bytes - i) b ≡ all → take (i + 1) (set bytes i x) ++ got_body r' (length (set bytes i x) - (i + 1)) b' ≡ all
  got_more all v inv = rw (length-set, take_more_set bytes i x h, append_assoc, v, n, e) (rw (one_less (length bytes) i h) at inv)

-- the data bytes of a frame, and what lies past them
pub data_bytes : (xs : List ℕ) (end : ℕ) → end ≡ min (length xs) 64 → take end xs ≡ body xs
data_bytes xs end e = let f : end ≡ min 64 (length xs) = omega arith in rw (f, take_min)

past_data : (xs : List ℕ) (end : ℕ) → end ≡ min (length xs) 64 → drop end xs ≡ drop 64 xs
past_data xs end e = let f : end ≡ min 64 (length xs) = omega arith in rw (f, drop_min)

-- the whole exchange, from its status and its data bytes
module _ (duplex : Duplex) (b b₁ : Bus) (same : b₁ ≡ b) (command end : ℕ) (bytes xs : List ℕ) (e : bytes ≡ command ∷ xs) (m : end ≡ min (length xs) 64) where
  pub exchange_answers : (s : ℕ) (part : List ℕ) → s ≡ first_answer duplex b → part ≡ body_answers command (take end xs) b₁ → s ∷ (part ++ drop end xs) ≡ exchanged duplex bytes b
  exchange_answers s part f p = rw (e, f, p, data_bytes xs end m, past_data xs end m, same)

  pub exchange_after : (b' : Bus) → b' ≡ after_body command (take end xs) b₁ → b' ≡ after_exchange bytes b
  exchange_after b' p = rw (e, p, data_bytes xs end m, same)
