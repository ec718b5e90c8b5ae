-- What a try leaves of the buffer: the bytes that came stand behind what was received, and all else is as it was. Assumes nothing.
use Rattle.std.proofs.Common.{◌≡◌, ℕ, ◌+◌, ◌≤◌, List, ◌++◌, length, take, drop, sym, refl, ap, ◌∙◌, append_assoc, arith}
use Rattle.std.proofs.lemmas.Grind.{common_steps}
use Rattle.std.proofs.lemmas.List.{length-take, length-drop, length-append, take-append-drop, drop_at, drop-append-le, drop-drop}
use Rattle.host.specs.Fetching.{written}

-- where the room for a packet begins at i, and the bytes fit it
module _ (i size : ℕ) (bytes buffer : List ℕ) (here : i ≤ length buffer) (fits : length bytes ≤ length (take size (drop i buffer))) where
  abbrev room : List ℕ
  room = take size (drop i buffer)

  abbrev n : ℕ
  n = length bytes

  pub written_is : written i (bytes ++ drop n room) buffer ≡ take i buffer ++ (bytes ++ drop (i + n) buffer)
  written_is =
      let back = drop i buffer in
      let long : length (bytes ++ drop n room) ≡ length room = (let a = length-append bytes (drop n room) in let b = length-drop n room in omega arith) in
      let cut : drop (length room) back ≡ drop (length room) (room ++ drop size back) = ap (drop (length room)) (sym (take-append-drop size back)) in
      let behind : drop (length (bytes ++ drop n room)) back ≡ drop size back = ap (λ k. drop k back) long ∙ cut ∙ drop_at room (drop size back) (length room) refl in
      let whole : drop n room ++ drop size back ≡ drop (i + n) buffer = sym (drop-append-le n room (drop size back) fits) ∙ ap (drop n) (take-append-drop size back) ∙ drop-drop n i buffer in
      ap (λ l. take i buffer ++ ((bytes ++ drop n room) ++ l)) behind
      ∙ ap (λ l. take i buffer ++ l) (append_assoc bytes (drop n room) (drop size back) ∙ ap (λ l. bytes ++ l) whole)

  pub written_length : length (written i (bytes ++ drop n room) buffer) ≡ length buffer
  written_length = grind (arith, common_steps)

  pub written_front : take i (written i (bytes ++ drop n room) buffer) ≡ take i buffer
  written_front = grind (arith, common_steps)

  pub written_bytes : drop i (written i (bytes ++ drop n room) buffer) ≡ bytes ++ drop (i + n) buffer
  written_bytes =
      let c = length-take i buffer in
      ap (drop i) written_is ∙ drop_at (take i buffer) (bytes ++ drop (i + n) buffer) i (omega arith)

  pub written_behind : drop (i + n) (written i (bytes ++ drop n room) buffer) ≡ drop (i + n) buffer
  written_behind =
      sym (drop-drop n i (written i (bytes ++ drop n room) buffer)) ∙ ap (drop n) written_bytes ∙ drop_at bytes (drop (i + n) buffer) n refl

-- the room as it was, written back, changes nothing
pub written_back : (i size : ℕ) (buffer : List ℕ) → i ≤ length buffer → written i (take size (drop i buffer)) buffer ≡ buffer
written_back i size buffer here = grind (arith, common_steps)
