-- The frames of a many-access, seen as a whole. Assumes nothing.
use Rattle.std.proofs.Common.{◌≡◌, ℕ, zero, suc, ◌<◌, ◌≤◌, leb, List, [], ◌∷◌, ◌++◌, inl, inr, map, length, take, drop, sym, refl, ap, ◌∙◌, subst, append_assoc, append-nil, arith}
use Rattle.std.proofs.lemmas.List.{length-drop, length-take-le, take-append-drop}
use Rattle.std.proofs.lemmas.Bool.{cases_lt, cond-true, le-leb}
use Rattle.frames.specs.Asked.{Asked, puts, gets}
use Rattle.frames.specs.Format.{put_command, get_command, command_of, register_of, body_of}
use Rattle.frames.specs.Pieces.{frame_size, pieces, row, frames_of}
use Rattle.frames.specs.Laws.{Filled, OneByteOneFrame, PiecesAreFilled, ChainsAreWhole, NothingAbove31}
use Rattle.frames.proofs.Cutting.{pieces_more, first_piece}
use Rattle.frames.proofs.Carrying.{some_fit}
use Rattle.frames.proofs.Above.{put_above, got_above, get_above}

-- a piece that takes all
one_piece : (size : ℕ) (xs : List ℕ) → 0 < length xs → length xs ≤ size → pieces size xs ≡ xs ∷ []
one_piece size xs h small = first_piece size xs [] xs (omega arith) h (sym (append-nil xs)) (omega arith)

module _ (size : ℕ) (some : 0 < size) where
  filled : (n : ℕ) (xs : List ℕ) → length xs ≤ n → Filled size (pieces size xs) xs
  filled n [] h = refl
  filled zero (x ∷ xs) h = absurd (omega arith)
  filled (suc n) (x ∷ xs) h =
      let rest = drop size (x ∷ xs) in
      let left = length-drop size (x ∷ xs) in
      elim (cases_lt size (length (x ∷ xs))) [
        | inl lt ↦
            let more = pieces_more size rest some (omega arith) in
            subst (λ (ps : List (List ℕ)). Filled size ps (x ∷ xs)) (sym (pieces_more size (x ∷ xs) some (omega arith) ∙ ap (λ ps. take size (x ∷ xs) ∷ ps) more))
            (length-take-le size (x ∷ xs) (omega arith), (rest, take-append-drop size (x ∷ xs), subst (λ (ps : List (List ℕ)). Filled size ps rest) more (filled n rest (omega arith))))
        | inr le ↦ subst (λ (ps : List (List ℕ)). Filled size ps (x ∷ xs)) (sym (one_piece size (x ∷ xs) (omega arith) le)) (refl, omega arith, le)
      ]

pub pieces_are_filled : PiecesAreFilled
pieces_are_filled size bytes some = filled size some (length bytes) bytes (omega arith)

-- one byte, and none
module _ (register : ℕ) (h : register ≤ 31) where
  framed_row : (a : Asked) → register_of a ≡ register → frames_of a ≡ row (command_of a) (frame_size (register_of a)) (body_of a)
  framed_row a e = cond-true (leb (register_of a) 31) (row (command_of a) (frame_size (register_of a)) (body_of a)) [] (le-leb (register_of a) 31 (omega arith))

  one_row : (command x : ℕ) → row command (frame_size register) (x ∷ []) ≡ (command ∷ (x ∷ [])) ∷ []
  one_row command x = ap (map (λ p. command ∷ p)) (one_piece (frame_size register) (x ∷ []) (omega arith) (let s = some_fit register in omega arith))

pub one_byte_one_frame : OneByteOneFrame
one_byte_one_frame register h = (
  λ value. framed_row register h (puts register (value ∷ [])) refl ∙ one_row register h (put_command register) value,
  framed_row register h (gets register 1) refl ∙ one_row register h (get_command register) 0,
  framed_row register h (puts register []) refl,
  framed_row register h (gets register 0) refl,
)

pub chains_are_whole : ChainsAreWhole
chains_are_whole [] before after e = sym e ∙ sym (append-nil before)
chains_are_whole (frame ∷ frames) before after c =
    chains_are_whole frames c.0 after c.2
    ∙ ap (λ l. l ++ frames) c.1
    ∙ append_assoc before (frame ∷ []) frames

pub nothing_above_31 : NothingAbove31
nothing_above_31 register h = (put_above register h, got_above register h, get_above register h)
