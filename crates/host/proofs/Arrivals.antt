-- What a try brings on any bus: nothing, or bytes that fit the room, or a packet that is too long for it. Assumes nothing.
use Rattle.std.proofs.Common.{◌≡◌, ℕ, zero, suc, ◌≤◌, Bool, true, false, cond, eqb, leb, List, ◌++◌, length, drop, sym, refl, ap, subst}
use Rattle.std.proofs.lemmas.Bool.{leb-true}
use Rattle.port.specs.declared.toggles.Toggle.{Toggle}
use Rattle.port.specs.Bus.{Bus}
use Rattle.port.specs.Accesses.{gots, got, after_get}
use Rattle.attempt.specs.declared.tries.Arrival.{Arrival}
use Rattle.attempt.specs.declared.tries.Arrival.TheVariants.{Nothing, Read, TooLong}
use Rattle.attempt.specs.Tries.{in_launched, in_answer, in_arrival, in_room, arrived, room_read, result_got}

-- by whether the try succeeds: what arrived, and the room afterwards
pub data Brings (room : List ℕ) (succeeds : Bool) : Arrival → List ℕ → Type 0 where
  nothing : succeeds ≡ false → Brings room succeeds Nothing room
  bytes : succeeds ≡ true → (bs : List ℕ) → length bs ≤ length room → Brings room succeeds (Read (length bs)) (bs ++ drop (length bs) room)
  too_long : succeeds ≡ true → Brings room succeeds TooLong room

gots_length : (r n : ℕ) (b : Bus) → length (gots r n b) ≡ n
gots_length r zero b = refl
gots_length r (suc n) b = ap suc (gots_length r n (after_get r b))

by_fit : (room bs : List ℕ) (n : ℕ) (fits : Bool) → length bs ≡ n → (fits ≡ true → n ≤ length room) → Brings room true (cond fits (Read n) TooLong) (cond fits (bs ++ drop n room) room)
by_fit room bs n true l h = subst (λ k. Brings room true (Read k) (bs ++ drop k room)) l (bytes refl bs (subst (λ k. k ≤ length room) (sym l) (h refl)))
by_fit room bs n false l h = too_long refl

by_result : (room : List ℕ) (succeeds : Bool) (x : Arrival) (y : List ℕ) → Brings room true x y → Brings room succeeds (cond succeeds x Nothing) (cond succeeds y room)
by_result room true x y h = h
by_result room false x y h = nothing refl

pub brings : (a e : ℕ) (t : Toggle) (room : List ℕ) (b : Bus) → Brings room (eqb (in_answer a e t room b).0 0) (in_arrival a e t room b) (in_room a e t room b)
brings a e t room b =
    let b' = result_got (in_launched a e t room b) in
    let n = got 6 b' in
    by_result room (eqb (in_answer a e t room b).0 0) (arrived room b') (room_read room b')
    (by_fit room (gots 1 n (after_get 6 b')) n (leb n (length room)) (gots_length 1 n (after_get 6 b')) (leb-true n (length room)))
