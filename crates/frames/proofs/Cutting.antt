-- One frame more of a many-access, from the front. Assumes nothing.
use Rattle.std.proofs.Common.{◌≡◌, ℕ, zero, suc, ◌+◌, ◌-◌, ◌<◌, ◌≤◌, min, leb, List, [], ◌∷◌, ◌++◌, map, length, take, drop, replicate, sym, refl, ap, ◌∙◌, subst, append_assoc, append-nil, arith}
use borrow.Rule.Slice.PartMut.{put_mid}
use Rattle.std.proofs.lemmas.List.{take_all, nil_from_length, length-drop, length-take-le}
use Rattle.std.proofs.lemmas.Grind.{common_steps}
use Rattle.std.proofs.lemmas.Bool.{cond-true, le-leb}
use Rattle.port.specs.Bus.{Bus}
use Rattle.port.specs.Accesses.{after_put, after_get, after_puts, gots, after_gets}
use Rattle.frames.specs.Asked.{Asked, puts, gets}
use Rattle.frames.specs.Format.{put_command, get_command, command_of, register_of, body_of}
use Rattle.frames.specs.Pieces.{frame_size, cut, pieces, row, frames_of}
use Rattle.frames.specs.Chains.{Chain}
use Rattle.frames.proofs.Commands.{zeros_length, zeros_parts}
use Rattle.frames.proofs.Carrying.{some_fit}

-- whatever chain of the frames that are left there is, it ends a chain of all
abbrev pub Leads : {W : Type 0} → (W → List ℕ → W → Type 0) → List (List ℕ) → W → List (List ℕ) → W → Type 0
Leads {W} heard left here all start = (last : W) → Chain heard left here last → Chain heard all start last

-- how many pieces are allowed does not matter, once they are as many as the bytes
cut_enough : (n m size : ℕ) (xs : List ℕ) → 0 < size → length xs ≤ n → length xs ≤ m → cut n size xs ≡ cut m size xs
cut_enough zero zero size xs s h k = refl
cut_enough zero (suc m) size [] s h k = refl
cut_enough zero (suc m) size (x ∷ xs) s h k = absurd (omega arith)
cut_enough (suc n) zero size [] s h k = refl
cut_enough (suc n) zero size (x ∷ xs) s h k = absurd (omega arith)
cut_enough (suc n) (suc m) size [] s h k = refl
cut_enough (suc n) (suc m) size (x ∷ xs) s h k =
    rw (cut_enough n m size (drop size (x ∷ xs)) s (simp length-drop (omega arith)) (simp length-drop (omega arith)))

pub pieces_more : (size : ℕ) (xs : List ℕ) → 0 < size → 0 < length xs → pieces size xs ≡ take size xs ∷ pieces size (drop size xs)
pieces_more size [] s h = absurd (omega arith)
pieces_more size (x ∷ xs) s h =
    rw (cut_enough (length xs) (length (drop size (x ∷ xs))) size (drop size (x ∷ xs)) s (simp length-drop (omega arith)) (omega arith))

-- a piece in front that is full, or all that there is
pub first_piece : (size : ℕ) (piece rest xs : List ℕ) → 0 < size → 0 < length xs → xs ≡ piece ++ rest → length piece ≡ min size (length xs) → pieces size xs ≡ piece ∷ pieces size rest
first_piece size piece rest xs some h e l =
    let front : take size xs ≡ piece = grind (arith, common_steps) in
    let back : drop size xs ≡ rest = grind (arith, common_steps) in
    rw (pieces_more size xs some h, front, back)

module _ {W : Type 0} (heard : W → List ℕ → W → Type 0) (command size : ℕ) (some : 0 < size) where
  -- one frame was heard, and those of what is left follow
  pub leads_more : (xs piece rest : List ℕ) (w m : W) (all : List (List ℕ)) (start : W) → 0 < length xs → xs ≡ piece ++ rest → length piece ≡ min size (length xs) → heard w (command ∷ piece) m → Leads heard (row command size xs) w all start → Leads heard (row command size rest) m all start
  leads_more xs piece rest w m all start h e l one lead last chain =
      lead last (subst (λ (fs : List (List ℕ)). Chain heard fs w last) (sym (ap (map (λ p. command ∷ p)) (first_piece size piece rest xs some h e l))) (m, one, chain))

  -- no frame is left
  pub leads_all : (xs : List ℕ) (w : W) (all : List (List ℕ)) (start : W) → length xs ≡ 0 → Leads heard (row command size xs) w all start → Chain heard all start w
  leads_all [] w all start h lead = lead w refl
  leads_all (x ∷ xs) w all start h lead = absurd (omega arith)

-- the port's meaning: a many-access in two parts
module _ (r : ℕ) where
  pub puts_parts : (xs ys : List ℕ) (b : Bus) → after_puts r (xs ++ ys) b ≡ after_puts r ys (after_puts r xs b)
  puts_parts [] ys b = refl
  puts_parts (x ∷ xs) ys b = puts_parts xs ys (after_put r x b)

  gets_parts : (n a c : ℕ) (b : Bus) → n ≡ a + c → (gots r n b ≡ gots r a b ++ gots r c (after_gets r a b)) × (after_gets r n b ≡ after_gets r c (after_gets r a b))
  gets_parts n zero c b e = let same : n ≡ c = omega arith in rw same (refl, refl)
  gets_parts zero (suc a) c b e = absurd (omega arith)
  gets_parts (suc n) (suc a) c b e = let more = gets_parts n a c (after_get r b) (omega arith) in (rw more.0, more.1)

pub gots_length : (r n : ℕ) (b : Bus) → length (gots r n b) ≡ n
gots_length r zero b = refl
gots_length r (suc n) b = ap suc (gots_length r n (after_get r b))

-- the front of a slice, after a write to its part from i to e
module _ (i e : ℕ) (into part : List ℕ) (l : length part ≡ e - i) where
  length_written : i ≤ e → e ≤ length into → length (put_mid i (e - i) into part) ≡ length into
  length_written h k = grind (arith, common_steps)

  front_written : (j : ℕ) → i < length into → i < j → e ≡ min (length into) j → take j (put_mid i (e - i) into part) ≡ take i into ++ part
  front_written j h k m = grind (arith, common_steps)

-- the first i of n bytes from a register: where the port and the slice stand, and which frames were heard
pub record Fetched {W : Type 0} (meaning : W → Bus) (heard : W → List ℕ → W → Type 0) (r n : ℕ) (first : W) (i : ℕ) (into : List ℕ) (w : W) : Type 0 where
  pub kept : length into ≡ n
  pub after : after_gets r (n - i) (meaning w) ≡ after_gets r n (meaning first)
  pub bytes : take i into ++ gots r (n - i) (meaning w) ≡ gots r n (meaning first)
  pub sent : Leads heard (row (get_command r) (frame_size r) (replicate (n - i) 0)) w (row (get_command r) (frame_size r) (replicate n 0)) first

module _ {W : Type 0} (meaning : W → Bus) (heard : W → List ℕ → W → Type 0) (r n : ℕ) (first : W) where
  pub fetched_none : (into : List ℕ) → length into ≡ n → Fetched meaning heard r n first 0 into first
  fetched_none into h =
      let all : n - 0 ≡ n = omega arith in
      record {
        kept = h;
        after = ap (λ k. after_gets r k (meaning first)) all;
        bytes = ap (λ k. gots r k (meaning first)) all;
        sent = λ last chain. subst (λ (k : ℕ). Chain heard (row (get_command r) (frame_size r) (replicate k 0)) first last) all chain;
      }

  -- a frame for the part from i to e, which is all that is left where j lies past the end
  pub fetched_more : (i j e l : ℕ) (into part : List ℕ) (w w' : W) → i < n → j ≡ i + frame_size r → e ≡ min (length into) j → l ≡ length (take (e - i) (drop i into)) → part ≡ gots r l (meaning w) → meaning w' ≡ after_gets r l (meaning w) → heard w (get_command r ∷ replicate l 0) w' → Fetched meaning heard r n first i into w → Fetched meaning heard r n first j (put_mid i (e - i) into part) w'
  fetched_more i j e l into part w w' h step m long v a one f =
      let some = some_fit r in
      let kept = f.kept in
      let left = length-drop i into in
      let exact : l ≡ e - i = long ∙ length-take-le (e - i) (drop i into) (omega arith) in
      let size = ap length v ∙ gots_length r l (meaning w) in
      let split : n - i ≡ l + (n - j) = omega arith in
      let parts = gets_parts r (n - i) l (n - j) (meaning w) split in
      let front = front_written i e into part (omega arith) j (omega arith) (omega arith) m in
      let joined = append_assoc (take i into) part (gots r (n - j) (meaning w')) in
      let all = zeros_length (n - i) in
      let one_long = zeros_length l in
      record {
        kept = rw (length_written i e into part (omega arith) (omega arith) (omega arith)) kept;
        after = cc (parts.1, a, f.after);
        bytes = cc (front, joined, parts.0, v, a, f.bytes);
        sent =
            leads_more heard (get_command r) (frame_size r) some (replicate (n - i) 0) (replicate l 0) (replicate (n - j) 0) w w' _ first (omega arith)
            (zeros_parts (n - i) l (n - j) split) (omega arith) one f.sent;
      }

-- the row of frames is what the rules ask for
all_sent : {W : Type 0} (heard : W → List ℕ → W → Type 0) (a : Asked) (w last : W) → register_of a ≤ 31 → Chain heard (row (command_of a) (frame_size (register_of a)) (body_of a)) w last → Chain heard (frames_of a) w last
all_sent heard a w last h chain = rw (cond-true (leb (register_of a) 31) _ _ (le-leb (register_of a) 31 h)) chain

-- all was put, to the register of this number
module _ (r number : ℕ) (bytes left : List ℕ) (none : length left ≡ 0) (same : r ≡ number) where
  pub put_after : (b first : Bus) → after_puts r left b ≡ after_puts r bytes first → b ≡ after_puts number bytes first
  put_after b first e = sym (ap (λ l. after_puts r l b) (nil_from_length left none)) ∙ e ∙ ap (λ k. after_puts k bytes first) same

  pub put_sent : {W : Type 0} (heard : W → List ℕ → W → Type 0) (w first : W) → r ≤ 31 → Leads heard (row (put_command r) (frame_size r) left) w (row (put_command r) (frame_size r) bytes) first → Chain heard (frames_of (puts number bytes)) first w
  put_sent heard w first small lead =
      subst (λ (k : ℕ). Chain heard (frames_of (puts k bytes)) first w) same
      (all_sent heard (puts r bytes) first w small (leads_all heard (put_command r) (frame_size r) (some_fit r) left w _ first none lead))

-- all was fetched, from the register of this number
module _ {W : Type 0} {meaning : W → Bus} {heard : W → List ℕ → W → Type 0} {r number n i : ℕ} {first w : W} {into : List ℕ} (f : Fetched meaning heard r n first i into w) (over : n ≤ i) (same : r ≡ number) where
  none_left : n - i ≡ 0
  none_left = omega arith

  pub fetched_after : meaning w ≡ after_gets number n (meaning first)
  fetched_after = sym (ap (λ k. after_gets r k (meaning w)) none_left) ∙ f.after ∙ ap (λ k. after_gets k n (meaning first)) same

  pub fetched_bytes : into ≡ gots number n (meaning first)
  fetched_bytes =
      let kept = f.kept in
      sym (append-nil into)
      ∙ sym (ap (λ l. l ++ []) (take_all i into (omega arith)))
      ∙ sym (ap (λ k. take i into ++ gots r k (meaning w)) none_left)
      ∙ f.bytes
      ∙ ap (λ k. gots k n (meaning first)) same

  pub fetched_sent : r ≤ 31 → Chain heard (frames_of (gets number n)) first w
  fetched_sent small =
      subst (λ (k : ℕ). Chain heard (frames_of (gets k n)) first w) same
      (all_sent heard (gets r n) first w small (leads_all heard (get_command r) (frame_size r) (some_fit r) (replicate (n - i) 0) w _ first (zeros_length (n - i) ∙ none_left) f.sent))
