-- A buffer read as packets: one more packet behind those that came is one more packet in the list. Assumes nothing.
use Rattle.std.proofs.Common.{◌≡◌, ℕ, zero, suc, ◌+◌, ◌-◌, ◌*◌, ◌/◌, ◌<◌, ◌≤◌, Bool, true, false, cond, ltb, List, [], ◌∷◌, ◌++◌, length, take, drop, sym, refl, ap, ◌∙◌, subst, ⊎_elim, suc-mul, arith}
use Rattle.std.proofs.lemmas.Grind.{common_steps}
use Rattle.std.proofs.lemmas.Nat.{div-mul-add}
use Rattle.std.proofs.lemmas.List.{take-take, take_at, drop-drop, drop-take}
use Rattle.std.proofs.lemmas.Bool.{lt-ltb, le-ltb, cases_lt}
use Rattle.host.specs.Handing.{cut_packets}

-- the last packet split off
cut_more : (n size : ℕ) (bytes : List ℕ) → cut_packets (suc n) size bytes ≡ cut_packets n size bytes ++ (take size (drop (n * size) bytes) ∷ [])
cut_more zero size bytes = ap (λ k. take size (drop k bytes) ∷ []) (let z : 0 ≡ 0 * size = omega arith in z)
cut_more (suc n) size bytes =
    let m = suc-mul n size in
    let k : drop (n * size) (drop size bytes) ≡ drop (suc n * size) bytes = drop-drop (n * size) size bytes ∙ ap (λ j. drop j bytes) (let z : size + n * size ≡ suc n * size = omega arith in z) in
    ap (λ l. take size bytes ∷ l) (cut_more n size (drop size bytes))
    ∙ ap (λ l. (take size bytes ∷ cut_packets n size (drop size bytes)) ++ (take size l ∷ [])) k

-- the packets depend on the bytes that they are made of, and no others
cut_same : (n size : ℕ) (xs ys : List ℕ) → take (n * size) xs ≡ take (n * size) ys → cut_packets n size xs ≡ cut_packets n size ys
cut_same zero size xs ys h = refl
cut_same (suc n) size xs ys h =
    let m = suc-mul n size in
    let long : suc n * size ≡ size + n * size = omega arith in
    let same : take (size + n * size) xs ≡ take (size + n * size) ys = subst (λ k. take k xs ≡ take k ys) long h in
    let front : take size xs ≡ take size ys = sym (take-take size (size + n * size) xs (omega arith)) ∙ ap (take size) same ∙ take-take size (size + n * size) ys (omega arith) in
    let back : take (n * size) (drop size xs) ≡ take (n * size) (drop size ys) = sym (drop-take size (n * size) xs) ∙ ap (drop size) same ∙ drop-take size (n * size) ys in
    let more = cut_same n size (drop size xs) (drop size ys) back in
    (λ i. front i ∷ more i)

-- the packets that came, the last of them short if the fetch has ended by it
abbrev pub came_in : ℕ → ℕ → Bool → List ℕ → List (List ℕ)
came_in size received ended buffer =
    cut_packets (received / size) size buffer
    ++ cond ended (take (received - received / size * size) (drop (received / size * size) buffer) ∷ []) []

-- of so many full packets, and so many bytes more
came_of : (size k r : ℕ) (ended : Bool) (buffer : List ℕ) → r < size → came_in size (k * size + r) ended buffer ≡ cut_packets k size buffer ++ cond ended (take r (drop (k * size) buffer) ∷ []) []
came_of size k r ended buffer h =
    let received = k * size + r in
    let q = div-mul-add k size r h in
    let less : received - k * size ≡ r = omega arith in
    ap (λ n. cut_packets n size buffer ++ cond ended (take (received - n * size) (drop (n * size) buffer) ∷ []) []) q
    ∙ ap (λ n. cut_packets k size buffer ++ cond ended (take n (drop (k * size) buffer) ∷ []) []) less

-- of full packets only
came_full : (size k : ℕ) (buffer : List ℕ) → 1 ≤ size → came_in size (k * size) false buffer ≡ cut_packets k size buffer
came_full size k buffer h = grind (arith, common_steps)

module _ (size k : ℕ) (some : 1 ≤ size) (packet behind buffer buffer' : List ℕ) (most : length packet ≤ size) (front : take (k * size) buffer' ≡ take (k * size) buffer) (back : drop (k * size) buffer' ≡ packet ++ behind) where
  short_more : length packet < size → came_in size (k * size + length packet) true buffer' ≡ came_in size (k * size) false buffer ++ (packet ∷ [])
  short_more h =
      let last : take (length packet) (drop (k * size) buffer') ≡ packet = ap (take (length packet)) back ∙ take_at packet behind (length packet) refl in
      let before : cut_packets k size buffer' ≡ came_in size (k * size) false buffer = cut_same k size buffer' buffer front ∙ sym (came_full size k buffer some) in
      came_of size k (length packet) true buffer' h ∙ (λ i. before i ++ (last i ∷ []))

  full_more : length packet ≡ size → came_in size (k * size + length packet) false buffer' ≡ came_in size (k * size) false buffer ++ (packet ∷ [])
  full_more e =
      let m = suc-mul k size in
      let last : take size (drop (k * size) buffer') ≡ packet = ap (take size) back ∙ take_at packet behind size e in
      let before : cut_packets k size buffer' ≡ came_in size (k * size) false buffer = cut_same k size buffer' buffer front ∙ sym (came_full size k buffer some) in
      ap (λ n. came_in size n false buffer') (let z : k * size + length packet ≡ suc k * size = omega arith in z)
      ∙ came_full size (suc k) buffer' some
      ∙ cut_more k size buffer'
      ∙ (λ i. before i ++ (last i ∷ []))

  pub one_more : came_in size (k * size + length packet) (ltb (length packet) size) buffer' ≡ came_in size (k * size) false buffer ++ (packet ∷ [])
  one_more =
      ⊎_elim
      (λ lt. ap (λ x. came_in size (k * size + length packet) x buffer') (lt-ltb (length packet) size lt) ∙ short_more lt)
      (λ le. ap (λ x. came_in size (k * size + length packet) x buffer') (le-ltb (length packet) size le) ∙ full_more (omega arith))
      (cases_lt (length packet) size)
