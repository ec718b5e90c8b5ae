-- One access more of a many-access, from the front. Assumes nothing.
use Rattle.std.proofs.Common.{◌≡◌, ℕ, suc, ◌+◌, ◌-◌, ◌<◌, ◌≤◌, List, [], ◌∷◌, ◌++◌, length, get_or, take, drop, set, sym, ap, ◌∙◌, append_assoc, append-nil, arith}
use Rattle.std.proofs.lemmas.List.{at_drop_more, at_drop_all, take_more_set, take_all, length-set}
use Rattle.port.specs.Bus.{Bus}
use Rattle.port.specs.Accesses.{after_put, got, after_get, after_puts, gots, after_gets}

-- the put of the byte at i leads from what is left at i to what is left after it
pub puts_more : (r : ℕ) (bytes : List ℕ) (i : ℕ) (b b' last : Bus) → i < length bytes → b' ≡ after_put r (get_or bytes i 0) b → after_puts r (drop i bytes) b ≡ last → after_puts r (drop (i + 1) bytes) b' ≡ last
puts_more r bytes i b b' last h e inv =
    ap (after_puts r (drop (i + 1) bytes)) e ∙ sym (at_drop_more (λ left. after_puts r left b) bytes i 0 h) ∙ inv

pub puts_all : (r : ℕ) (bytes : List ℕ) (i : ℕ) (b last : Bus) → length bytes ≤ i → after_puts r (drop i bytes) b ≡ last → b ≡ last
puts_all r bytes i b last h inv = sym (at_drop_all (λ left. after_puts r left b) bytes i h) ∙ inv

one_less : (n i : ℕ) → i < n → n - i ≡ suc (n - (i + 1))
one_less n i h = omega arith

none_left : (n i : ℕ) → n ≤ i → n - i ≡ 0
none_left n i h = omega arith

module _ (r : ℕ) where
  -- the same of gets: the bytes so far, in front of what is left to get
  pub gets_more : (bytes : List ℕ) (i : ℕ) (x : ℕ) (b b' last : Bus) → i < length bytes → b' ≡ after_get r b → after_gets r (length bytes - i) b ≡ last → after_gets r (length (set bytes i x) - (i + 1)) b' ≡ last
  gets_more bytes i x b b' last h e inv =
      ap (λ n. after_gets r (n - (i + 1)) b') (length-set bytes i x)
      ∙ ap (after_gets r (length bytes - (i + 1))) e
      ∙ sym (ap (λ n. after_gets r n b) (one_less (length bytes) i h))
      ∙ inv

  pub gets_all : (n i : ℕ) (b last : Bus) → n ≤ i → after_gets r (n - i) b ≡ last → b ≡ last
  gets_all n i b last h inv = sym (ap (λ m. after_gets r m b) (none_left n i h)) ∙ inv

  pub gots_more : (bytes : List ℕ) (i : ℕ) (x : ℕ) (b b' : Bus) (all : List ℕ) → i < length bytes → x ≡ got r b → b' ≡ after_get r b → take i bytes ++ gots r (length bytes - i) b ≡ all → take (i + 1) (set bytes i x) ++ gots r (length (set bytes i x) - (i + 1)) b' ≡ all
  gots_more bytes i x b b' all h v e inv =
      ap (λ l. l ++ gots r (length (set bytes i x) - (i + 1)) b') (take_more_set bytes i x h)
      ∙ append_assoc (take i bytes) (x ∷ []) (gots r (length (set bytes i x) - (i + 1)) b')
      ∙ ap (λ l. take i bytes ++ (x ∷ l)) (ap (λ n. gots r (n - (i + 1)) b') (length-set bytes i x) ∙ ap (gots r (length bytes - (i + 1))) e)
      ∙ ap (λ y. take i bytes ++ (y ∷ gots r (length bytes - (i + 1)) (after_get r b))) v
      ∙ sym (ap (λ n. take i bytes ++ gots r n b) (one_less (length bytes) i h))
      ∙ inv

  pub gots_all : (bytes : List ℕ) (i : ℕ) (b : Bus) (all : List ℕ) → length bytes ≤ i → take i bytes ++ gots r (length bytes - i) b ≡ all → bytes ≡ all
  gots_all bytes i b all h inv =
      sym (append-nil bytes) ∙ sym (ap (λ l. l ++ []) (take_all i bytes h)) ∙ sym (ap (λ n. take i bytes ++ gots r n b) (none_left (length bytes) i h)) ∙ inv
