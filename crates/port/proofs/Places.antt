-- A search through a list of endpoints, one endpoint after another, and what the place found says. Assumes nothing.
use Rattle.std.proofs.Common.{◌≡◌, ℕ, suc, ◌+◌, ◌<◌, ◌≤◌, Bool, true, false, cond, ◌||◌, eqb, List, [], ◌∷◌, length, get_or, drop, sym, refl, ap, ◌∙◌, add-zero, arith}
use Rattle.std.proofs.lemmas.List.{at_drop_more, at_drop_all}
use Rattle.port.specs.declared.directions.Direction.{Direction}
use Rattle.port.specs.Endpoints.{Endpoint, nowhere, stands_at, place, lives}

module _ (a n : ℕ) (d : Direction) where
  -- found at the first endpoint, and not found there
  pub place_first : (e : Endpoint) (es : List Endpoint) → stands_at a n d e ≡ true → place a n d (e ∷ es) ≡ 0
  unfolding place
  place_first e es h = ap (λ b. cond b 0 (suc (place a n d es))) h

  pub place_later : (e : Endpoint) (es : List Endpoint) → stands_at a n d e ≡ false → place a n d (e ∷ es) ≡ suc (place a n d es)
  unfolding place
  place_later e es h = ap (λ b. cond b 0 (suc (place a n d es))) h

  pub place_none : place a n d [] ≡ 0
  unfolding place
  place_none = refl

  -- what a search has come to at i: the place is as far beyond i as it is in what is left
  pub place_here : (es : List Endpoint) (i p : ℕ) → i < length es → stands_at a n d (get_or es i nowhere) ≡ true → i + place a n d (drop i es) ≡ p → i ≡ p
  place_here es i p h t inv =
      sym (add-zero i) ∙ sym (ap (λ k. i + k) (at_drop_more (place a n d) es i nowhere h ∙ place_first (get_or es i nowhere) (drop (i + 1) es) t)) ∙ inv

  pub place_more : (es : List Endpoint) (i p : ℕ) → i < length es → stands_at a n d (get_or es i nowhere) ≡ false → i + place a n d (drop i es) ≡ p → (i + 1) + place a n d (drop (i + 1) es) ≡ p
  place_more es i p h t inv =
      let step = at_drop_more (place a n d) es i nowhere h ∙ place_later (get_or es i nowhere) (drop (i + 1) es) t in
      omega arith

  pub place_all : (es : List Endpoint) (i p : ℕ) → length es ≤ i → i + place a n d (drop i es) ≡ p → i ≡ p
  place_all es i p h inv = sym (add-zero i) ∙ sym (ap (λ k. i + k) (at_drop_all (place a n d) es i h ∙ place_none)) ∙ inv

-- the same of the search for an address
module _ (a : ℕ) where
  pub lives_here : (es : List Endpoint) (i : ℕ) (r : Bool) → i < length es → eqb (get_or es i nowhere).address a ≡ true → lives a (drop i es) ≡ r → true ≡ r
  unfolding lives
  lives_here es i r h t inv = sym (at_drop_more (lives a) es i nowhere h ∙ ap (λ b. b || lives a (drop (i + 1) es)) t) ∙ inv

  pub lives_more : (es : List Endpoint) (i : ℕ) (r : Bool) → i < length es → eqb (get_or es i nowhere).address a ≡ false → lives a (drop i es) ≡ r → lives a (drop (i + 1) es) ≡ r
  unfolding lives
  lives_more es i r h t inv = sym (at_drop_more (lives a) es i nowhere h ∙ ap (λ b. b || lives a (drop (i + 1) es)) t) ∙ inv

  pub lives_all : (es : List Endpoint) (i : ℕ) (r : Bool) → length es ≤ i → lives a (drop i es) ≡ r → false ≡ r
  unfolding lives
  lives_all es i r h inv = sym (at_drop_all (lives a) es i h) ∙ inv
