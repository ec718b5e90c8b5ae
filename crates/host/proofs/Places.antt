-- Where an endpoint stands in a list: the place depends on the names only, finds the name looked for, and is the index where names
-- are distinct. Assumes nothing.
use Rattle.std.proofs.Common.{◌≡◌, ℕ, zero, suc, ◌<◌, true, false, cond, ◌&&◌, eqb, List, [], ◌∷◌, length, get_or, refl, ap, ◌∙◌, arith}
use Rattle.std.proofs.lemmas.Grind.{common_steps}
use Rattle.port.specs.declared.directions.Direction.{Direction}
use Rattle.port.specs.Directions.{facing}
use Rattle.port.specs.Endpoints.{Endpoint, nowhere, stands_at, place}
use Rattle.port.proofs.Others.{place_stands}
use Rattle.port.proofs.Places.{place_first, place_later}
use Rattle.host.specs.Effects.{SameName}

-- two lists whose endpoints have the same names
pub place_same : (a n : ℕ) (d : Direction) (es es' : List Endpoint) → length es' ≡ length es → ((k : ℕ) → SameName (get_or es k nowhere) (get_or es' k nowhere)) → place a n d es' ≡ place a n d es
unfolding place
place_same a n d [] [] l h = refl
place_same a n d [] (e' ∷ es') l h = absurd (omega arith)
place_same a n d (e ∷ es) [] l h = absurd (omega arith)
place_same a n d (e ∷ es) (e' ∷ es') l h =
    let first : SameName e e' = h 0 in
    let more : place a n d es' ≡ place a n d es = place_same a n d es es' (omega arith) (λ k. h (suc k)) in
    λ i. cond (eqb (first.same_address i) a && (eqb (first.same_number i) n && facing (first.same_direction i) d)) 0 (suc (more i))

-- what stands there has the name
pub stands_named : (a n : ℕ) (d : Direction) (e : Endpoint) → stands_at a n d e ≡ true → (e.address ≡ a) × (e.number ≡ n) × (e.direction ≡ d)
stands_named a n d e h = grind (arith, common_steps)

pub stands_self : (e : Endpoint) → stands_at e.address e.number e.direction e ≡ true
stands_self e = grind (arith, common_steps)

-- two names that differ do so both ways
stands_other : (x y : Endpoint) → stands_at x.address x.number x.direction y ≡ false → stands_at y.address y.number y.direction x ≡ false
stands_other x y f = grind (arith, common_steps)

pub place_finds : (a n : ℕ) (d : Direction) (es : List Endpoint) → place a n d es < length es → ((get_or es (place a n d es) nowhere).address ≡ a) × ((get_or es (place a n d es) nowhere).number ≡ n) × ((get_or es (place a n d es) nowhere).direction ≡ d)
place_finds a n d es h = stands_named a n d (get_or es (place a n d es) nowhere) (place_stands a n d es h)

-- where no two endpoints have the same name
pub place_of : (es : List Endpoint) (k : ℕ) → k < length es → ((i j : ℕ) → i < j → j < length es → stands_at (get_or es i nowhere).address (get_or es i nowhere).number (get_or es i nowhere).direction (get_or es j nowhere) ≡ false) → place (get_or es k nowhere).address (get_or es k nowhere).number (get_or es k nowhere).direction es ≡ k
place_of [] k h distinct = absurd (omega arith)
place_of (e ∷ es) zero h distinct = place_first e.address e.number e.direction e es (stands_self e)
place_of (e ∷ es) (suc k) h distinct =
    let x = get_or es k nowhere in
    let other : stands_at e.address e.number e.direction x ≡ false = distinct 0 (suc k) (omega arith) h in
    place_later x.address x.number x.direction e es (stands_other e x other)
    ∙ ap suc (place_of es k (omega arith) (λ i j lt in_List. distinct (suc i) (suc j) (omega arith) (omega arith)))
