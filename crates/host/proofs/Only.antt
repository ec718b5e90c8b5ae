-- At most one endpoint of a list has changed, and none its name: what one change after another keeps. Assumes nothing.
use Rattle.std.proofs.Common.{arith, ◌≡◌, ℕ, ◌≢◌, List, length, get_or, set, sym, ap, ◌∙◌, subst, ⊎_elim}
use Rattle.std.proofs.lemmas.Grind.{common_steps}
use Rattle.std.proofs.lemmas.List.{get_or-set_same, get_or-set_other, set_past}
use Rattle.std.proofs.lemmas.Bool.{cases_lt, cases_eq}
use Rattle.port.specs.Endpoints.{Endpoint, nowhere}
use Rattle.host.specs.Effects.{SameName}

pub same_name : (e : Endpoint) → SameName e e
same_name e = grind (arith, common_steps)

pub name_twice : (x y z : Endpoint) → SameName x y → SameName y z → SameName x z
name_twice x y z one two = grind (arith, common_steps)

-- what holds of every endpoint that stays, and of the one that is set, holds after the change; a place past the end sets nothing
pub each_set : (P : Endpoint → Endpoint → Type 0) → ((e : Endpoint) → P e e) → (es : List Endpoint) (i : ℕ) (e' : Endpoint) → P (get_or es i nowhere) e' → (k : ℕ) → P (get_or es k nowhere) (get_or (set es i e') k nowhere)
each_set P self es i e' h k =
    ⊎_elim
    (λ same.
    ⊎_elim
    (λ lt. subst (P (get_or es k nowhere)) (sym (ap (λ n. get_or (set es i e') n nowhere) same ∙ get_or-set_same es i e' nowhere lt)) (subst (λ n. P (get_or es n nowhere) e') (sym same) h))
    (λ le. subst (λ l. P (get_or es k nowhere) (get_or l k nowhere)) (sym (set_past es i e' le)) (self (get_or es k nowhere)))
    (cases_lt i (length es)))
    (λ other. subst (P (get_or es k nowhere)) (sym (get_or-set_other es i k e' nowhere other)) (self (get_or es k nowhere)))
    (cases_eq k i)

pub record Only (i : ℕ) (es es' : List Endpoint) : Type 0 where
  pub as_many : length es' ≡ length es
  pub same_names : (k : ℕ) → SameName (get_or es k nowhere) (get_or es' k nowhere)
  pub others : (k : ℕ) → k ≢ i → get_or es' k nowhere ≡ get_or es k nowhere

pub only_none : (i : ℕ) (es : List Endpoint) → Only i es es
only_none i es = grind (arith, common_steps)

-- the endpoint at that place is set to one of the same name
pub only_set : (i : ℕ) (es es' : List Endpoint) (e' : Endpoint) → Only i es es' → SameName (get_or es' i nowhere) e' → Only i es (set es' i e')
only_set i es es' e' only named = grind (arith, common_steps)
