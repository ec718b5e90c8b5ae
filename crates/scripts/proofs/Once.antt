-- A list of one call, served.
use Rattle.std.proofs.Common.{◌≡◌, ℕ, ◌-◌, ◌<◌, List, [], ◌∷◌, length, get_or, map, Option, Some, lit<, refl, ap}
use Rattle.service.specs.Asks.{Ask, asked, replied}
use Rattle.service.specs.Serving.{State, replies, at_the_end, step, Served}
use Rattle.service.specs.declared.calls.Call.{Call}
use Rattle.service.specs.declared.calls.Outcome.{Outcome}
use Rattle.scripts.specs.Saying.{verb_of, pipe_of}
use Rattle.scripts.specs.declared.saying.Said.TheVariants.{Called}
use Rattle.scripts.specs.declared.saying.Verb.{Verb}

one_reply : (s : State) (ask : Ask) → replies s (ask ∷ []) ≡ (step s ask).reply ∷ []
unfolding replies
one_reply s ask = refl

one_state : (s : State) (ask : Ask) → at_the_end s (ask ∷ []) ≡ (step s ask).state
unfolding at_the_end
one_state s ask = refl

-- one outcome comes of it, and it is that of the step
pub once : (s s' : State) (c : Call) (calls : List Call) (outcomes : List Outcome) → calls ≡ c ∷ [] → Served s (map asked calls) (map replied outcomes) s'
    → (o : Outcome) × (outcomes ≡ o ∷ []) × (replied o ≡ (step s (asked c)).reply) × (s' ≡ (step s (asked c)).state)
once s s' c calls [] one served = cc (served.replies_are, ap (λ (cs : List Call). replies s (map asked cs)) one, one_reply s (asked c))
once s s' c calls (o ∷ []) one served =
    let given = rw (one, one_reply) at served.replies_are in
    (o, refl, cc given, rw (one, one_state) at served.ends_at)
once s s' c calls (o ∷ p ∷ others) one served = let given = rw (one, one_reply) at served.replies_are in cc given

-- the last of one item is that item
pub last_of_one : {X : Type 0} (items : List X) (n : ℕ) (o : X) → items ≡ o ∷ [] → n ≡ length items → (0 < n) × (get_or items (n - 1) o ≡ o)
last_of_one items n o is many = rw (many, is) (lit< tt, refl)

pub taken : {X : Type 0} (r : Option X) (a b c : X) → r ≡ Some a → r ≡ Some b → b ≡ c → a ≡ c
taken r a b c is is' same = cc

-- what is said of a call
pub called : (c : Call) (verb : Verb) (pipe : ℕ) (o : Outcome) → verb ≡ verb_of c → pipe ≡ pipe_of c → Called verb pipe o ≡ Called (verb_of c) (pipe_of c) o
called c verb pipe o is of = rw (is, of) refl
