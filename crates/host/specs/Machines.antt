-- A step machine with a budget: it steps while it is going and the budget lasts. Assumes nothing.
use Rattle.std.specs.Prelude.{ℕ, zero, suc, Bool, cond}

unfoldable pub run : {S : Type 0} → (S → Bool) → (S → S) → ℕ → S → S
run going step zero s = s
run going step (suc n) s = cond (going s) (run going step n (step s)) s
