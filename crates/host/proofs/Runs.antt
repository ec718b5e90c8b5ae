-- A step machine's run, one turn after another. Assumes nothing.
use Rattle.std.proofs.Common.{◌≡◌, ℕ, zero, suc, ◌+◌, ◌-◌, ◌<◌, ◌≤◌, Bool, true, false, cond, sym, refl, ap, ◌∙◌, subst, ⊎_elim, arith}
use Rattle.std.proofs.lemmas.Grind.{common_steps}
use Rattle.std.proofs.lemmas.Bool.{cond_both, cases_Bool}
use Rattle.host.specs.Machines.{run}

module _ {S : Type 0} (going : S → Bool) (step : S → S) where
  pub run_step : (n : ℕ) (s : S) → going s ≡ true → run going step (suc n) s ≡ run going step n (step s)
  unfolding run
  run_step n s g = ap (λ b. cond b (run going step n (step s)) s) g

  pub run_still : (n : ℕ) (s : S) → going s ≡ false → run going step n s ≡ s
  unfolding run
  run_still n s h = grind (arith, common_steps)

  pub run_none : (s : S) → run going step 0 s ≡ s
  unfolding run
  run_none s = refl

  -- what each step keeps holds at the end
  pub run_keeps : (P : S → Type 0) → ((s : S) → P s → going s ≡ true → P (step s)) → (n : ℕ) (s : S) → P s → P (run going step n s)
  unfolding run
  run_keeps P keep zero s h = h
  run_keeps P keep (suc n) s h = cond_both (going s) (run going step n (step s)) s P (λ g. run_keeps P keep n (step s) (keep s h g)) (λ _. h)

  -- a machine whose measure falls while it goes on comes to an end within a budget that the measure does not pass
  pub run_ends : (P : S → Type 0) (μ : S → ℕ) → ((s : S) → P s → going s ≡ true → P (step s)) → ((s : S) → P s → going s ≡ true → 0 < μ s) → ((s : S) → P s → going s ≡ true → going (step s) ≡ true → μ (step s) < μ s) → (n : ℕ) (s : S) → P s → (going s ≡ true → μ s ≤ n) → going (run going step n s) ≡ false
  run_ends P μ keep some falls zero s h within =
      subst (λ x. going x ≡ false) (sym (run_none s))
      (⊎_elim (λ g. let a = some s h g in let b = within g in absurd (omega arith)) (λ f. f) (cases_Bool (going s)))
  run_ends P μ keep some falls (suc n) s h within =
      ⊎_elim
      (λ g.
      subst (λ x. going x ≡ false) (sym (run_step n s g))
      (run_ends P μ keep some falls n (step s) (keep s h g) (λ g'. let a = falls s h g g' in let b = within g in omega arith)))
      (λ f. subst (λ x. going x ≡ false) (sym (run_still (suc n) s f)) f)
      (cases_Bool (going s))

-- turn i of a loop over the budget
module _ {S : Type 0} (going : S → Bool) (step : S → S) (budget i : ℕ) (s all : S) (inv : run going step (budget - i) s ≡ all) where
  pub turn_more : (s' : S) → i < budget → true ≡ going s → s' ≡ step s → run going step (budget - (i + 1)) s' ≡ all
  turn_more s' h g e =
      let one : budget - i ≡ suc (budget - (i + 1)) = omega arith in
      ap (run going step (budget - (i + 1))) e ∙ sym (run_step going step (budget - (i + 1)) s (sym g)) ∙ sym (ap (λ n. run going step n s) one) ∙ inv

  pub turn_still : false ≡ going s → s ≡ all
  turn_still g = sym (run_still going step (budget - i) s (sym g)) ∙ inv

  pub turn_last : budget ≤ i → s ≡ all
  turn_last h =
      let none : budget - i ≡ 0 = omega arith in
      sym (run_none going step s) ∙ sym (ap (λ n. run going step n s) none) ∙ inv
