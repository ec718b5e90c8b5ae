-- The counting rule: what each verdict says of the counts. Assumes nothing.
use Rattle.std.proofs.Common.{◌≡◌, ℕ, ◌+◌, ◌-◌, ◌≤◌, true, false, cond, eqb, leb, sym, refl, ap, ◌∙◌, subst, ⊎_elim, arith}
use Rattle.std.proofs.lemmas.Bool.{cases_Bool, leb-false, ne_eqb}
use Rattle.pipes.specs.declared.counting.Counts.{Counts}
use Rattle.pipes.specs.declared.counting.Verdict.TheVariants.{Succeeded, Again, Stop}
use Rattle.pipes.specs.declared.refusals.Refusal.{Refusal}
use Rattle.pipes.specs.declared.refusals.Refusal.TheVariants.{NakLimit, ThirdMiss, Stalled}
use Rattle.pipes.specs.Counting.{verdict, counted, with_nak}

-- the counts of a packet that has not stopped
pub record Bounds (limit : ℕ) (c : Counts) : Type 0 where
  pub some_misses : 1 ≤ c.misses
  pub most_misses : c.misses ≤ 3
  pub some_naks : 1 ≤ c.naks
  pub most_naks : c.naks ≤ limit

-- success; or another try, with one chance less; or a stop. The counts stay in bounds
pub data Case (limit code : ℕ) (c : Counts) : Type 0 where
  won : verdict code c ≡ Succeeded → counted code c ≡ c → Case limit code c
  again : verdict code c ≡ Again → (counted code c).misses + (counted code c).naks + 1 ≡ c.misses + c.naks → Bounds limit (counted code c) → Case limit code c
  stops : (why : Refusal) → verdict code c ≡ Stop why → Bounds limit (counted code c) → Case limit code c

module _ (limit code : ℕ) (c : Counts) (h : Bounds limit c) where
  on_miss : (zero : eqb code 0 ≡ false) (five : eqb code 5 ≡ false) (four : eqb code 4 ≡ false) → Case limit code c
  on_miss zero five four =
      let v : verdict code c ≡ cond (leb c.misses 1) (Stop ThirdMiss) Again = rw (zero, five, four) refl in
      let n : counted code c ≡ record { misses = cond (leb c.misses 1) c.misses (c.misses - 1); naks = c.naks; missed = true } = rw (zero, five, four) refl in
      ⊎_elim
      (λ t.
      let m : (counted code c).misses ≡ c.misses = ap (λ x. x.misses) n ∙ ap (λ b. cond b c.misses (c.misses - 1)) t in
      let k : (counted code c).naks ≡ c.naks = ap (λ x. x.naks) n in
      stops ThirdMiss (v ∙ ap (λ b. cond b (Stop ThirdMiss) Again) t)
      (record { some_misses = omega (arith, h.some_misses); most_misses = omega (arith, h.most_misses); some_naks = omega (arith, h.some_naks); most_naks = omega (arith, h.most_naks) }))
      (λ f.
      let more = leb-false c.misses 1 f in
      let m : (counted code c).misses ≡ c.misses - 1 = ap (λ x. x.misses) n ∙ ap (λ b. cond b c.misses (c.misses - 1)) f in
      let k : (counted code c).naks ≡ c.naks = ap (λ x. x.naks) n in
      again (v ∙ ap (λ b. cond b (Stop ThirdMiss) Again) f) (omega arith)
      (record { some_misses = omega arith; most_misses = omega (arith, h.most_misses); some_naks = omega (arith, h.some_naks); most_naks = omega (arith, h.most_naks) }))
      (cases_Bool (leb c.misses 1))

  on_nak : (zero : eqb code 0 ≡ false) (five : eqb code 5 ≡ false) (four : eqb code 4 ≡ true) → Case limit code c
  on_nak zero five four =
      let v : verdict code c ≡ cond (leb c.naks 1) (Stop NakLimit) Again = rw (zero, five, four) refl in
      let n : counted code c ≡ cond (leb c.naks 1) c (with_nak c) = rw (zero, five, four) refl in
      ⊎_elim
      (λ t. stops NakLimit (v ∙ ap (λ b. cond b (Stop NakLimit) Again) t) (subst (Bounds limit) (sym (n ∙ ap (λ b. cond b c (with_nak c)) t)) h))
      (λ f.
      let more = leb-false c.naks 1 f in
      let e = n ∙ ap (λ b. cond b c (with_nak c)) f in
      let m : (counted code c).misses ≡ c.misses = ap (λ x. x.misses) e in
      let k : (counted code c).naks ≡ c.naks - 1 = ap (λ x. x.naks) e in
      again (v ∙ ap (λ b. cond b (Stop NakLimit) Again) f) (omega arith)
      (record { some_misses = omega (arith, h.some_misses); most_misses = omega (arith, h.most_misses); some_naks = omega arith; most_naks = omega (arith, h.most_naks) }))
      (cases_Bool (leb c.naks 1))

  pub judge_cases : Case limit code c
  judge_cases =
      ⊎_elim
      (λ (zero : eqb code 0 ≡ true). won (rw zero refl) (rw zero refl))
      (λ (zero : eqb code 0 ≡ false).
      ⊎_elim
      (λ (five : eqb code 5 ≡ true). stops Stalled (rw (zero, five) refl) (subst (Bounds limit) (let e : c ≡ counted code c = rw (zero, five) refl in e) h))
      (λ (five : eqb code 5 ≡ false). ⊎_elim (on_nak zero five) (on_miss zero five) (cases_Bool (eqb code 4)))
      (cases_Bool (eqb code 5)))
      (cases_Bool (eqb code 0))

-- a code of 7 and more is a miss, which is remembered
module _ (code : ℕ) (c : Counts) (h : 7 ≤ code) where
  not_zero : eqb code 0 ≡ false
  not_zero = ne_eqb code 0 (λ e. omega arith)

  not_five : eqb code 5 ≡ false
  not_five = ne_eqb code 5 (λ e. omega arith)

  not_four : eqb code 4 ≡ false
  not_four = ne_eqb code 4 (λ e. omega arith)

  pub miss_verdict : verdict code c ≡ cond (leb c.misses 1) (Stop ThirdMiss) Again
  miss_verdict = let a = not_zero in let b = not_five in let d = not_four in rw (a, b, d) refl

  pub miss_noted : (counted code c).missed ≡ true
  miss_noted = let a = not_zero in let b = not_five in let d = not_four in rw (a, b, d) refl
