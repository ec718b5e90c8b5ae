-- A text that writes a number in decimal, and what `parse` reads from it.
use Rattle.std.proofs.Common.{◌≡◌, ◌≢◌, ℕ, ◌^◌, ◌<◌, ◌≤◌, List, length, get_or, Result, Ok, Err, refl, sym, ◌∙◌, arith, inl, inr}
use Rattle.std.specs.Prelude.{MatchResult}
use Rattle.std.specs.Fmt.{decimal}
use Rattle.std.specs.Result.{OkIff}
use Rattle.std.specs.Str.Parse.{ParsesUnsigned, AllDigits, digits_value}
use Rattle.std.proofs.lemmas.Bool.{cases_eq}
use Rattle.std.proofs.lemmas.Fmt.{decimal_digit, decimal_injective, decimal_nonempty, first_decimal, digits_decimal, decimal-digits_value, parse-decimal}
use Rattle.std.proofs.lemmas.Str.Parse.{IsNumeralModel, numerals_by_value, tells_digits, not_in_digits, parse_plain}

own : IsNumeralModel (AllDigits 10) (digits_value 10)
own = numerals_by_value _ tells_digits

-- no number is written with a plus in front
pub no_plus : (n : ℕ) (bs : List ℕ) → n < 2 ^ 16 → bs ≡ decimal n → get_or bs 0 0 ≢ 43
no_plus n bs small e plus =
    not_in_digits own (decimal n) 43 (digits_decimal own n (omega arith)) (λ r. omega arith) 0 (decimal_nonempty n (omega arith)) (rw e at plus)

-- nor with a zero in front of other digits
pub no_zeros : (n : ℕ) (bs : List ℕ) → n < 2 ^ 16 → bs ≡ decimal n → 2 ≤ length bs → get_or bs 0 0 ≢ 48
no_zeros n bs small e long zeros =
    elim (cases_eq n 0) [
      | inl none ↦ let one : length bs ≡ 1 = rw (e, none, decimal_digit 0 (omega arith)) refl in omega arith
      | inr some ↦ let first = first_decimal n (omega arith) (omega arith) in omega (arith, rw e at zeros)
    ]

-- what `parse` gives for digits without a plus and without leading zeros
pub parsed : {E : Type 0} (bs : List ℕ) (r : Result ℕ E) → ParsesUnsigned 16 10 bs r → get_or bs 0 0 ≢ 43 → (get_or bs 0 0 ≡ 48 → length bs ≡ 1)
    → MatchResult r (λ n. (bs ≡ decimal n) × (n < 2 ^ 16)) (λ _. (n : ℕ) → n < 2 ^ 16 → bs ≢ decimal n)
parsed {E} bs (Ok n) reads plus zeros =
    let ((digits, long, small), value) = parse_plain own {E = E} 16 bs (Ok n) reads plus in
    let fits : digits_value 10 bs < 2 ^ 64 = omega arith in
    (rw value (sym (decimal-digits_value own bs digits long zeros fits)), rw value small)
parsed {E} bs (Err e) reads plus zeros = λ n small is. cc (parse-decimal {E = E} 16 n bs (Err e) small (omega arith) is reads)

-- a text writes one number
pub same_number : (m n : ℕ) (bs : List ℕ) → m < 2 ^ 16 → n < 2 ^ 16 → bs ≡ decimal m → bs ≡ decimal n → m ≡ n
same_number m n bs small small' is is' = decimal_injective m n (omega arith) (omega arith) (sym is ∙ is')

-- so what is left of a number in eight bits is the byte that the text writes
pub narrowed : {E : Type 0} (m : ℕ) (bs : List ℕ) (r : Result ℕ E) → bs ≡ decimal m → m < 2 ^ 16 → OkIff r (m < 256) m
    → MatchResult r (λ n. (bs ≡ decimal n) × (n < 2 ^ 8)) (λ _. (n : ℕ) → n < 2 ^ 8 → bs ≢ decimal n)
narrowed m bs (Ok n) is small (fits, same) = (rw same is, rw same fits)
narrowed m bs (Err e) is small large = λ n byte is'. let same = same_number m n bs small (omega arith) is is' in large (omega arith)
