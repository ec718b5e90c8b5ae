-- The hexadecimal of bytes, as it is printed and read.
use Rattle.std.proofs.Common.{◌≡◌, ◌≢◌, ℕ, ◌+◌, ◌-◌, ◌%◌, ◌^◌, ◌<◌, false, ◌⊎◌, List, [], ◌∷◌, ◌++◌, length, take, drop, get_or, slice_index, codes, refl, ap, ◌∙◌, arith, inl, inr, suc}
use Rattle.std.specs.Fmt.{digits, format_spec, padded_integral}
use Rattle.std.specs.List.{flat_map}
use Rattle.std.proofs.lemmas.Fmt.{hex_byte}
use Rattle.std.proofs.lemmas.List.{flat_map_more, take_more}
use Rattle.scripts.specs.Words.{hex_pair, hex_text}

-- a list of bytes
abbrev pub Bytes : List ℕ → Type 0
Bytes bs = (k : ℕ) → slice_index bs k < 256

-- what stands behind the text of some bytes in the text of others is nothing, or begins with the text of a byte
pub behind : (bs others t : List ℕ) → Bytes others → flat_map hex_pair bs ++ t ≡ flat_map hex_pair others → (t ≡ []) ⊎ ((b : ℕ) × (more : List ℕ) × (b < 256) × (t ≡ hex_pair b ++ more))
behind [] [] t are e = inl e
behind [] (b ∷ others) t are e = inr (b, flat_map hex_pair others, are 0, e)
behind (c ∷ bs) [] t are e = cc
behind (c ∷ bs) (b ∷ others) t are e = behind bs others t (λ k. are (suc k)) (ap (drop 2) e)

-- so a word that goes on with something else, or has no digits at all, writes no bytes
pub goes_on : (bs others t word : List ℕ) → Bytes others → word ≢ codes "-" → t ≢ [] → ((b : ℕ) (more : List ℕ) → b < 256 → t ≢ hex_pair b ++ more)
    → flat_map hex_pair bs ++ t ≡ word → word ≢ hex_text others
goes_on bs [] t word are some left other e is = some is
goes_on bs (o ∷ others) t word are some left other e is =
    elim (behind bs (o ∷ others) t are (e ∙ is)) [
      | inl none ↦ left none
      | inr (b, more, byte, begins) ↦ other b more byte begins
    ]

-- the digits of bytes come in pairs
pairs_long : (bs : List ℕ) → length (flat_map hex_pair bs) ≡ length bs + length bs
pairs_long [] = refl
pairs_long (b ∷ bs) = omega (arith, pairs_long bs)

-- so a word of an odd number of digits writes no bytes
pub odd_word : (bs word : List ℕ) → length word % 2 ≢ 0 → word ≢ codes "-" → word ≢ hex_text bs
odd_word [] word odd some e = some e
odd_word (b ∷ bs) word odd some e =
    let even : length word ≡ length (b ∷ bs) + length (b ∷ bs) = ap length e ∙ pairs_long (b ∷ bs) in
    odd (omega arith)

-- the text of a byte has two digits
pub too_short : (b : ℕ) (more t : List ℕ) → t ≡ hex_pair b ++ more → length t < 2 → ⊥
too_short b more [] e short = cc
too_short b more (x ∷ []) e short = cc
too_short b more (x ∷ y ∷ t) e short = omega arith

pub no_digits : (bs others t word : List ℕ) → length bs ≡ 0 → length t ≡ 0 → flat_map hex_pair bs ++ t ≡ word → word ≢ hex_text others
no_digits [] [] [] word none end e is = let nothing : [] ≡ codes "-" = e ∙ is in cc
no_digits [] (o ∷ others) [] word none end e is = let nothing : [] ≡ hex_text (o ∷ others) = e ∙ is in cc
no_digits [] others (x ∷ t) word none end e is = omega arith
no_digits (b ∷ bs) others t word none end e is = omega arith

-- one byte more is printed
pub one_more : (bytes : List ℕ) (i : ℕ) → i < length bytes → get_or bytes i 0 < 256
    → flat_map hex_pair (take i bytes) ++ padded_integral (format_spec 32 0 4 2 (2 ^ 64 - 1)) false [] (digits 16 false (get_or bytes i 0)) ≡ flat_map hex_pair (take (i + 1) bytes)
one_more bytes i below byte =
    rw (hex_byte false (get_or bytes i 0) byte, take_more bytes i 0 below) (flat_map_more hex_pair [] (take i bytes) (get_or bytes i 0))
