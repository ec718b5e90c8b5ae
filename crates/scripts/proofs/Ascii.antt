-- A line that says a command is ASCII.
use Rattle.std.proofs.Common.{◌≡◌, ℕ, suc, ◌/◌, ◌%◌, ◌^◌, ◌<◌, Bool, true, false, nat_lt, List, [], ◌∷◌, codes, vec_len, lit<, refl, arith}
use Rattle.std.proofs.lemmas.Bool.{and_parts}
use Rattle.std.proofs.lemmas.Bool.Decides.{nat_tests}
use Rattle.std.proofs.lemmas.Fmt.{IsAscii-decimal}
use Rattle.std.proofs.lemmas.List.Splits.{join_with_byte-slice_split}
use Rattle.std.proofs.lemmas.Str.{IsAscii-append, IsUtf8-from_ascii}
use Rattle.std.proofs.lemmas.Str.Ascii.{IsAscii-nil, IsAscii-cons}
use Rattle.std.specs.Fmt.{decimal, digit_glyph}
use Rattle.std.specs.List.{flat_map, join_with_byte, list_all}
use Rattle.std.specs.Str.{IsAscii, IsUtf8}
use Rattle.port.specs.declared.directions.Direction.{Direction}
use Rattle.port.specs.declared.directions.Direction.TheVariants.{Out, In}
use Rattle.frames.specs.declared.duplexes.Duplex.TheVariants.{Half, Full}
use Rattle.scripts.proofs.HexTexts.{Bytes}
use Rattle.service.specs.declared.calls.Call.TheVariants.{Open, Send, Fetch, Recover, Look, Close}
use Rattle.scripts.specs.Commands.{written, Fits, words_of}
use Rattle.scripts.specs.Words.{hex_pair, hex_text, direction_word, life_word, bus_word}
use Rattle.scripts.specs.declared.buses.Bus.{Bus}
use Rattle.scripts.specs.declared.buses.Bus.TheVariants.{Direct, Framed}
use Rattle.scripts.specs.declared.commands.Command.{Command}
use Rattle.scripts.specs.declared.commands.Command.TheVariants.{Nothing, New, Drive, Endpoint, Packet, Fates, Put, Get, Frame, Call, Show}

plain : (bs : List ℕ) → list_all (λ b. nat_lt b 128) bs ≡ true → IsAscii bs
plain [] test = IsAscii-nil
plain (b ∷ bs) test =
    let parts = and_parts (nat_lt b 128) (list_all (λ b. nat_lt b 128) bs) test in
    IsAscii-cons b bs (grind (arith, nat_tests)) (plain bs parts.1)

number : (n : ℕ) → n < 2 ^ 16 → IsAscii (decimal n)
number n small = IsAscii-decimal n (omega arith)

pairs : (bytes : List ℕ) → Bytes bytes → IsAscii (flat_map hex_pair bytes)
pairs [] are = IsAscii-nil
pairs (b ∷ bs) are =
    let byte : b < 256 = are 0 in
    let high : digit_glyph false (b / 16) < 128 = grind (arith, nat_tests) in
    let low : digit_glyph false (b % 16) < 128 = grind (arith, nat_tests) in
    IsAscii-cons (digit_glyph false (b / 16)) (digit_glyph false (b % 16) ∷ flat_map hex_pair bs) high
    (IsAscii-cons (digit_glyph false (b % 16)) (flat_map hex_pair bs) low (pairs bs (λ k. are (suc k))))

bytes : (bs : List ℕ) → Bytes bs → IsAscii (hex_text bs)
bytes [] are = plain (codes "-") refl
bytes (b ∷ bs) are = pairs (b ∷ bs) are

facing : (d : Direction) → IsAscii (direction_word d)
facing Out = plain (codes "out") refl
facing In = plain (codes "in") refl

life : (halted : Bool) → IsAscii (life_word halted)
life true = plain (codes "halted") refl
life false = plain (codes "live") refl

drive : (bus : Bus) → IsAscii (bus_word bus)
drive Direct = plain (codes "direct") refl
drive (Framed Half) = plain (codes "framed-half") refl
drive (Framed Full) = plain (codes "framed-full") refl

-- each word is ASCII
abbrev AreAscii : List (List ℕ) → Type 0
AreAscii [] = Unit {0}
AreAscii (w ∷ ws) = IsAscii w × AreAscii ws

joined : (ws : List (List ℕ)) → AreAscii ws → IsAscii (join_with_byte 32 ws)
joined [] are = IsAscii-nil
joined (w ∷ []) (first, rest) = first
joined (w ∷ v ∷ ws) (first, rest) =
    IsAscii-append w (32 ∷ join_with_byte 32 (v ∷ ws)) first (IsAscii-cons 32 (join_with_byte 32 (v ∷ ws)) (lit< tt) (joined (v ∷ ws) rest))

words : (x : Command) → Fits x → AreAscii (written x)
words Nothing fits = tt
words New fits = (plain (codes "new") refl, tt)
words (Drive bus) fits = (plain (codes "bus") refl, (drive bus, tt))
words (Endpoint p) (a, n, t, c) =
    (plain (codes "cell") refl, (number p.address (omega arith), (number p.number (omega arith), (facing p.direction, (number p.toggle (omega arith), (life p.halted, (number p.capacity c, tt)))))))
words (Packet a n v) (x, y, are) = (plain (codes "wait") refl, (number a (omega arith), (number n (omega arith), (bytes v.items are, tt))))
words (Fates v) are = (plain (codes "fates") refl, (bytes v.items are, tt))
words (Put r v) (x, y) = (plain (codes "put") refl, (number r (omega arith), (number v (omega arith), tt)))
words (Get r) x = (plain (codes "get") refl, (number r (omega arith), tt))
words (Frame v) are = (plain (codes "frame") refl, (bytes v.items are, tt))
words (Call (Open n p)) (x, y, z, u, v) =
    (plain (codes "open") refl, (number n (omega arith), (number p.address (omega arith), (number p.endpoint (omega arith), (facing p.direction, (number p.size (omega arith), (number p.limit (omega arith), tt)))))))
words (Call (Send n m)) (x, are) = (plain (codes "send") refl, (number n (omega arith), (bytes m.items are, tt)))
words (Call (Fetch n b)) (x, (short, blank)) = (plain (codes "fetch") refl, (number n (omega arith), (number (vec_len b) (omega arith), tt)))
words (Call (Recover n)) x = (plain (codes "recover") refl, (number n (omega arith), tt))
words (Call (Look n)) x = (plain (codes "look") refl, (number n (omega arith), tt))
words (Call (Close n)) x = (plain (codes "close") refl, (number n (omega arith), tt))
words Show fits = (plain (codes "show") refl, tt)

pub is_text : (line : List ℕ) (x : Command) → words_of line ≡ written x → Fits x → IsUtf8 line
is_text line x e fits =
    let ascii : IsAscii line = rw (← join_with_byte-slice_split 32 line) (rw e (joined (written x) (words x fits))) in
    IsUtf8-from_ascii line ascii
