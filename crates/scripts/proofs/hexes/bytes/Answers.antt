use Rattle.std.proofs.Common.{◌≡◌, ◌≢◌, ◌%◌, [], length, codes, ap, refl, arith, rules, tests}
use Rattle.scripts.proofs.HexTexts.{goes_on, odd_word, no_digits, too_short}
use Rattle.scripts.proofs.hexes.bytes.Goals as goal
use Rattle.scripts.proofs.hexes.bytes.Goals.{else-is_empty-via-then-is_empty+else-not-is_empty, else-is_empty-via-else-is_empty}

pub returns-then-not-is_multiple_of : goal.returns-then-not-is_multiple_of
returns-then-not-is_multiple_of c =
    let some : c.args.word.now ≢ codes "-" = search (rules, tests) in
    let odd : length c.args.word.now % 2 ≢ 0 = search (rules, tests) in
    λ _ v are. odd_word v.items c.args.word.now odd some

pub returns-in_default-pair : goal.returns-in_default-pair
returns-in_default-pair c =
    let some : c.args.word.now ≢ codes "-" = search (rules, tests) in
    let left : c.loop-rest.rest.now ≢ [] = λ e. let none : length c.loop-rest.rest.now ≡ 0 = ap length e in let at = c.in-len2-up.len_at_least in omega arith in
    λ _ v are is. goes_on c.loop-rest.bytes.items v.items c.loop-rest.rest.now c.args.word.now are some left (λ b more byte e. c.in_default-pair.ensures b byte (rw e refl)) c.loop-rest.invariant.0 is

pub returns-else-is_empty : goal.returns-else-is_empty
returns-else-is_empty c =
    let some : c.args.word.now ≢ codes "-" = search (rules, tests) in
    λ _ v are is. elim c.else-is_empty.branch [
      | else-is_empty-via-then-is_empty+else-not-is_empty w ↦
          no_digits c.loop-rest.bytes.items v.items c.loop-rest.rest.now c.args.word.now (search (rules, tests)) (search (rules, tests)) c.loop-rest.invariant.0 is
      | else-is_empty-via-else-is_empty w ↦
          let left : c.loop-rest.rest.now ≢ [] = search (rules, tests) in
          goes_on c.loop-rest.bytes.items v.items c.loop-rest.rest.now c.args.word.now are some left (λ b more _ e. too_short b more _ e c.in_default.len_below) c.loop-rest.invariant.0 is
    ]
