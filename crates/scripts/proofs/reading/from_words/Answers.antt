use Rattle.std.proofs.Common.{codes, lit<, rules, tests, arith}
use Rattle.scripts.proofs.Lines.{HasForm, at, refused, cell_only, wait_only, open_only, fetch_only, spelled, three_words, seven_words, unwritten}
use Rattle.scripts.proofs.reading.from_words.Goals.{in_default-via-then-words-lt1, in_default-via-else-words-lt1+then-words-lt2+in_default, in_default-via-else-words-lt1+else-words-lt2+then-words-lt3+in_default, in_default-via-else-words-lt1+else-words-lt2+else-words-lt3+then-words-lt4+in_default, in_default-via-else-words-lt1+else-words-lt2+else-words-lt3+else-words-lt4+then-words-lt5+in_default, in_default-via-else-words-lt1+else-words-lt2+else-words-lt3+else-words-lt4+else-words-lt5+then-words-lt7, in_default-via-else-words-lt1+else-words-lt2+else-words-lt3+else-words-lt4+else-words-lt5+else-words-lt7+then-words-lt8+in_default, in_default-via-else-words-lt1+else-words-lt2+else-words-lt3+else-words-lt4+else-words-lt5+else-words-lt7+else-words-lt8}
use Rattle.scripts.proofs.reading.from_words.Goals as goal

pub returns-in_err-byte-in-cell : goal.returns-in_err-byte-in-cell
returns-in_err-byte-in-cell c =
    let form : HasForm c.args.words.now (codes "cell") 7 = record { long = omega arith; name_is = c.in-cell.is-cell } in
    refused _ _ _ c.from_residual-in_err-byte-in-cell.ensures.1
    (λ e. cell_only _ form (λ p fits is. c.in_err-byte-in-cell.ensures e _ fits.0 (at _ _ 1 _ is (lit< tt))))

pub returns-in_err-byte-in-cell-2 : goal.returns-in_err-byte-in-cell-2
returns-in_err-byte-in-cell-2 c =
    let form : HasForm c.args.words.now (codes "cell") 7 = record { long = omega arith; name_is = c.in-cell.is-cell } in
    refused _ _ _ c.from_residual-in_err-byte-in-cell-2.ensures.1
    (λ e. cell_only _ form (λ p fits is. c.in_err-byte-in-cell-2.ensures e _ fits.1 (at _ _ 2 _ is (lit< tt))))

pub returns-in_err-direction-in-cell : goal.returns-in_err-direction-in-cell
returns-in_err-direction-in-cell c =
    let form : HasForm c.args.words.now (codes "cell") 7 = record { long = omega arith; name_is = c.in-cell.is-cell } in
    refused _ _ _ c.from_residual-in_err-direction-in-cell.ensures.1
    (λ e. cell_only _ form (λ p fits is. c.in_err-direction-in-cell.ensures e _ tt (at _ _ 3 _ is (lit< tt))))

pub returns-in_err-byte-in-cell-3 : goal.returns-in_err-byte-in-cell-3
returns-in_err-byte-in-cell-3 c =
    let form : HasForm c.args.words.now (codes "cell") 7 = record { long = omega arith; name_is = c.in-cell.is-cell } in
    refused _ _ _ c.from_residual-in_err-byte-in-cell-3.ensures.1
    (λ e. cell_only _ form (λ p fits is. c.in_err-byte-in-cell-3.ensures e _ fits.2 (at _ _ 4 _ is (lit< tt))))

pub returns-in_err-halted-in-cell : goal.returns-in_err-halted-in-cell
returns-in_err-halted-in-cell c =
    let form : HasForm c.args.words.now (codes "cell") 7 = record { long = omega arith; name_is = c.in-cell.is-cell } in
    refused _ _ _ c.from_residual-in_err-halted-in-cell.ensures.1
    (λ e. cell_only _ form (λ p fits is. c.in_err-halted-in-cell.ensures e _ tt (at _ _ 5 _ is (lit< tt))))

pub returns-in_err-short-in-cell : goal.returns-in_err-short-in-cell
returns-in_err-short-in-cell c =
    let form : HasForm c.args.words.now (codes "cell") 7 = record { long = omega arith; name_is = c.in-cell.is-cell } in
    refused _ _ _ c.from_residual-in_err-short-in-cell.ensures.1
    (λ e. cell_only _ form (λ p fits is. c.in_err-short-in-cell.ensures e _ fits.3 (at _ _ 6 _ is (lit< tt))))

pub returns-in_err-byte-in-wait : goal.returns-in_err-byte-in-wait
returns-in_err-byte-in-wait c =
    let form : HasForm c.args.words.now (codes "wait") 4 = record { long = omega arith; name_is = c.in-wait.is-wait } in
    refused _ _ _ c.from_residual-in_err-byte-in-wait.ensures.1
    (λ e. wait_only _ form (λ a n bytes fits is. c.in_err-byte-in-wait.ensures e _ fits.0 (at _ _ 1 _ is (lit< tt))))

pub returns-in_err-byte-in-wait-2 : goal.returns-in_err-byte-in-wait-2
returns-in_err-byte-in-wait-2 c =
    let form : HasForm c.args.words.now (codes "wait") 4 = record { long = omega arith; name_is = c.in-wait.is-wait } in
    refused _ _ _ c.from_residual-in_err-byte-in-wait-2.ensures.1
    (λ e. wait_only _ form (λ a n bytes fits is. c.in_err-byte-in-wait-2.ensures e _ fits.1 (at _ _ 2 _ is (lit< tt))))

pub returns-in_err-bytes-in-wait : goal.returns-in_err-bytes-in-wait
returns-in_err-bytes-in-wait c =
    let form : HasForm c.args.words.now (codes "wait") 4 = record { long = omega arith; name_is = c.in-wait.is-wait } in
    refused _ _ _ c.from_residual-in_err-bytes-in-wait.ensures.1
    (λ e. wait_only _ form (λ a n bytes fits is. c.in_err-bytes-in-wait.ensures e bytes fits.2 (at _ _ 3 _ is (lit< tt))))

pub returns-in_err-byte-in-open : goal.returns-in_err-byte-in-open
returns-in_err-byte-in-open c =
    let form : HasForm c.args.words.now (codes "open") 7 = record { long = omega arith; name_is = c.in-open.is-open } in
    refused _ _ _ c.from_residual-in_err-byte-in-open.ensures.1
    (λ e. open_only _ form (λ n p fits is. c.in_err-byte-in-open.ensures e _ fits.0 (at _ _ 1 _ is (lit< tt))))

pub returns-in_err-byte-in-open-2 : goal.returns-in_err-byte-in-open-2
returns-in_err-byte-in-open-2 c =
    let form : HasForm c.args.words.now (codes "open") 7 = record { long = omega arith; name_is = c.in-open.is-open } in
    refused _ _ _ c.from_residual-in_err-byte-in-open-2.ensures.1
    (λ e. open_only _ form (λ n p fits is. c.in_err-byte-in-open-2.ensures e _ fits.1 (at _ _ 2 _ is (lit< tt))))

pub returns-in_err-byte-in-open-3 : goal.returns-in_err-byte-in-open-3
returns-in_err-byte-in-open-3 c =
    let form : HasForm c.args.words.now (codes "open") 7 = record { long = omega arith; name_is = c.in-open.is-open } in
    refused _ _ _ c.from_residual-in_err-byte-in-open-3.ensures.1
    (λ e. open_only _ form (λ n p fits is. c.in_err-byte-in-open-3.ensures e _ fits.2 (at _ _ 3 _ is (lit< tt))))

pub returns-in_err-direction-in-open : goal.returns-in_err-direction-in-open
returns-in_err-direction-in-open c =
    let form : HasForm c.args.words.now (codes "open") 7 = record { long = omega arith; name_is = c.in-open.is-open } in
    refused _ _ _ c.from_residual-in_err-direction-in-open.ensures.1
    (λ e. open_only _ form (λ n p fits is. c.in_err-direction-in-open.ensures e _ tt (at _ _ 4 _ is (lit< tt))))

pub returns-in_err-byte-in-open-4 : goal.returns-in_err-byte-in-open-4
returns-in_err-byte-in-open-4 c =
    let form : HasForm c.args.words.now (codes "open") 7 = record { long = omega arith; name_is = c.in-open.is-open } in
    refused _ _ _ c.from_residual-in_err-byte-in-open-4.ensures.1
    (λ e. open_only _ form (λ n p fits is. c.in_err-byte-in-open-4.ensures e _ fits.3 (at _ _ 5 _ is (lit< tt))))

pub returns-in_err-byte-in-open-5 : goal.returns-in_err-byte-in-open-5
returns-in_err-byte-in-open-5 c =
    let form : HasForm c.args.words.now (codes "open") 7 = record { long = omega arith; name_is = c.in-open.is-open } in
    refused _ _ _ c.from_residual-in_err-byte-in-open-5.ensures.1
    (λ e. open_only _ form (λ n p fits is. c.in_err-byte-in-open-5.ensures e _ fits.4 (at _ _ 6 _ is (lit< tt))))

pub returns-in_err-buffer-in-fetch : goal.returns-in_err-buffer-in-fetch
returns-in_err-buffer-in-fetch c =
    let form : HasForm c.args.words.now (codes "fetch") 3 = record { long = omega arith; name_is = c.in-fetch.is-fetch } in
    refused _ _ _ c.from_residual-in_err-buffer-in-fetch.ensures.1
    (λ e. fetch_only _ form (λ n buffer fits is. c.in_err-buffer-in-fetch.ensures e buffer fits.1 (at _ _ 2 _ is (lit< tt))))

pub returns-in_default : goal.returns-in_default
returns-in_default c = λ _.
    elim c.in_default.branch [
      | in_default-via-then-words-lt1 w ↦ unwritten c.args.words.now (λ h. absurd (grind arith)) (λ h. absurd (grind arith)) (λ h. absurd (grind arith)) (λ h. absurd (grind arith)) (λ h. absurd (grind arith))
      | in_default-via-else-words-lt1+then-words-lt2+in_default w ↦ unwritten c.args.words.now (λ h. (search (rules, tests), grind (arith, tests))) (λ h. absurd (grind arith)) (λ h. absurd (grind arith)) (λ h. absurd (grind arith)) (λ h. absurd (grind arith))
      | in_default-via-else-words-lt1+else-words-lt2+then-words-lt3+in_default w ↦ unwritten c.args.words.now (λ h. absurd (grind arith)) (λ h. (search (rules, tests), search (rules, tests), search (rules, tests), search (rules, tests), search (rules, tests), search (rules, tests), search (rules, tests))) (λ h. absurd (grind arith)) (λ h. absurd (grind arith)) (λ h. absurd (grind arith))
      | in_default-via-else-words-lt1+else-words-lt2+else-words-lt3+then-words-lt4+in_default w ↦ unwritten c.args.words.now (λ h. absurd (grind arith)) (λ h. absurd (grind arith)) (λ h. (search (rules, tests), search (rules, tests), search (rules, tests))) (λ h. absurd (grind arith)) (λ h. absurd (grind arith))
      | in_default-via-else-words-lt1+else-words-lt2+else-words-lt3+else-words-lt4+then-words-lt5+in_default w ↦ unwritten c.args.words.now (λ h. absurd (grind arith)) (λ h. absurd (grind arith)) (λ h. absurd (grind arith)) (λ h. search (rules, tests)) (λ h. absurd (grind arith))
      | in_default-via-else-words-lt1+else-words-lt2+else-words-lt3+else-words-lt4+else-words-lt5+then-words-lt7 w ↦ unwritten c.args.words.now (λ h. absurd (grind arith)) (λ h. absurd (grind arith)) (λ h. absurd (grind arith)) (λ h. absurd (grind arith)) (λ h. absurd (grind arith))
      | in_default-via-else-words-lt1+else-words-lt2+else-words-lt3+else-words-lt4+else-words-lt5+else-words-lt7+then-words-lt8+in_default w ↦ unwritten c.args.words.now (λ h. absurd (grind arith)) (λ h. absurd (grind arith)) (λ h. absurd (grind arith)) (λ h. absurd (grind arith)) (λ h. (search (rules, tests), search (rules, tests)))
      | in_default-via-else-words-lt1+else-words-lt2+else-words-lt3+else-words-lt4+else-words-lt5+else-words-lt7+else-words-lt8 w ↦ unwritten c.args.words.now (λ h. absurd (grind arith)) (λ h. absurd (grind arith)) (λ h. absurd (grind arith)) (λ h. absurd (grind arith)) (λ h. absurd (grind arith))
    ]

pub returns-in_ok-buffer-in-fetch : goal.returns-in_ok-buffer-in-fetch
returns-in_ok-buffer-in-fetch c =
    let form : HasForm c.args.words.now (codes "fetch") 3 = record { long = omega arith; name_is = c.in-fetch.is-fetch } in
    let e = rw form.long at (spelled c.args.words.now) in
    let (number, byte) = c.in_ok-byte-in-fetch.ensures in
    let (length, blank) = c.in_ok-buffer-in-fetch.ensures in
    (three_words _ _ _ _ _ _ _ e form.name_is number length, (byte, blank))

pub returns-in_ok-short-in-cell : goal.returns-in_ok-short-in-cell
returns-in_ok-short-in-cell c =
    let form : HasForm c.args.words.now (codes "cell") 7 = record { long = omega arith; name_is = c.in-cell.is-cell } in
    let e = rw form.long at (spelled c.args.words.now) in
    let (address, a) = c.in_ok-byte-in-cell.ensures in
    let (number, n) = c.in_ok-byte-in-cell-2.ensures in
    let (facing, _) = c.in_ok-direction-in-cell.ensures in
    let (toggle, t) = c.in_ok-byte-in-cell-3.ensures in
    let (life, _) = c.in_ok-halted-in-cell.ensures in
    let (capacity, p) = c.in_ok-short-in-cell.ensures in
    (seven_words _ _ _ _ _ _ _ _ _ _ _ _ _ _ _ e form.name_is address number facing toggle life capacity, (a, n, t, p))

pub returns-in_ok-byte-in-open-5 : goal.returns-in_ok-byte-in-open-5
returns-in_ok-byte-in-open-5 c =
    let form : HasForm c.args.words.now (codes "open") 7 = record { long = omega arith; name_is = c.in-open.is-open } in
    let e = rw form.long at (spelled c.args.words.now) in
    let (number, n) = c.in_ok-byte-in-open.ensures in
    let (address, a) = c.in_ok-byte-in-open-2.ensures in
    let (endpoint, p) = c.in_ok-byte-in-open-3.ensures in
    let (facing, _) = c.in_ok-direction-in-open.ensures in
    let (size, s) = c.in_ok-byte-in-open-4.ensures in
    let (limit, l) = c.in_ok-byte-in-open-5.ensures in
    (seven_words _ _ _ _ _ _ _ _ _ _ _ _ _ _ _ e form.name_is number address endpoint facing size limit, (n, a, p, s, l))
