-- One line more of a script.
use Rattle.std.proofs.Common.{◌≡◌, ℕ, ◌+◌, ◌<◌, List, [], ◌∷◌, ◌++◌, length, take, get_or, refl, sym, ap, ◌∙◌, append_assoc, append-nil, arith}
use Rattle.std.proofs.lemmas.List.{length-take-le, take_more}
use Rattle.std.proofs.lemmas.List.FromFn.{length-enumerate_from, get_or-enumerate_from}
use Rattle.std.specs.List.{enumerate_from}
use Rattle.scripts.specs.Running.{TellsLine, TellsLines}
use Rattle.scripts.specs.Scenes.{Scene}
use Rattle.scripts.specs.declared.running.Vocabulary.{Vocabulary}

told : (v : Vocabulary) (n k : ℕ) (lines : List (List ℕ)) (line : List ℕ) (t s s' : Scene) (text more : List ℕ)
    → TellsLines v n lines t text s → k ≡ n + length lines → TellsLine v k line s more s' → TellsLines v n (lines ++ line ∷ []) t (text ++ more) s'
told v n k [] line t s s' text more (none, same) at last =
    let here : k ≡ n = omega arith in
    rw (none, ← here, ← same) (more, s', [], last, (refl, refl), sym (append-nil more))
told v n k (first ∷ lines) line t s s' text more (words, between, rest, begins, goes, is) at last =
    let later : k ≡ n + 1 + length lines = omega arith in
    rw is (words, between, rest ++ more, begins, told v (n + 1) k lines line between s s' rest more goes later last, append_assoc words rest more)

-- the next of a row of lines, each of which has its place beside it
pub told_more : (v : Vocabulary) (i k : ℕ) (lines : List (List ℕ)) (line : List ℕ) (t s s' : Scene) (text more : List ℕ)
    → (i < length (enumerate_from 0 lines)) × ((k, line) ≡ get_or (enumerate_from 0 lines) i (k, line)) → TellsLines v 1 (take i lines) t text s → TellsLine v (k + 1) line s more s'
    → TellsLines v 1 (take (i + 1) lines) t (text ++ more) s'
told_more v i k lines line t s s' text more (within, is) so_far last =
    let below : i < length lines = omega (arith, within, length-enumerate_from 0 lines) in
    let here = is ∙ get_or-enumerate_from 0 lines i (k, line) below in
    let at : k ≡ 0 + i = ap (λ (p : ℕ × List ℕ). p.0) here in
    let row : take (i + 1) lines ≡ take i lines ++ line ∷ [] = take_more lines i line below ∙ ap (λ (l : List ℕ). take i lines ++ l ∷ []) (sym (ap (λ (p : ℕ × List ℕ). p.1) here)) in
    let many : length (take i lines) ≡ i = length-take-le i lines (omega arith) in
    rw row (told v 1 (k + 1) (take i lines) line t s s' text more so_far (omega (arith, at, many)) last)
