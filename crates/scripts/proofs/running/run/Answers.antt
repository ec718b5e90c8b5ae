use Rattle.std.proofs.Common.{◌≡◌, ◌==◌, length, refl, ◌∙◌, rules, tests}
use Rattle.std.proofs.Math.Seq.{take-length}
use Rattle.std.proofs.lemmas.Iterator.Consumers.{YieldsList-turn, YieldsList-end, YieldsList-at, YieldsList-from_enumerate}
use Rattle.std.proofs.lemmas.Iterator.Splits.{YieldsList-from_slice_split}
use Rattle.std.proofs.lemmas.List.{length_push}
use Rattle.std.proofs.lemmas.List.FromFn.{length-enumerate_from}
use Rattle.std.specs.List.{slice_split}
use Rattle.scripts.specs.Scenes.{scene_of}
use Rattle.scripts.proofs.Told.{told_more}
use Rattle.scripts.proofs.running.run.Goals as goal

pub loop-place-preserved : goal.loop-place-preserved
loop-place-preserved c =
    let lines = slice_split (λ b. b == 10) c.args.script.now in
    let turn = YieldsList-turn (YieldsList-from_enumerate (YieldsList-at (cc) (YieldsList-from_slice_split {s = c.split.result} _ (λ b. b == 10) c.args.script.now c.split.ensures.rest c.split.ensures.done c.split.ensures.closure (λ x b q k. search (rules, tests)))) (cc)) c.loop-place.yielded _ c.loop-place.yielded_by _ _ (c.in-Some.place, c.in-Some.line) c.in-Some.is c.next.ensures.steps in
    rw (length_push c.loop-place.yielded (c.in-Some.place, c.in-Some.line), c.in_ok-tell.ensures.text)
    (told_more c.args.vocabulary (length c.loop-place.yielded) c.in-Some.place lines c.in-Some.line.now _ _ _ _ _ turn c.loop-place.invariant
    (c.answer-next.result.1, c.answer-next.ensures, c.in_ok-tell.ensures.goes_on, refl))

pub returns : goal.returns
returns c =
    let lines = slice_split (λ b. b == 10) c.args.script.now in
    let whole = YieldsList-end (YieldsList-from_enumerate (YieldsList-at (cc) (YieldsList-from_slice_split {s = c.split.result} _ (λ b. b == 10) c.args.script.now c.split.ensures.rest c.split.ensures.done c.split.ensures.closure (λ x b q k. search (rules, tests)))) (cc)) c.loop-place.yielded _ c.loop-place.yielded_by _ _ c.in-None.is c.next.ensures.steps in
    let all : length c.loop-place.yielded ≡ length lines = whole.1 ∙ length-enumerate_from 0 lines in
    (scene_of c.loop-place.machine, rw (all, take-length lines) at c.loop-place.invariant)
