use Rattle.std.proofs.Common.{◌≡◌, ◌≢◌, get_or, ◌∙◌, ap, lit<, arith}
use Rattle.std.proofs.lemmas.Iterator.Consumers.{map_from_collect}
use Rattle.std.proofs.lemmas.Iterator.Splits.{YieldsList-from_str_split}
use Rattle.std.specs.Str.Iter.{split_text}
use Rattle.scripts.specs.Commands.{texts, words_of}
use Rattle.scripts.proofs.Idle.{busy, no_text, read_by_words}
use Rattle.scripts.proofs.commands.Command.read.Goals as goal

pub returns-in_default-from_utf8 : goal.returns-in_default-from_utf8
returns-in_default-from_utf8 c = λ _ x.
    let first : get_or c.args.line.now 0 0 ≢ 35 = grind arith in
    no_text _ x (busy _ c.in_default.len_at_least first) c.in_default-from_utf8.ensures.cases.0

pub returns : goal.returns
returns c =
    let first : get_or c.args.line.now 0 0 ≢ 35 = grind arith in
    let text : split_text c.split.result ≡ c.args.line.now = c.split.ensures.text ∙ c.in-Ok.ensures.cases.0 in
    let cuts = map_from_collect _ c.collect.ensures.ran (YieldsList-from_str_split 32 _ (lit< tt) text c.split.ensures.has_more c.split.ensures.pattern) in
    let cut = rw c.in_ok-words.was at cuts in
    let words : texts c.deref.result.now ≡ words_of c.args.line.now = ap texts c.deref.ensures.value ∙ cut in
    read_by_words _ _ (busy _ c.in_default.len_at_least first) (rw words at c.from_words.ensures)
