use Rattle.std.proofs.Common.{◌≡◌, ℕ, List, ◌++◌}
use Rattle.std.specs.Fmt.{HasWritten, IsPlainFormatter}
use Rattle.std.specs.Slice.Iter.{iter_rest}
use Rattle.std.specs.Iterator.Adapters.{zip_first, zip_second}
use Rattle.analyser.specs.Words.{data_lines}
use Rattle.analyser.proofs.exchanges.write_data.Given as goal

-- the lines so far, and those of the bytes that are left
abbrev pub invariant-loop-out : goal.invariant-loop-out
invariant-loop-out g l =
    (goal.iterator-loop-out g).can_next l.out-iterator
    × (goal.iterator-loop-out g).is_finite l.out-iterator
    × (IsPlainFormatter l.initial.f → (done : List ℕ) × HasWritten g.W.Write.write_str_gives l.initial.f done l.f
    × (done ++ data_lines l.fn.meant (iter_rest (zip_first l.out-iterator)) (iter_rest (zip_second l.out-iterator)) ≡ data_lines l.fn.meant l.fn.sent l.fn.answered))
