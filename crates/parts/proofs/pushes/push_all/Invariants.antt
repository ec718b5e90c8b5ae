use Rattle.std.proofs.Common.{◌≡◌, ◌+◌, ◌++◌, take, deque_items, deque_len, deque_capacity}
use Rattle.parts.proofs.pushes.push_all.Given as goal

abbrev pub invariant-loop-byte : goal.invariant-loop-byte
invariant-loop-byte l =
    (deque_items l.queue ≡ deque_items l.initial.queue ++ take l.byte-index l.bytes)
    × (deque_len l.queue ≡ deque_len l.initial.queue + l.byte-index)
    × (deque_capacity l.queue ≡ deque_capacity l.initial.queue)
