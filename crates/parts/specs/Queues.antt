-- What a queue of fates stands for: one byte for each fate, in order. Assumes nothing.
use Rattle.std.specs.Prelude.{ℕ, List}
use Rattle.std.specs.VecDeque.{deque_items}
use Rattle.parts.specs.declared.queues.FateQueue.{FateQueue}

abbrev pub queue_bytes : FateQueue → List ℕ
queue_bytes q = deque_items q.bytes
