use Rattle.std.proofs.Common.{◌==◌, string_bytes, length, take}
use Rattle.std.specs.List.{slice_split}
use Rattle.scripts.specs.Running.{TellsLines}
use Rattle.scripts.specs.Scenes.{scene_of, fresh_scene}
use Rattle.scripts.proofs.running.run.Given as goal

abbrev pub invariant-loop-place : goal.invariant-loop-place
invariant-loop-place l = TellsLines l.vocabulary 1 (take (length l.yielded) (slice_split (λ b. b == 10) l.script)) fresh_scene (string_bytes l.out) (scene_of l.machine)
