-- The pipe table as a list of places. Assumes nothing.
use Rattle.std.specs.Prelude.{ℕ, Bool, false, ◌&&◌, List, replicate, Some, None, Option, ◌==◌, slice_index_or}
use Rattle.std.specs.List.{list_any}
use Rattle.port.specs.declared.directions.Direction.{Direction}
use Rattle.port.specs.declared.toggles.Toggle.{Toggle}
use Rattle.port.specs.declared.toggles.Toggle.TheVariants.{Data0}
use Rattle.port.specs.Directions.{facing}
use Rattle.pipes.specs.declared.pipes.Pipe.{Pipe}
use Rattle.pipes.specs.declared.pipes.Standing.{Standing}
use Rattle.pipes.specs.declared.pipes.Standing.TheVariants.{InStep}

abbrev pub Places : Type 0
Places = List (Option Pipe)

-- the table of an unused host: every pipe absent
abbrev pub unused : Places
unused = replicate 8 None

-- the pipe of this number; a place past the last is absent
abbrev pub pipe_at : Places → ℕ → Option Pipe
pipe_at places number = slice_index_or places number None

-- the pipe leads to this address, endpoint and direction
abbrev pub leads_to : ℕ → ℕ → Direction → Option Pipe → Bool
leads_to address endpoint direction None = false
leads_to address endpoint direction (Some p) = p.address == address && (p.endpoint == endpoint && facing p.direction direction)

-- some pipe does
abbrev pub some_pipe_at : ℕ → ℕ → Direction → Places → Bool
some_pipe_at address endpoint direction places = list_any (leads_to address endpoint direction) places

-- a pipe with another toggle and standing
abbrev pub with_state : Pipe → Toggle → Standing → Pipe
with_state p toggle standing =
    record {
      address = p.address;
      endpoint = p.endpoint;
      direction = p.direction;
      size = p.size;
      limit = p.limit;
      toggle = toggle;
      standing = standing;
    }

-- a new pipe: in step, with DATA0
abbrev pub new_pipe : ℕ → ℕ → Direction → ℕ → ℕ → Pipe
new_pipe address endpoint direction size limit =
    record {
      address = address;
      endpoint = endpoint;
      direction = direction;
      size = size;
      limit = limit;
      toggle = Data0;
      standing = InStep;
    }
