-- What a wire over a port tells of the bytes that it heard: its port is where they lead, and its mode is the same. Assumes nothing.
use Rattle.std.specs.Prelude.{◌≡◌, ℕ, List}
use Rattle.port.specs.Bus.{Bus}
use Rattle.frames.specs.declared.duplexes.Duplex.{Duplex}
use Rattle.frames.specs.Exchanges.{after_exchange}

-- the mode is the same, and the port stands where the exchange of the bytes leads
pub record Heard (duplex duplex' : Duplex) (bytes : List ℕ) (b b' : Bus) : Type 0 where
  pub same_mode : duplex' ≡ duplex
  pub led : b' ≡ after_exchange bytes b
