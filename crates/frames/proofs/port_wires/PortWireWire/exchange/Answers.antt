use Rattle.std.proofs.Common.{refl}
use Rattle.frames.proofs.Bodies.{exchange_answers, exchange_after}
use Rattle.frames.proofs.port_wires.PortWireWire.exchange.Goals as goal

pub returns : goal.returns
returns g c =
    let after = exchange_after c.args.self.now.duplex _ _ c.status.ensures.after _ c.min-end.result _ _ c.in-Some.ensures.cases.0 c.min-end.ensures _ c.access_body.ensures.after in
    record {
      answers =
          exchange_answers c.args.self.now.duplex _ _ c.status.ensures.after _ c.min-end.result _ _ c.in-Some.ensures.cases.0 c.min-end.ensures _ _ c.status.ensures.value c.access_body.ensures.answers;
      after = after;
      mode = refl;
      sent = record { same_mode = refl; led = after };
    }
