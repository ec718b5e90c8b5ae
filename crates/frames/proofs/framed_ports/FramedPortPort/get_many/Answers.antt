use Rattle.std.proofs.Common.{◌+◌, ◌≤◌, refl, ◌∙◌, length, ap, sym, arith}
use Rattle.frames.proofs.Above.{gets_above, gots_above}
use Rattle.frames.proofs.Cutting.{fetched_more, fetched_after, fetched_bytes, fetched_sent}
use Rattle.frames.proofs.framed_ports.FramedPortPort.get_many.Goals as goal

pub returns-in_default-clause-bytes : goal.returns-in_default-clause-bytes
returns-in_default-clause-bytes g c = c.fill.ensures.after (λ y e. e) ∙ sym (gots_above c.args.register (omega arith) (length c.args.into.now) _)

pub returns-in_default-clause-after : goal.returns-in_default-clause-after
returns-in_default-clause-after g c = sym (gets_above c.args.register (omega arith) (length c.args.into.now) _)

pub loop-start-preserved : goal.loop-start-preserved
loop-start-preserved g c = record {
  fetched =
      fetched_more _ _ _ _ _ c.loop-start.start _ c.min-end.result _ c.loop-start.into _ _ _ (omega arith) (ap (λ s. c.loop-start.start + s) c.most-size.ensures) c.min-end.ensures refl c.get_piece.ensures.bytes c.get_piece.ensures.after c.get_piece.ensures.sent c.loop-start.invariant.fetched;
  mode = c.get_piece.ensures.mode ∙ c.loop-start.invariant.mode;
}

pub returns-in-Some : goal.returns-in-Some
returns-in-Some g c =
    let f = c.loop-start.invariant.fetched in
    record {
      bytes = fetched_bytes f c.loop-start-test.false c.in-Some.ensures;
      after = fetched_after f c.loop-start-test.false c.in-Some.ensures;
      mode = c.loop-start.invariant.mode;
      sent = fetched_sent f c.loop-start-test.false c.in-Some.ensures c.in-Some.register.named;
    }

pub returns-in-Some-2 : goal.returns-in-Some-2
returns-in-Some-2 g c =
    let f =
    fetched_more _ _ _ _ _ c.loop-start.start _ c.min-end.result _ c.loop-start.into _ _ _ (omega arith) (ap (λ s. c.loop-start.start + s) c.most-size.ensures) c.min-end.ensures refl c.get_piece.ensures.bytes c.get_piece.ensures.after c.get_piece.ensures.sent c.loop-start.invariant.fetched in
    let over : length c.args.into.now ≤ c.loop-start.start + c.most-size.result = omega arith in
    record {
      bytes = fetched_bytes f over c.in-Some.ensures;
      after = fetched_after f over c.in-Some.ensures;
      mode = c.get_piece.ensures.mode ∙ c.loop-start.invariant.mode;
      sent = fetched_sent f over c.in-Some.ensures c.in-Some.register.named;
    }
