use Rattle.std.proofs.Common.{◌≡◌, ◌-◌, true, MatchResult, Result, Ok, Err, is_ok, map, vec_items, vec_len, vec_capacity, ◌∙◌, subst, arith}
use Rattle.std.proofs.lemmas.Bool.{le-leb, false≢true}
use Rattle.service.specs.declared.serving.NoRoom.{NoRoom}
use Rattle.service.specs.Asks.{asked, replied}
use Rattle.service.specs.Serving.{state, ServedBehind, Served}
use Rattle.service.proofs.Promise.{promised, promised_onward}
use Rattle.service.proofs.serving.serve.Goals as goal

room_made : (P Q : Type 0) (r : Result (Unit {0}) NoRoom) → is_ok r ≡ true → MatchResult r (λ _. P) (λ _. Q) → P
room_made P Q (Ok u) h made = made
room_made P Q (Err e) h made = absurd (false≢true h)

pub returns : goal.returns
returns g c =
    let start = state c.args.host.now.table.pipes (g.P.Port.meaning c.args.host.now.port) in
    let s = state c.serve_into.new.host.table.pipes (g.P.Port.meaning c.serve_into.new.host.port) in
    let asks = map asked (vec_items c.args.calls) in
    let given = map replied (vec_items c.serve_into.new.outcomes) in
    let outcomes = c.in_ok-outcomes.outcomes in
    let made = c.in_ok-outcomes.ensures in
    let fits : is_ok c.serve_into.result ≡ true = c.serve_into.ensures.room ∙ le-leb (vec_len c.args.calls) (vec_capacity outcomes - vec_len outcomes) (omega (arith, made.len, made.capacity, c.len.ensures)) in
    let served : Served start asks given s = subst (λ l. ServedBehind (map replied l) start asks given s) made.items (room_made _ _ c.serve_into.result fits c.serve_into.ensures.served) in
    record { served = served; promise = promised start asks given served.replies_are; onward = promised_onward start asks given served.replies_are }
