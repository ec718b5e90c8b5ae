use Rattle.std.proofs.Common.{◌≡◌, vec_len, arith}
use Rattle.scripts.proofs.Decimals.{same_number}
use Rattle.scripts.proofs.reading.buffer.Goals as goal

pub returns-then-length-gt-BUFFER_MOST : goal.returns-then-length-gt-BUFFER_MOST
returns-then-length-gt-BUFFER_MOST c = λ _ v (short, blank) is.
    let (written, small) = c.in_ok-length.ensures in
    let same : c.in_ok-length.length ≡ vec_len v = same_number c.in_ok-length.length (vec_len v) _ small (omega arith) written is in
    omega arith
