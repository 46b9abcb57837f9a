use Rattle.std.proofs.Common.{◌≤◌, length, arith}
use Rattle.files.proofs.print_listing.Goals as goal

pub returns : goal.returns
returns g c =
    let long : length c.as_slice.result.now ≤ 65537 = omega (arith, c.in_ok-bytes.ensures, c.as_slice.ensures.len) in
    (_, c.as_slice.result, c.in_ok-text.text, long, rw c.in_ok-text.was at c.listing.ensures)
