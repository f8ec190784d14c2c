-- Answered 0, a report found room.
use Prim.Native.Nat.{ℕ, ◌<◌}
use mathlib.Core.Bool.{Bool, true, false, cond, ◌&&◌}
use mathlib.Core.Path.{◌≡◌, refl}
use native.Mathlib.Omega.{arith}
use Rattle.refusals.specs.Refusals.{other_stream, other_origin, received_far, rtp_aged, badly_presented}
use Rattle.times.specs.Times.{is_far, is_aged, is_badly_presented}
use Rattle.register.specs.declared.Record.{Record}
use Rattle.register.specs.declared.Reading.{Reading}
use Rattle.register.specs.declared.Opening.{Opening}
use Rattle.register.specs.Register.{presents, is_other_stream, report_checks}

first_check : (t : Bool) (n m : ℕ) → 0 < n → cond t n m ≡ 0 → m ≡ 0
first_check true n m given e = absurd (omega (arith, given, e))
first_check false n m given e = e

pub accepted_room :
    (o : Opening) (x : Record) (at : Reading) (elsewhere full : Bool) → report_checks o x at elsewhere full ≡ 0 →
    full ≡ false
unfolding report_checks
accepted_room o x at elsewhere false e = refl
accepted_room o x at elsewhere true e =
    let past13 : _ =
    first_check (is_other_stream o x.report.group x.report.media) other_stream _ (omega arith) e in
    let past14 : _ = first_check elsewhere other_origin _ (omega arith) past13 in
    let past15 : _ = first_check (is_far at.ntp x.report.received) received_far _ (omega arith) past14 in
    let past16 : _ = first_check (is_aged o.rate at.rtp x.report.rtp) rtp_aged _ (omega arith) past15 in
    let past17 : _ =
    first_check (presents x && is_badly_presented x.report.received x.report.presented) badly_presented _
    (omega arith)
    past16 in
    absurd (omega (arith, past17))
