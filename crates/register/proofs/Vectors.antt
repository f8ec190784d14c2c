-- The register at the papers' cases: P1 to P4, the twin of source 10 on a second port, and what a farewell and a sweep
-- leave.
use Prim.Native.Nat.{ℕ, ◌+◌, ◌*◌, ◌^◌}
use mathlib.Core.List.{List, [], ◌∷◌}
use mathlib.Core.Path.{◌≡◌, refl}
use lib.IntN.{pos}
use Rattle.std.specs.Prelude.{Result, Ok}
use Rattle.refusals.specs.declared.RefusalNumber.{RefusalNumber}
use Rattle.refusals.specs.Refusals.{IsRefused}
use Rattle.times.specs.Times.{difference_mod, step, unwrapped, expanded, delay}
use Rattle.origin.specs.declared.Origin.{Origin}
use Rattle.origin.specs.Origins.{same_bytes, same_origin}
use Rattle.register.specs.declared.Record.{Record}
use Rattle.register.specs.declared.Reading.{Reading}
use Rattle.register.specs.declared.Opening.{Opening}
use Rattle.register.specs.Register.{Call, filter, any, renewed, report_checks, farewell_checks, answer}
use Rattle.register.specs.Register.{after, answers, after_all}
use Rattle.register.specs.Choosing.{lateness, lateness_of, precedes_all, choice}
use Rattle.register.specs.declared.Target.{Target}

-- group 42, media 7, rate 90,000; N = 1000 s, R = 9,000,000
abbrev opening : Opening
opening = record { group = 42; media = 7; rate = 90000 }

abbrev seconds : ℕ → ℕ
seconds n = n * 2 ^ 32

abbrev reading : Reading
reading = record { ntp = seconds 1000; rtp = 9000000 }

abbrev port : ℕ → Origin
port n =
    record { address = 0 ∷ 0 ∷ 0 ∷ 0 ∷ 0 ∷ 0 ∷ 0 ∷ 0 ∷ 0 ∷ 0 ∷ 255 ∷ 255 ∷ 192 ∷ 0 ∷ 2 ∷ 1 ∷ []; port = n }

abbrev member : ℕ → Origin → ℕ → ℕ → ℕ → Record
member source origin received rtp presented =
    record {
      source = source;
      origin = origin;
      report = record {
        payload_type = 33;
        p = 1;
        group = 42;
        media = 7;
        received = received;
        rtp = rtp;
        presented = presented;
      };
    }

abbrev ten : Record
ten = member 10 (port 5005) (seconds 999) 8910000 0x03E78000

abbrev twenty : Record
twenty = member 20 (port 5006) (seconds 998) 8820000 0x03E6C000

abbrev twin : Record
twin = member 10 (port 5007) (seconds 998) 8820000 0x03E6C000

abbrev both : List Call
both = Call.report ten reading ∷ Call.report twenty reading ∷ []

abbrev target : (source received rtp presented counted : ℕ) → Result Target RefusalNumber
target source received rtp presented counted =
    Ok
    (record {
      source = source;
      group = 42;
      media = 7;
      received = received;
      rtp = rtp;
      presented = presented;
      counted = counted;
    })

abbrev target20 : Result Target RefusalNumber
target20 = target 20 (seconds 998) 8820000 (seconds 998 + 0xC0000000) 2

-- 20 without a presented time: counted in arrival mode alone
abbrev silent : Record
silent =
    record {
      source = 20;
      origin = port 5006;
      report = record {
        payload_type = 33;
        p = 0;
        group = 42;
        media = 7;
        received = seconds 998;
        rtp = 8820000;
        presented = 0;
      };
    }

-- with presented 03E7C000 instead, as late as twenty
abbrev ten_later : Record
ten_later = member 10 (port 5005) (seconds 999) 8910000 0x03E7C000

abbrev target10 : Result Target RefusalNumber
target10 = target 10 (seconds 999) 8910000 (seconds 999 + 0xC0000000) 2

-- source 10 from a second port: its report and its farewell
abbrev from_twin : List Call
from_twin = Call.report twin reading ∷ Call.farewell 10 (port 5007) ∷ []

-- the holder's farewell, twice; then the number is free for the twin
abbrev farewells : List Call
farewells = Call.farewell 10 (port 5005) ∷ Call.farewell 10 (port 5005) ∷ Call.report twin reading ∷ []

-- received 998 s is 30 s old at later 0, and a unit of 2^-32 s more at later 1
abbrev later : ℕ → Reading
later units = record { ntp = seconds 1028 + units; rtp = 9000000 }

cases :
    -- P1 and P2
    (lateness_of opening reading ten ≡ pos (45000 * 2 ^ 32))
    × (lateness_of opening reading twenty ≡ pos (67500 * 2 ^ 32))
    -- P3: 20 chosen, 2 counted
    × (answers opening [] both ≡ 0 ∷ 0 ∷ [])
    × (choice opening reading (after_all opening [] both) ≡ target20)
    -- P4: a tie, 10 chosen
    × (choice opening reading (ten_later ∷ twenty ∷ []) ≡ target10)
    -- P 1 before P 0, and arrival mode: as late as its arrival, presented 0
    × (choice opening reading (ten ∷ silent ∷ []) ≡ target 10 (seconds 999) 8910000 (seconds 999 + 2 ^ 31) 1)
    × (choice opening reading (silent ∷ []) ≡ target 20 (seconds 998) 8820000 0 1)
    × (lateness_of opening reading silent ≡ pos 0)
    -- the last accepted report stands
    × (after opening (ten ∷ twenty ∷ []) (Call.report ten_later reading) ≡ ten_later ∷ twenty ∷ [])
    -- twins: 14, and nothing changes
    × (answers opening (ten ∷ twenty ∷ []) from_twin ≡ 14 ∷ 14 ∷ [])
    × (after_all opening (ten ∷ twenty ∷ []) from_twin ≡ ten ∷ twenty ∷ [])
    -- farewells: the row goes, 19, and the number is taken again
    × (answers opening (ten ∷ twenty ∷ []) farewells ≡ 0 ∷ 19 ∷ 0 ∷ [])
    × (after_all opening (ten ∷ twenty ∷ []) farewells ≡ twenty ∷ twin ∷ [])
    -- sweeps at the limit and past it
    × (after opening (ten ∷ twenty ∷ []) (Call.sweep (later 0)) ≡ ten ∷ twenty ∷ [])
    × (after opening (ten ∷ twenty ∷ []) (Call.sweep (later 1)) ≡ ten ∷ [])
    -- 20 where no row is fresh, and without rows
    × IsRefused (choice opening (later (seconds 10)) (ten ∷ twenty ∷ [])) RefusalNumber.NoneCounted 20
    × IsRefused (choice opening reading []) RefusalNumber.NoneCounted 20
unfolding filter any renewed report_checks farewell_checks answer after answers after_all lateness precedes_all choice
    same_bytes same_origin difference_mod step unwrapped expanded delay
cases = (
  refl,
  refl,
  refl,
  refl,
  refl,
  refl,
  refl,
  refl,
  refl,
  refl,
  refl,
  refl,
  refl,
  refl,
  refl,
  (refl, refl),
  (refl, refl),
)
