-- The bench cases of document 01 that are marked P, and those of document 02, E3 and E5 to E9, as one list of
-- statements about the definitions.
use Rattle.std.specs.Prelude.{ℕ, zero, suc, ◌+◌, ◌-◌, ◌*◌, ◌^◌, false, List, [], ◌∷◌, ◌≡◌, pos, take, replicate}
use Rattle.std.specs.Prelude.{Result, Ok, Err, true, Bool}
use Rattle.register.specs.declared.Target.{Target}
use Rattle.refusals.specs.declared.RefusalNumber.{RefusalNumber}
use Rattle.refusals.specs.Refusals.{IsRefused}
use Rattle.buffer.specs.Buffer.{buffer}
use Rattle.idms.specs.declared.Report.{Report}
use Rattle.idms.specs.declared.Settings.{Settings}
use Rattle.origin.specs.declared.Origin.{Origin}
use Rattle.times.specs.Times.{ntp_age, delay, expanded, is_far, is_aged, is_badly_presented}
use Rattle.register.specs.declared.Record.{Record}
use Rattle.register.specs.declared.Reading.{Reading}
use Rattle.register.specs.declared.Opening.{Opening}
use Rattle.register.specs.Register.{Call, presents}
use Rattle.register.specs.Choosing.{lateness_of}
use Rattle.register.specs.SettingsCheck.{target_settings}
use Rattle.table.specs.declared.Table.{Table}
use Rattle.table.specs.declared.Place.{Place}
use Rattle.table.specs.declared.Answered.{Answered}
use Rattle.table.specs.Members.{place_at}
use Rattle.table.specs.Calls.{opened, with_member, answered}
use Rattle.table.specs.Choose.{choice_of}
use Rattle.table.specs.History.{answers_from, table_from}
use Rattle.table.specs.ArrivalOrder.{AlikeButPlaces}
use Rattle.table.specs.SettingsCheck.{verdict_on}
use Rattle.burst.specs.Burst.{burst_answered, burst_answers_after}
use Rattle.replay.specs.Replay.{replayed, replayed_rows}
use Rattle.writer.specs.Messages.{report_message, settings_message}

-- ---- the table and the reading of every case that states no other

abbrev pub opening : Opening
opening = record { group = 42; media = 7; rate = 90000 }

abbrev pub seconds : ℕ → ℕ
seconds n = n * 2 ^ 32

abbrev pub reading : Reading
reading = record { ntp = seconds 1000; rtp = 9000000 }

-- a port of the address ::ffff:192.0.2.1
abbrev pub origin_at : ℕ → Origin
origin_at n =
    record { address = 0 ∷ 0 ∷ 0 ∷ 0 ∷ 0 ∷ 0 ∷ 0 ∷ 0 ∷ 0 ∷ 0 ∷ 255 ∷ 255 ∷ 192 ∷ 0 ∷ 2 ∷ 1 ∷ []; port = n }

-- a report with P 1 and payload type 33, of a group and from a port
abbrev pub report_from : (group port source received rtp presented : ℕ) → Record
report_from group port source received rtp presented =
    record {
      source = source;
      origin = origin_at port;
      report = record {
        payload_type = 33;
        p = 1;
        group = group;
        media = 7;
        received = received;
        rtp = rtp;
        presented = presented;
      };
    }

-- of the table's group and from a port of its own
abbrev pub report_by : (source received rtp presented : ℕ) → Record
report_by source received rtp presented = report_from 42 (5000 + source) source received rtp presented

abbrev pub ten : Record
ten = report_by 10 (seconds 999) 8910000 0x03E78000

abbrev pub twenty : Record
twenty = report_by 20 (seconds 998) 8820000 0x03E6C000

-- two reports in turn, and the table after them
abbrev pub in_turn : Record → Record → List Call
in_turn x y = Call.report x reading ∷ Call.report y reading ∷ []

abbrev pub holding : Record → Record → Table
holding x y = table_from (opened opening).table (in_turn x y)

abbrev pub target : (source received rtp presented counted : ℕ) → Result Target RefusalNumber
target source received rtp presented counted =
    Ok
    (record {
      source = source;
      group = 42;
      media = 7;
      received = received;
      rtp = rtp;
      presented = presented;
      counted = counted;
    })

-- the report item of a record
abbrev pub report_item : Record → Report
report_item x =
    record {
      sender = x.source;
      payload_type = x.report.payload_type;
      p = presents x;
      group = x.report.group;
      media = x.report.media;
      received = x.report.received;
      rtp = x.report.rtp;
      presented = x.report.presented;
    }

-- what the writers leave in buffers of zeros, as long as their messages
abbrev pub settings_bytes : ℕ → Result Target RefusalNumber → List ℕ
settings_bytes sender (Ok x) = buffer (settings_message (target_settings sender x)) (replicate 36 0)
settings_bytes sender (Err number) = []

abbrev pub report_bytes : Report → List ℕ
report_bytes r = buffer (report_message r) (replicate 40 0)

-- what a new table answers to a report
abbrev pub number_at : Reading → Record → ℕ
number_at at x = (answered (opened opening).table (Call.report x at)).number

-- ---- the cases

-- source 10: lateness 45,000 × 2^32
abbrev pub P1 : Type 0
P1 =
    (number_at reading ten ≡ 0)
    × (lateness_of opening reading ten ≡ pos (45000 * 2 ^ 32))

-- source 20: lateness 67,500 × 2^32
abbrev pub P2 : Type 0
P2 =
    (number_at reading twenty ≡ 0)
    × (lateness_of opening reading twenty ≡ pos (67500 * 2 ^ 32))

-- P1 and P2 held: 20 chosen, 2 counted; settings from sender 1
abbrev pub P3 : Type 0
P3 =
    (choice_of (holding ten twenty) reading ≡ target 20 (seconds 998) 8820000 (seconds 998 + 0xC0000000) 2)
    × (settings_bytes 1 (choice_of (holding ten twenty) reading)
    ≡ 0x80 ∷ 0xD3 ∷ 0x00 ∷ 0x08 ∷ 0x00 ∷ 0x00 ∷ 0x00 ∷ 0x01 ∷ 0x00 ∷ 0x00 ∷ 0x00 ∷ 0x07
    ∷ 0x00 ∷ 0x00 ∷ 0x00 ∷ 0x2A ∷ 0x00 ∷ 0x00 ∷ 0x03 ∷ 0xE6 ∷ 0x00 ∷ 0x00 ∷ 0x00 ∷ 0x00
    ∷ 0x00 ∷ 0x86 ∷ 0x95 ∷ 0x20 ∷ 0x00 ∷ 0x00 ∷ 0x03 ∷ 0xE6 ∷ 0xC0 ∷ 0x00 ∷ 0x00 ∷ 0x00 ∷ [])

-- P1 with presented 03E7C000 instead: a tie, 10 chosen
abbrev pub ten_later : Record
ten_later = report_by 10 (seconds 999) 8910000 0x03E7C000

abbrev pub P4 : Type 0
P4 =
    (lateness_of opening reading ten_later ≡ lateness_of opening reading twenty)
    × (choice_of (holding ten_later twenty) reading ≡ target 10 (seconds 999) 8910000 (seconds 999 + 0xC0000000) 2)

-- the report of P2 with payload type 33
abbrev pub P5 : Type 0
P5 =
    report_bytes (report_item twenty)
    ≡ 0x80 ∷ 0xCF ∷ 0x00 ∷ 0x09 ∷ 0x00 ∷ 0x00 ∷ 0x00 ∷ 0x14 ∷ 0x0C ∷ 0x11 ∷ 0x00 ∷ 0x07
    ∷ 0x42 ∷ 0x00 ∷ 0x00 ∷ 0x00 ∷ 0x00 ∷ 0x00 ∷ 0x00 ∷ 0x2A ∷ 0x00 ∷ 0x00 ∷ 0x00 ∷ 0x07
    ∷ 0x00 ∷ 0x00 ∷ 0x03 ∷ 0xE6 ∷ 0x00 ∷ 0x00 ∷ 0x00 ∷ 0x00 ∷ 0x00 ∷ 0x86 ∷ 0x95 ∷ 0x20
    ∷ 0x03 ∷ 0xE6 ∷ 0xC0 ∷ 0x00 ∷ []

-- N = 1 s, received before the wrap: NTP age 2 s, delay 1.25 s, expanded behind the wrap
abbrev pub wrapped : Reading
wrapped = record { ntp = seconds 1; rtp = 9000000 }

abbrev pub before_wrap : ℕ → Record
before_wrap presented = report_by 10 0xFFFFFFFF00000000 9000000 presented

abbrev pub P6 : Type 0
P6 =
    (ntp_age wrapped.ntp 0xFFFFFFFF00000000 ≡ seconds 2)
    × (delay 0xFFFFFFFF00000000 0x00004000 ≡ seconds 1 + 2 ^ 30)
    × (expanded 0xFFFFFFFF00000000 0x00004000 ≡ 0x40000000)
    × (number_at wrapped (before_wrap 0x00004000) ≡ 0)

-- as P6 with presented 0: 17
abbrev pub P7 : Type 0
P7 = number_at wrapped (before_wrap 0) ≡ 17

-- P1 with another received time
abbrev pub received_at : ℕ → Record
received_at received = report_by 10 received 8910000 0x03E78000

-- Received 970 s passes 15, one unit earlier is refused; received N passes, N plus one unit is refused. Passing means
-- passing that one check: the other fields are P1's, and P1 is presented half a second before N, so that at received N
-- its delay is 2^16 s less half a second. The table then answers 17, as it does only where 15 does not apply.
abbrev pub P8 : Type 0
P8 =
    (is_far reading.ntp (seconds 970) ≡ false)
    × (number_at reading (received_at (seconds 970)) ≡ 0)
    × (number_at reading (received_at (seconds 970 - 1)) ≡ 15)
    × (is_far reading.ntp reading.ntp ≡ false)
    × (number_at reading (received_at reading.ntp) ≡ 17)
    × (number_at reading (received_at (reading.ntp + 1)) ≡ 15)

-- P1 with another RTP time
abbrev pub rtp_at : ℕ → Record
rtp_at rtp = report_by 10 (seconds 999) rtp 0x03E78000

-- RTP 3,600,000 passes 16; 3,599,999 and 9,000,001 are refused
abbrev pub P9 : Type 0
P9 =
    (is_aged opening.rate reading.rtp 3600000 ≡ false)
    × (number_at reading (rtp_at 3600000) ≡ 0)
    × (number_at reading (rtp_at 3599999) ≡ 16)
    × (number_at reading (rtp_at 9000001) ≡ 16)

-- P1 with another presented time
abbrev pub presented_at : ℕ → Record
presented_at presented = report_by 10 (seconds 999) 8910000 presented

-- received 999 s: presented 04050000 (30 s) passes, 04050001 gives 17
abbrev pub P10 : Type 0
P10 =
    (is_badly_presented (seconds 999) 0x04050000 ≡ false)
    × (number_at reading (presented_at 0x04050000) ≡ 0)
    × (number_at reading (presented_at 0x04050001) ≡ 17)

-- document 02, E3: received 999 s, presented 03E70000: accepted with delay 1
abbrev pub wired : Record
wired = presented_at 0x03E70000

abbrev pub E3Wired : Type 0
E3Wired =
    (delay (seconds 999) 0x03E70000 ≡ 1)
    × (expanded (seconds 999) 0x03E70000 ≡ seconds 999 + 1)
    × (number_at reading wired ≡ 0)

-- The choice reads it: lateness 90,000, one unit of 2^-32 s. P2 held beside it: 20 chosen, 2 counted. Alone: presented
-- received plus one unit.
abbrev pub E3Chosen : Type 0
E3Chosen =
    (lateness_of opening reading wired ≡ pos 90000)
    × (choice_of (holding wired twenty) reading ≡ target 20 (seconds 998) 8820000 (seconds 998 + 0xC0000000) 2)
    × (choice_of (table_from (opened opening).table (Call.report wired reading ∷ [])) reading
    ≡ target 10 (seconds 999) 8910000 (seconds 999 + 1) 1)

-- document 02, E3: received FFFFFFFF FFFFFFFF, presented FFFFFFFF, with P6's reading and RTP time: expanded 0, so 17,
-- with a delay of 1
abbrev pub E3AllOnes : Type 0
E3AllOnes =
    (delay 0xFFFFFFFFFFFFFFFF 0xFFFFFFFF ≡ 1)
    × (expanded 0xFFFFFFFFFFFFFFFF 0xFFFFFFFF ≡ 0)
    × (number_at wrapped (report_by 10 0xFFFFFFFFFFFFFFFF 9000000 0xFFFFFFFF) ≡ 17)

-- P1's report from another port, of any group
abbrev pub twin_of : ℕ → Record
twin_of group = report_from group 6000 10 (seconds 999) 8910000 0x03E78000

abbrev pub twin_calls : List Call
twin_calls =
    Call.report ten reading
    ∷ Call.report (twin_of 42) reading
    ∷ Call.farewell 10 (origin_at 6000)
    ∷ Call.report (twin_of 43) reading
    ∷ Call.report ten reading
    ∷ []

-- the table that these calls leave
abbrev pub tallied : Table
tallied = table_from (opened opening).table twin_calls

-- a place that shows a report and a tally
abbrev pub place_with : Record → ℕ → Place
place_with x tally = record { held = 1; member = record { «record» = x; tally = tally } }

-- document 02, E5: behind P1's report, that of its twin and its farewell are refused with 14, and one of another group
-- with 13; a tally of 2, also behind P1's own next report
abbrev pub E5Tallied : Type 0
E5Tallied =
    (answers_from (opened opening).table twin_calls ≡ 0 ∷ 14 ∷ 14 ∷ 13 ∷ 0 ∷ [])
    × (place_at tallied 0 ≡ place_with ten 2)

-- 30 s later, when P1's report is not fresh, and a report of then
abbrev pub later : Reading
later = record { ntp = seconds 1030; rtp = 11700000 }

abbrev pub report_later : ℕ → Record
report_later source = report_by source (seconds 1029) 11610000 0x04058000

-- the member leaves by its farewell and comes back to its place; it leaves by a sweep and comes back to another place
abbrev pub farewell_calls : List Call
farewell_calls = Call.farewell 10 ten.origin ∷ Call.report ten reading ∷ []

abbrev pub sweep_calls : List Call
sweep_calls = Call.sweep later ∷ Call.report (report_later 20) later ∷ Call.report (report_later 10) later ∷ []

-- document 02, E5: the tally goes when the member goes, and whoever joins anew starts at 0
abbrev pub E5Rejoined : Type 0
E5Rejoined =
    (answers_from tallied farewell_calls ≡ 0 ∷ 0 ∷ [])
    × (place_at (table_from tallied farewell_calls) 0 ≡ place_with ten 0)
    × (answers_from tallied sweep_calls ≡ 0 ∷ 0 ∷ 0 ∷ [])
    × (place_at (table_from tallied sweep_calls) 0 ≡ place_with (report_later 20) 0)
    × (place_at (table_from tallied sweep_calls) 1 ≡ place_with (report_later 10) 0)

-- a table value with P1's report at the first place and this tally
abbrev pub ten_tallied : ℕ → Table
ten_tallied tally =
    with_member (table_from (opened opening).table (Call.report ten reading ∷ [])) 0
    (record { «record» = ten; tally = tally })

-- what its first place shows after a call
abbrev pub first_after : ℕ → Call → Place
first_after tally call = place_at (answered (ten_tallied tally) call).table 0

-- document 02, E5: the tally stops at 4,294,967,295, by report and by farewell
abbrev pub E5Limit : Type 0
E5Limit =
    (first_after 4294967294 (Call.report (twin_of 42) reading) ≡ place_with ten 4294967295)
    × (first_after 4294967295 (Call.report (twin_of 42) reading) ≡ place_with ten 4294967295)
    × (first_after 4294967294 (Call.farewell 10 (origin_at 6000)) ≡ place_with ten 4294967295)
    × (first_after 4294967295 (Call.farewell 10 (origin_at 6000)) ≡ place_with ten 4294967295)

-- P1, its twin, P2 and the twin again, in one burst into a new table, with a list of numbers 99
abbrev pub burst_reports : List Record
burst_reports = ten ∷ twin_of 42 ∷ twenty ∷ twin_of 42 ∷ []

abbrev pub burst_with : List Record → ℕ → Answered
burst_with reports length = burst_answered (opened opening).table reports reading (replicate length 99)

-- document 02, E6: two twins in one burst, of which the first holds the number; neither refusal stops the rest, and the
-- number behind the reports stays. A list of three numbers gets 24, and 65 reports with that list 23
abbrev pub E6Twins : Type 0
E6Twins =
    (burst_answers_after (opened opening).table burst_reports reading (replicate 5 99)
    ≡ 0 ∷ 14 ∷ 0 ∷ 14 ∷ 99 ∷ [])
    × ((burst_with burst_reports 5).number ≡ 0)
    × (place_at (burst_with burst_reports 5).table 0 ≡ place_with ten 2)
    × (place_at (burst_with burst_reports 5).table 1 ≡ place_with twenty 0)
    × (burst_with burst_reports 3 ≡ record { number = 24; table = (opened opening).table })
    × (burst_with (replicate 65 ten) 3 ≡ record { number = 23; table = (opened opening).table })

-- document 02, E7: P1 and P2 as two datagrams, each an RR of 8 bytes and the XR, from two addresses
abbrev pub example_recording : List ℕ
example_recording =
    0x00 ∷ 0x00 ∷ 0x00 ∷ 0x02 ∷ 0x00 ∷ 0x00 ∷ 0x00 ∷ 0x2A ∷ 0x00 ∷ 0x00 ∷ 0x00 ∷ 0x07 ∷ 0x00 ∷ 0x01 ∷ 0x5F ∷ 0x90
    ∷ 0x00 ∷ 0x00 ∷ 0x03 ∷ 0xE8 ∷ 0x00 ∷ 0x00 ∷ 0x00 ∷ 0x00 ∷ 0x00 ∷ 0x89 ∷ 0x54 ∷ 0x40 ∷ 0x00 ∷ 0x00 ∷ 0x00 ∷ 0x00
    ∷ 0x00 ∷ 0x00 ∷ 0x00 ∷ 0x00 ∷ 0x00 ∷ 0x00 ∷ 0xFF ∷ 0xFF ∷ 0xC0 ∷ 0x00 ∷ 0x02 ∷ 0x0A ∷ 0x13 ∷ 0x8D ∷ 0x00 ∷ 0x30
    ∷ 0x00 ∷ 0x00 ∷ 0x03 ∷ 0xE8 ∷ 0x00 ∷ 0x00 ∷ 0x00 ∷ 0x00 ∷ 0x00 ∷ 0x89 ∷ 0x54 ∷ 0x40 ∷ 0x00 ∷ 0x00 ∷ 0x00 ∷ 0x00
    ∷ 0x00 ∷ 0x00 ∷ 0x00 ∷ 0x00 ∷ 0x00 ∷ 0x00 ∷ 0xFF ∷ 0xFF ∷ 0xC0 ∷ 0x00 ∷ 0x02 ∷ 0x14 ∷ 0x13 ∷ 0x8D ∷ 0x00 ∷ 0x30
    ∷ 0x80 ∷ 0xC9 ∷ 0x00 ∷ 0x01 ∷ 0x00 ∷ 0x00 ∷ 0x00 ∷ 0x0A ∷ 0x80 ∷ 0xCF ∷ 0x00 ∷ 0x09 ∷ 0x00 ∷ 0x00 ∷ 0x00 ∷ 0x0A
    ∷ 0x0C ∷ 0x11 ∷ 0x00 ∷ 0x07 ∷ 0x42 ∷ 0x00 ∷ 0x00 ∷ 0x00 ∷ 0x00 ∷ 0x00 ∷ 0x00 ∷ 0x2A ∷ 0x00 ∷ 0x00 ∷ 0x00 ∷ 0x07
    ∷ 0x00 ∷ 0x00 ∷ 0x03 ∷ 0xE7 ∷ 0x00 ∷ 0x00 ∷ 0x00 ∷ 0x00 ∷ 0x00 ∷ 0x87 ∷ 0xF4 ∷ 0xB0 ∷ 0x03 ∷ 0xE7 ∷ 0x80 ∷ 0x00
    ∷ 0x80 ∷ 0xC9 ∷ 0x00 ∷ 0x01 ∷ 0x00 ∷ 0x00 ∷ 0x00 ∷ 0x14 ∷ 0x80 ∷ 0xCF ∷ 0x00 ∷ 0x09 ∷ 0x00 ∷ 0x00 ∷ 0x00 ∷ 0x14
    ∷ 0x0C ∷ 0x11 ∷ 0x00 ∷ 0x07 ∷ 0x42 ∷ 0x00 ∷ 0x00 ∷ 0x00 ∷ 0x00 ∷ 0x00 ∷ 0x00 ∷ 0x2A ∷ 0x00 ∷ 0x00 ∷ 0x00 ∷ 0x07
    ∷ 0x00 ∷ 0x00 ∷ 0x03 ∷ 0xE6 ∷ 0x00 ∷ 0x00 ∷ 0x00 ∷ 0x00 ∷ 0x00 ∷ 0x86 ∷ 0x95 ∷ 0x20 ∷ 0x03 ∷ 0xE6 ∷ 0xC0 ∷ 0x00 ∷ []

-- the example's lines as numbers, with a number behind the rows that stays; without its last byte 25; 10 for five
-- numbers
abbrev pub E7Example : Type 0
E7Example =
    (replayed example_recording (replicate 7 99)
    ≡ Ok (record { entries = 2; choice = target 20 (seconds 998) 8820000 (seconds 998 + 0xC0000000) 2 }))
    × (replayed_rows example_recording (replicate 7 99) ≡ 1 ∷ 1 ∷ 0 ∷ 1 ∷ 1 ∷ 0 ∷ 99 ∷ [])
    × IsRefused (replayed (take 175 example_recording) (replicate 7 99)) RefusalNumber.BadLayout 25
    × IsRefused (replayed example_recording (replicate 5 99)) RefusalNumber.ShortBuffer 10

-- document 02, E8: the reports of P1 and P2 in either order are accepted; their places differ, and all else agrees
abbrev pub E8EitherOrder : Type 0
E8EitherOrder =
    (answers_from (opened opening).table (in_turn ten twenty) ≡ 0 ∷ 0 ∷ [])
    × (place_at (holding ten twenty) 0 ≡ place_with ten 0)
    × (place_at (holding ten twenty) 1 ≡ place_with twenty 0)
    × (answers_from (opened opening).table (in_turn twenty ten) ≡ 0 ∷ 0 ∷ [])
    × (place_at (holding twenty ten) 0 ≡ place_with twenty 0)
    × (place_at (holding twenty ten) 1 ≡ place_with ten 0)
    × AlikeButPlaces (holding ten twenty) (holding twenty ten)

-- P4's tie in the other order: 10 is chosen at the second place too
abbrev pub E8Tie : Type 0
E8Tie =
    (place_at (holding twenty ten_later) 1 ≡ place_with ten_later 0)
    × (choice_of (holding twenty ten_later) reading ≡ target 10 (seconds 999) 8910000 (seconds 999 + 0xC0000000) 2)

-- each report with its own reading: P1's, and one of 30 s later. With the readings exchanged, both get 15.
abbrev pub E8OwnReadings : Type 0
E8OwnReadings =
    (answers_from (opened opening).table (Call.report ten reading ∷ Call.report (report_later 20) later ∷ [])
    ≡ 0 ∷ 0 ∷ [])
    × (answers_from (opened opening).table (Call.report (report_later 20) later ∷ Call.report ten reading ∷ [])
    ≡ 0 ∷ 0 ∷ [])
    × (answers_from (opened opening).table (Call.report (report_later 20) reading ∷ Call.report ten later ∷ [])
    ≡ 15 ∷ 15 ∷ [])

-- the reports of so many other units, of P1's times
unfoldable pub unit_calls : ℕ → List Call
unit_calls zero = []
unit_calls (suc n) = Call.report (report_by (101 + n) (seconds 999) 8910000 0x03E78000) reading ∷ unit_calls n

-- a table with 63 members: one place is left
abbrev pub one_place_left : Table
one_place_left = table_from (opened opening).table (unit_calls 63)

-- that both are accepted is needed: behind 63 members the second of two new ones gets 18, and the tables differ in more
-- than places
abbrev pub E8OnePlaceLeft : Type 0
E8OnePlaceLeft =
    (answers_from one_place_left (in_turn ten twenty) ≡ 0 ∷ 18 ∷ [])
    × (answers_from one_place_left (in_turn twenty ten) ≡ 0 ∷ 18 ∷ [])
    × (AlikeButPlaces (table_from one_place_left (in_turn ten twenty))
    (table_from one_place_left (in_turn twenty ten)) → ⊥)

-- and so are different source numbers: of two reports of one unit the last stands
abbrev pub E8OneNumber : Type 0
E8OneNumber =
    (answers_from (opened opening).table (in_turn ten ten_later) ≡ 0 ∷ 0 ∷ [])
    × (answers_from (opened opening).table (in_turn ten_later ten) ≡ 0 ∷ 0 ∷ [])
    × (AlikeButPlaces (holding ten ten_later) (holding ten_later ten) → ⊥)

-- another maker's settings packet, of a group and media source 7
abbrev pub packet_of : (group received rtp presented : ℕ) → Settings
packet_of group received rtp presented =
    record { sender = 9; media = 7; group = group; received = received; rtp = rtp; presented = presented }

-- P3's times, presented so many units of 2^-32 s after 998 s
abbrev pub packet_at : ℕ → Settings
packet_at units = packet_of 42 (seconds 998) 8820000 (seconds 998 + units)

-- the verdict where P1 and P2 are held
abbrev pub verdict_with : Settings → (slack : ℕ) → Result Bool RefusalNumber
verdict_with s slack = verdict_on (holding ten twenty) s reading slack

-- document 02, E9: our own choice passes with slack 0, and P1's own times do not, which suit the least late member
-- alone
abbrev pub E9Own : Type 0
E9Own =
    (verdict_with (packet_at 0xC0000000) 0 ≡ Ok true)
    × (verdict_with (packet_of 42 (seconds 999) 8910000 (seconds 999 + 0x80000000)) 0 ≡ Ok false)

-- one unit earlier is no, and one later without slack; a slack of 1 is 2^16 units, and the greatest 30 s
abbrev pub E9Limits : Type 0
E9Limits =
    (verdict_with (packet_at 0xBFFFFFFF) 0 ≡ Ok false)
    × (verdict_with (packet_at 0xC0000001) 0 ≡ Ok false)
    × (verdict_with (packet_at (0xC0000000 + 2 ^ 16)) 1 ≡ Ok true)
    × (verdict_with (packet_at (0xC0000000 + 2 ^ 16 + 1)) 1 ≡ Ok false)
    × (verdict_with (packet_at (30 * 2 ^ 32)) 1966080 ≡ Ok true)

-- each refusal, with the checks behind it failing too: 11, 20, 13, 15, 16 and 17
abbrev pub E9Refusals : Type 0
E9Refusals =
    IsRefused (verdict_on (opened opening).table (packet_of 43 0 0 0) reading 1966081) RefusalNumber.OutOfRange 11
    × IsRefused (verdict_on (opened opening).table (packet_of 43 0 0 0) reading 1966080) RefusalNumber.NoneCounted 20
    × IsRefused (verdict_with (packet_of 43 0 0 0) 0) RefusalNumber.OtherStream 13
    × IsRefused (verdict_with (packet_of 42 0 0 0) 0) RefusalNumber.ReceivedFar 15
    × IsRefused (verdict_with (packet_of 42 (seconds 998) 0 0) 0) RefusalNumber.RtpAged 16
    × IsRefused (verdict_with (packet_of 42 (seconds 998) 8820000 0) 0) RefusalNumber.BadlyPresented 17
    × IsRefused (verdict_with (packet_at 0) 0) RefusalNumber.BadlyPresented 17
    × IsRefused (verdict_with (packet_at (30 * 2 ^ 32 + 1)) 0) RefusalNumber.BadlyPresented 17

-- all of them
unfoldable pub papers : List (Type 0)
papers =
    P1 ∷ P2 ∷ P3 ∷ P4 ∷ P5 ∷ P6 ∷ P7 ∷ P8 ∷ P9 ∷ P10 ∷ E3Wired ∷ E3Chosen ∷ E3AllOnes
    ∷ E5Tallied ∷ E5Rejoined ∷ E5Limit ∷ E6Twins ∷ E7Example
    ∷ E8EitherOrder ∷ E8Tie ∷ E8OwnReadings ∷ E8OnePlaceLeft ∷ E8OneNumber
    ∷ E9Own ∷ E9Limits ∷ E9Refusals ∷ []

-- every statement of a list is true
unfoldable pub AllHold : List (Type 0) → Type 0
AllHold [] = Unit
AllHold (statement ∷ statements) = statement × AllHold statements
