-- The papers' cases hold, by computing the definitions; E8's tables in either order by its theorem.
use Prim.Native.Nat.{ℕ, ◌+◌}
use Rattle.std.specs.Prelude.{Result, Ok, Err}
use Rattle.refusals.specs.declared.RefusalNumber.{RefusalNumber}
use mathlib.Core.List.{[]}
use mathlib.Core.Path.{◌≡◌, refl, ap}
use native.Mathlib.Omega.{arith}
use lib.Count.{count_trailing_zeros}
use Rattle.times.specs.Times.{difference_mod, step, unwrapped, expanded, delay}
use Rattle.origin.specs.Origins.{same_bytes, same_origin}
use Rattle.places.specs.Places.{is_held, held_in, lowest_free, with_place, without_place}
use Rattle.register.specs.declared.Target.{Target}
use Rattle.register.specs.Register.{filter, any, report_checks, farewell_checks}
use Rattle.register.specs.Tallies.{records_of, members_after_all}
use Rattle.register.specs.Choosing.{lateness}
use Rattle.register.specs.SettingsCheck.{settings_checks, suits, verdict_by, verdict}
use Rattle.register.specs.Promise.{AllInRange}
use Rattle.register.specs.Letter.{BadOpening}
use Rattle.register.specs.ArrivalOrder.{AllAccepted}
use Rattle.choosing.specs.Marked.{marked_at, filter_word}
use Rattle.choosing.specs.Latest.{latest}
use Rattle.choosing.specs.Choose.{latest_target, choice_among}
use Rattle.table.specs.declared.Table.{Table}
use Rattle.table.specs.Members.{empty_table, place_at, place_of}
use Rattle.table.specs.Calls.{opened, number_of, filed, refused_by, answered}
use Rattle.table.specs.Choose.{choice_of}
use Rattle.table.specs.History.{answers_from, table_from}
use Rattle.table.specs.ArrivalOrder.{AlikeButPlaces}
use Rattle.table.specs.SettingsCheck.{verdict_on}
use Rattle.burst.specs.Burst.{report_calls, burst_checks, burst_answered, burst_answers_after}
use Rattle.packet.specs.Bytes.{be16, be32, be64}
use Rattle.packet_checks.specs.Header.{kind_of, first_is_bad}
use Rattle.packet.specs.Packet.{padding_is_bad, content, head_check}
use Rattle.packet.specs.Contents.{readable}
use Rattle.packet.specs.Report.{block_check, report_at, block_items}
use Rattle.datagram.specs.Walk.{walking, walk}
use Rattle.datagram.specs.Datagram.{packet_check, packet_items, datagram_check, datagram_items}
use Rattle.intake.specs.Datagrams.{calls_in}
use Rattle.replay.specs.Recording.{entries_from, bodies_end, entries_in, is_bad_layout}
use Rattle.replay.specs.Replay.{entry_calls, accepted_in, first_refusal, entry_row, calls_of_entries, entry_rows}
use Rattle.replay.specs.Replay.{last_reading, replayed, replayed_rows}
use Rattle.writer.specs.Messages.{report_is_unwritable}
use Rattle.cases.specs.Cases.{opening, seconds, reading, ten, twenty, in_turn, holding, unit_calls, papers, AllHold}
use Rattle.register.proofs.Rows.{clash}
use Rattle.register.proofs.Letter.Tests.{tells_bad_opening}
use Rattle.table.proofs.Agreement.Theorem.{reached}
use Rattle.table.proofs.ArrivalOrder.{every_two_reports}

-- ---- order of arrival

no_bad_opening : BadOpening opening → ⊥
no_bad_opening bad = clash ((tells_bad_opening opening).1 bad)

-- P1 and P2 in either order, from the table just opened
either_order :
    AllAccepted (answers_from (opened opening).table (in_turn ten twenty)) →
    AlikeButPlaces (holding ten twenty) (holding twenty ten)
unfolding table_from members_after_all AllInRange
either_order both =
    (every_two_reports opening [] (opened opening).table [] (reached opening [] no_bad_opening tt) ten twenty reading
    reading (λ same. omega (arith, same)) both).alike

-- a field of the target, or 0 where there is none
abbrev shown_by : (Target → ℕ) → Result Target RefusalNumber → ℕ
shown_by field (Ok x) = field x
shown_by field (Err number) = 0

-- two tables whose targets differ in a field differ in more than places
told_apart :
    (t u : Table) (field : Target → ℕ) →
    (shown_by field (choice_of t reading) ≡ shown_by field (choice_of u reading) → ⊥) → AlikeButPlaces t u → ⊥
unfolding table_from
told_apart t u field apart alike = apart (ap (shown_by field) ((alike []).choices reading))

ten-twenty : ◌≡◌ {A = ℕ} 10 20 → ⊥
ten-twenty same = omega (arith, same)

-- presented half a second after 999 s, and a quarter later
quarters : seconds 999 + 0xC0000000 ≡ seconds 999 + 0x80000000 → ⊥
quarters same = omega (arith, same)

-- ---- all of them

pub papers_hold : AllHold papers
unfolding AllHold papers difference_mod step unwrapped expanded delay same_bytes same_origin count_trailing_zeros
    is_held held_in lowest_free with_place without_place report_checks farewell_checks records_of lateness latest
    empty_table marked_at place_at place_of filter_word opened number_of filed refused_by answered latest_target
    choice_among choice_of answers_from table_from report_is_unwritable report_calls burst_checks burst_answered
    burst_answers_after be16 be32 be64 entries_from bodies_end entries_in is_bad_layout entry_calls accepted_in
    first_refusal entry_row calls_of_entries entry_rows last_reading replayed replayed_rows packet_check
    packet_items datagram_check datagram_items calls_in walking walk padding_is_bad content kind_of first_is_bad
    head_check readable block_check report_at block_items unit_calls AllAccepted filter any settings_checks suits
    verdict_by verdict verdict_on
papers_hold = (
  (refl, refl),
  (
    (refl, refl),
    (
      (refl, refl),
      (
        (refl, refl),
        (
          refl,
          (
            (refl, refl, refl, refl),
            (
              refl,
              (
                (refl, refl, refl, refl, refl, refl),
                (
                  (refl, refl, refl, refl),
                  (
                    (refl, refl, refl),
                    (
                      (refl, refl, refl),
                      (
                        (refl, refl, refl),
                        (
                          (refl, refl, refl),
                          (
                            (refl, refl),
                            (
                              (refl, refl, refl, refl, refl),
                              (
                                (refl, refl, refl, refl),
                                (
                                  (refl, refl, refl, refl, refl, refl),
                                  (
                                    (refl, refl, (refl, refl), (refl, refl)),
                                    (
                                      (refl, refl, refl, refl, refl, refl, either_order (refl, (refl, tt))),
                                      (
                                        (refl, refl),
                                        (
                                          (refl, refl, refl),
                                          (
                                            (refl, refl, told_apart _ _ (λ x. x.source) ten-twenty),
                                            (
                                              (refl, refl, told_apart _ _ (λ x. x.presented) quarters),
                                              (
                                                (refl, refl),
                                                (
                                                  (refl, refl, refl, refl, refl),
                                                  (
                                                    (
                                                      (refl, refl),
                                                      (refl, refl),
                                                      (refl, refl),
                                                      (refl, refl),
                                                      (refl, refl),
                                                      (refl, refl),
                                                      (refl, refl),
                                                      (refl, refl),
                                                    ),
                                                    tt,
                                                  ),
                                                ),
                                              ),
                                            ),
                                          ),
                                        ),
                                      ),
                                    ),
                                  ),
                                ),
                              ),
                            ),
                          ),
                        ),
                      ),
                    ),
                  ),
                ),
              ),
            ),
          ),
        ),
      ),
    ),
  ),
)
