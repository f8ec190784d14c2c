-- One item after the other, and one entry after the other: `Running` says what is left. The measure counts the entries
-- left, each as more than a datagram has items, and the items left.
use mathlib.Core.Path.{refl, ap, ◌∙◌}
use native.Mathlib.Omega.{arith}
use Rattle.table.specs.declared.Chosen.{Chosen}
use Rattle.replay.specs.Steps.{cursor_behind}
use Rattle.replay.proofs.Laws.Layout.{good_layout}
use Rattle.replay.proofs.Laws.Entries.{begins_few}
use Rattle.replay.proofs.Laws.Running.{listed_at_lem, not_last, bodies_whole, listed_inside}
use Rattle.replay.proofs.Laws.Running.{running_inside, running_start, some_left, report_within}
use Rattle.replay.proofs.Laws.Running.{running_report, running_farewell, running_settings}
use Rattle.replay.proofs.Laws.Running.{running_next, running_end}
use Rattle.replay.proofs.run_entries.Goals as goal

pub count_entry-first-requires : goal.count_entry-first-requires
count_entry-first-requires c =
    let f = c.args.f.now in
    listed_inside f _ 0 _ _ c.requires.3 (bodies_whole f _ (good_layout f c.requires.1) c.requires.2)
    (listed_at_lem f _ c.entry_place.ensures c.entry_place-2.ensures c.entry_at-entry.ensures)

pub loop-step-init : goal.loop-step-init
loop-step-init c =
    let f = c.args.f.now in
    let pre = c.requires in
    running_start f _ _ _ _ _ _ _ (good_layout f pre.1) pre.2 pre.0 pre.3 pre.4
    (listed_at_lem f _ c.entry_place.ensures c.entry_place-2.ensures
    c.entry_at-entry.ensures)
    (record {
      count = c.count_entry-first.result;
      counts = c.count_entry-first.ensures;
      left_is = c.unwrap_or-left.ensures;
      cursor_is = refl;
      row_is = c.first_row-row.ensures;
    })

pub next_of-step-requires : goal.next_of-step-requires
next_of-step-requires c = running_inside c.loop-step.invariant

pub overflow_sub-left : goal.overflow_sub-left
overflow_sub-left c = omega (arith, some_left c.loop-step.invariant _ _ _ c.next_of-step.ensures c.in-Some.is)

pub offset_bounds-sources-filing : goal.offset_bounds-sources-filing
offset_bounds-sources-filing c = record {
  fits = omega (
    arith,
    report_within c.loop-step.invariant _ _ _ c.next_of-step.ensures c.in-Some.is _ _ _ _ refl _
        c.place_among-found.ensures (c.answer_number-number.ensures ∙ c.report_number_at-checked.ensures)
        c.report_filing-filing.ensures,
  );
}

pub bounds-sources-filing : goal.bounds-sources-filing
bounds-sources-filing c = report_within c.loop-step.invariant _ _ _ c.next_of-step.ensures c.in-Some.is _ _ _ _ refl _
    c.place_among-found.ensures (c.answer_number-number.ensures ∙ c.report_number_at-checked.ensures)
    c.report_filing-filing.ensures

pub offset_bounds-table-filing : goal.offset_bounds-table-filing
offset_bounds-table-filing c = record {
  fits = omega (
    arith,
    report_within c.loop-step.invariant _ _ _ c.next_of-step.ensures c.in-Some.is _ _ _ _ refl _
        c.place_among-found.ensures (c.answer_number-number.ensures ∙ c.report_number_at-checked.ensures)
        c.report_filing-filing.ensures,
  );
}

pub bounds-table-filing : goal.bounds-table-filing
bounds-table-filing c = report_within c.loop-step.invariant _ _ _ c.next_of-step.ensures c.in-Some.is _ _ _ _ refl _
    c.place_among-found.ensures (c.answer_number-number.ensures ∙ c.report_number_at-checked.ensures)
    c.report_filing-filing.ensures

pub row_after-row-requires : goal.row_after-row-requires
row_after-row-requires c =
    omega (arith, c.loop-step.invariant.few, some_left c.loop-step.invariant _ _ _ c.next_of-step.ensures c.in-Some.is)

pub loop-step-smaller-in-Report : goal.loop-step-smaller-in-Report
loop-step-smaller-in-Report c =
    omega (arith, some_left c.loop-step.invariant _ _ _ c.next_of-step.ensures c.in-Some.is)

pub loop-step-preserved-in-Report : goal.loop-step-preserved-in-Report
loop-step-preserved-in-Report c =
    rw c.in-Some.is
    (running_report c.loop-step.invariant _ _ _ c.next_of-step.ensures
    c.in-Some.is _ _ _ _ refl _
    c.place_among-found.ensures (c.answer_number-number.ensures ∙ c.report_number_at-checked.ensures)
    c.report_filing-filing.ensures _ _ c.in-Report.is c.record_of-record.ensures
    c.row_after-row.ensures)

pub row_after-row-requires-in-Farewell : goal.row_after-row-requires-in-Farewell
row_after-row-requires-in-Farewell c =
    omega (arith, c.loop-step.invariant.few, some_left c.loop-step.invariant _ _ _ c.next_of-step.ensures c.in-Some.is)

pub loop-step-smaller-in-Farewell : goal.loop-step-smaller-in-Farewell
loop-step-smaller-in-Farewell c =
    omega (arith, some_left c.loop-step.invariant _ _ _ c.next_of-step.ensures c.in-Some.is)

pub loop-step-preserved-in-Farewell : goal.loop-step-preserved-in-Farewell
loop-step-preserved-in-Farewell c =
    rw c.in-Some.is
    (running_farewell c.loop-step.invariant _ _ _ c.next_of-step.ensures
    c.in-Some.is _ _ _ _ refl _
    c.place_among-found-in-Farewell.ensures
    (c.answer_number-number-in-Farewell.ensures ∙ c.farewell_number_at-checked.ensures)
    c.farewell_filing-filing.ensures _ c.in-Farewell.is c.row_after-row-in-Farewell.ensures)

pub loop-step-smaller-in-Settings : goal.loop-step-smaller-in-Settings
loop-step-smaller-in-Settings c =
    omega (arith, some_left c.loop-step.invariant _ _ _ c.next_of-step.ensures c.in-Some.is)

pub loop-step-preserved-in-Settings : goal.loop-step-preserved-in-Settings
loop-step-preserved-in-Settings c =
    rw c.in-Some.is
    (running_settings c.loop-step.invariant _ _ _ c.next_of-step.ensures c.in-Some.is _ c.in-Settings.is)

pub returns-then-i-n : goal.returns-then-i-n
returns-then-i-n c =
    let pre = c.requires in
    let ended : _ =
    running_end c.loop-step.invariant _ _ c.next_of-step.ensures c.in-None.is
    c.put_row.ensures c.if-i-n.true pre.2 pre.4 in
    (ap (λ (chosen : Chosen). chosen.choice) c.choose.ensures ∙ ended.0, ended.1)

pub entry_at-entry-requires-in-None : goal.entry_at-entry-requires-in-None
entry_at-entry-requires-in-None c =
    let pre = c.requires in
    let good : _ = good_layout _ pre.1 in
    let less : _ = not_last _ _ c.loop-step.invariant.inside c.if-i-n.false in (
      omega (arith, c.entry_place-in-None.ensures, good.contents, pre.2, less),
      (running_inside c.loop-step.invariant).1,
      good.short,
    )

pub count_entry-count-requires : goal.count_entry-count-requires
count_entry-count-requires c =
    let l = c.loop-step in
    listed_inside c.args.f.now _ _ _ _ (not_last _ _ l.invariant.inside c.if-i-n.false)
    l.invariant.bodies (listed_at_lem _ _ c.entry_place-in-None.ensures refl c.entry_at-entry-in-None.ensures)

pub loop-step-smaller : goal.loop-step-smaller
loop-step-smaller c =
    let l = c.loop-step in
    omega (arith, l.invariant.inside, c.unwrap_or-left-in-None.ensures, begins_few _ _ c.count_entry-count.ensures)

pub loop-step-preserved : goal.loop-step-preserved
loop-step-preserved c =
    running_next c.loop-step.invariant _ _ c.next_of-step.ensures c.in-None.is
    c.put_row.ensures _ _ _ _ (not_last _ _ c.loop-step.invariant.inside c.if-i-n.false)
    (listed_at_lem _ _ c.entry_place-in-None.ensures refl c.entry_at-entry-in-None.ensures)
    (record {
      count = c.count_entry-count.result;
      counts = c.count_entry-count.ensures;
      left_is = c.unwrap_or-left-in-None.ensures;
      cursor_is = ap cursor_behind c.in-None.is;
      row_is = c.first_row-row-in-None.ensures;
    })
