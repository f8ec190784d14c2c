-- A refusal changes nothing, and else every entry is run: one law for each return.
use mathlib.Core.Path.{sym, ap, ◌∙◌}
use Rattle.table.specs.declared.Answered.{Answered}
use Rattle.table.specs.Members.{sources_of}
use Rattle.replay.proofs.Laws.Left.{positive}
use Rattle.replay.proofs.Laws.Replayed.{opened_sources, replayed_layout, replayed-opening, replayed-short}
use Rattle.replay.proofs.Laws.Replayed.{replayed-none, replayed_entries, opening-read}
use Rattle.replay.proofs.replay.Goals as goal

pub returns-then-is_bad_layout : goal.returns-then-is_bad_layout
returns-then-is_bad_layout c =
    let all : _ =
    replayed_layout c.args.f.now c.args.rows.now (sym c.is_bad_layout.ensures ∙ c.if-is_bad_layout.true) in
    record { value = all.0; rows_after = all.1 }

pub returns-then-opened-ne0 : goal.returns-then-opened-ne0
returns-then-opened-ne0 c =
    let all : _ =
    replayed-opening c.args.f.now c.args.rows.now (sym c.is_bad_layout.ensures ∙ c.if-is_bad_layout.false) _
    (c.open-opened.ensures
    ∙ opening-read _ c.read32.ensures c.read32-2.ensures
    c.read32-3.ensures)
    c.if-opened-ne0.true in
    record { value = all.0; rows_after = all.1 }

pub returns-then-rows-n : goal.returns-then-rows-n
returns-then-rows-n c =
    let all : _ =
    replayed-short c.args.f.now c.args.rows.now (sym c.is_bad_layout.ensures ∙ c.if-is_bad_layout.false) _
    (c.open-opened.ensures
    ∙ opening-read _ c.read32.ensures c.read32-2.ensures
    c.read32-3.ensures)
    c.if-opened-ne0.false _ c.read32-n.ensures c.if-rows-n.true in
    record { value = all.0; rows_after = all.1 }

pub returns-then-n-eq0 : goal.returns-then-n-eq0
returns-then-n-eq0 c =
    let all : _ =
    replayed-none c.args.f.now c.args.rows.now (sym c.is_bad_layout.ensures ∙ c.if-is_bad_layout.false) _
    (c.open-opened.ensures
    ∙ opening-read _ c.read32.ensures c.read32-2.ensures
    c.read32-3.ensures)
    c.if-opened-ne0.false _ c.read32-n.ensures
    c.if-rows-n.false c.if-n-eq0.true in
    record { value = all.0; rows_after = all.1 }

pub run_entries-requires : goal.run_entries-requires
run_entries-requires c =
    let opens : _ =
    c.open-opened.ensures
    ∙ opening-read _ c.read32.ensures c.read32-2.ensures
    c.read32-3.ensures in (
      ap (λ (a : Answered). sources_of a.table.members) opens ∙ opened_sources _,
      sym c.is_bad_layout.ensures ∙ c.if-is_bad_layout.false,
      c.read32-n.ensures,
      positive _ c.if-n-eq0.false,
      c.if-rows-n.false,
    )

pub returns : goal.returns
returns c =
    let all : _ =
    replayed_entries c.args.f.now c.args.rows.now (sym c.is_bad_layout.ensures ∙ c.if-is_bad_layout.false) _
    (c.open-opened.ensures
    ∙ opening-read _ c.read32.ensures c.read32-2.ensures
    c.read32-3.ensures)
    c.if-opened-ne0.false _
    c.read32-n.ensures
    c.if-rows-n.false _ _ c.run_entries.ensures.0 c.run_entries.ensures.1 in
    record { value = all.0; rows_after = all.1 }
