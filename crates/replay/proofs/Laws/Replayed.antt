-- What each return of a replay answers, from the tests that led there.
use Prim.Native.Nat.{ℕ, ◌*◌, ◌≤◌, ◌<◌}
use Rattle.std.specs.Prelude.{Result, Ok, Err}
use Rattle.register.specs.declared.Target.{Target}
use Rattle.refusals.specs.declared.RefusalNumber.{RefusalNumber}
use mathlib.Core.Path.{◌≡◌, refl, sym, ap, ◌∙◌}
use mathlib.Core.Bool.{Bool, true, false}
use mathlib.Core.List.{List, [], ◌++◌}
use lib.ListN.{length, drop, replicate}
use native.Mathlib.Omega.{arith}
use borrow.Author.Tests.{lt-ltb, le-ltb}
use Rattle.refusals.specs.Refusals.{bad_opening}
use Rattle.packet.specs.Bytes.{be32}
use Rattle.register.specs.declared.Opening.{Opening}
use Rattle.register.specs.Register.{is_refused_opening}
use Rattle.table.specs.declared.Table.{Table}
use Rattle.table.specs.declared.Answered.{Answered}
use Rattle.table.specs.Members.{empty_table, sources_of}
use Rattle.table.specs.Calls.{opened}
use Rattle.replay.specs.declared.Replayed.{Replayed}
use Rattle.replay.specs.Recording.{RecordedDatagram, entry_count, opening_in, entries_in, is_bad_layout}
use Rattle.replay.specs.Replay.{entry_row_length, entry_rows, choice_at_end, replayed, replayed_rows}
use Rattle.replay.proofs.Laws.Layout.{entries_in_lem, entries_none}

-- ---- opening

pub opened_sources : (o : Opening) → sources_of (opened o).table.members ≡ replicate 64 0
unfolding opened empty_table
opened_sources o = go (is_refused_opening o) refl
  where
    go : (b : Bool) → is_refused_opening o ≡ b → sources_of (opened o).table.members ≡ replicate 64 0
    go true b = rw b refl
    go false b = rw b refl

refused_with : (o : Opening) → ((opened o).number ≡ 0 → ⊥) → is_refused_opening o ≡ true
unfolding opened
refused_with o h = go (is_refused_opening o) refl
  where
    go : (b : Bool) → is_refused_opening o ≡ b → is_refused_opening o ≡ true
    go true b = b
    go false b = absurd (h (rw b refl))

taken_with : (o : Opening) → (opened o).number ≡ 0 → is_refused_opening o ≡ false
unfolding opened
taken_with o e = go (is_refused_opening o) refl
  where
    go : (b : Bool) → is_refused_opening o ≡ b → is_refused_opening o ≡ false
    go false b = b
    go true b =
        let z : bad_opening ≡ 0 = rw b at e in
        absurd (omega (arith, z))

-- opening is asked for what the head says
pub opening-read :
    (f : List ℕ) {group media rate : ℕ} → group ≡ be32 f 4 → media ≡ be32 f 8 → rate ≡ be32 f 12
    → opened (record { group = group; media = media; rate = rate }) ≡ opened (opening_in f)
opening-read f e g h = rw (e, g, h) refl

-- ---- a replay

module _ (f lent : List ℕ) where
  -- an answer and the rows afterwards are what the definitions say
  abbrev Answers : Result Replayed RefusalNumber → List ℕ → Type 0
  Answers r after = (r ≡ replayed f lent) × (after ≡ replayed_rows f lent)

  pub replayed_layout : is_bad_layout f ≡ true → Answers (Err RefusalNumber.BadLayout) lent
  unfolding replayed replayed_rows
  replayed_layout e = rw e (refl, refl)

  module _ (good : is_bad_layout f ≡ false) (a : Answered) (opens : a ≡ opened (opening_in f)) where
    number : a.number ≡ (opened (opening_in f)).number
    number = ap (λ (b : Answered). b.number) opens

    pub replayed-opening : (a.number ≡ 0 → ⊥) → Answers (Err RefusalNumber.BadOpening) lent
    unfolding replayed replayed_rows
    replayed-opening h =
        let bad : is_refused_opening (opening_in f) ≡ true = refused_with (opening_in f) (λ z. h (number ∙ z)) in
        rw (good, bad) (refl, refl)

    module _ (accepted : a.number ≡ 0) (n : ℕ) (count : n ≡ entry_count f) where
      taken : is_refused_opening (opening_in f) ≡ false
      taken = taken_with (opening_in f) (sym number ∙ accepted)

      pub replayed-short :
          length lent < entry_row_length * n → Answers (Err RefusalNumber.ShortBuffer) lent
      unfolding replayed replayed_rows
      replayed-short h =
          let less : length lent < entry_row_length * entry_count f = omega (arith, h, count) in
          rw (good, taken, lt-ltb (length lent) (entry_row_length * entry_count f) less) (refl, refl)

      module _ (room : entry_row_length * n ≤ length lent) where
        enough : entry_row_length * entry_count f ≤ length lent
        enough = omega (arith, room, count)

        pub replayed_entries :
            (c : Result Target RefusalNumber) (after : List ℕ) → c ≡ choice_at_end a.table (entries_in f)
            → after ≡ entry_rows a.table (entries_in f) ++ drop (entry_row_length * n) lent
            → Answers (Ok (record { entries = n; choice = c })) after
        unfolding replayed replayed_rows
        replayed_entries c after e g =
            let table : a.table ≡ (opened (opening_in f)).table = ap (λ (b : Answered). b.table) opens in
            let choice : c ≡ choice_at_end (opened (opening_in f)).table (entries_in f) =
            e ∙ ap (λ (t : Table). choice_at_end t (entries_in f)) table in
            let rows : after
            ≡ entry_rows (opened (opening_in f)).table (entries_in f) ++ drop (entry_row_length * entry_count f) lent =
            g
            ∙ ap (λ (t : Table). entry_rows t (entries_in f) ++ drop (entry_row_length * n) lent) table
            ∙ ap
            (λ (k : ℕ). entry_rows (opened (opening_in f)).table (entries_in f) ++ drop
            (entry_row_length * k) lent) count in
            rw (good, taken, le-ltb (length lent) (entry_row_length * entry_count f) enough)
            (cc, rows)

        pub replayed-none : n ≡ 0 → Answers (Ok (record { entries = 0; choice = Err RefusalNumber.NoneCounted })) lent
        unfolding entry_rows
        replayed-none z =
            let none : entries_in f ≡ [] =
            sym (entries_in_lem f n count) ∙ entries_none f n _ _ (omega (arith, z)) in
            let behind : entry_row_length * n ≡ 0 = omega (arith, z) in
            let all : _ =
            replayed_entries (Err RefusalNumber.NoneCounted) lent
            (sym (ap (choice_at_end a.table) none))
            (sym (ap (λ (k : ℕ). entry_rows a.table (entries_in f) ++ drop k lent) behind
            ∙ ap (λ (es : List RecordedDatagram). entry_rows a.table es ++ lent) none)) in
            rw (sym z) all
