-- Every row of the register stands on an accepted report, and so on one that passed its checks.
use Prim.Native.Nat.{ℕ, ◌^◌, ◌<◌}
use mathlib.Core.Bool.{false, ◌&&◌}
use mathlib.Core.List.{List, [], ◌∷◌, ◌++◌, append-nil, Memᴰ}
use mathlib.Core.Path.{◌≡◌, refl, sym}
use Rattle.times.specs.Times.{is_badly_presented}
use Rattle.register.specs.declared.Record.{Record}
use Rattle.register.specs.declared.Member.{Member}
use Rattle.register.specs.declared.Reading.{Reading}
use Rattle.register.specs.declared.Opening.{Opening}
use Rattle.register.specs.Register.{Rows, Call, presents, answers, after_all}
use Rattle.register.specs.Tallies.{Members, records_of, tally_in, members_after_all}
use Rattle.register.specs.Promise.{InRange, AllInRange}
use Rattle.register.specs.Letter.{got, History, history, made_in, Stands, lines_of, NoneOf, MeansBehind, Means}
pub use Rattle.register.proofs.Room.{accepted_room}
use Rattle.register.proofs.Tallies.{rows_after-all, kept_none, kept_after_all}
use Rattle.register.proofs.Letter.Lines.{untold}
use Rattle.register.proofs.Letter.Tests.{own_stream, tells_badly_presented}
use Rattle.register.proofs.Letter.Theorem.{IsMember, made_of, letter}

-- ---- every row stands on an accepted report

-- what a row keeps of having been accepted: the register's group and media source, a received time of 64 bits, and a
-- presented time that check 17 let pass
pub record SoundRow (o : Opening) (row : Record) : Type 0 where
  pub group : row.report.group ≡ o.group
  pub media : row.report.media ≡ o.media
  pub range : row.report.received < 2 ^ 64
  pub presented : (presents row && is_badly_presented row.report.received row.report.presented) ≡ false

abbrev pub Sound : Opening → Rows → Type 0
Sound o rows = (row : Record) → Memᴰ row rows → SoundRow o row

range_in :
    (h before : History) (call : Call) (number : ℕ) (behind : History) → AllInRange (made_in h) →
    h ≡ before ++ (got call number ∷ behind) → InRange call
unfolding made_in AllInRange
range_in h [] call number behind ranges e =
    let those : AllInRange (made_in (got call number ∷ behind)) = rw e at ranges in
    those.0
range_in h (got first n ∷ before) call number behind ranges e =
    let those : AllInRange (made_in (got first n ∷ (before ++ (got call number ∷ behind)))) = rw e at ranges in
    range_in (before ++ (got call number ∷ behind)) before call number behind those.1 refl

accepted_sound :
    (o : Opening) (h : History) (x : Record) (at : Reading) → Means (lines_of o h (Call.report x at)) 0 →
    x.report.received < 2 ^ 64 → SoundRow o x
unfolding lines_of NoneOf MeansBehind
accepted_sound o h x at means range =
    let none : _ = means.1.1.1.1.1.1.0 refl in
    let own : _ = own_stream o x none.0 in
    record {
      group = own.0;
      media = own.1;
      range = range;
      presented = untold _ (tells_badly_presented x) none.1.1.1.1.0;
    }

pub sound_rows : (o : Opening) (calls : List Call) → AllInRange calls → Sound o (after_all o [] calls)
unfolding records_of
sound_rows o calls ranges row member =
    let h : History = history calls (answers o [] calls) in
    let made : made_in h ≡ calls = made_of o [] calls in
    let ms : Members = members_after_all o [] calls in
    let m : Member = record { «record» = row; tally = tally_in ms row.source } in
    let there : Memᴰ row (records_of ms) = rw (rows_after-all o [] calls) member in
    let is : IsMember o h m = rw made ((kept_after_all o [] calls kept_none m).1 (there, refl)) in
    let s : Stands o h row = ((letter o calls).members h [] (sym (append-nil h)) row).0 (m.tally, is) in
    let means : _ = (letter o calls).refusals s.before (Call.report row s.at) 0 s.behind s.reported in
    accepted_sound o s.before row s.at means
    (range_in h s.before (Call.report row s.at) 0 s.behind (rw made ranges) s.reported)
