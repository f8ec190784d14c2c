-- The rows are enough for the entries that a replay answers: with fewer of them it answers 10.
use Rattle.std.proofs.Common.{ℕ, ◌*◌, ◌≤◌, ◌≡◌, Bool, true, false, List, length, ap, refl, sym, arith}
use Rattle.std.specs.Prelude.{Ok, Err, cond, ltb}
use borrow.Author.Tests.{ltb-false}
use Rattle.refusals.specs.declared.RefusalNumber.{RefusalNumber}
use Rattle.register.specs.Register.{is_refused_opening}
use Rattle.replay.specs.declared.Replayed.{Replayed}
use Rattle.replay.specs.Recording.{entry_count, opening_in, is_bad_layout}
use Rattle.replay.specs.Replay.{entry_row_length, replayed}
use Rattle.replay_recording.proofs.print_replay.Goals as goal

rows_enough :
    (f lent : List ℕ) (r : Replayed) → replayed f lent ≡ Ok r → entry_row_length * r.entries ≤ length lent
unfolding replayed
rows_enough f lent r e =
    let few : Bool = ltb (length lent) (entry_row_length * entry_count f) in
    go (is_bad_layout f) (is_refused_opening (opening_in f)) few refl _ refl e
  where
    go :
        (bad refused few : Bool) → ltb (length lent) (entry_row_length * entry_count f) ≡ few
        → (x : Replayed) → x.entries ≡ entry_count f
        → cond bad (Err RefusalNumber.BadLayout)
        (cond refused (Err RefusalNumber.BadOpening) (cond few (Err RefusalNumber.ShortBuffer) (Ok x)))
        ≡ Ok r
        → entry_row_length * r.entries ≤ length lent
    go false false false enough x count e =
        let same : x ≡ r = cc in
        let entries : x.entries ≡ r.entries = ap (λ y. y.entries) same in
        omega (arith, ltb-false (length lent) (entry_row_length * entry_count f) enough)
    go true refused few _ x _ e = let z : ◌≡◌ {A = ℕ} 0 1 = cc in absurd (omega arith)
    go false true few _ x _ e = let z : ◌≡◌ {A = ℕ} 0 1 = cc in absurd (omega arith)
    go false false true _ x _ e = let z : ◌≡◌ {A = ℕ} 0 1 = cc in absurd (omega arith)

pub print_entries-requires : goal.print_entries-requires
print_entries-requires g c =
    let enough = rows_enough _ _ _ (sym c.in-Ok.ensures.value) in
    let all = c.as_flattened_mut.ensures.len in
    omega (arith, enough, all)
