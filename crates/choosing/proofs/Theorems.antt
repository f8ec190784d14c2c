-- Choosing's part of demand 3: among 64 places it is the register's choice of the members that a word marks. The latest
-- row is the one of greatest lateness and lowest number.
use Prim.Native.Nat.{ℕ}
use mathlib.Core.List.Permᴰ
use mathlib.Core.List.{[], ◌∷◌, Permᴰ}
use mathlib.Core.Path.{◌≡◌, refl, sym, ap, ◌∙◌}
use lib.ListN.{length}
use Rattle.places.specs.Places.{held_in}
use Rattle.register.specs.declared.Reading.{Reading}
use Rattle.register.specs.declared.Opening.{Opening}
use Rattle.register.specs.Register.{Rows}
use Rattle.register.specs.Choosing.{counted, lateness_of, choice}
use Rattle.register.specs.Promise.{Unique, Promised}
use Rattle.register.proofs.Unique.{unique-permuted}
use Rattle.register.proofs.Permuted.{choice-permuted}
use Rattle.register.proofs.Stands.{Sound}
use Rattle.register.proofs.Promised.{choice-none, choice_of_lem, choice-promised}
use Rattle.choosing.specs.Marked.{marked_at}
use Rattle.choosing.specs.Choose.{counted_word, latest_target, choice_among}
use Rattle.choosing.proofs.Laws.Marked.{ones_of_rows}
use Rattle.choosing.proofs.Laws.Counted.{counted-rows}
use Rattle.choosing.proofs.Laws.Latest.{latest-chosen}

-- ---- the choice

choice-latest :
    (o : Opening) (at : Reading) (rows those : Rows) → counted o at rows ≡ those →
    latest_target (lateness_of o at) (length those) those ≡ choice o at rows
unfolding latest_target
choice-latest o at rows [] e = sym (choice-none o at rows e)
choice-latest o at rows (a ∷ rest) e =
    sym (choice_of_lem o at rows (a ∷ rest) e ∙ latest-chosen (lateness_of o at) (length (a ∷ rest)) a rest)

-- of the members at places that a word marks
choice_of_marked :
    (o : Opening) (at : Reading) (held : ℕ) (ms : Rows) → length ms ≡ 64 →
    choice_among o.rate at held ms ≡ choice o at (marked_at held ms)
unfolding choice_among
choice_of_marked o at held ms long =
    let word : ℕ = counted_word o.rate at held ms in
    let rows : marked_at word ms ≡ counted o at (marked_at held ms) = counted-rows o at held ms in
    let count : held_in 64 word ≡ length (marked_at word ms) =
    ap (λ (k : ℕ). held_in k word) (sym long) ∙ ones_of_rows word ms in
    ap (λ (n : ℕ). latest_target (lateness_of o at) n (marked_at word ms)) count
    ∙ ap (λ (those : Rows). latest_target (lateness_of o at) (length those) those) rows
    ∙ choice-latest o at (marked_at held ms) (counted o at (marked_at held ms)) refl

-- ---- what demand 3 says of choosing

-- Of 64 places whose members, as a word marks them, are the register's rows in any order, each number once: the choice
-- at any reading is the register's.
pub chosen-alike :
    (o : Opening) (at : Reading) (held : ℕ) (ms rows : Rows) → length ms ≡ 64 → Permᴰ (marked_at held ms) rows →
    Unique rows → choice_among o.rate at held ms ≡ choice o at rows
chosen-alike o at held ms rows long same unique =
    choice_of_marked o at held ms long ∙ choice-permuted o at same (unique-permuted (Permᴰ.symm same) unique)

-- And where each row stands on an accepted report, the choice is what the customer is promised.
pub chosen-promised :
    (o : Opening) (at : Reading) (held : ℕ) (ms rows : Rows) → length ms ≡ 64 → Permᴰ (marked_at held ms) rows →
    Unique rows → Sound o rows → Promised o at rows (choice_among o.rate at held ms)
chosen-promised o at held ms rows long same unique sound =
    rw (chosen-alike o at held ms rows long same unique) (choice-promised o at rows sound)
