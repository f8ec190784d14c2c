-- Whether a settings packet suits: compared with the greatest biased number of the counted rows it is compared with all
-- of them, and the biased numbers compare as the signed ones do.
use Prim.Native.Nat.{ℕ, ◌+◌, ◌-◌, ◌*◌, ◌/◌, ◌^◌, ◌≤◌, ◌<◌}
use mathlib.Core.Bool.{Bool, true, false, not, cond, ◌&&◌, ◌||◌, or_assoc, not-not}
use mathlib.Core.List.{[], ◌∷◌, Memᴰ}
use mathlib.Core.Path.{◌≡◌, refl, sym, ap, ◌∙◌}
use lib.Dec.{leb, eqb}
use lib.IntN.{pos, ◌+ℤ◌}
use lib.ListN.{length, get_or, drop, drop_of_length-le}
use lib.Signed.{le_z, lt_z}
use native.Mathlib.Omega.{arith}
use borrow.Author.Tests.{eq-eqb, not-true, leb-true, leb-false, le-leb, lt-leb}
use Rattle.std.specs.Prelude.{Ok, Err}
use Rattle.refusals.specs.declared.RefusalNumber.{RefusalNumber}
use Rattle.places.specs.Places.{is_free}
use Rattle.register.specs.declared.Record.{Record}
use Rattle.register.specs.declared.Reading.{Reading}
use Rattle.idms.specs.declared.Settings.{Settings}
use Rattle.times.specs.Times.{ntp_age, rtp_age, settings_delay}
use Rattle.register.specs.declared.Opening.{Opening}
use Rattle.register.specs.Register.{Rows, any}
use Rattle.register.specs.Choosing.{counted, delay_of, lateness_of}
use Rattle.register.specs.SettingsCheck.{settings_checks, is_none_counted, settings_lateness, allowance, suits, verdict}
use Rattle.register.proofs.Rows.{clash, any_cong}
use Rattle.integers.proofs.Laws.{lt_z_not_le_z}
use Rattle.register.proofs.Promised.{counted_member}
use Rattle.register.proofs.SettingsCheck.{PassedChecks, passed_checks, verdict-refused, verdict-judged}
use Rattle.choosing.specs.Marked.{marked_at, nowhere}
use Rattle.choosing.specs.Choose.{counted_word}
use Rattle.choosing.specs.Lateness.{biased_of, biased_settings, greatest}
use Rattle.choosing.proofs.Laws.Marked.{marked_free_at, marked_held_at}
use Rattle.choosing.proofs.Laws.Counted.{counted-rows, none-counted}
use Rattle.choosing.proofs.Laws.Biased.{le_z-lateness, le_z_allowed, fresh_age}

-- ---- a step of the walk for the greatest

-- after i places: the greatest so far, and with the rows to come the greatest of all
pub record GreatestSoFar (rate : ℕ) (at : Reading) (word : ℕ) (ms : Rows) (most rest i : ℕ) : Type 0 where
  pub whole :
      greatest (biased_of rate at) most (marked_at rest (drop i ms)) ≡ greatest (biased_of rate at) 0 (marked_at word ms)

pub greatest-start : {rate : ℕ} {at : Reading} {word : ℕ} {ms : Rows} → GreatestSoFar rate at word ms 0 word 0
greatest-start = record { whole = refl }

-- what the code takes for the greatest, with one row more
abbrev greatest_next : ℕ → ℕ → ℕ → ℕ
greatest_next word most number = cond (is_free word || leb number most) most number

pub greatest-step :
    {rate : ℕ} {at : Reading} {word : ℕ} {ms : Rows} {most rest i next : ℕ} → i < length ms →
    GreatestSoFar rate at word ms most rest i →
    next ≡ greatest_next rest most (biased_of rate at (get_or ms i nowhere)) →
    GreatestSoFar rate at word ms next (rest / 2) (i + 1)
unfolding greatest
greatest-step {rate} {at} {word} {ms} {most} {rest} {i} {next} within so e = rw e (go (is_free rest) refl)
  where
    go :
        (s : Bool) → is_free rest ≡ s →
        GreatestSoFar rate at word ms (greatest_next rest most (biased_of rate at (get_or ms i nowhere))) (rest / 2)
        (i + 1)
    go true p =
        rw p
        (record { whole = sym (ap (greatest (biased_of rate at) most) (marked_free_at rest ms i within p)) ∙ so.whole })
    go false p =
        rw p
        (record { whole = sym (ap (greatest (biased_of rate at) most) (marked_held_at rest ms i within p)) ∙ so.whole })

pub greatest_end :
    {rate : ℕ} {at : Reading} {word : ℕ} {ms : Rows} {most rest i : ℕ} → length ms ≤ i →
    GreatestSoFar rate at word ms most rest i → most ≡ greatest (biased_of rate at) 0 (marked_at word ms)
unfolding marked_at greatest
greatest_end {rate} {at} {word} {ms} {most} {rest} {i} h so =
    sym (ap (λ (l : Rows). greatest (biased_of rate at) most (marked_at rest l)) (drop_of_length-le ms h)) ∙ so.whole

-- ---- what is allowed

-- exceeding by no more is lying at or below the sum
pub within_sum : (late most allowed : ℕ) → most ≤ late → leb (late - most) allowed ≡ leb late (most + allowed)
within_sum late most allowed h = go (leb (late - most) allowed) refl
  where
    go : (t : Bool) → leb (late - most) allowed ≡ t → leb (late - most) allowed ≡ leb late (most + allowed)
    go true e = e ∙ sym (le-leb late (most + allowed) (omega (arith, leb-true (late - most) allowed e)))
    go false e = e ∙ sym (lt-leb late (most + allowed) (omega (arith, leb-false (late - most) allowed e)))

-- ---- all rows by the greatest

-- a test that a greater number passes wherever a smaller one does
abbrev Rising : (ℕ → Bool) → Type 0
Rising test = (m n : ℕ) → m ≤ n → test m ≡ true → test n ≡ true

greater_passes :
    (test : ℕ → Bool) → Rising test → (m n : ℕ) → (test m || test n) ≡ test (cond (leb n m) m n)
greater_passes test rising m n = go (leb n m) refl (test m) refl (test n) refl
  where
    go :
        (t : Bool) → leb n m ≡ t → (u : Bool) → test m ≡ u → (v : Bool) → test n ≡ v →
        (test m || test n) ≡ test (cond (leb n m) m n)
    go true e true p v q = rw (e, p) refl
    go true e false p true q = clash (sym p ∙ rising n m (leb-true n m e) q)
    go true e false p false q = rw (e, p, q) refl
    go false e true p v q =
        let less : m ≤ n = omega (arith, leb-false n m e) in
        rw (e, p) (sym (rising m n less p))
    go false e false p v q = rw (e, p) refl

passes_greatest :
    (test : ℕ → Bool) → Rising test → (number : Record → ℕ) (rows : Rows) (most : ℕ) →
    (test most || any (λ row. test (number row)) rows) ≡ test (greatest number most rows)
unfolding any greatest
passes_greatest test rising number [] most = or_none (test most)
  where
    or_none : (t : Bool) → (t || false) ≡ t
    or_none true = refl
    or_none false = refl
passes_greatest test rising number (row ∷ rows) most =
    sym (or_assoc (test most) (test (number row)) (any (λ r. test (number r)) rows))
    ∙ ap (λ (t : Bool). t || any (λ r. test (number r)) rows) (greater_passes test rising most (number row))
    ∙ passes_greatest test rising number rows (cond (leb (number row) most) most (number row))

-- the greatest of 0 and a number
first_number : (n : ℕ) → n ≡ cond (leb n 0) 0 n
first_number n = go (leb n 0) refl
  where
    go : (t : Bool) → leb n 0 ≡ t → n ≡ cond t 0 n
    go true e = omega (arith, leb-true n 0 e)
    go false e = refl

-- some of one row or more passes exactly where the greatest does
any-greatest :
    (test : ℕ → Bool) → Rising test → (number : Record → ℕ) (rows : Rows) → (rows ≡ [] → ⊥) →
    any (λ row. test (number row)) rows ≡ test (greatest number 0 rows)
unfolding any greatest
any-greatest test rising number [] some = absurd (some refl)
any-greatest test rising number (row ∷ rows) some =
    passes_greatest test rising number rows (number row)
    ∙ ap (λ (n : ℕ). test (greatest number n rows)) (first_number (number row))

rising_above : (p : ℕ) → Rising (λ n. not (leb n p))
rising_above p m n h e =
    let above : p < m = leb-false m p (not-true (leb m p) e) in
    ap not (lt-leb n p (omega (arith, h, above)))

rising_within : (p allowed : ℕ) → Rising (λ n. leb p (n + allowed))
rising_within p allowed m n h e = le-leb p (n + allowed) (omega (arith, h, leb-true p (m + allowed) e))

-- ---- the packet and the counted rows

module _ (o : Opening) (at : Reading) (rows : Rows) (s : Settings) (near : ntp_age at.ntp s.received ≤ 30 * 2 ^ 32)
  where
    row_age : (row : Record) → Memᴰ row (counted o at rows) → ntp_age at.ntp row.report.received ≤ 30 * 2 ^ 32
    row_age row member = fresh_age o.rate at row (counted_member o at rows row member).0

    later_row :
        (row : Record) → Memᴰ row (counted o at rows) →
        lt_z (settings_lateness o at s) (lateness_of o at row)
        ≡ not (leb (biased_of o.rate at row) (biased_settings o.rate at s))
    later_row row member =
        lt_z_not_le_z (settings_lateness o at s) (lateness_of o at row)
        ∙ ap not
        (le_z-lateness o.rate (delay_of row) (ntp_age at.ntp row.report.received)
        (rtp_age at.rtp row.report.rtp)
        (settings_delay s.received s.presented)
        (ntp_age at.ntp s.received)
        (rtp_age at.rtp s.rtp)
        (row_age row member)
        near)

    near_row :
        (allowed : ℕ) (row : Record) → Memᴰ row (counted o at rows) →
        le_z (settings_lateness o at s) (lateness_of o at row +ℤ pos allowed)
        ≡ leb (biased_settings o.rate at s) (biased_of o.rate at row + allowed)
    near_row allowed row member =
        le_z_allowed o.rate (settings_delay s.received s.presented) (ntp_age at.ntp s.received)
        (rtp_age at.rtp s.rtp)
        (delay_of row)
        (ntp_age at.ntp row.report.received)
        (rtp_age at.rtp row.report.rtp)
        allowed
        near
        (row_age row member)

    -- yes or no, by the greatest
    pub suits-greatest :
        (allowed : ℕ) → (counted o at rows ≡ [] → ⊥) →
        suits (lateness_of o at) (counted o at rows) (settings_lateness o at s) allowed
        ≡ (leb (greatest (biased_of o.rate at) 0 (counted o at rows)) (biased_settings o.rate at s)
        && leb (biased_settings o.rate at s) (greatest (biased_of o.rate at) 0 (counted o at rows) + allowed))
    unfolding suits
    suits-greatest allowed some =
        let number : Record → ℕ = biased_of o.rate at in
        let packet : ℕ = biased_settings o.rate at s in
        let earlier : _ =
        any_cong (λ row. lt_z (settings_lateness o at s) (lateness_of o at row)) (λ row. not (leb (number row) packet))
        (counted o at rows)
        later_row
        ∙ any-greatest (λ n. not (leb n packet)) (rising_above packet) number (counted o at rows) some in
        let close : _ =
        any_cong (λ row. le_z (settings_lateness o at s) (lateness_of o at row +ℤ pos allowed))
        (λ row. leb packet (number row + allowed))
        (counted o at rows)
        (near_row allowed)
        ∙ any-greatest (λ n. leb packet (n + allowed)) (rising_within packet allowed) number (counted o at rows) some in
        rw (earlier, close, not-not (leb (greatest number 0 (counted o at rows)) packet)) refl

-- ---- the verdict of the code

-- the checks of the code, with the word of the members that it counts
checks-counted :
    (o : Opening) (at : Reading) (held : ℕ) (ms : Rows) (s : Settings) (slack word : ℕ) →
    word ≡ counted_word o.rate at held ms →
    settings_checks o s at slack (eqb word 0)
    ≡ settings_checks o s at slack (is_none_counted o at (marked_at held ms))
checks-counted o at held ms s slack word w =
    ap (settings_checks o s at slack) (ap (λ (n : ℕ). eqb n 0) w ∙ none-counted o at held ms)

module _
    (o : Opening) (at : Reading) (held : ℕ) (ms : Rows) (s : Settings) (slack word : ℕ)
    (w : word ≡ counted_word o.rate at held ms)
  where
    pub refused-counted :
        (refused : RefusalNumber) → Err refused ≡ settings_checks o s at slack (eqb word 0) →
        Err refused ≡ verdict o at (marked_at held ms) s slack
    refused-counted refused e =
        verdict-refused o at (marked_at held ms) s slack refused (e ∙ checks-counted o at held ms s slack word w)

    -- not refused
    passes : Ok tt ≡ settings_checks o s at slack (eqb word 0) → PassedChecks at s (is_none_counted o at (marked_at held ms))
    passes e =
        passed_checks o s at slack (is_none_counted o at (marked_at held ms))
        (sym (e ∙ checks-counted o at held ms s slack word w))

    pub judged-counted :
        Ok tt ≡ settings_checks o s at slack (eqb word 0) → (t : Bool) →
        t
        ≡ (leb (greatest (biased_of o.rate at) 0 (marked_at word ms)) (biased_settings o.rate at s)
        && leb (biased_settings o.rate at s)
        (greatest (biased_of o.rate at) 0 (marked_at word ms) + o.rate * slack * 2 ^ 16)) →
        Ok t ≡ verdict o at (marked_at held ms) s slack
    judged-counted e t is =
        let some : counted o at (marked_at held ms) ≡ [] → ⊥ =
        λ none. clash (sym (passes e).some ∙ eq-eqb (length (counted o at (marked_at held ms))) 0 (ap length none)) in
        let counted-are : marked_at word ms ≡ counted o at (marked_at held ms) =
        ap (λ (n : ℕ). marked_at n ms) w ∙ counted-rows o at held ms in
        verdict-judged o at (marked_at held ms) s slack
        (sym (e ∙ checks-counted o at held ms s slack word w))
        t
        (rw counted-are at is
        ∙ sym (suits-greatest o at (marked_at held ms) s (passes e).near (allowance o slack) some))
