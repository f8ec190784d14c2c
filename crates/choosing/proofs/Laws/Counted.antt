-- The counted word marks the counted rows, and is 0 where there are none.
use Prim.Native.Nat.{ℕ}
use mathlib.Core.Bool.{Bool, true, false, not, ◌&&◌}
use mathlib.Core.Path.{◌≡◌, refl, sym, ap, ◌∙◌}
use lib.Dec.{eqb}
use Rattle.register.specs.declared.Reading.{Reading}
use Rattle.register.specs.declared.Opening.{Opening}
use Rattle.register.specs.Register.{Rows, presents, fresh_at}
use Rattle.register.specs.Choosing.{fresh, is_arrival, counted}
use Rattle.register.specs.SettingsCheck.{is_none_counted}
use Rattle.register.proofs.Rows.{filter_both, any_both, none-length}
use Rattle.choosing.specs.Marked.{marked_at}
use Rattle.choosing.specs.Choose.{arrives, counted_word}
use Rattle.choosing.proofs.Laws.Marked.{marked_filter_word, word_none}

arrives_arrival :
    (o : Opening) (at : Reading) (word : ℕ) (ms : Rows) →
    arrives o.rate at word ms ≡ is_arrival o at (marked_at word ms)
arrives_arrival o at word ms =
    word_none (λ m. fresh_at o at m && presents m) word ms
    ∙ ap not (any_both (fresh_at o at) presents (marked_at word ms))

pub counted-rows :
    (o : Opening) (at : Reading) (word : ℕ) (ms : Rows) →
    marked_at (counted_word o.rate at word ms) ms ≡ counted o at (marked_at word ms)
counted-rows o at word ms = go (arrives o.rate at word ms) refl
  where
    go :
        (b : Bool) → arrives o.rate at word ms ≡ b →
        marked_at (counted_word o.rate at word ms) ms ≡ counted o at (marked_at word ms)
    go true e =
        let arrival : is_arrival o at (marked_at word ms) ≡ true = sym (arrives_arrival o at word ms) ∙ e in
        rw (e, arrival) (marked_filter_word (fresh_at o at) word ms)
    go false e =
        let arrival : is_arrival o at (marked_at word ms) ≡ false = sym (arrives_arrival o at word ms) ∙ e in
        rw (e, arrival)
        (marked_filter_word (λ m. fresh_at o at m && presents m) word ms
        ∙ filter_both (fresh_at o at) presents (marked_at word ms))

pub none-counted :
    (o : Opening) (at : Reading) (word : ℕ) (ms : Rows) →
    eqb (counted_word o.rate at word ms) 0 ≡ is_none_counted o at (marked_at word ms)
none-counted o at word ms = go (arrives o.rate at word ms) refl
  where
    go :
        (b : Bool) → arrives o.rate at word ms ≡ b →
        eqb (counted_word o.rate at word ms) 0 ≡ is_none_counted o at (marked_at word ms)
    go true e =
        let arrival : is_arrival o at (marked_at word ms) ≡ true = sym (arrives_arrival o at word ms) ∙ e in
        rw (e, arrival)
        (word_none (fresh_at o at) word ms ∙ sym (none-length (fresh_at o at) (marked_at word ms)))
    go false e =
        let arrival : is_arrival o at (marked_at word ms) ≡ false = sym (arrives_arrival o at word ms) ∙ e in
        rw (e, arrival) (e ∙ sym (none-length presents (fresh o at (marked_at word ms)) ∙ arrival))
