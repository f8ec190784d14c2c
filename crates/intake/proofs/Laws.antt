-- Laws of feeding: one item's part comes off the front of what a cursor gives, and off the calls, their numbers and the
-- table that they leave.
use Prim.Native.Nat.{ℕ, suc, zero, ◌+◌, ◌≤◌, ◌<◌}
use Rattle.std.specs.Prelude.{Some, None, Result, Ok, Err}
use mathlib.Core.Path.{◌≡◌, refl, sym, ap, ◌∙◌}
use mathlib.Core.Bool.{Bool}
use mathlib.Core.List.{List, [], ◌∷◌, ◌++◌}
use lib.ListN.{length, drop, set, length-append}
use lib.Seq.{sets, sets-eq, length-sets}
use native.Mathlib.Omega.{arith}
use borrow.Author.Tests.{lt-ltb, le-ltb}
use Rattle.idms.specs.declared.Item.{Item}
use Rattle.idms.specs.declared.Placed.{Placed}
use Rattle.idms.specs.declared.Refusal.{Refusal}
use Rattle.refusals.specs.Refusals.{short_buffer, refusal_number}
use Rattle.origin.specs.declared.Origin.{Origin}
use Rattle.register.specs.declared.Reading.{Reading}
use Rattle.register.specs.Register.{Call}
use Rattle.rtcp.specs.declared.cursor.Cursor.{Cursor}
use Rattle.packet.specs.Checks.{Check, passed, refused}
use Rattle.datagram.specs.Datagram.{datagram_check, datagram_items}
use Rattle.rtcp.specs.Cursor.{next_of, given, start}
use Rattle.datagram.specs.Answers.{refusal, item_count}
use Rattle.rtcp.specs.Answers.{cursor_on}
use Rattle.rtcp.proofs.Theorems.{cursor-in_turn}
use Rattle.table.specs.declared.Table.{Table}
use Rattle.table.specs.declared.Taken.{Taken}
use Rattle.table.specs.Intake.{taken}
use Rattle.table.specs.History.{answers_from, table_from}
use Rattle.intake.specs.declared.DatagramAnswered.{DatagramAnswered}
use Rattle.table.specs.Numbers.{numbers_into}
use Rattle.table.proofs.Agreement.Theorem.{length-answers_from}
use Rattle.intake.specs.Datagrams.{calls_of, calls_in, datagram_answered, answers_after}
use Rattle.intake.specs.Steps.{calls_of_item, call_count, numbers_of}

-- ---- given: what a cursor gives, by what it gives next

pub given-item :
    (k j : ℕ) (d : List ℕ) (c : Cursor) (x : Placed) (n : Cursor) → k ≡ suc j → next_of d c ≡ Some (x, n)
    → given k d c ≡ x ∷ given j d n
unfolding given
given-item k j d c x n h e = rw (h, e, given) refl

pub given_end : (k : ℕ) (d : List ℕ) (c : Cursor) → next_of d c ≡ None → given k d c ≡ []
unfolding given
given_end zero d c e = refl
given_end (suc k) d c e = rw (e, given) refl

pub given-none : (k : ℕ) (d : List ℕ) (c : Cursor) → k ≤ 0 → given k d c ≡ []
unfolding given
given-none zero d c h = refl
given-none (suc k) d c h = absurd (omega arith)

-- ---- call_count

pub count_front : (x : Placed) (xs : List Placed) → call_count (x ∷ xs) ≡ calls_of_item x.item + call_count xs
unfolding call_count
count_front x xs = refl

pub count_none : call_count [] ≡ 0
unfolding call_count
count_none = refl

length-calls_of : (origin : Origin) (at : Reading) (item : Item) → length (calls_of origin at item) ≡ calls_of_item item
length-calls_of origin at (Item.Report r) = refl
length-calls_of origin at (Item.Farewell source) = refl
length-calls_of origin at (Item.Settings s) = refl

pub length_calls :
    (origin : Origin) (at : Reading) (items : List Placed) → length (calls_in origin at items) ≡ call_count items
unfolding calls_in call_count
length_calls origin at [] = refl
length_calls origin at (x ∷ xs) =
    length-append (calls_of origin at x.item) (calls_in origin at xs)
    ∙ omega (arith, length-calls_of origin at x.item, length_calls origin at xs)

-- ---- the calls of what a cursor gives, by what it gives next

pub calls_item :
    (origin : Origin) (at : Reading) (k j : ℕ) (d : List ℕ) (c : Cursor) (x : Placed) (n : Cursor)
    → k ≡ suc j → next_of d c ≡ Some (x, n)
    → calls_in origin at (given k d c) ≡ calls_of origin at x.item ++ calls_in origin at (given j d n)
unfolding calls_in
calls_item origin at k j d c x n h e = ap (calls_in origin at) (given-item k j d c x n h e)

pub calls_none : (origin : Origin) (at : Reading) {items : List Placed} → items ≡ [] → calls_in origin at items ≡ []
unfolding calls_in
calls_none origin at e = ap (calls_in origin at) e

-- ---- one item's part of the calls: their table and their numbers

module _ (t : Table) (origin : Origin) (at : Reading) (calls : List Call) where
  table-item :
      (item : Item)
      → table_from t (calls_of origin at item ++ calls) ≡ table_from (taken t item origin at).table calls
  unfolding table_from taken
  table-item (Item.Report r) = refl
  table-item (Item.Farewell source) = refl
  table-item (Item.Settings s) = refl

  answers-item :
      (item : Item)
      → answers_from t (calls_of origin at item ++ calls)
      ≡ numbers_of (taken t item origin at).outcome ++ answers_from (taken t item origin at).table calls
  unfolding answers_from taken
  answers-item (Item.Report r) = refl
  answers-item (Item.Farewell source) = refl
  answers-item (Item.Settings s) = refl

  length-item :
      (item : Item)
      → length (calls_of origin at item ++ calls)
      ≡ length (numbers_of (taken t item origin at).outcome) + length calls
  unfolding taken
  length-item (Item.Report r) = omega arith
  length-item (Item.Farewell source) = omega arith
  length-item (Item.Settings s) = omega arith

-- ---- stores, one run behind another

pub sets_append : (l xs ys : List ℕ) (i : ℕ) → sets l i (xs ++ ys) ≡ sets (sets l i xs) (i + length xs) ys
sets_append l [] ys i =
    let same : i ≡ i + 0 = omega arith in
    ap (λ (k : ℕ). sets l k ys) same
sets_append l (x ∷ xs) ys i =
    let same : suc i + length xs ≡ i + suc (length xs) = omega arith in
    sets_append (set l i x) xs ys (suc i) ∙ ap (λ (k : ℕ). sets (sets (set l i x) (suc i) xs) k ys) same

pub sets_front : (l xs : List ℕ) → length xs ≤ length l → sets l 0 xs ≡ xs ++ drop (length xs) l
sets_front l xs h =
    let all : 0 + length xs ≡ length xs = omega arith in
    sets-eq xs l 0 (omega arith) ∙ ap (λ (k : ℕ). xs ++ drop k l) all

-- ---- CallsLeft: what the loop keeps. `calls₀` were to be made of the table `t₀`; `calls` are left, for the table `t`,
-- and their numbers go into the list from `place` on.

pub record CallsLeft
    (t₀ : Table) (answers₀ : List ℕ) (calls₀ : List Call)
    (t : Table) (answers : List ℕ) (place : ℕ) (calls : List Call) : Type 0 where
  pub long : length answers ≡ length answers₀
  pub room : place + length calls ≤ length answers₀
  pub table_is : table_from t calls ≡ table_from t₀ calls₀
  pub answers_are : sets answers place (answers_from t calls) ≡ sets answers₀ 0 (answers_from t₀ calls₀)

pub calls_left_start :
    {t₀ : Table} {answers₀ : List ℕ} {calls₀ : List Call} → length calls₀ ≤ length answers₀
    → CallsLeft t₀ answers₀ calls₀ t₀ answers₀ 0 calls₀
calls_left_start h = record { long = refl; room = omega arith; table_is = refl; answers_are = refl }

module _
    {t₀ t : Table} {answers₀ answers : List ℕ} {calls₀ calls : List Call} {place : ℕ}
    (f : CallsLeft t₀ answers₀ calls₀ t answers place calls) where
  -- an item's number has its place in the list
  pub calls_left_room :
      (origin : Origin) (at : Reading) (item : Item) (rest : List Call) (w : Taken)
      → calls ≡ calls_of origin at item ++ rest → w ≡ taken t item origin at
      → place + length (numbers_of w.outcome) ≤ length answers
  calls_left_room origin at item rest w e g =
      let many : _ = ap length e in
      let numbers : _ = ap (λ (v : Taken). length (numbers_of v.outcome)) g in
      omega (arith, f.long, f.room, many, numbers, length-item t origin at rest item)

  pub calls_left_item :
      (origin : Origin) (at : Reading) (item : Item) (rest : List Call) (w : Taken) (answers₁ : List ℕ) (place₁ : ℕ)
      → calls ≡ calls_of origin at item ++ rest → w ≡ taken t item origin at
      → answers₁ ≡ sets answers place (numbers_of w.outcome) → place₁ ≡ place + length (numbers_of w.outcome)
      → CallsLeft t₀ answers₀ calls₀ w.table answers₁ place₁ rest
  calls_left_item origin at item rest w answers₁ place₁ e g h k =
      let numbers = numbers_of w.outcome in
      let later = answers_from w.table rest in
      let many : _ = ap length e in
      let as_many : _ = ap (λ (v : Taken). length (numbers_of v.outcome)) g in
      let numbered : answers_from t calls ≡ numbers ++ later =
      ap (answers_from t) e
      ∙ answers-item t origin at rest item
      ∙ ap (λ (v : Taken). numbers_of v.outcome ++ answers_from v.table rest) (sym g) in
      record {
        long = ap length h ∙ length-sets answers place numbers ∙ f.long;
        room = omega (arith, f.room, many, as_many, k, length-item t origin at rest item);
        table_is = ap (λ (v : Taken). table_from v.table rest) g
            ∙ sym (table-item t origin at rest item)
            ∙ sym (ap (table_from t) e)
            ∙ f.table_is;
        answers_are = ap (λ (l : List ℕ). sets l place₁ later) h
            ∙ ap (λ (j : ℕ). sets (sets answers place numbers) j later) k
            ∙ sym (sets_append answers numbers later place)
            ∙ ap (sets answers place) (sym numbered)
            ∙ f.answers_are;
      }

  pub calls_left_end :
      calls ≡ [] → length calls₀ ≤ length answers₀
      → (t ≡ table_from t₀ calls₀) × (answers ≡ numbers_into t₀ calls₀ answers₀)
  unfolding table_from answers_from
  calls_left_end e h =
      let many : length (answers_from t₀ calls₀) ≡ length calls₀ = length-answers_from t₀ calls₀ in (
        sym (ap (table_from t) e) ∙ f.table_is,
        sym (ap (λ (l : List Call). sets answers place (answers_from t l)) e)
            ∙ f.answers_are
            ∙ sets_front answers₀ (answers_from t₀ calls₀) (omega arith)
            ∙ ap (λ (k : ℕ). answers_from t₀ calls₀ ++ drop k answers₀) many,
      )

-- ---- a datagram: what opening it says of its checks and its items

pub cursor_items :
    (reduced : Bool) (d : List ℕ) (n : ℕ) (c : Cursor) → cursor_on reduced d ≡ Ok (n, c)
    → (datagram_check reduced d ≡ passed) × (given n d c ≡ datagram_items d)
unfolding cursor_on item_count
cursor_items reduced d n c e = go (datagram_check reduced d) refl
  where
    go :
        (k : Check) → datagram_check reduced d ≡ k
        → (datagram_check reduced d ≡ passed) × (given n d c ≡ datagram_items d)
    go passed k =
        let o : ◌≡◌ {A = Result (ℕ × Cursor) Refusal} (Ok (length (datagram_items d), start)) (Ok (n, c)) = rw k at e in
        let both : ◌≡◌ {A = ℕ × Cursor} (length (datagram_items d), start) (n, c) = cc in
        let count : length (datagram_items d) ≡ n = ap (λ (w : ℕ × Cursor). w.0) both in
        let first : start ≡ c = ap (λ (w : ℕ × Cursor). w.1) both in
        let counted : item_count reduced d ≡ Ok (length (datagram_items d)) = rw k refl in
        (k, ap (given n d) (sym first) ∙ cursor-in_turn reduced d (length (datagram_items d)) n counted (omega arith))
    go (refused number place) k =
        let o : ◌≡◌ {A = Result (ℕ × Cursor) Refusal} (Err (refusal number place)) (Ok (n, c)) = rw k at e in
        absurd (cc)

pub cursor-refused :
    (reduced : Bool) (d : List ℕ) (r : Refusal) → cursor_on reduced d ≡ Err r
    → datagram_check reduced d ≡ refused r.number r.place
unfolding cursor_on
cursor-refused reduced d r e = go (datagram_check reduced d) refl
  where
    go : (k : Check) → datagram_check reduced d ≡ k → datagram_check reduced d ≡ refused r.number r.place
    go passed k =
        let o : ◌≡◌ {A = Result (ℕ × Cursor) Refusal} (Ok (length (datagram_items d), start)) (Err r) = rw k at e in
        absurd (cc)
    go (refused number place) k =
        let o : ◌≡◌ {A = Result (ℕ × Cursor) Refusal} (Err (refusal number place)) (Err r) = rw k at e in
        let same : refusal number place ≡ r = cc in
        k ∙ ap (λ (s : Refusal). refused s.number s.place) same

-- ---- what taking a datagram in answers, and the list afterwards, one law a return

module _ (t : Table) (reduced : Bool) (d : List ℕ) (origin : Origin) (at : Reading) (answers : List ℕ) where
  -- an answer and a list are what the definitions say
  abbrev pub Answers : DatagramAnswered → List ℕ → Type 0
  Answers r after =
      (r ≡ datagram_answered t reduced d origin at answers) × (after ≡ answers_after t reduced d origin at answers)

  pub answered-refused :
      (r : Refusal) → cursor_on reduced d ≡ Err r
      → Answers (record { number = refusal_number r.number; place = r.place; count = 0; table = t }) answers
  unfolding datagram_answered answers_after
  answered-refused r e = rw (cursor-refused reduced d r e) (refl, refl)

  module _
      (n : ℕ) (c : Cursor) (count : ℕ)
      (e : cursor_on reduced d ≡ Ok (n, c)) (h : count ≡ call_count (given n d c)) where
    -- the calls as they were counted and made, and as the definitions have them
    abbrev calls_given : List Call
    calls_given = calls_in origin at (given n d c)

    abbrev calls : List Call
    calls = calls_in origin at (datagram_items d)

    checked : datagram_check reduced d ≡ passed
    checked = (cursor_items reduced d n c e).0

    same_calls : calls_given ≡ calls
    same_calls = ap (calls_in origin at) (cursor_items reduced d n c e).1

    many : count ≡ length calls
    many = h ∙ sym (length_calls origin at (given n d c)) ∙ ap length same_calls

    pub answered-short :
        length answers < count
        → Answers (record { number = short_buffer; place = 0; count = 0; table = t }) answers
    unfolding datagram_answered answers_after
    answered-short less =
        let short : length answers < length calls = omega (arith, many) in
        rw (checked, lt-ltb _ _ short) (refl, refl)

    pub answered-all :
        (table : Table) (after : List ℕ) → count ≤ length answers → table ≡ table_from t calls_given
        → after ≡ numbers_into t calls_given answers
        → Answers (record { number = 0; place = 0; count = count; table = table }) after
    unfolding datagram_answered answers_after
    answered-all table after room f g =
        let as_many : count ≡ length calls = many in
        let table_is : table ≡ table_from t calls = f ∙ ap (table_from t) same_calls in
        let enough : length calls ≤ length answers = omega arith in
        rw (checked, le-ltb _ _ enough) (cc, g ∙ ap (λ (l : List Call). numbers_into t l answers) same_calls)
