-- Laws of rows: what an array holds once rows have been put into it one behind the other.
use Prim.Native.Nat.{ℕ, ◌+◌, ◌*◌, ◌≤◌, ◌<◌}
use Rattle.std.specs.Prelude.{Ok, Err}
use Rattle.refusals.specs.declared.RefusalNumber.{RefusalNumber}
use mathlib.Core.Path.{◌≡◌, refl, sym, ap, ◌∙◌}
use mathlib.Core.List.{List, [], ◌∷◌, ◌++◌}
use mathlib.Core.Bool.{Bool, true, false}
use lib.ListN.{length, length-append}
use lib.Seq.{paste}
use native.Mathlib.Omega.{arith}
use lib.Dec.{ltb}
use borrow.Author.Tests.{lt-ltb, le-ltb, ltb-true, ltb-false}
use Rattle.idms.specs.Rows.{cells, row_of}
use Rattle.idms.specs.declared.Item.{Item}
use Rattle.idms.specs.declared.Placed.{Placed}
use Rattle.idms.specs.declared.Refusal.{Refusal}
use Rattle.packet.specs.declared.contents.Packet.{Packet}
use Rattle.packet.specs.Packet.{size}
use Rattle.packet.specs.Contents.{contents}
use Rattle.packet.proofs.Laws.Packet.{Readable}
use Rattle.packet.proofs.Laws.Contents.{Holds, unread, sources, blocks, setting, holds}
use Rattle.datagram.specs.Datagram.{packets_items, datagram_items}
use Rattle.datagram.specs.Answers.{refusal, item_count}
use Rattle.datagram.proofs.Laws.Datagram.{packets_end}
use Rattle.datagram.proofs.Laws.Answers.{datagram-passed, datagram-refused}
use Rattle.rtcp.specs.Rows.{put, HasRoom, ArePut, behind, rows_answer, rows_after}
use Rattle.rtcp.proofs.Laws.Puts.{puts_front, length-puts, puts-append}

-- ---- row_of

pub length-row_of : (x : Placed) → length (row_of x) ≡ 10
length-row_of x = go x.place x.item
  where
    go : (place : ℕ) (item : Item) → length (cells place item) ≡ 10
    go place (Item.Report r) = refl
    go place (Item.Settings s) = refl
    go place (Item.Farewell source) = refl

pub nothing_left : (l : List Placed) → length l ≤ 0 → l ≡ []
nothing_left [] h = refl
nothing_left (x ∷ l) h = absurd (omega arith)

-- ---- Filling: what a loop that puts rows keeps. `items₀` were to be put from the cell `at` on; `items` are left to put
-- from `cell` on.

pub record Filling (rows₀ : List ℕ) (at : ℕ) (items₀ : List Placed) (rows : List ℕ) (cell : ℕ) (items : List Placed) : Type 0 where
  pub long : length rows ≡ length rows₀
  pub cells : cell + 10 * length items ≡ at + 10 * length items₀
  pub all : put rows cell items ≡ put rows₀ at items₀

pub filling_start : (rows : List ℕ) (at : ℕ) (items : List Placed) → Filling rows at items rows at items
filling_start rows at items = record { long = refl; cells = refl; all = refl }

module _ {rows₀ : List ℕ} {at : ℕ} {items₀ : List Placed} {rows : List ℕ} {cell : ℕ} {items : List Placed} (f : Filling rows₀ at items₀ rows cell items) where
  -- some of them have been put
  pub filling_part :
      (l rest : List Placed) (rows' : List ℕ) (cell' : ℕ) → items ≡ l ++ rest → HasRoom rows₀ at items₀
      → rows' ≡ put rows cell l → cell' ≡ cell + 10 * length l → Filling rows₀ at items₀ rows' cell' rest
  filling_part l rest rows' cell' e h r k =
      let n : length items ≡ length l + length rest = ap length e ∙ length-append l rest in
      record {
        long = ap length r ∙ length-puts row_of 10 length-row_of l rows cell (omega (arith, f.long, f.cells)) ∙ f.long;
        cells = omega (arith, f.cells);
        all =
            ap (λ (x : List ℕ). put x cell' rest) r
            ∙ ap (λ (x : ℕ). put (put rows cell l) x rest) k
            ∙ sym (puts-append row_of 10 length-row_of l rest rows cell)
            ∙ ap (put rows cell) (sym e)
            ∙ f.all;
      }

  -- none of them has been put
  pub filling_none : (rest : List Placed) → items ≡ rest → Filling rows₀ at items₀ rows cell rest
  filling_none rest e = rw e at f

  -- one of them has been put
  pub filling_row :
      (x : Placed) (rest : List Placed) (rows' : List ℕ) → items ≡ x ∷ rest → HasRoom rows₀ at items₀
      → rows' ≡ paste rows cell (row_of x) 10 → Filling rows₀ at items₀ rows' (cell + 10) rest
  filling_row x rest rows' e h r = filling_part (x ∷ []) rest rows' (cell + 10) e h r (omega arith)

  -- there is room for the next
  pub filling_room :
      (x : Placed) (rest : List Placed) → items ≡ x ∷ rest → HasRoom rows₀ at items₀ → cell + 10 ≤ length rows
  filling_room x rest e h = omega (arith, ap length e, f.long, f.cells)

  pub filling_end : items ≡ [] → ArePut rows₀ at items₀ cell rows
  filling_end e = (omega (arith, ap length e, f.cells), sym (ap (put rows cell) e) ∙ f.all)

-- while rows are missing, packets are left
pub packets_left_lem :
    (d rows₀ rows : List ℕ) (cell p n : ℕ) → Filling rows₀ 0 (datagram_items d) rows cell (packets_items d p)
    → n ≡ length (datagram_items d) → cell < 10 * n → p < length d
packets_left_lem d rows₀ rows cell p n f e h = go (ltb p (length d)) refl
  where
    go : (t : Bool) → ltb p (length d) ≡ t → p < length d
    go true t = ltb-true p (length d) t
    go false t =
        let ended : _ = filling_end f (packets_end d p (ltb-false p (length d) t)) in
        absurd (omega (arith, ended.0))

-- once all rows are there, no item is left
pub none_left :
    (d rows₀ rows : List ℕ) (cell p n : ℕ) → Filling rows₀ 0 (datagram_items d) rows cell (packets_items d p)
    → n ≡ length (datagram_items d) → 10 * n ≤ cell → packets_items d p ≡ []
none_left d rows₀ rows cell p n f e h = nothing_left (packets_items d p) (omega (arith, f.cells))

-- ---- the answer and the array, by what was checked

module _ (reduced : Bool) (d rows : List ℕ) where
  pub rows-refused :
      (r : Refusal) → item_count reduced d ≡ Err r
      → (Err r ≡ rows_answer reduced d rows) × (rows ≡ rows_after reduced d rows)
  unfolding rows_answer rows_after
  rows-refused r e = rw (datagram-refused reduced d r e) (refl, refl)

  module _ (n : ℕ) (e : item_count reduced d ≡ Ok n) where
    pub rows_short :
        length rows < 10 * n
        → (Err (refusal RefusalNumber.ShortBuffer 0) ≡ rows_answer reduced d rows) × (rows ≡ rows_after reduced d rows)
    unfolding rows_answer rows_after
    rows_short h =
        let m : _ = datagram-passed reduced d n e in
        rw (m.0, lt-ltb (length rows) (10 * length (datagram_items d)) (omega (arith, m.1))) (refl, refl)

    pub rows-filled :
        10 * n ≤ length rows
        → (Ok n ≡ rows_answer reduced d rows) × (put rows 0 (datagram_items d) ≡ rows_after reduced d rows)
    unfolding rows_answer rows_after
    rows-filled h =
        let m : _ = datagram-passed reduced d n e in
        rw (m.0, le-ltb (length rows) (10 * length (datagram_items d)) (omega (arith, m.1)))
        (ap Ok m.1, puts_front row_of 10 length-row_of (datagram_items d) rows (omega (arith, m.1)))

-- ---- behind

pub behind-contents : (d : List ℕ) (p : ℕ) → Readable d p → behind (contents d p) ≡ p + size d p
behind-contents d p h = go (holds d p h)
  where
    go : {x : Packet} → Holds d p x → behind x ≡ p + size d p
    go unread = refl
    go (sources least l m) = refl
    go (blocks m) = refl
    go (setting t m) = refl
