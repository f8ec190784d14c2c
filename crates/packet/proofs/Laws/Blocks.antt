-- Laws of a block: its checks, the items that it gives, and the calls' answers at it.
use Prim.Native.Nat.{ℕ, ◌+◌, ◌-◌, ◌≤◌}
use Rattle.std.specs.Prelude.{Some, Result, Ok, Err}
use Rattle.refusals.specs.declared.RefusalNumber.{RefusalNumber}
use mathlib.Core.Path.{◌≡◌, refl, ap, ◌∙◌}
use mathlib.Core.List.{List, [], ◌∷◌}
use mathlib.Core.Bool.{Bool, true, false, cond, ◌&&◌, ◌||◌}
use lib.ListN.{length}
use lib.Dec.{ltb, eqb}
use native.Mathlib.Omega.{arith}
use borrow.Author.Tests.{ltb-false, le-ltb, eqb-true, not-false}
use Rattle.idms.specs.declared.Item.{Item}
use Rattle.idms.specs.declared.Report.{Report}
use Rattle.packet_checks.specs.declared.block.Block.{Block}
use Rattle.packet_checks.specs.IdmsBlock.{idms_length_is_bad, role_reports}
use Rattle.packet.specs.declared.block.BlockItem.{BlockItem}
use Rattle.packet.specs.Checks.{Check, passed, refused}
use Rattle.packet.specs.Report.{block_type, block_length, block_size, block_check, role, reports, report_at, block_items}
use Rattle.packet.specs.Answers.{block_unless, block_is, block_item_of, block_item, report_is}
use Rattle.packet.proofs.Laws.Bools.{or_false, and_left}
use Rattle.packet.proofs.Laws.Checks.{check_passes, Refuses, passed_refuses, refuse_if_refuses}

-- ---- block_items

pub items_none : (d : List ℕ) (sender at : ℕ) → reports d at ≡ false → block_items d sender at ≡ []
unfolding block_items
items_none d sender at e = rw e

pub items_one :
    (d : List ℕ) (sender at : ℕ) → reports d at ≡ true
    → block_items d sender at ≡ record { place = at; item = Item.Report (report_at d sender at) } ∷ []
unfolding block_items
items_one d sender at e = rw e

pub length-block_items : (d : List ℕ) (sender at : ℕ) → length (block_items d sender at) ≡ cond (reports d at) 1 0
length-block_items d sender at = go (reports d at) refl
  where
    go : (t : Bool) → reports d at ≡ t → length (block_items d sender at) ≡ cond (reports d at) 1 0
    go true e = rw (items_one d sender at e, e)
    go false e = rw (items_none d sender at e, e)

-- ---- block_check

-- the block lies in the content, and the content in the datagram
pub block_inside :
    (d : List ℕ) (stop at : ℕ) → block_check d stop at ≡ passed → (at + block_size d at ≤ stop) × (stop ≤ length d)
unfolding block_check
block_inside d stop at h =
    let six : _ = check_passes (ltb (length d) stop || ltb stop (at + block_size d at)) _ _ _ h in
    let both : _ = or_false (ltb (length d) stop) (ltb stop (at + block_size d at)) six.0 in
    (ltb-false stop (at + block_size d at) both.1, ltb-false (length d) stop both.0)

-- check 7: a block of type 12 has 8 words
pub idms_words :
    (d : List ℕ) (stop at : ℕ) → block_check d stop at ≡ passed → eqb (block_type d at) 12 ≡ true
    → block_length d at ≡ 7
unfolding block_check
idms_words d stop at h twelve =
    let six : _ = check_passes (ltb (length d) stop || ltb stop (at + block_size d at)) _ _ _ h in
    let seven : _ = check_passes (eqb (block_type d at) 12 && idms_length_is_bad (block_length d at)) _ _ _ six.1 in
    eqb-true (block_length d at) 7 (not-false (eqb (block_length d at) 7) (rw twelve at seven.0))

pub report_words_lem :
    (d : List ℕ) (stop at : ℕ) → block_check d stop at ≡ passed → reports d at ≡ true → block_length d at ≡ 7
report_words_lem d stop at h e =
    idms_words d stop at h (and_left (eqb (block_type d at) 12) (role_reports (role d at)) e)

-- what holds of each number with the block's place holds of every refusal
pub block_refuses :
    (P : RefusalNumber → ℕ → Type 0) (d : List ℕ) (stop at : ℕ)
    → P RefusalNumber.BlockPastEnd at → P RefusalNumber.BadBlockLength at
    → Refuses P (block_check d stop at)
unfolding block_check
block_refuses P d stop at six seven =
    refuse_if_refuses P (ltb (length d) stop || ltb stop (at + block_size d at)) _ at _ six
    (refuse_if_refuses P (eqb (block_type d at) 12 && idms_length_is_bad (block_length d at)) _ at _ seven
    (passed_refuses P))

-- ---- block_is: what an answer says of the checks

block_unless_report :
    (k : Check) (t : Bool) (b : ℕ) → block_unless k (cond t (Ok Block.Report) (Ok (Block.Skipped b))) ≡ Ok Block.Report
    → (k ≡ passed) × (t ≡ true)
block_unless_report passed true b e = (refl, refl)
block_unless_report passed false b e = let z : ◌≡◌ {A = ℕ} 0 1 = cc in absurd (omega arith)
block_unless_report (refused number place) t b e = let z : ◌≡◌ {A = ℕ} 0 1 = cc in absurd (omega arith)

block_unless_skipped :
    (k : Check) (t : Bool) (b n : ℕ)
    → block_unless k (cond t (Ok Block.Report) (Ok (Block.Skipped b))) ≡ Ok (Block.Skipped n)
    → (k ≡ passed) × (t ≡ false) × (n ≡ b)
block_unless_skipped passed true b n e = let z : ◌≡◌ {A = ℕ} 0 1 = cc in absurd (omega arith)
block_unless_skipped passed false b n e = (refl, refl, cc)
block_unless_skipped (refused number place) t b n e = let z : ◌≡◌ {A = ℕ} 0 1 = cc in absurd (omega arith)

block_unless_refused :
    (k : Check) (t : Bool) (b : ℕ) (n : RefusalNumber)
    → block_unless k (cond t (Ok Block.Report) (Ok (Block.Skipped b))) ≡ Err n
    → (q : ℕ) × (k ≡ refused n q)
block_unless_refused passed true b n e = let z : ◌≡◌ {A = ℕ} 0 1 = cc in absurd (omega arith)
block_unless_refused passed false b n e = let z : ◌≡◌ {A = ℕ} 0 1 = cc in absurd (omega arith)
block_unless_refused (refused number place) t b n e = (place, cc)

-- a block of `bytes` bytes that has passed
pub record BlockPassed (d : List ℕ) (stop at bytes : ℕ) : Type 0 where
  pub check : block_check d stop at ≡ passed
  pub size : bytes ≡ block_size d at
  pub inside : at + bytes ≤ stop
  pub within : stop ≤ length d

module _ (d : List ℕ) (stop at : ℕ) where
  pub met_report : block_is d stop at ≡ Ok Block.Report → BlockPassed d stop at 32 × (reports d at ≡ true)
  unfolding block_is
  met_report e =
      let m : _ = block_unless_report (block_check d stop at) (reports d at) (block_size d at) e in
      let size : 32 ≡ block_size d at = omega (arith, report_words_lem d stop at m.0 m.1) in
      let in' : _ = block_inside d stop at m.0 in
      (record { check = m.0; size = size; inside = omega (arith, in'.0); within = in'.1 }, m.1)

  pub met_skipped :
      (bytes : ℕ) → block_is d stop at ≡ Ok (Block.Skipped bytes) → BlockPassed d stop at bytes × (reports d at ≡ false)
  unfolding block_is
  met_skipped bytes e =
      let m : _ = block_unless_skipped (block_check d stop at) (reports d at) (block_size d at) bytes e in
      let in' : _ = block_inside d stop at m.0 in
      (record { check = m.0; size = m.2; inside = omega (arith, in'.0, m.2); within = in'.1 }, m.1)

  pub met_refused : (n : RefusalNumber) → block_is d stop at ≡ Err n → block_check d stop at ≡ refused n at
  unfolding block_is
  met_refused n e =
      let r : _ = block_unless_refused (block_check d stop at) (reports d at) (block_size d at) n e in
      r.1
      ∙ ap (refused n)
      (block_refuses (λ (number : RefusalNumber) (place : ℕ). place ≡ at) d stop at refl refl n r.0 r.1)

-- no block gives more than one item
pub one_or_none : (t : Bool) → cond t 1 0 ≤ 1
one_or_none true = omega arith
one_or_none false = omega arith

-- ---- report_is

pub report_inside :
    (d : List ℕ) (sender at : ℕ) → 32 ≤ length d - at → report_is d sender at ≡ Some (report_at d sender at)
unfolding report_is
report_inside d sender at h = rw (le-ltb (length d - at) 32 h)

-- ---- block_item

module _ (d : List ℕ) (sender stop at : ℕ) where
  pub item_of :
      {x : Result Block RefusalNumber} → block_is d stop at ≡ x
      → block_item d sender stop at ≡ block_item_of x (report_at d sender at)
  unfolding block_item
  item_of e = ap (λ (x : Result Block RefusalNumber). block_item_of x (report_at d sender at)) e

  -- the other way: what an answer says of the block

  item_of_report :
      (x : Result Block RefusalNumber) (s r : Report) → block_item_of x s ≡ Ok (BlockItem.Report r)
      → (x ≡ Ok Block.Report) × (r ≡ s)
  item_of_report (Ok Block.Report) s r e = (refl, cc)
  item_of_report (Ok (Block.Skipped n)) s r e = let z : ◌≡◌ {A = ℕ} 0 1 = cc in absurd (omega arith)
  item_of_report (Err n) s r e = let z : ◌≡◌ {A = ℕ} 0 1 = cc in absurd (omega arith)

  item_of_skipped :
      (x : Result Block RefusalNumber) (s : Report) (n : ℕ) → block_item_of x s ≡ Ok (BlockItem.Skipped n)
      → x ≡ Ok (Block.Skipped n)
  item_of_skipped (Ok Block.Report) s n e = let z : ◌≡◌ {A = ℕ} 0 1 = cc in absurd (omega arith)
  item_of_skipped (Ok (Block.Skipped m)) s n e = let same : m ≡ n = cc in ap (λ (k : ℕ). Ok (Block.Skipped k)) same
  item_of_skipped (Err m) s n e = let z : ◌≡◌ {A = ℕ} 0 1 = cc in absurd (omega arith)

  item_of_refused :
      (x : Result Block RefusalNumber) (s : Report) (n : RefusalNumber) → block_item_of x s ≡ Err n → x ≡ Err n
  item_of_refused (Ok Block.Report) s n e = let z : ◌≡◌ {A = ℕ} 0 1 = cc in absurd (omega arith)
  item_of_refused (Ok (Block.Skipped m)) s n e = let z : ◌≡◌ {A = ℕ} 0 1 = cc in absurd (omega arith)
  item_of_refused (Err m) s n e = let same : m ≡ n = cc in ap Err same

  pub gave_report :
      (r : Report) → block_item d sender stop at ≡ Ok (BlockItem.Report r)
      → (block_is d stop at ≡ Ok Block.Report) × (r ≡ report_at d sender at)
  unfolding block_item
  gave_report r e = item_of_report (block_is d stop at) (report_at d sender at) r e

  pub gave_skipped :
      (n : ℕ) → block_item d sender stop at ≡ Ok (BlockItem.Skipped n) → block_is d stop at ≡ Ok (Block.Skipped n)
  unfolding block_item
  gave_skipped n e = item_of_skipped (block_is d stop at) (report_at d sender at) n e

  pub gave_refused : (n : RefusalNumber) → block_item d sender stop at ≡ Err n → block_is d stop at ≡ Err n
  unfolding block_item
  gave_refused n e = item_of_refused (block_is d stop at) (report_at d sender at) n e
