-- The blocks of an XR packet that have passed, one by one, by what is found at each.
use Prim.Native.Nat.{ℕ, ◌+◌, ◌≤◌, ◌<◌}
use Rattle.std.specs.Prelude.{Some, Ok, Err}
use mathlib.Core.Path.{◌≡◌, ap, ◌∙◌}
use mathlib.Core.List.{List, ◌∷◌, ◌++◌}
use lib.ListN.{length}
use native.Mathlib.Omega.{arith}
use Rattle.refusals.specs.declared.RefusalNumber.{RefusalNumber}
use Rattle.idms.specs.declared.Item.{Item}
use Rattle.idms.specs.declared.Placed.{Placed}
use Rattle.idms.specs.declared.Report.{Report}
use Rattle.packet_checks.specs.declared.block.Block.{Block}
use Rattle.packet.specs.Checks.{passed}
use Rattle.packet.specs.Report.{block_size, report_at}
use Rattle.packet.specs.Answers.{block_is, report_is}
use Rattle.packet.proofs.Laws.Blocks.{items_none, items_one, met_report, met_skipped, met_refused, report_inside}
use Rattle.datagram.specs.Datagram.{blocks_check, blocks_items}
use Rattle.datagram.proofs.Laws.Datagram.{blocks_turn}

-- a block of some bytes, and the items from it on where those behind it are known
pub record BlockTurn (d : List ℕ) (sender stop at bytes : ℕ) (items : List Placed → List Placed) : Type 0 where
  pub inside : at + bytes ≤ stop
  pub within : stop ≤ length d
  pub whole : 4 ≤ bytes
  pub later : blocks_check d stop (at + bytes) ≡ passed
  pub all : blocks_items d sender stop at ≡ items (blocks_items d sender stop (at + bytes))

module _ (d : List ℕ) (sender stop at : ℕ) (here : at < stop) (check : blocks_check d stop at ≡ passed) where
  pub report_turn :
      block_is d stop at ≡ Ok Block.Report
      → BlockTurn d sender stop at 32
      (λ (l : List Placed). record { place = at; item = Item.Report (report_at d sender at) } ∷ l)
  report_turn e =
      let g : _ = met_report d stop at e in
      let turn : _ = blocks_turn d sender stop at here check in
      let size : at + block_size d at ≡ at + 32 = omega (arith, g.0.size) in
      record {
        inside = g.0.inside;
        within = g.0.within;
        whole = omega arith;
        later = rw size at turn.later;
        all =
            turn.items
            ∙ ap (λ (l : List Placed). l ++ blocks_items d sender stop (at + block_size d at)) (items_one d sender at g.1)
            ∙ ap (λ (k : ℕ). record { place = at; item = Item.Report (report_at d sender at) } ∷ blocks_items d sender stop k) size;
      }

  pub skipped_turn :
      (bytes : ℕ) → block_is d stop at ≡ Ok (Block.Skipped bytes)
      → BlockTurn d sender stop at bytes (λ (l : List Placed). l)
  skipped_turn bytes e =
      let g : _ = met_skipped d stop at bytes e in
      let turn : _ = blocks_turn d sender stop at here check in
      let size : at + block_size d at ≡ at + bytes = omega (arith, g.0.size) in
      record {
        inside = g.0.inside;
        within = g.0.within;
        whole = omega (arith, g.0.size);
        later = rw size at turn.later;
        all =
            turn.items
            ∙ ap (λ (l : List Placed). l ++ blocks_items d sender stop (at + block_size d at)) (items_none d sender at g.1)
            ∙ ap (λ (k : ℕ). blocks_items d sender stop k) size;
      }

  pub not-refused : (number : RefusalNumber) → block_is d stop at ≡ Err number → ⊥
  not-refused number e =
      let k : _ = (blocks_turn d sender stop at here check).check in
      let r : _ = met_refused d stop at number e in
      cc

-- the fields of a report whose block has passed
pub fields_there :
    (d : List ℕ) (sender stop at : ℕ) → block_is d stop at ≡ Ok Block.Report
    → report_is d sender at ≡ Some (report_at d sender at)
fields_there d sender stop at e =
    let g : _ = met_report d stop at e in
    report_inside d sender at (omega (arith, g.0.inside, g.0.within))

-- and as a call has given them
pub fields_read :
    (d : List ℕ) (sender stop at : ℕ) (r : Report) → block_is d stop at ≡ Ok Block.Report
    → report_is d sender at ≡ Some r → r ≡ report_at d sender at
fields_read d sender stop at r e f = let g : _ = fields_there d sender stop at e in cc
