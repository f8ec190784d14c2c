-- The rows of a packet that has passed, by what it holds.
use Prim.Native.Nat.{ℕ}
use mathlib.Core.Path.{◌≡◌, refl, sym, ap, ◌∙◌}
use mathlib.Core.List.{List}
use lib.ListN.{length}
use lib.Seq.{paste}
use native.Mathlib.Omega.{arith}
use Rattle.std.proofs.Common.{rules}
use Rattle.std.specs.Prelude.{Some}
use Rattle.idms.specs.Rows.{row_of}
use Rattle.idms.specs.declared.Item.{Item}
use Rattle.idms.specs.declared.Settings.{Settings}
use Rattle.packet.specs.Settings.{settings_at}
use Rattle.packet.specs.Contents.{contents}
use Rattle.datagram.specs.Datagram.{parts_check}
use Rattle.datagram.proofs.Laws.Datagram.{items_of}
use Rattle.packet.proofs.Laws.Contents.{holds, held_sources, readable_packet, packet_read, settings-read, settings_there}
use Rattle.rtcp.proofs.rows.fill_packet.Goals as goal

pub fill_sources-requires : goal.fill_sources-requires
fill_sources-requires c =
    let d = c.args.d.now in
    let p = c.args.p in
    let e : contents d p ≡ _ = sym c.requires.0 ∙ c.in-Sources.is in
    let k : _ = readable_packet d p c.requires.1 in
    let w : _ = held_sources d p _ _ _ (rw e at (holds d p k)) in (
      omega (arith, w.1, w.2, k.fits, k.inside),
      omega (arith, w.0, w.1),
      rw (items_of d p e) at c.requires.3,
    )

pub fill_blocks-requires : goal.fill_blocks-requires
fill_blocks-requires c =
    let d = c.args.d.now in
    let p = c.args.p in
    let e : contents d p ≡ _ = sym c.requires.0 ∙ c.in-Blocks.is in (
      sym (ap (parts_check d) c.in-Blocks.is) ∙ c.requires.2,
      rw (items_of d p e) at c.requires.3,
    )

pub put_row-requires : goal.put_row-requires
put_row-requires c =
    let d = c.args.d.now in
    let p = c.args.p in
    let e : contents d p ≡ _ = sym c.requires.0 ∙ c.in-Settings.is in
    omega (arith, c.requires.3, ap length (items_of d p e))

pub returns-in-Unread : goal.returns-in-Unread
returns-in-Unread c =
    let d = c.args.d.now in
    let p = c.args.p in
    let e : contents d p ≡ _ = sym c.requires.0 ∙ c.in-Unread.is in
    rw (items_of d p e) (omega arith, refl)

pub returns-in-Sources : goal.returns-in-Sources
returns-in-Sources c =
    let d = c.args.d.now in
    let p = c.args.p in
    let e : contents d p ≡ _ = sym c.requires.0 ∙ c.in-Sources.is in
    rw (items_of d p e) c.fill_sources.ensures

pub returns-in-Blocks : goal.returns-in-Blocks
returns-in-Blocks c =
    let d = c.args.d.now in
    let p = c.args.p in
    let e : contents d p ≡ _ = sym c.requires.0 ∙ c.in-Blocks.is in
    rw (items_of d p e) c.fill_blocks.ensures

pub returns-in-Settings : goal.returns-in-Settings
returns-in-Settings c =
    let d = c.args.d.now in
    let p = c.args.p in
    let e : contents d p ≡ _ = sym c.requires.0 ∙ c.in-Settings.is in
    let f : _ = settings-read d p _ (packet_read d p c.requires.1 ∙ ap Some e) c.unwrap.result (search rules) in
    let row : Settings → List ℕ = λ x. row_of (record { place = p; item = Item.Settings x }) in
    rw (items_of d p e) (
      omega arith,
      c.put_row.ensures
          ∙ ap (λ (x : Settings). paste c.args.rows.now c.args.at (row x) 10) f,
    )

pub unwrap-requires : goal.unwrap-requires
unwrap-requires c =
    let d = c.args.d.now in
    let p = c.args.p in
    let e : contents d p ≡ _ = sym c.requires.0 ∙ c.in-Settings.is in
    let f : c.settings_at.result ≡ Some (settings_at d p) =
    c.settings_at.ensures ∙ settings_there d p _ (packet_read d p c.requires.1 ∙ ap Some e) in
    search rules
