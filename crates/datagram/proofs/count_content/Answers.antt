-- The count of a readable packet, by its type.
use Prim.Native.Nat.{ℕ, ◌+◌}
use Rattle.std.specs.Prelude.{Ok}
use mathlib.Core.Path.{◌≡◌, sym, ap, ◌∙◌}
use mathlib.Core.List.{List}
use mathlib.Core.Logic.{inl, inr}
use native.Mathlib.Omega.{arith}
use Rattle.packet.specs.Packet.{count, kind}
use Rattle.packet.specs.Answers.{head_of}
use Rattle.packet.specs.declared.header.Head.{Head}
use Rattle.packet_checks.specs.declared.kind.PacketType.{PacketType}
use Rattle.datagram.proofs.Laws.Datagram.{length-source_items, count_of_type}
use Rattle.packet.proofs.Laws.Contents.{type_holds, held_sources, held_blocks, readable_packet}
use Rattle.datagram.proofs.count_content.Goals as goal

-- the type that the header was read with
typed : (d : List ℕ) (p : ℕ) (h : Head) {t : PacketType} → h ≡ head_of d p → h.kind ≡ t → kind d p ≡ t
typed d p h e f = sym (ap (λ (x : Head). x.kind) e) ∙ f

pub count_blocks-requires : goal.count_blocks-requires
count_blocks-requires c =
    let d = c.args.d.now in
    let p = c.args.p in
    let h : _ = readable_packet d p c.requires.1 in
    let m : _ = ap (λ (x : Head). x.content) c.requires.0 in
    let w : _ = held_blocks d p _ _ _ _ (type_holds d p _ h (typed d p c.args.h c.requires.0 c.in-Xr.is)) in
    (omega (arith, m, w.2), omega (arith, m, h.inside, h.fits))

pub returns-in-Sr : goal.returns-in-Sr
returns-in-Sr c =
    elim c.in-Sr.is [
      | inl w ↦ sym (count_of_type c.args.d.now c.args.p _ (typed c.args.d.now c.args.p c.args.h c.requires.0 w.1))
      | inr w ↦
          elim w [
            | inl v ↦ sym (count_of_type c.args.d.now c.args.p _ (typed c.args.d.now c.args.p c.args.h c.requires.0 v.1))
            | inr v ↦ sym (count_of_type c.args.d.now c.args.p _ (typed c.args.d.now c.args.p c.args.h c.requires.0 v))
          ]
    ]

pub returns-in-Bye : goal.returns-in-Bye
returns-in-Bye c =
    let d = c.args.d.now in
    let p = c.args.p in
    let t : kind d p ≡ PacketType.Bye c.in-Bye.field-0 = typed d p c.args.h c.requires.0 c.in-Bye.is in
    let w : _ = held_sources d p _ _ _ (type_holds d p _ (readable_packet d p c.requires.1) t) in
    ap (λ (x : Head). Ok x.count) c.requires.0
    ∙ sym
    (count_of_type d p _ t
    ∙ ap Ok (length-source_items d (count d p) _ (p + 4) (omega (arith, w.1))))

pub returns-in-Xr : goal.returns-in-Xr
returns-in-Xr c =
    let d = c.args.d.now in
    let p = c.args.p in
    let m : _ = ap (λ (x : Head). x.content) c.requires.0 in
    let r : _ = c.count_blocks.ensures in
    (rw m at r) ∙ sym (count_of_type d p _ (typed d p c.args.h c.requires.0 c.in-Xr.is))

pub returns-in-Settings : goal.returns-in-Settings
returns-in-Settings c =
    let d = c.args.d.now in
    let p = c.args.p in
    sym (count_of_type d p _ (typed d p c.args.h c.requires.0 c.in-Settings.is))
