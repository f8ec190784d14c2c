-- The step by what the packet holds. One that is readable has its settings.
use mathlib.Core.Path.{◌≡◌, sym, ◌∙◌}
use Rattle.std.proofs.Common.{rules}
use Rattle.std.specs.Prelude.{Some, None}
use Rattle.packet.specs.declared.contents.Packet.{Packet}
use Rattle.packet.specs.Answers.{packet_is}
use Rattle.packet.proofs.Laws.Contents.{settings-read, settings_not_outside}
use Rattle.rtcp.proofs.Laws.Advance.{at_packet_lem}
use Rattle.rtcp.proofs.cursor.at_packet.Goals as goal

pub returns-in_err-next : goal.returns-in_err-next
returns-in_err-next c =
    let e : c.from_residual.result ≡ None = search rules in
    let f : packet_is c.args.d.now c.args.p ≡ None = search rules in
    e ∙ sym (at_packet_lem c.args.d.now c.args.p f)

pub returns-in-Unread : goal.returns-in-Unread
returns-in-Unread c =
    let e : packet_is c.args.d.now c.args.p ≡ Some (Packet.Unread c.in-Unread.next) = search rules in
    sym (at_packet_lem c.args.d.now c.args.p e)

pub returns-in-Sources : goal.returns-in-Sources
returns-in-Sources c =
    let s = c.in-Sources in
    let e : packet_is c.args.d.now c.args.p ≡ Some (Packet.Sources s.first s.stop s.next) = search rules in
    sym (at_packet_lem c.args.d.now c.args.p e)

pub returns-in-Blocks : goal.returns-in-Blocks
returns-in-Blocks c =
    let b = c.in-Blocks in
    let e : packet_is c.args.d.now c.args.p ≡ Some (Packet.Blocks b.sender b.first b.stop b.next) = search rules in
    sym (at_packet_lem c.args.d.now c.args.p e)

pub returns-in_err-settings_at-in-Settings : goal.returns-in_err-settings_at-in-Settings
returns-in_err-settings_at-in-Settings c =
    absurd (settings_not_outside c.args.d.now c.args.p c.in-Settings.next (search rules) (search rules))

pub returns-in_ok-settings_at-in-Settings : goal.returns-in_ok-settings_at-in-Settings
returns-in_ok-settings_at-in-Settings c =
    let e : packet_is c.args.d.now c.args.p ≡ Some (Packet.Settings c.in-Settings.next) = search rules in
    let f : _ = settings-read c.args.d.now c.args.p _ e c.in_ok-settings_at-in-Settings.field-0 (search rules) in
    let g : _ = at_packet_lem c.args.d.now c.args.p e in cc
