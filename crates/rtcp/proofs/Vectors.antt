-- The definitions at datagrams from the papers.
use Prim.Native.Nat.{ℕ, ◌+◌, ◌*◌, ◌^◌}
use Rattle.std.specs.Prelude.{Ok, Err}
use Rattle.refusals.specs.declared.RefusalNumber.{RefusalNumber}
use mathlib.Core.Path.{◌≡◌, refl}
use mathlib.Core.Bool.{Bool, true, false}
use mathlib.Core.List.{List, [], ◌∷◌, ◌++◌}
use Rattle.idms.specs.declared.Report.{Report}
use Rattle.idms.specs.declared.Settings.{Settings}
use Rattle.idms.specs.declared.Item.{Item}
use Rattle.packet.specs.Bytes.{be16, be32, be64}
use Rattle.packet_checks.specs.Header.{kind_of, first_is_bad}
use Rattle.packet.specs.Packet.{padding_is_bad, content, head_check}
use Rattle.packet.specs.Report.{block_check, report_at, block_items}
use Rattle.packet.specs.Settings.{settings_at}
use Rattle.datagram.specs.Walk.{walking, walk}
use Rattle.datagram.specs.Datagram.{packet_check, packet_items, datagram_check, datagram_items}
use Rattle.datagram.specs.Answers.{refusal, item_count}
use Rattle.rtcp.specs.Answers.{item_of, pick}

-- an RR of 8 bytes with count 0
rr : List ℕ
rr = 0x80 ∷ 0xC9 ∷ 0 ∷ 1 ∷ 0 ∷ 0 ∷ 0 ∷ 9 ∷ []

-- document 01, P5: the report of P2 with payload type 33
p5 : List ℕ
p5 =
    0x80 ∷ 0xCF ∷ 0x00 ∷ 0x09 ∷ 0x00 ∷ 0x00 ∷ 0x00 ∷ 0x14
    ∷ 0x0C ∷ 0x11 ∷ 0x00 ∷ 0x07 ∷ 0x42 ∷ 0x00 ∷ 0x00 ∷ 0x00
    ∷ 0x00 ∷ 0x00 ∷ 0x00 ∷ 0x2A ∷ 0x00 ∷ 0x00 ∷ 0x00 ∷ 0x07
    ∷ 0x00 ∷ 0x00 ∷ 0x03 ∷ 0xE6 ∷ 0x00 ∷ 0x00 ∷ 0x00 ∷ 0x00
    ∷ 0x00 ∷ 0x86 ∷ 0x95 ∷ 0x20 ∷ 0x03 ∷ 0xE6 ∷ 0xC0 ∷ 0x00 ∷ []

p5_report : Report
p5_report =
    record {
      sender = 20;
      payload_type = 33;
      p = true;
      group = 42;
      media = 7;
      received = 998 * 2 ^ 32;
      rtp = 8820000;
      presented = 0x03E6C000;
    }

-- document 01, P3: the settings of the choice, from sender 1
p3 : List ℕ
p3 =
    0x80 ∷ 0xD3 ∷ 0x00 ∷ 0x08 ∷ 0x00 ∷ 0x00 ∷ 0x00 ∷ 0x01
    ∷ 0x00 ∷ 0x00 ∷ 0x00 ∷ 0x07 ∷ 0x00 ∷ 0x00 ∷ 0x00 ∷ 0x2A
    ∷ 0x00 ∷ 0x00 ∷ 0x03 ∷ 0xE6 ∷ 0x00 ∷ 0x00 ∷ 0x00 ∷ 0x00
    ∷ 0x00 ∷ 0x86 ∷ 0x95 ∷ 0x20 ∷ 0x00 ∷ 0x00 ∷ 0x03 ∷ 0xE6
    ∷ 0xC0 ∷ 0x00 ∷ 0x00 ∷ 0x00 ∷ []

p3_settings : Settings
p3_settings =
    record {
      sender = 1;
      media = 7;
      group = 42;
      received = 998 * 2 ^ 32;
      rtp = 8820000;
      presented = 998 * 2 ^ 32 + 0xC0000000;
    }

-- a BYE packet of source 10, padded by 4 bytes
padded_bye : List ℕ
padded_bye = 0xA1 ∷ 0xCB ∷ 0 ∷ 2 ∷ 0 ∷ 0 ∷ 0 ∷ 10 ∷ 0 ∷ 0 ∷ 0 ∷ 4 ∷ []

-- Whether or not reduced size was agreed: the empty datagram; one RR alone; P5 and P3 behind an RR; both behind one RR,
-- and the second of them; a padded BYE alone. Where it was not: P5 alone. Where it was: P5 alone; P3 first, and P5
-- behind it; a padded BYE behind P5. Each is computed from the definitions.
vectors :
    (reduced : Bool)
    → (item_count reduced [] ≡ Err (refusal RefusalNumber.BadLength 0))
    × (item_count reduced rr ≡ Ok 0)
    × (item_of reduced rr 0 ≡ Err (refusal RefusalNumber.NoSuchItem 0))
    × (item_of reduced (rr ++ p5) 0 ≡ Ok (record { place = 16; item = Item.Report p5_report }))
    × (item_of reduced (rr ++ p3) 0 ≡ Ok (record { place = 8; item = Item.Settings p3_settings }))
    × (item_count reduced (rr ++ p5 ++ p3) ≡ Ok 2)
    × (item_of reduced (rr ++ p5 ++ p3) 1 ≡ Ok (record { place = 48; item = Item.Settings p3_settings }))
    × (item_count reduced padded_bye ≡ Err (refusal RefusalNumber.BadPadding 0))
    × (item_count false p5 ≡ Err (refusal RefusalNumber.BadFirst 0))
    × (item_of true p5 0 ≡ Ok (record { place = 8; item = Item.Report p5_report }))
    × (item_of true (p3 ++ p5) 0 ≡ Ok (record { place = 0; item = Item.Settings p3_settings }))
    × (item_of true (p5 ++ padded_bye) 1 ≡ Ok (record { place = 44; item = Item.Farewell 10 }))
unfolding item_count item_of pick datagram_check datagram_items walk walking packet_check packet_items head_check padding_is_bad content kind_of first_is_bad block_check block_items report_at settings_at be16 be32 be64 rr p5 p5_report p3 p3_settings padded_bye
vectors reduced = (refl, refl, refl, refl, refl, refl, refl, refl, refl, refl, refl, refl)
