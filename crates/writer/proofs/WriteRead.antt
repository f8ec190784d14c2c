-- Demand 2, first half: what a writer leaves in the buffer reads back as the same fields. The datagram is written out,
-- so that the walk over it computes; what is left is that four bytes spell their word.
use Prim.Native.Nat.{ℕ, ◌+◌, ◌*◌, ◌/◌, ◌%◌, ◌^◌, ◌≤◌}
use Rattle.std.specs.Prelude.{Ok}
use mathlib.Core.Path.{◌≡◌, refl, sym, ap}
use mathlib.Core.List.{List}
use mathlib.Core.Bool.{Bool, true, false, cond}
use lib.ListN.{length, take}
use native.Mathlib.Omega.{arith}
use borrow.Author.Tests.{le-ltb, ne_eqb}
use Rattle.buffer.specs.Buffer.{written, buffer}
use Rattle.idms.specs.declared.Report.{Report}
use Rattle.idms.specs.declared.Settings.{Settings}
use Rattle.idms.specs.declared.Item.{Item}
use Rattle.packet.specs.Bytes.{be16, be32, be64}
use Rattle.datagram.specs.Walk.{walking, walk}
use Rattle.packet_checks.specs.Header.{kind_of, first_is_bad}
use Rattle.packet.specs.Packet.{padding_is_bad, content, head_check}
use Rattle.packet.specs.Report.{block_check, report_at, block_items}
use Rattle.packet.specs.Settings.{settings_at}
use Rattle.datagram.specs.Datagram.{packet_check, packet_items, datagram_check, datagram_items}
use Rattle.datagram.specs.Answers.{item_count}
use Rattle.rtcp.specs.Answers.{item_of, pick}
use Rattle.writer.specs.Messages.{bytes_of, report_words, settings_words}
use Rattle.writer.specs.Messages.{report_is_unwritable, report_message, settings_message}
use Rattle.writer.specs.RoundTrip.{ReadBack, ReportFits, SettingsFit}
use Rattle.writer.proofs.Laws.Messages.{writable, writable_presented}
use Rattle.writer.proofs.Laws.Words.{spelt, spelt_word, spelt_halves}

-- ---- the report

-- as the walk reads it, by P
report_back : Report → Bool → Report
report_back r p =
    record {
      sender = spelt r.sender;
      payload_type = r.payload_type * 2 ^ 25 / 2 ^ 24 % 2 ^ 8 / 2;
      p = p;
      group = spelt r.group;
      media = spelt r.media;
      received = spelt (r.received / 2 ^ 32) * 2 ^ 32 + spelt (r.received % 2 ^ 32);
      rtp = spelt r.rtp;
      presented = cond p (spelt r.presented) 0;
    }

report_in : Report → Bool → Report
report_in r p =
    record {
      sender = r.sender;
      payload_type = r.payload_type;
      p = p;
      group = r.group;
      media = r.media;
      received = r.received;
      rtp = r.rtp;
      presented = r.presented;
    }

walk-report :
    (r : Report) (p : Bool) → ReadBack (bytes_of (report_words (report_in r p))) 8 (Item.Report (report_back r p))
unfolding report_in report_back item_count item_of pick datagram_check datagram_items walk walking packet_check
    packet_items head_check padding_is_bad content kind_of first_is_bad block_check block_items report_at be16 be32 be64
walk-report r true =
    record { behind_an_rr = λ reduced ssrc. (refl, refl); alone = (refl, refl); alone-refused = refl }
walk-report r false =
    record { behind_an_rr = λ reduced ssrc. (refl, refl); alone = (refl, refl); alone-refused = refl }

same-report : (r : Report) → ReportFits r → report_is_unwritable r ≡ false → report_back r r.p ≡ r
unfolding report_back
same-report r fits h =
    λ i. record {
      sender = spelt_word r.sender fits.sender i;
      payload_type = payload i;
      p = r.p;
      group = spelt_word r.group fits.group i;
      media = spelt_word r.media fits.media i;
      received = spelt_halves r.received fits.received i;
      rtp = spelt_word r.rtp fits.rtp i;
      presented = shown r.p refl i;
    }
  where
    payload : r.payload_type * 2 ^ 25 / 2 ^ 24 % 2 ^ 8 / 2 ≡ r.payload_type
    payload = omega (arith, (writable r h).payload)

    shown : (p : Bool) → r.p ≡ p → cond p (spelt r.presented) 0 ≡ r.presented
    shown true e = spelt_word r.presented fits.presented
    shown false e = sym (writable_presented r h e)

-- For all fields that may be written, in every buffer of 40 bytes or more: the writer answers that it wrote 40 bytes,
-- and the buffer's first 40 give exactly one item, with these fields: behind an RR of any sender whether or not reduced
-- size was agreed, and alone where it was.
pub report_write_read :
    (r : Report) (buf : List ℕ) → ReportFits r → report_is_unwritable r ≡ false → 40 ≤ length buf
    → (written (report_message r) buf ≡ Ok 40)
    × ReadBack (take 40 (buffer (report_message r) buf)) 8 (Item.Report r)
unfolding report_in
report_write_read r buf fits h l =
    let same : Item.Report (report_back r r.p) ≡ Item.Report r = ap Item.Report (same-report r fits h) in
    rw (h, le-ltb (length buf) 40 l) (refl, rw same at (walk-report r r.p))

-- ---- the settings

settings_back : Settings → Settings
settings_back s =
    record {
      sender = spelt s.sender;
      media = spelt s.media;
      group = spelt s.group;
      received = spelt (s.received / 2 ^ 32) * 2 ^ 32 + spelt (s.received % 2 ^ 32);
      rtp = spelt s.rtp;
      presented = spelt (s.presented / 2 ^ 32) * 2 ^ 32 + spelt (s.presented % 2 ^ 32);
    }

walk-settings : (s : Settings) → ReadBack (bytes_of (settings_words s)) 0 (Item.Settings (settings_back s))
unfolding settings_back item_count item_of pick datagram_check datagram_items walk walking packet_check packet_items
    head_check padding_is_bad content kind_of first_is_bad settings_at be16 be32 be64
walk-settings s =
    record { behind_an_rr = λ reduced ssrc. (refl, refl); alone = (refl, refl); alone-refused = refl }

same-settings : (s : Settings) → SettingsFit s → settings_back s ≡ s
unfolding settings_back
same-settings s fits =
    λ i. record {
      sender = spelt_word s.sender fits.sender i;
      media = spelt_word s.media fits.media i;
      group = spelt_word s.group fits.group i;
      received = spelt_halves s.received fits.received i;
      rtp = spelt_word s.rtp fits.rtp i;
      presented = spelt_halves s.presented fits.presented i;
    }

-- The same of settings: 36 bytes, for every group but 4,294,967,295.
pub settings_write_read :
    (s : Settings) (buf : List ℕ) → SettingsFit s → (s.group ≡ 4294967295 → ⊥) → 36 ≤ length buf
    → (written (settings_message s) buf ≡ Ok 36)
    × ReadBack (take 36 (buffer (settings_message s) buf)) 0 (Item.Settings s)
settings_write_read s buf fits g l =
    let same : Item.Settings (settings_back s) ≡ Item.Settings s = ap Item.Settings (same-settings s fits) in
    rw (ne_eqb s.group 4294967295 g, le-ltb (length buf) 36 l) (refl, rw same at (walk-settings s))
