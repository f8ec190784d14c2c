-- Demand 2, second half: what was read writes back as the datagram's own bytes, once reserved bits, padding and an
-- unused presented time are cleared. Each item is read from a block or packet (rtcp's Laws/ItemPlaces), and its fields
-- spell word by word the bytes that were there (Laws/Words).
use Prim.Native.Nat.{ℕ, ◌+◌, ◌*◌, ◌/◌, ◌%◌, ◌^◌, ◌≤◌, ◌<◌}
use Rattle.std.specs.Prelude.{Ok}
use mathlib.Core.Path.{◌≡◌, refl, sym, ap, ap₂, ◌∙◌}
use mathlib.Core.List.{List, [], ◌∷◌, ◌++◌}
use mathlib.Core.Bool.{Bool, true, false, not, cond, ◌&&◌, ◌||◌, and-eq-true_iff}
use lib.ListN.{length, take, drop}
use lib.Dec.{eqb}
use native.Mathlib.Omega.{arith}
use borrow.Author.Tests.{le-ltb, eqb-true, eqb-false, ne_eqb}
use Rattle.buffer.specs.Buffer.{written, buffer}
use Rattle.idms.specs.Rows.{flag}
use Rattle.idms.specs.declared.Report.{Report}
use Rattle.idms.specs.declared.Settings.{Settings}
use Rattle.idms.specs.declared.Item.{Item}
use Rattle.idms.specs.declared.Placed.{Placed}
use Rattle.packet.specs.Bytes.{AreBytes, byte, be16, be32, be64}
use Rattle.packet.specs.Packet.{version, packet_type}
use Rattle.packet.specs.Report.{block_type, block_length, role, block_p, reports, report_at}
use Rattle.packet.specs.Settings.{settings_at}
use Rattle.rtcp.specs.Puts.{flat}
use Rattle.rtcp.specs.Answers.{item_of}
use Rattle.rtcp.proofs.Laws.ItemPlaces.{ReadFrom, report, setting, farewell, item-read}
use Rattle.writer.specs.Messages.{bytes32, bytes_of, report_words, settings_words}
use Rattle.writer.specs.Messages.{report_is_unwritable, report_message, settings_message}
use Rattle.writer.specs.RoundTrip.{part, cleared_report, cleared_settings}
use Rattle.writer.proofs.Laws.Words.{part_word, words_at, words_part, be64_high, be64_low}

-- ---- the report

module _
    (d : List ℕ) (sender at : ℕ) (h : AreBytes d) (r : reports d at ≡ true) (w : block_length d at ≡ 7)
    (l : at + 32 ≤ length d) where
  type_word :
      bytes32 (0x0C100007 + flag (block_p d at) * 2 ^ 16)
      ≡ byte d at ∷ (byte d (at + 1) / 2 ^ 4 * 2 ^ 4 + byte d (at + 1) % 2) ∷ byte d (at + 2) ∷ byte d (at + 3) ∷ []
  unfolding be16
  type_word = go (block_p d at) refl
    where
      both : (eqb (block_type d at) 12 ≡ true) × (eqb (role d at) 1 ≡ true)
      both = (and-eq-true_iff (eqb (block_type d at) 12) (eqb (role d at) 1)).0 r

      twelve : byte d at ≡ 12
      twelve = eqb-true (block_type d at) 12 both.0

      one : byte d (at + 1) / 2 ^ 4 ≡ 1
      one = eqb-true (role d at) 1 both.1

      high : byte d (at + 2) ≡ 0
      high = omega (arith, w, h (at + 2), h (at + 2 + 1))

      low : byte d (at + 3) ≡ 7
      low =
          let next : at + 3 ≡ at + 2 + 1 = omega arith in
          let seven : byte d (at + 2 + 1) ≡ 7 = omega (arith, w, h (at + 2), h (at + 2 + 1)) in
          ap (byte d) next ∙ seven

      go :
          (p : Bool) → block_p d at ≡ p
          → bytes32 (0x0C100007 + flag p * 2 ^ 16)
          ≡ byte d at ∷ (byte d (at + 1) / 2 ^ 4 * 2 ^ 4 + byte d (at + 1) % 2) ∷ byte d (at + 2) ∷ byte d (at + 3) ∷ []
      go true e =
          let odd : byte d (at + 1) % 2 ≡ 1 = eqb-true (byte d (at + 1) % 2) 1 e in
          rw (twelve, one, high, low, odd)
      go false e =
          let even : byte d (at + 1) % 2 ≡ 0 = omega (arith, eqb-false (byte d (at + 1) % 2) 1 e) in
          rw (twelve, one, high, low, even)

  payload_word : bytes32 (byte d (at + 4) / 2 * 2 ^ 25) ≡ (byte d (at + 4) / 2 * 2) ∷ 0 ∷ 0 ∷ 0 ∷ []
  payload_word =
      let b : byte d (at + 4) < 2 ^ 8 = h (at + 4) in
      let first : byte d (at + 4) / 2 * 2 ^ 25 / 2 ^ 24 % 2 ^ 8 ≡ byte d (at + 4) / 2 * 2 = omega arith in
      let second : byte d (at + 4) / 2 * 2 ^ 25 / 2 ^ 16 % 2 ^ 8 ≡ 0 = omega arith in
      let third : byte d (at + 4) / 2 * 2 ^ 25 / 2 ^ 8 % 2 ^ 8 ≡ 0 = omega arith in
      let fourth : byte d (at + 4) / 2 * 2 ^ 25 % 2 ^ 8 ≡ 0 = omega arith in
      λ i. first i ∷ second i ∷ third i ∷ fourth i ∷ []

  -- group, media source, received and RTP: the block's words 2 to 6
  middle_words :
      be32 d (at + 8) ∷ be32 d (at + 12) ∷ be64 d (at + 16) / 2 ^ 32 ∷ be64 d (at + 16) % 2 ^ 32 ∷ be32 d (at + 24) ∷ []
      ≡ words_at d (at + 8) 5
  middle_words =
      let media : at + 12 ≡ at + 8 + 4 = omega arith in
      let high : at + 16 ≡ at + 8 + 4 + 4 = omega arith in
      let low : at + 16 + 4 ≡ at + 8 + 4 + 4 + 4 = omega arith in
      let rtp : at + 24 ≡ at + 8 + 4 + 4 + 4 + 4 = omega arith in
      λ i.
      be32 d (at + 8)
      ∷ be32 d (media i)
      ∷ (be64_high d (at + 16) h ∙ ap (be32 d) high) i
      ∷ (be64_low d (at + 16) h ∙ ap (be32 d) low) i
      ∷ be32 d (rtp i)
      ∷ []

  presented_word :
      bytes32 (cond (block_p d at) (be32 d (at + 28)) 0)
      ≡ cond (block_p d at) (part d (at + 28) 4) (0 ∷ 0 ∷ 0 ∷ 0 ∷ [])
  presented_word = go (block_p d at)
    where
      go : (p : Bool) → bytes32 (cond p (be32 d (at + 28)) 0) ≡ cond p (part d (at + 28) 4) (0 ∷ 0 ∷ 0 ∷ 0 ∷ [])
      go true = part_word d (at + 28) h (omega arith)
      go false = refl

  block_written : drop 8 (bytes_of (report_words (report_at d sender at))) ≡ cleared_report d at
  unfolding report_at
  block_written =
      ap₂ ◌++◌ type_word
      (ap₂ ◌++◌ payload_word
      (ap₂ ◌++◌ (ap (flat bytes32) middle_words ∙ words_part d (at + 8) 5 h (omega arith)) presented_word))

-- An item that was read never has a payload type above 127, or P 0 with presented non-zero: of refusal 11 the group
-- alone is left.
only_group :
    (d : List ℕ) (sender at : ℕ) → AreBytes d
    → report_is_unwritable (report_at d sender at) ≡ eqb (report_at d sender at).group 4294967295
unfolding report_at report_is_unwritable
only_group d sender at h =
    rw (le-ltb 127 (byte d (at + 4) / 2) (omega (arith, h (at + 4))))
    (go (block_p d at) (eqb (be32 d (at + 8)) 4294967295))
  where
    go : (p g : Bool) → (g || (not p && not (eqb (cond p (be32 d (at + 28)) 0) 0))) ≡ g
    go true true = refl
    go true false = refl
    go false true = refl
    go false false = refl

-- what is known of a report that was read
record ReadReport (d : List ℕ) (place : ℕ) (r : Report) : Type 0 where
  block : drop 8 (bytes_of (report_words r)) ≡ cleared_report d place
  group : report_is_unwritable r ≡ eqb r.group 4294967295

read-report :
    (reduced : Bool) (d : List ℕ) (index place : ℕ) (r : Report) → AreBytes d
    → item_of reduced d index ≡ Ok (record { place = place; item = Item.Report r }) → ReadReport d place r
read-report reduced d index place r h e = take (item-read reduced d index _ e) refl
  where
    take : {x : Placed} → ReadFrom d x → x ≡ record { place = place; item = Item.Report r } → ReadReport d place r
    take (report sender at t w l) e =
        let there : at ≡ place = ap (λ (y : Placed). y.place) e in
        let items : Item.Report (report_at d sender at) ≡ Item.Report r = ap (λ (y : Placed). y.item) e in
        let same : report_at d sender at ≡ r = cc in
        record {
          block =
              sym (ap (λ (y : Report). drop 8 (bytes_of (report_words y))) same)
              ∙ block_written d sender at h t w l
              ∙ ap (cleared_report d) there;
          group =
              sym (ap report_is_unwritable same)
              ∙ only_group d sender at h
              ∙ ap (λ (y : Report). eqb y.group 4294967295) same;
        }
    take (setting p v t l) e =
        let z : ◌≡◌ {A = ℕ} 0 1 = cc (ap (λ (y : Placed). y.item) e) in absurd (omega arith)
    take (farewell at source) e =
        let z : ◌≡◌ {A = ℕ} 0 1 = cc (ap (λ (y : Placed). y.item) e) in absurd (omega arith)

-- A report that was read, whether or not reduced size was agreed, can be written back exactly if its group is not
-- 4,294,967,295.
pub report_writable :
    (reduced : Bool) (d : List ℕ) (index place : ℕ) (r : Report) → AreBytes d
    → item_of reduced d index ≡ Ok (record { place = place; item = Item.Report r })
    → report_is_unwritable r ≡ eqb r.group 4294967295
report_writable reduced d index place r h e = (read-report reduced d index place r h e).group

-- Then, in every buffer of 40 bytes or more, the writer answers that it wrote 40 bytes, and the block among them is the
-- datagram's own 8 words at the item's place, cleared.
pub report_read_write :
    (reduced : Bool) (d buf : List ℕ) (index place : ℕ) (r : Report) → AreBytes d
    → item_of reduced d index ≡ Ok (record { place = place; item = Item.Report r })
    → (r.group ≡ 4294967295 → ⊥) → 40 ≤ length buf
    → (written (report_message r) buf ≡ Ok 40)
    × (part (buffer (report_message r) buf) 8 32 ≡ cleared_report d place)
report_read_write reduced d buf index place r h e g l =
    let known : ReadReport d place r = read-report reduced d index place r h e in
    rw (known.group, ne_eqb r.group 4294967295 g, le-ltb (length buf) 40 l) (refl, known.block)

-- ---- the settings

module _
    (d : List ℕ) (p : ℕ) (h : AreBytes d) (v : version d p ≡ 2) (t : packet_type d p ≡ 211)
    (l : p + 36 ≤ length d) where
  -- sender, media source, group, received, RTP and presented: the packet's words 1 to 8
  settings_words_lem :
      be32 d (p + 4)
      ∷ be32 d (p + 8)
      ∷ be32 d (p + 12)
      ∷ be64 d (p + 16) / 2 ^ 32
      ∷ be64 d (p + 16) % 2 ^ 32
      ∷ be32 d (p + 24)
      ∷ be64 d (p + 28) / 2 ^ 32
      ∷ be64 d (p + 28) % 2 ^ 32
      ∷ []
      ≡ words_at d (p + 4) 8
  settings_words_lem =
      let media : p + 8 ≡ p + 4 + 4 = omega arith in
      let group : p + 12 ≡ p + 4 + 4 + 4 = omega arith in
      let high : p + 16 ≡ p + 4 + 4 + 4 + 4 = omega arith in
      let low : p + 16 + 4 ≡ p + 4 + 4 + 4 + 4 + 4 = omega arith in
      let rtp : p + 24 ≡ p + 4 + 4 + 4 + 4 + 4 + 4 = omega arith in
      let high' : p + 28 ≡ p + 4 + 4 + 4 + 4 + 4 + 4 + 4 = omega arith in
      let low' : p + 28 + 4 ≡ p + 4 + 4 + 4 + 4 + 4 + 4 + 4 + 4 = omega arith in
      λ i.
      be32 d (p + 4)
      ∷ be32 d (media i)
      ∷ be32 d (group i)
      ∷ (be64_high d (p + 16) h ∙ ap (be32 d) high) i
      ∷ (be64_low d (p + 16) h ∙ ap (be32 d) low) i
      ∷ be32 d (rtp i)
      ∷ (be64_high d (p + 28) h ∙ ap (be32 d) high') i
      ∷ (be64_low d (p + 28) h ∙ ap (be32 d) low') i
      ∷ []

  packet_written : bytes_of (settings_words (settings_at d p)) ≡ cleared_settings d p
  unfolding settings_at
  packet_written =
      let first : 128 ≡ byte d p / 2 ^ 6 * 2 ^ 6 = omega arith in
      λ i.
      first i
      ∷ sym t i
      ∷ 0
      ∷ 8
      ∷ (ap (flat bytes32) settings_words_lem ∙ words_part d (p + 4) 8 h (omega arith)) i

-- For settings that were read and may be written, in every buffer of 36 bytes or more: the writer answers that it wrote
-- 36 bytes, and they are the packet's own at the item's place, cleared.
pub settings_read_write :
    (reduced : Bool) (d buf : List ℕ) (index place : ℕ) (s : Settings) → AreBytes d
    → item_of reduced d index ≡ Ok (record { place = place; item = Item.Settings s })
    → (s.group ≡ 4294967295 → ⊥) → 36 ≤ length buf
    → (written (settings_message s) buf ≡ Ok 36)
    × (take 36 (buffer (settings_message s) buf) ≡ cleared_settings d place)
settings_read_write reduced d buf index place s h e g l =
    rw (ne_eqb s.group 4294967295 g, le-ltb (length buf) 36 l) (refl, found (item-read reduced d index _ e) refl)
  where
    found :
        {x : Placed} → ReadFrom d x → x ≡ record { place = place; item = Item.Settings s }
        → bytes_of (settings_words s) ≡ cleared_settings d place
    found (setting p v t l) e =
        let there : p ≡ place = ap (λ (y : Placed). y.place) e in
        let items : Item.Settings (settings_at d p) ≡ Item.Settings s = ap (λ (y : Placed). y.item) e in
        let same : settings_at d p ≡ s = cc in
        sym (ap (λ (y : Settings). bytes_of (settings_words y)) same)
        ∙ packet_written d p h v t l
        ∙ ap (cleared_settings d) there
    found (report sender at t w l) e =
        let z : ◌≡◌ {A = ℕ} 0 1 = cc (ap (λ (y : Placed). y.item) e) in absurd (omega arith)
    found (farewell at source) e =
        let z : ◌≡◌ {A = ℕ} 0 1 = cc (ap (λ (y : Placed). y.item) e) in absurd (omega arith)
