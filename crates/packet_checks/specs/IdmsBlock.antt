-- An IDMS report block (RFC 7272 section 6), which has type 12, on plain values.
use Rattle.std.specs.Prelude.{ℕ, Bool, not, cond, eqb}
use Rattle.std.specs.Prelude.{Result, Ok, Err}
use Rattle.refusals.specs.declared.RefusalNumber.{RefusalNumber}
use Rattle.packet_checks.specs.declared.block.Block.{Block}

-- check 7: its length is other than 7 words after its first, whatever its role
abbrev pub idms_length_is_bad : ℕ → Bool
idms_length_is_bad words = not (eqb words 7)

-- role 1 gives an item, role 0 or 2 to 15 none
abbrev pub role_reports : ℕ → Bool
role_reports role = eqb role 1

-- where P is 0, presented is not looked at and reads as 0
abbrev pub presented_if : Bool → ℕ → ℕ
presented_if p field = cond p field 0

-- what is answered of such a block: check 7, then whether it gives an item; one that gives none is stepped over with
-- its 32 bytes
abbrev pub idms_block : ℕ → ℕ → Result Block RefusalNumber
idms_block words role =
    cond (idms_length_is_bad words)
    (Err RefusalNumber.BadBlockLength)
    (cond (role_reports role) (Ok Block.Report) (Ok (Block.Skipped 32)))
