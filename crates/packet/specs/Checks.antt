-- What a check answers.
use Rattle.std.specs.Prelude.{ℕ, Bool, true, false}
use Rattle.refusals.specs.declared.RefusalNumber.{RefusalNumber}

-- what checks answer: that none applies, or the number and the byte place of the first that does
pub data Check : Type 0 where
  passed : Check
  refused : RefusalNumber → ℕ → Check

-- one check: where it applies it answers, with its number and a place; else the checks after it do
abbrev pub refuse_if : Bool → RefusalNumber → ℕ → Check → Check
refuse_if true number place later = refused number place
refuse_if false number place later = later

-- a group of checks before another
abbrev pub and_then : Check → Check → Check
and_then passed later = later
and_then (refused number place) later = refused number place
