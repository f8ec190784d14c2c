-- The numbers of a list of calls, put into a list that is lent for them.
use Rattle.std.specs.Prelude.{ℕ, List, ◌++◌, length, drop}
use Rattle.register.specs.Register.{Call}
use Rattle.table.specs.declared.Table.{Table}
use Rattle.table.specs.History.{answers_from}

-- the numbers at the front, and behind them what was there, in a list no shorter than the calls
abbrev pub numbers_into : Table → List Call → List ℕ → List ℕ
numbers_into t calls lent = answers_from t calls ++ drop (length calls) lent
