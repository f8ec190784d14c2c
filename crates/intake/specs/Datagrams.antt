-- A whole datagram taken into a table: it is checked first; then each report and each farewell in it is a call, in the
-- order of items, and its number goes into a lent list. A list shorter than the calls gets 10, and nothing changes.
use Rattle.std.specs.Prelude.{ℕ, Bool, cond, List, [], ◌∷◌, ◌++◌, ltb, length}
use Rattle.idms.specs.declared.Item.{Item}
use Rattle.idms.specs.declared.Placed.{Placed}
use Rattle.refusals.specs.Refusals.{short_buffer, refusal_number}
use Rattle.origin.specs.declared.Origin.{Origin}
use Rattle.packet.specs.Checks.{Check, passed, refused}
use Rattle.datagram.specs.Datagram.{datagram_check, datagram_items}
use Rattle.register.specs.declared.Reading.{Reading}
use Rattle.register.specs.Register.{Call}
use Rattle.table.specs.declared.Table.{Table}
use Rattle.table.specs.Intake.{record_of}
use Rattle.table.specs.History.{table_from}
use Rattle.table.specs.Numbers.{numbers_into}
use Rattle.intake.specs.declared.DatagramAnswered.{DatagramAnswered}

-- the call that an item is, under its datagram's origin and reading; settings are none
abbrev pub calls_of : Origin → Reading → Item → List Call
calls_of origin at (Item.Report r) = Call.report (record_of r origin) at ∷ []
calls_of origin at (Item.Farewell source) = Call.farewell source origin ∷ []
calls_of origin at (Item.Settings s) = []

unfoldable pub calls_in : Origin → Reading → List Placed → List Call
calls_in origin at [] = []
calls_in origin at (x ∷ xs) = calls_of origin at x.item ++ calls_in origin at xs

-- ---- a list of calls, where the datagram passed its checks

abbrev pub calls_answered : Table → List Call → List ℕ → DatagramAnswered
calls_answered t calls answers =
    cond (ltb (length answers) (length calls)) (record { number = short_buffer; place = 0; count = 0; table = t })
    (record { number = 0; place = 0; count = length calls; table = table_from t calls })

abbrev pub numbers_after : Table → List Call → List ℕ → List ℕ
numbers_after t calls answers = cond (ltb (length answers) (length calls)) answers (numbers_into t calls answers)

-- ---- a datagram

abbrev pub answered_unless : Check → Table → List Call → List ℕ → DatagramAnswered
answered_unless passed t calls answers = calls_answered t calls answers
answered_unless (refused number place) t calls answers =
    record { number = refusal_number number; place = place; count = 0; table = t }

abbrev pub numbers_unless : Check → Table → List Call → List ℕ → List ℕ
numbers_unless passed t calls answers = numbers_after t calls answers
numbers_unless (refused number place) t calls answers = answers

-- what taking a datagram in answers, with the table afterwards; `reduced` says whether reduced size was agreed
unfoldable pub datagram_answered : Table → Bool → List ℕ → Origin → Reading → List ℕ → DatagramAnswered
datagram_answered t reduced d origin at answers =
    answered_unless (datagram_check reduced d) t (calls_in origin at (datagram_items d)) answers

-- and the lent list afterwards
unfoldable pub answers_after : Table → Bool → List ℕ → Origin → Reading → List ℕ → List ℕ
answers_after t reduced d origin at answers =
    numbers_unless (datagram_check reduced d) t (calls_in origin at (datagram_items d)) answers
