-- Document 02, E8: what is asked of reports whose order of arrival must not matter.
use Rattle.std.specs.Prelude.{ℕ, ◌≡◌}
use mathlib.Core.List.{List, [], ◌∷◌, Memᴰ}
use Rattle.register.specs.Register.{Call}

-- of a list of answers each is 0: every call was accepted
unfoldable pub AllAccepted : List ℕ → Type 0
AllAccepted [] = Unit
AllAccepted (number ∷ numbers) = (number ≡ 0) × AllAccepted numbers

-- both calls are reports, and from different source numbers
abbrev pub FromDifferentSources : Call → Call → Type 0
FromDifferentSources (Call.report x at) (Call.report y then) = x.source ≡ y.source → ⊥
FromDifferentSources (Call.report x at) (Call.farewell source origin) = ⊥
FromDifferentSources (Call.report x at) (Call.sweep then) = ⊥
FromDifferentSources (Call.farewell source origin) second = ⊥
FromDifferentSources (Call.sweep at) second = ⊥

-- each call of the one list with each of the other; so, unless a list is empty, all of them are reports
abbrev pub AllFromDifferentSources : (first second : List Call) → Type 0
AllFromDifferentSources first second =
    (a b : Call) → Memᴰ a first → Memᴰ b second → FromDifferentSources a b
