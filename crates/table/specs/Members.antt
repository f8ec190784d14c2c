-- The member table (document 01): 64 places, of which a single word marks those held, its lowest bit the first place.
use Rattle.std.specs.Prelude.{ℕ, ◌+◌, ◌/◌, not, cond, ◌&&◌, List, [], ◌∷◌, map, eqb, get_or, replicate}
use Rattle.places.specs.Places.{is_free, held_in, holds_place}
use Rattle.register.specs.declared.Member.{Member}
use Rattle.register.specs.declared.Opening.{Opening}
use Rattle.register.specs.Register.{Rows, has_number}
use Rattle.register.specs.Tallies.{Members, records_of}
use Rattle.choosing.specs.Marked.{zeros, nobody, marked_at}
use Rattle.table.specs.declared.Table.{Table}
use Rattle.table.specs.declared.Place.{Place}

-- the group, the media source and the rate that a table bears
abbrev pub opening_of : Table → Opening
opening_of t = t.opening

-- what a place holds that was never taken
abbrev pub vacant : Member
vacant = record { «record» = zeros (replicate 16 0); tally = 0 }

-- a table for an opening, without members
unfoldable pub empty_table : Opening → Table
empty_table o =
    record { opening = o; held = 0; members = replicate 64 vacant }

-- ---- who is a member

-- the members at the places held, in the order of places
abbrev pub members_of : Table → Members
members_of t = marked_at t.held t.members

-- how many members there are: the word's ones
unfoldable pub member_count : Table → ℕ
member_count t = held_in 64 t.held

-- the member at a place, or none
unfoldable pub place_at : Table → ℕ → Place
place_at t place =
    cond (holds_place t.held place) (record { held = 1; member = get_or t.members place nobody })
    (record { held = 0; member = vacant })

-- ---- places

-- the records at all 64 places, held or not
abbrev pub records_in : Table → Rows
records_in t = records_of t.members

-- the place of the member with a number, or behind the last where none has it: 64 in a table
unfoldable pub place_of : ℕ → ℕ → Rows → ℕ
place_of source word [] = 0
place_of source word (m ∷ ms) =
    cond (not (is_free word) && has_number source m) 0 (1 + place_of source (word / 2) ms)

-- the members' source numbers, and the place among them alone
abbrev pub sources_of : Members → List ℕ
sources_of ms = map (λ (m : Member). m.«record».source) ms

unfoldable pub place_among : ℕ → ℕ → List ℕ → ℕ
place_among source word [] = 0
place_among source word (number ∷ numbers) =
    cond (not (is_free word) && eqb number source) 0 (1 + place_among source (word / 2) numbers)

abbrev pub place_in : Table → ℕ → ℕ
place_in t source = place_of source t.held (records_in t)
