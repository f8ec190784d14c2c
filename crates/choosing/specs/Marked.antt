-- Members at places, of which a word marks some, its lowest bit the first place.
use Rattle.std.specs.Prelude.{ℕ, ◌+◌, ◌*◌, ◌/◌, Bool, not, cond, ◌&&◌, List, [], ◌∷◌}
use Rattle.places.specs.Places.{is_free, bit}
use Rattle.register.specs.declared.Record.{Record}
use Rattle.register.specs.declared.Member.{Member}

-- a record of zeros, its address of any bytes
abbrev pub zeros : List ℕ → Record
zeros address =
    record {
      source = 0;
      origin = record { address = address; port = 0 };
      report = record {
        payload_type = 0;
        p = 0;
        group = 0;
        media = 0;
        received = 0;
        rtp = 0;
        presented = 0;
      };
    }

-- the default of a place behind the last, which is never seen
abbrev pub nowhere : Record
nowhere = zeros []

-- the same as a member
abbrev pub nobody : Member
nobody = record { «record» = nowhere; tally = 0 }

-- what stands at the places that a word marks, rows or members, in the order of places
unfoldable pub marked_at : {A : Type 0} → ℕ → List A → List A
marked_at word [] = []
marked_at word (m ∷ ms) = let rest = marked_at (word / 2) ms in cond (is_free word) rest (m ∷ rest)

-- the word that marks those of the places at which what stands passes a test
unfoldable pub filter_word : {A : Type 0} → (A → Bool) → ℕ → List A → ℕ
filter_word test word [] = 0
filter_word test word (m ∷ ms) = bit (not (is_free word) && test m) + 2 * filter_word test (word / 2) ms
