-- Laws of a recording's layout.
use Prim.Native.Nat.{ℕ, suc, zero, ◌+◌, ◌-◌, ◌≤◌, ◌<◌}
use mathlib.Core.Path.{◌≡◌, refl, ap, ◌∙◌}
use mathlib.Core.Bool.{Bool, true, false, not, ◌||◌}
use mathlib.Core.List.{List, [], ◌∷◌}
use lib.ListN.{length, take, drop}
use lib.Dec.{ltb, eqb}
use native.Mathlib.Omega.{arith}
use borrow.Author.Tests.{le-ltb, ltb-false, eqb-true}
use Rattle.replay.specs.Recording.{recording_head_size, entry_count, entry_size, entry_place, body_length}
use Rattle.replay.specs.Recording.{recording_limit, entry_limit}
use Rattle.replay.specs.Recording.{RecordedDatagram, entry_reading, entry_origin, entries_from, bodies_end}
use Rattle.replay.specs.Recording.{entries_in, is_bad_layout}

-- ---- bodies_end and entries_from, one entry at a time

pub bodies_none : (f : List ℕ) (n p body : ℕ) → n ≤ 0 → bodies_end f n p body ≡ body
unfolding bodies_end
bodies_none f zero p body h = refl
bodies_none f (suc n) p body h = absurd (omega arith)

pub bodies_more :
    (f : List ℕ) (n p body : ℕ) → 0 < n
    → bodies_end f n p body ≡ bodies_end f (n - 1) (p + entry_size) (body + body_length f p)
unfolding bodies_end
bodies_more f zero p body h = absurd (omega arith)
bodies_more f (suc n) p body h =
    let less : n ≡ suc n - 1 = omega arith in
    ap (λ (k : ℕ). bodies_end f k (p + entry_size) (body + body_length f p)) less

-- the bodies lie behind where the first of them starts
pub bodies_onward : (f : List ℕ) (n p body : ℕ) → body ≤ bodies_end f n p body
unfolding bodies_end
bodies_onward f zero p body = omega arith
bodies_onward f (suc n) p body = omega (arith, bodies_onward f n (p + entry_size) (body + body_length f p))

-- entry i of n, in the loop over them
pub bodies_next :
    (f : List ℕ) (n i body : ℕ) → i < n
    → bodies_end f (n - i) (entry_place i) body
    ≡ bodies_end f (n - (i + 1)) (entry_place (i + 1)) (body + body_length f (entry_place i))
bodies_next f n i body h =
    let less : n - i - 1 ≡ n - (i + 1) = omega arith in
    let place : entry_place i + entry_size ≡ entry_place (i + 1) = omega arith in
    bodies_more f (n - i) (entry_place i) body (omega arith)
    ∙ ap (λ (k : ℕ). bodies_end f k (entry_place i + entry_size) (body + body_length f (entry_place i))) less
    ∙ ap (λ (p : ℕ). bodies_end f (n - (i + 1)) p (body + body_length f (entry_place i))) place

pub entries_none : (f : List ℕ) (n p body : ℕ) → n ≤ 0 → entries_from f n p body ≡ []
unfolding entries_from
entries_none f zero p body h = refl
entries_none f (suc n) p body h = absurd (omega arith)

-- the entry at a place, whose body starts at `body`
abbrev pub recorded_at : List ℕ → ℕ → ℕ → RecordedDatagram
recorded_at f p body =
    record {
      at = entry_reading f p;
      origin = entry_origin f p;
      datagram = take (body_length f p) (drop body f);
    }

entries_more :
    (f : List ℕ) (n p body : ℕ)
    → entries_from f (suc n) p body ≡ recorded_at f p body ∷ entries_from f n (p + entry_size) (body + body_length f p)
unfolding entries_from
entries_more f n p body = refl

pub entries_next :
    (f : List ℕ) (n i body : ℕ) → i < n
    → entries_from f (n - i) (entry_place i) body
    ≡ recorded_at f (entry_place i) body
    ∷ entries_from f (n - (i + 1)) (entry_place (i + 1)) (body + body_length f (entry_place i))
entries_next f n i body h =
    let k = n - (i + 1) in
    let more : n - i ≡ suc k = omega arith in
    let place : entry_place i + entry_size ≡ entry_place (i + 1) = omega arith in
    ap (λ (m : ℕ). entries_from f m (entry_place i) body) more
    ∙ entries_more f k (entry_place i) body
    ∙ ap
    (λ (p : ℕ). recorded_at f (entry_place i) body ∷ entries_from f k p (body + body_length f (entry_place i)))
    place

pub entries_count : (f : List ℕ) (n p body : ℕ) → length (entries_from f n p body) ≡ n
unfolding entries_from
entries_count f zero p body = refl
entries_count f (suc n) p body = ap suc (entries_count f n (p + entry_size) (body + body_length f p))

pub entries_in_lem :
    (f : List ℕ) (n : ℕ) → n ≡ entry_count f → entries_from f n (entry_place 0) (entry_place n) ≡ entries_in f
unfolding entries_in
entries_in_lem f n e = ap (λ (k : ℕ). entries_from f k (entry_place 0) (entry_place k)) e

pub entries_in-count : (f : List ℕ) → length (entries_in f) ≡ entry_count f
unfolding entries_in
entries_in-count f = entries_count f (entry_count f) (entry_place 0) (entry_place (entry_count f))

-- ---- is_bad_layout

-- where the bodies end
abbrev bodies : List ℕ → ℕ
bodies f = bodies_end f (entry_count f) (entry_place 0) (entry_place (entry_count f))

-- what a good layout is
pub record GoodLayout (f : List ℕ) : Type 0 where
  pub short : length f ≤ recording_limit
  pub head : recording_head_size ≤ length f
  pub few : entry_count f ≤ entry_limit
  pub contents : entry_place (entry_count f) ≤ length f
  pub ends : bodies f ≡ length f

pub good_layout : (f : List ℕ) → is_bad_layout f ≡ false → GoodLayout f
unfolding is_bad_layout
good_layout f e =
    go (ltb recording_limit (length f)) refl (ltb (length f) recording_head_size) refl
    (ltb entry_limit (entry_count f)) refl (ltb (length f) (entry_place (entry_count f))) refl
    (eqb (bodies f) (length f)) refl e
  where
    go :
        (a : Bool) → ltb recording_limit (length f) ≡ a
        → (b : Bool) → ltb (length f) recording_head_size ≡ b
        → (c : Bool) → ltb entry_limit (entry_count f) ≡ c
        → (d : Bool) → ltb (length f) (entry_place (entry_count f)) ≡ d
        → (g : Bool) → eqb (bodies f) (length f) ≡ g
        → (a || b || c || d || not g) ≡ false → GoodLayout f
    go false a false b false c false d true g e =
        record {
          short = ltb-false recording_limit (length f) a;
          head = ltb-false (length f) recording_head_size b;
          few = ltb-false entry_limit (entry_count f) c;
          contents = ltb-false (length f) (entry_place (entry_count f)) d;
          ends = eqb-true (bodies f) (length f) g;
        }
    go true a b _ c _ d _ g _ e = let z : ◌≡◌ {A = ℕ} 0 1 = cc in absurd (omega arith)
    go false a true b c _ d _ g _ e = let z : ◌≡◌ {A = ℕ} 0 1 = cc in absurd (omega arith)
    go false a false b true c d _ g _ e = let z : ◌≡◌ {A = ℕ} 0 1 = cc in absurd (omega arith)
    go false a false b false c true d g _ e = let z : ◌≡◌ {A = ℕ} 0 1 = cc in absurd (omega arith)
    go false a false b false c false d false g e = let z : ◌≡◌ {A = ℕ} 0 1 = cc in absurd (omega arith)

-- the last way of 25, where no other applies
pub bad_bodies :
    (f : List ℕ) → length f ≤ recording_limit → recording_head_size ≤ length f → entry_count f ≤ entry_limit
    → entry_place (entry_count f) ≤ length f → (end : ℕ) → end ≡ bodies f
    → not (eqb end (length f)) ≡ is_bad_layout f
unfolding is_bad_layout
bad_bodies f a b c h end e =
    rw (
      e,
      le-ltb recording_limit (length f) a,
      le-ltb (length f) recording_head_size b,
      le-ltb entry_limit (entry_count f) c,
      le-ltb (length f) (entry_place (entry_count f)) h,
    ) refl
