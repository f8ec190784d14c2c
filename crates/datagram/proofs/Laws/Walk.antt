-- Laws of a walk, for any parts, and of the count that a loop over parts keeps.
use Prim.Native.Nat.{ℕ, suc, zero, ◌+◌, ◌-◌, ◌*◌, ◌≤◌, ◌<◌}
use Rattle.refusals.specs.declared.RefusalNumber.{RefusalNumber}
use Rattle.std.specs.Prelude.{Result, Ok, Err}
use mathlib.Core.Path.{◌≡◌, refl, sym, ap, ◌∙◌}
use mathlib.Core.List.{List, [], ◌++◌}
use mathlib.Core.Bool.{Bool, true, false}
use lib.Dec.{ltb}
use lib.ListN.{length, length-append}
use native.Mathlib.Nat.{add_assoc, add-zero}
use native.Mathlib.Omega.{arith}
use borrow.Author.Tests.{lt-ltb, le-ltb, ltb-true, ltb-false}
use Rattle.idms.specs.declared.Placed.{Placed}
use Rattle.idms.specs.declared.Refusal.{Refusal}
use Rattle.packet.specs.Checks.{Check, passed, refused, and_then}
use Rattle.datagram.specs.Walk.{walking, walk, check_each, gives}
use Rattle.datagram.specs.Answers.{refusal, count_unless}
use Rattle.packet.proofs.Laws.Checks.{both_pass, Refuses, passed_refuses, and_then_refuses}

-- ---- walk

module _ {R : Type 0} (join : ℕ → R → R) (none : R) (size : ℕ → ℕ) (stop : ℕ) where
  walking-part :
      (k place : ℕ) → place < stop
      → walking (suc k) join none size stop place ≡ join place (walking k join none size stop (place + size place))
  unfolding walking
  walking-part k place h = rw (lt-ltb place stop h, walking)

  walking_end : (k place : ℕ) → stop ≤ place → walking k join none size stop place ≡ none
  unfolding walking
  walking_end zero place h = refl
  walking_end (suc k) place h = rw (le-ltb place stop h, walking)

  module _ (grows : (place : ℕ) → 0 < size place) where
    -- any bound that is enough gives the same
    walking_enough :
        (k j place : ℕ) → stop - place ≤ k → stop - place ≤ j
        → walking k join none size stop place ≡ walking j join none size stop place
    walking_enough zero j place hk hj = walking_end zero place (omega arith) ∙ sym (walking_end j place (omega arith))
    walking_enough (suc k) zero place hk hj = walking_end (suc k) place (omega arith) ∙ sym (walking_end zero place (omega arith))
    walking_enough (suc k) (suc j) place hk hj =
        go (ltb place stop) refl
        (walking_enough k j (place + size place) (omega (arith, grows place)) (omega (arith, grows place)))
      where
        go :
            (t : Bool) → ltb place stop ≡ t
            → walking k join none size stop (place + size place) ≡ walking j join none size stop (place + size place)
            → walking (suc k) join none size stop place ≡ walking (suc j) join none size stop place
        go true e rest =
            walking-part k place (ltb-true place stop e)
            ∙ ap (join place) rest
            ∙ sym (walking-part j place (ltb-true place stop e))
        go false e rest =
            walking_end (suc k) place (ltb-false place stop e)
            ∙ sym (walking_end (suc j) place (ltb-false place stop e))

    pub walk-part :
        (place : ℕ) → place < stop
        → walk join none size stop place ≡ join place (walk join none size stop (place + size place))
    unfolding walk
    walk-part place h =
        walking_enough (stop - place) (suc (stop - place)) place (omega arith) (omega arith)
        ∙ walking-part (stop - place) place h
        ∙ ap (join place)
        (walking_enough (stop - place) (stop - (place + size place)) (place + size place) (omega arith) (omega arith))

    pub walk_end : (place : ℕ) → stop ≤ place → walk join none size stop place ≡ none
    unfolding walk
    walk_end place h = walking_end (stop - place) place h

-- ---- what holds of every part's refusals holds of the walk's

pub check_each_refuses :
    (P : RefusalNumber → ℕ → Type 0) (check : ℕ → Check) (size : ℕ → ℕ) (stop place : ℕ) → ((p : ℕ) → Refuses P (check p))
    → Refuses P (check_each check size stop place)
unfolding walk walking
check_each_refuses P check size stop place f = go (stop - place) place
  where
    go :
        (k place : ℕ)
        → Refuses P (walking k (λ (p : ℕ) (later : Check). and_then (check p) later) passed size stop place)
    go zero place = passed_refuses P
    go (suc k) place = turn (ltb place stop) refl (go k (place + size place))
      where
        turn :
            (t : Bool) → ltb place stop ≡ t
            → Refuses P (walking k (λ (p : ℕ) (later : Check). and_then (check p) later) passed size stop (place + size place))
            → Refuses P (walking (suc k) (λ (p : ℕ) (later : Check). and_then (check p) later) passed size stop place)
        turn true t rest = rw (t, walking) (and_then_refuses P (check place) _ (f place) rest)
        turn false t rest = rw (t, walking) (passed_refuses P)

-- ---- checks and gives together: parts of at least four bytes an item have no more items than words

module _ (check : ℕ → Check) (give : ℕ → List Placed) (size : ℕ → ℕ) (stop : ℕ) (grows : (place : ℕ) → 0 < size place) where
  pub check_each-part :
      (place : ℕ) → place < stop → check_each check size stop place ≡ and_then (check place) (check_each check size stop (place + size place))
  check_each-part place h = walk-part (λ (p : ℕ) (later : Check). and_then (check p) later) passed size stop grows place h

  pub check_each_end : (place : ℕ) → stop ≤ place → check_each check size stop place ≡ passed
  check_each_end place h = walk_end (λ (p : ℕ) (later : Check). and_then (check p) later) passed size stop grows place h

  pub gives_part :
      (place : ℕ) → place < stop → gives give size stop place ≡ give place ++ gives give size stop (place + size place)
  gives_part place h = walk-part (λ (p : ℕ) (later : List Placed). give p ++ later) [] size stop grows place h

  pub gives_end : (place : ℕ) → stop ≤ place → gives give size stop place ≡ []
  gives_end place h = walk_end (λ (p : ℕ) (later : List Placed). give p ++ later) [] size stop grows place h

  -- a part that passed lies before the stop, and takes at least four bytes for each of its items
  abbrev pub Roomy : Type 0
  Roomy = (place : ℕ) → place < stop → check place ≡ passed → (place + size place ≤ stop) × (4 * length (give place) ≤ size place)

  module _ (roomy : Roomy) where
    bound : (k place : ℕ) → stop - place ≤ k → check_each check size stop place ≡ passed → 4 * length (gives give size stop place) ≤ stop - place
    bound zero place h e = rw (gives_end place (omega arith)) (omega arith)
    bound (suc k) place h e = go (ltb place stop) refl (λ w. bound k (place + size place) (omega (arith, grows place)) w)
      where
        go :
            (t : Bool) → ltb place stop ≡ t
            → (check_each check size stop (place + size place) ≡ passed
            → 4 * length (gives give size stop (place + size place)) ≤ stop - (place + size place))
            → 4 * length (gives give size stop place) ≤ stop - place
        go false t rest = rw (gives_end place (ltb-false place stop t)) (omega arith)
        go true t rest =
            let here : place < stop = ltb-true place stop t in
            let both : _ =
            both_pass (check place) (check_each check size stop (place + size place)) (sym (check_each-part place here) ∙ e) in
            let room : _ = roomy place here both.0 in
            let later : _ = rest both.1 in
            rw (gives_part place here, length-append) (omega (arith, room.0, room.1, later))

    pub gives_bound : (place : ℕ) → check_each check size stop place ≡ passed → 4 * length (gives give size stop place) ≤ stop - place
    gives_bound place e = bound (stop - place) place (omega arith) e

-- ---- count_unless

pub count_items_lem : (k : Check) (n m : ℕ) → count_unless k n ≡ Ok m → (k ≡ passed) × (m ≡ n)
count_items_lem passed n m e = (refl, cc)
count_items_lem (refused number place) n m e = cc

pub count-refused :
    (k : Check) (n : ℕ) (r : Refusal) → count_unless k n ≡ Err r → k ≡ refused r.number r.place
count-refused passed n r e = cc
count-refused (refused number place) n r e =
    let same : refusal number place ≡ r = cc in
    ap (λ (x : Refusal). refused x.number x.place) same

-- ---- tally: what a loop over parts has yet to answer, with n items count_unless

module _ (check : ℕ → Check) (give : ℕ → List Placed) (size : ℕ → ℕ) (stop : ℕ) where
  abbrev pub tally : ℕ → ℕ → Result ℕ Refusal
  tally n place = count_unless (check_each check size stop place) (n + length (gives give size stop place))

  module _ (grows : (place : ℕ) → 0 < size place) where
    pub tally_refused :
        (n place : ℕ) (number : RefusalNumber) (at : ℕ) → place < stop → check place ≡ refused number at
        → tally n place ≡ Err (refusal number at)
    tally_refused n place number at h e =
        rw (check_each-part check give size stop grows place h, e)

    pub tally_part :
        (n place items bytes : ℕ) → place < stop → check place ≡ passed → items ≡ length (give place) → bytes ≡ size place
        → tally n place ≡ tally (n + items) (place + bytes)
    tally_part n place items bytes h e i b =
        rw (
          check_each-part check give size stop grows place h,
          e,
          gives_part check give size stop grows place h,
          length-append,
          i,
          b,
          add_assoc,
        )

    pub tally_end : (n place : ℕ) → stop ≤ place → tally n place ≡ Ok n
    tally_end n place h =
        rw (
          check_each_end check give size stop grows place h,
          gives_end check give size stop grows place h,
          add-zero,
        )
