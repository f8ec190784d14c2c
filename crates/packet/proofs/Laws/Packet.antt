-- Laws of a packet's header: what each check says once it has passed, and what an answer says of the checks.
use Prim.Native.Nat.{ℕ, ◌+◌, ◌-◌, ◌≤◌}
use Rattle.std.specs.Prelude.{Ok, Err}
use Rattle.refusals.specs.declared.RefusalNumber.{RefusalNumber}
use mathlib.Core.Path.{◌≡◌, refl, ap, ◌∙◌}
use mathlib.Core.List.{List}
use mathlib.Core.Bool.{Bool, true, false, not}
use lib.ListN.{length}
use lib.Dec.{ltb, eqb}
use native.Mathlib.Omega.{arith}
use borrow.Author.Tests.{ltb-false, eqb-true, not-false}
use Rattle.packet_checks.specs.Header.{first_is_bad, content_is_short}
use Rattle.packet.specs.declared.header.Head.{Head}
use Rattle.packet.specs.Checks.{Check, passed, refused}
use Rattle.packet.specs.Packet.{version, padded, kind, size, padding, padding_is_bad, content, head_check}
use Rattle.packet.specs.Answers.{head_of, head_unless, head_is}
use Rattle.packet.proofs.Laws.Checks.{check_passes, Refuses, passed_refuses, refuse_if_refuses}

-- ---- content

pub content-padded : (d : List ℕ) (p : ℕ) → padded d p ≡ true → content d p ≡ size d p - padding d p
unfolding content
content-padded d p e = rw e

pub content_bare : (d : List ℕ) (p : ℕ) → padded d p ≡ false → content d p ≡ size d p
unfolding content
content_bare d p e = rw e

pub content_inside : (d : List ℕ) (p : ℕ) → content d p ≤ size d p
content_inside d p = go (padded d p) refl
  where
    go : (t : Bool) → padded d p ≡ t → content d p ≤ size d p
    go true e = rw (content-padded d p e) (omega arith)
    go false e = rw (content_bare d p e) (omega arith)

-- ---- head_check, once it has passed

-- what is read of the packet lies in the datagram
pub record Readable (d : List ℕ) (p : ℕ) : Type 0 where
  pub fits : p + size d p ≤ length d
  pub inside : content d p ≤ size d p
  pub enough : content_is_short (kind d p) (content d p) ≡ false

pub head_version : (reduced : Bool) (d : List ℕ) (p : ℕ) → head_check reduced d p ≡ passed → version d p ≡ 2
unfolding head_check
head_version reduced d p h =
    eqb-true (version d p) 2 (not-false (eqb (version d p) 2) (check_passes (not (eqb (version d p) 2)) _ _ _ h).0)

pub head_passed : (reduced : Bool) (d : List ℕ) (p : ℕ) → head_check reduced d p ≡ passed → Readable d p
unfolding head_check
head_passed reduced d p h =
    let a : _ = check_passes (not (eqb (version d p) 2)) _ _ _ h in
    let b : _ = check_passes (ltb (length d) (p + size d p)) _ _ _ a.1 in
    let e : _ = check_passes (padding_is_bad d p) _ _ _ b.1 in
    let f : _ = check_passes (first_is_bad reduced p (kind d p)) _ _ _ e.1 in
    let g : _ = check_passes (content_is_short (kind d p) (content d p)) _ _ _ f.1 in
    record {
      fits = ltb-false (length d) (p + size d p) b.0;
      inside = content_inside d p;
      enough = g.0;
    }

-- what holds of each number with the packet's place holds of every refusal
pub head_refuses :
    (P : RefusalNumber → ℕ → Type 0) (reduced : Bool) (d : List ℕ) (p : ℕ)
    → P RefusalNumber.BadPacket p → P RefusalNumber.BadPadding p
    → P RefusalNumber.BadFirst p → P RefusalNumber.ShortContent p
    → Refuses P (head_check reduced d p)
unfolding head_check
head_refuses P reduced d p two three four five =
    refuse_if_refuses P (not (eqb (version d p) 2)) _ p _ two
    (refuse_if_refuses P (ltb (length d) (p + size d p)) _ p _ two
    (refuse_if_refuses P (padding_is_bad d p) _ p _ three
    (refuse_if_refuses P (first_is_bad reduced p (kind d p)) _ p _ four
    (refuse_if_refuses P (content_is_short (kind d p) (content d p)) _ p _ five (passed_refuses P)))))

-- ---- head_is: what an answer says of the checks

head_unless_head : (k : Check) (x h : Head) → head_unless k x ≡ Ok h → (k ≡ passed) × (h ≡ x)
head_unless_head passed x h e = (refl, cc)
head_unless_head (refused number place) x h e = let z : ◌≡◌ {A = ℕ} 0 1 = cc in absurd (omega arith)

head_unless_refused : (k : Check) (x : Head) (n : RefusalNumber) → head_unless k x ≡ Err n → (q : ℕ) × (k ≡ refused n q)
head_unless_refused passed x n e = let z : ◌≡◌ {A = ℕ} 0 1 = cc in absurd (omega arith)
head_unless_refused (refused number place) x n e = (place, cc)

pub head_is_passed :
    (reduced : Bool) (d : List ℕ) (p : ℕ) (h : Head) → head_is reduced d p ≡ Ok h
    → (head_check reduced d p ≡ passed) × (h ≡ head_of d p)
unfolding head_is
head_is_passed reduced d p h e = head_unless_head (head_check reduced d p) (head_of d p) h e

pub head_is_refused :
    (reduced : Bool) (d : List ℕ) (p : ℕ) (n : RefusalNumber) → head_is reduced d p ≡ Err n
    → head_check reduced d p ≡ refused n p
unfolding head_is
head_is_refused reduced d p n e =
    let r : _ = head_unless_refused (head_check reduced d p) (head_of d p) n e in
    r.1
    ∙ ap (refused n)
    (head_refuses (λ (number : RefusalNumber) (place : ℕ). place ≡ p) reduced d p refl refl refl refl n r.0 r.1)
