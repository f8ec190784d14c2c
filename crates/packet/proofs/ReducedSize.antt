-- What reduced size changes of a packet's checks (E2).
use Prim.Native.Nat.{ℕ, ◌+◌}
use Rattle.refusals.specs.declared.RefusalNumber.{RefusalNumber}
use mathlib.Core.Path.{◌≡◌, refl, ap, ◌∙◌}
use mathlib.Core.List.{List}
use mathlib.Core.Bool.{Bool, true, false, not, ◌&&◌}
use lib.ListN.{length}
use lib.Dec.{ltb, eqb}
use native.Mathlib.Omega.{arith}
use Rattle.packet_checks.specs.Header.{opens, first_is_bad, content_is_short}
use Rattle.packet_checks.proofs.ReducedSize.{unagreed_first, agreed_first, behind_first}
use Rattle.packet.specs.Checks.{Check, passed, refused, refuse_if}
use Rattle.packet.specs.Packet.{version, kind, size, padding_is_bad, content, head_check}
use Rattle.packet.proofs.Laws.Checks.{Refuses, passed_refuses, refuse_if_refuses}

-- ---- checks 2 to 5, with check 4 as it is given

abbrev head_with : Bool → List ℕ → ℕ → Check
head_with first d p =
    refuse_if (not (eqb (version d p) 2)) RefusalNumber.BadPacket p
    (refuse_if (ltb (length d) (p + size d p)) RefusalNumber.BadPacket p
    (refuse_if (padding_is_bad d p) RefusalNumber.BadPadding p
    (refuse_if first RefusalNumber.BadFirst p
    (refuse_if (content_is_short (kind d p) (content d p)) RefusalNumber.ShortContent p
    passed))))

-- without check 4 the answer is the same, unless it was 4
without_four :
    (first : Bool) (d : List ℕ) (p : ℕ) → (head_with first d p ≡ refused RefusalNumber.BadFirst p → ⊥)
    → head_with false d p ≡ head_with first d p
without_four first d p h =
    go (not (eqb (version d p) 2)) (ltb (length d) (p + size d p)) (padding_is_bad d p) first h
  where
    later : Check
    later = refuse_if (content_is_short (kind d p) (content d p)) RefusalNumber.ShortContent p passed

    before : Bool → Bool → Bool → Check → Check
    before a b e rest =
        refuse_if a RefusalNumber.BadPacket p
        (refuse_if b RefusalNumber.BadPacket p (refuse_if e RefusalNumber.BadPadding p rest))

    go :
        (a b e f : Bool)
        → (before a b e (refuse_if f RefusalNumber.BadFirst p later)
        ≡ refused RefusalNumber.BadFirst p → ⊥)
        → before a b e later
        ≡ before a b e (refuse_if f RefusalNumber.BadFirst p later)
    go true b e f h = refl
    go false true e f h = refl
    go false false true f h = refl
    go false false false false h = refl
    go false false false true h = absurd (h refl)

-- ---- check 4, by whether reduced size was agreed

-- Where reduced size was not agreed, the checks are document 01's.
pub unagreed_as_before :
    (d : List ℕ) (p : ℕ)
    → head_check false d p
    ≡ refuse_if (not (eqb (version d p) 2)) RefusalNumber.BadPacket p
    (refuse_if (ltb (length d) (p + size d p)) RefusalNumber.BadPacket p
    (refuse_if (padding_is_bad d p) RefusalNumber.BadPadding p
    (refuse_if (eqb p 0 && not (opens (kind d p))) RefusalNumber.BadFirst p
    (refuse_if (content_is_short (kind d p) (content d p)) RefusalNumber.ShortContent p
    passed))))
unfolding head_check
unagreed_as_before d p = ap (λ (first : Bool). head_with first d p) (unagreed_first p (kind d p))

-- Where it was agreed, they are the same without 4.
pub agreed_without_four :
    (d : List ℕ) (p : ℕ)
    → head_check true d p
    ≡ refuse_if (not (eqb (version d p) 2)) RefusalNumber.BadPacket p
    (refuse_if (ltb (length d) (p + size d p)) RefusalNumber.BadPacket p
    (refuse_if (padding_is_bad d p) RefusalNumber.BadPadding p
    (refuse_if (content_is_short (kind d p) (content d p)) RefusalNumber.ShortContent p
    passed)))
unfolding head_check
agreed_without_four d p = ap (λ (first : Bool). head_with first d p) (agreed_first p (kind d p))

-- So a packet is then not refused with 4.
pub agreed_not_four :
    (d : List ℕ) (p : ℕ)
    → Refuses (λ (number : RefusalNumber) (place : ℕ). number ≡ RefusalNumber.BadFirst → ⊥) (head_check true d p)
agreed_not_four d p = rw (agreed_without_four d p) checks
  where
    P : RefusalNumber → ℕ → Type 0
    P number place = number ≡ RefusalNumber.BadFirst → ⊥

    checks : Refuses P (head_with false d p)
    checks =
        refuse_if_refuses P (not (eqb (version d p) 2)) _ p _ (λ e. let z : ◌≡◌ {A = ℕ} 0 1 = cc in omega arith)
        (refuse_if_refuses P (ltb (length d) (p + size d p)) _ p _ (λ e. let z : ◌≡◌ {A = ℕ} 0 1 = cc in omega arith)
        (refuse_if_refuses P (padding_is_bad d p) _ p _ (λ e. let z : ◌≡◌ {A = ℕ} 0 1 = cc in omega arith)
        (refuse_if_refuses P (content_is_short (kind d p) (content d p)) _ p _
        (λ e. let z : ◌≡◌ {A = ℕ} 0 1 = cc in omega arith)
        (passed_refuses P))))

-- Unless it is refused with 4 where reduced size was not agreed, it is judged alike where it was.
pub alike_unless_first :
    (d : List ℕ) (p : ℕ) → (head_check false d p ≡ refused RefusalNumber.BadFirst p → ⊥)
    → head_check true d p ≡ head_check false d p
unfolding head_check
alike_unless_first d p h = agreed_without_four d p ∙ without_four (first_is_bad false p (kind d p)) d p h

-- Behind the first packet it makes no difference.
pub alike-behind : (reduced : Bool) (d : List ℕ) (p : ℕ) → (p ≡ 0 → ⊥) → head_check reduced d p ≡ head_check true d p
unfolding head_check
alike-behind reduced d p z = rw (behind_first reduced p (kind d p) z, behind_first true p (kind d p) z)
