-- Bytes in front of others, and a list between two fixed ends.
use Prim.Native.Nat.{ℕ, ◌+◌, ◌-◌, ◌≤◌}
use mathlib.Core.Bool.{true, false≢true, and-eq-true_iff}
use mathlib.Core.List.{List, [], ◌∷◌, ◌++◌, append_assoc}
use mathlib.Core.Path.{◌≡◌, refl, sym, ap, ◌∙◌}
use lib.Dec.{eqb}
use borrow.Rule.Slice.PartMut.{put_mid}
use lib.ListN.{length, take, drop, length-append, length-drop, take-append-drop}
use lib.Seq.{take-take, take_all, take-append_seam}
use lib.Seq.{drop-append_seam, drop-drop}
use lib.Seq.{slice}
use native.Mathlib.Omega.{arith}
use borrow.Author.Tests.{eqb-true, eq-eqb}
use Rattle.sdp.specs.Answers.{starts_with}

-- ---- starts_with as equality

pub starts_take : (bytes d : List ℕ) → starts_with bytes d ≡ true → take (length bytes) d ≡ bytes
unfolding starts_with
starts_take [] d e = refl
starts_take (b ∷ bytes) [] e = absurd (false≢true e)
starts_take (b ∷ bytes) (x ∷ d) e =
    let both : _ = (and-eq-true_iff (eqb x b) (starts_with bytes d)).0 e in
    let first : x ≡ b = eqb-true x b both.0 in
    let rest : take (length bytes) d ≡ bytes = starts_take bytes d both.1 in
    cc

pub starts_append : (bytes d : List ℕ) → starts_with bytes (bytes ++ d) ≡ true
unfolding starts_with
starts_append [] d = refl
starts_append (b ∷ bytes) d = rw (eq-eqb b b refl) (starts_append bytes d)

-- ---- a list between two ends

pub ends_append : (end l : List ℕ) → drop (length (l ++ end) - length end) (l ++ end) ≡ end
ends_append end l =
    let rest : length (l ++ end) - length end ≡ length l = omega (arith, length-append l end) in
    ap (λ (k : ℕ). drop k (l ++ end)) rest ∙ drop-append_seam l end

module _ (front end : List ℕ) where
  pub between : (l : List ℕ) → slice (length front) (length (front ++ l ++ end) - length end) (front ++ l ++ end) ≡ l
  between l =
      let rest : length (front ++ l ++ end) - length end ≡ length (front ++ l) =
      omega (arith, length-append (front ++ l) end) in
      ap (λ (k : ℕ). drop (length front) (take k (front ++ l ++ end))) rest
      ∙ ap (drop (length front)) (take-append_seam (front ++ l) end)
      ∙ drop-append_seam front l

  pub framed :
      (d : List ℕ) → length front + length end ≤ length d → starts_with front d ≡ true
      → starts_with end (drop (length d - length end) d) ≡ true
      → d ≡ front ++ slice (length front) (length d - length end) d ++ end
  framed d h e f =
      let n = length d - length end in
      let first : take (length front) (take n d) ≡ front =
      take-take (length front) n d (omega arith) ∙ starts_take front d e in
      let last : drop n d ≡ end =
      sym (take_all (length end) (drop n d) (omega (arith, length-drop n d))) ∙ starts_take end (drop n d) f in
      sym (take-append-drop n d)
      ∙ ap (λ (r : List ℕ). take n d ++ r) last
      ∙ ap (λ (r : List ℕ). r ++ end)
      (sym (take-append-drop (length front) (take n d)) ∙ ap (λ (r : List ℕ). r ++ slice (length front) n d) first)

-- ---- three parts put one behind the other

put_behind :
    (done l rest : List ℕ) (at k : ℕ) → at ≡ length done → put_mid at k (done ++ rest) l ≡ done ++ l ++ drop k rest
put_behind done l rest at k e =
    rw (e, take-append_seam done rest, drop-append_seam done rest) (sym (append_assoc done l (drop k rest)))

pub three_parts :
    (p l e buf : List ℕ) (at k m : ℕ) → at ≡ length p + length l → k ≡ length l → m ≡ length e
    → put_mid at m (put_mid (length p) k (p ++ drop (length p) buf) l) e
    ≡ p ++ l ++ e ++ drop (length (p ++ l ++ e)) buf
three_parts p l e buf at k m h i j =
    let rest = drop k (drop (length p) buf) in
    let count : length p + k + m ≡ length (p ++ l ++ e) =
    omega (arith, i, j, length-append p l, length-append (p ++ l) e) in
    ap (λ (b : List ℕ). put_mid at m b e) (put_behind p l (drop (length p) buf) (length p) k refl)
    ∙ put_behind (p ++ l) e rest at m (omega (arith, h, length-append p l))
    ∙ ap (λ (r : List ℕ). p ++ l ++ e ++ r)
    (ap (drop m) (drop-drop k (length p) buf)
    ∙ drop-drop m (length p + k) buf
    ∙ ap (λ (n : ℕ). drop n buf) count)
