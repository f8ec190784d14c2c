-- One member of a table that lies in memory: its cell is taken out of the table's, and put back with another member in
-- it. For calls that store in place and are walked by hand.
use mathlib.Core.Path.{◌≡◌, refl, sym, subst, ◌∙◌}
use Prim.Native.Nat.{ℕ, ◌<◌, ◌+◌, ◌*◌}
use mathlib.Core.List.{[], ◌∷◌, List}
use lib.ListN.{length, get_or, set, length-set}
use seplogic.Ra.Ura.{Ura}
use mir.Val.{Val}
use base.Logic.{ent, sep, wand, apply∗}
use base.Fml.{Share, Fml, fsep}
use types.Logic.{Logic, sem}
use denote.Steps.{owned}
use types.Kit.{Item, Goal, Seq, ‵, raw, ◌⊛◌, ◌$◌, ◌∵◌, !, qed, move, drop, use1, use2, split, rewrite}
use types.Kit.{assume, fsplit, fjoin, feq_l, feq_i, fpack, fpick, frame, done}
use types.Share.{arr_parts}
use denote.Laws.{Is, shows}
use denote.RattleType.{RattleType}
use denote.Memory.{cell_at, part_at, shares, part_of}
use denote.Array.{Array}
use denote.ArrayMemory.{Array-apart, Array-whole}
use denote.Index.{place_is, elem_out, elem_put}
use denote.Struct.Laws as LL
use borrow.Struct.Behind.{put_at_lem}
use Rattle.register.specs.declared.Member.{Member}
use Rattle.register.specs.contracts.Member as Mb
use Rattle.register.proofs.Member.TheLaws as Mb'
use Rattle.choosing.specs.Marked.{nobody}
use Rattle.table.specs.declared.Table.{Table}
use Rattle.table.specs.Calls.{with_member}
use Rattle.table.specs.contracts.Table as T
use Rattle.table.proofs.Table.TheLaws as T'

-- ---- a value in memory is its cell and what it owns

module _ {M : Type 1} {𝓤 : Ura M} (𝓛 : Logic 𝓤) (R : RattleType) where
  pub value_whole :
      (q : Share) (x : R.Denot) (vs : List Val) (b o : ℕ) →
      ent 𝓤 (sep 𝓤 (sem 𝓛 (cell_at q R.mir vs b o)) (sem 𝓛 (R.own_val x vs))) (sem 𝓛 (part_at R q x b o))
  unfolding part_of
  value_whole q x vs b o =
      qed 𝓛 (‵ (cell_at q R.mir vs b o) ∷ ‵ (R.own_val x vs) ∷ []) ∵
      fjoin ! $ fpack ! (List Val) (λ us. fsep (cell_at q R.mir us b o) (R.own_val x us)) vs $ done !

module _
    {M : Type 1} {𝓤 : Ura M} {𝓛 : Logic 𝓤} {K : Type 0} {Γ : List (Item 𝓤)}
    {G : Goal 𝓤 𝓛.H} where
  pub value_apart :
      K → (R : RattleType) (q : Share) (x : R.Denot) (b o : ℕ) →
      ((vs : List Val) → Seq K 𝓛 (‵ (cell_at q R.mir vs b o) ∷ ‵ (R.own_val x vs) ∷ Γ) G) →
      Seq K 𝓛 (‵ (part_at R q x b o) ∷ Γ) G
  unfolding part_of
  value_apart t R q x b o k = fpick t (λ vs. fsplit t $ k vs)

-- ---- a member's cell

abbrev pub member_val : Member → Val
member_val = LL.val Mb.the_type Mb'.the_laws

-- the members start at byte 24 of a table, and each takes 64
module _
    {M : Type 1} {𝓤 : Ura M} (𝓛 : Logic 𝓤)
    (q : Share) (t : Table) (b o i : ℕ) (small : i < 64) (m : Member) (is : Is Mb.the_row m (member_val m ∷ [])) where
  abbrev there : Member
  there = get_or t.members i nobody

  -- the cell as it was, and with the other member
  abbrev pub Cell : Fml
  Cell = cell_at q (Mb.the_row).mir (member_val there ∷ []) b (i * 64 + (o + 24))

  abbrev pub Stored : Fml
  Stored = cell_at q (Mb.the_row).mir (member_val m ∷ []) b (i * 64 + (o + 24))

  -- the table as it was, and with the other member
  abbrev pub Whole : Fml
  Whole = part_at T.the_row q t b o

  abbrev pub After : Fml
  After = part_at T.the_row q (with_member t i m) b o

  abbrev Before : Fml
  Before = part_at (Array Mb.the_row 64) q t.members b (o + 24)

  abbrev Behind : Fml
  Behind = part_at (Array Mb.the_row 64) q (set t.members i m) b (o + 24)

  pub stored : ent 𝓤 (sem 𝓛 Whole) (sep 𝓤 (sem 𝓛 Cell) (wand 𝓤 (sem 𝓛 Stored) (sem 𝓛 After)))
  stored =
      qed 𝓛 (‵ Whole ∷ []) ∵
      use1 𝓛 (‵ Before ⊛ raw (wand 𝓤 (sem 𝓛 Behind) (sem 𝓛 After)))
      (put_at_lem 𝓛 q T.the_type T'.the_loose 2 24 refl refl (b, o) t (with_member t i m) ((T.struct).as_values t)
      (set t.members i m) refl refl) $ split ! $
      use1 𝓛 (‵ ((arr_parts (shares Mb.the_row) 64).part q t.members b (o + 24)))
      (Array-apart 𝓛 Mb.the_row q tt 64 t.members b (o + 24)) $ fsplit ! $ feq_l ! (λ len.
      elem_out ! Mb.the_row (Is Mb.the_row) (shows 𝓛 Mb.the_row) (LL.vals Mb.the_type Mb'.the_laws)
      (LL.tells Mb.the_type Mb'.the_laws) q t.members i nobody b (o + 24) (within len) (λ _.
      rewrite ! 0 (λ (p : ℕ). ‵ (cell_at q (Mb.the_row).mir (member_val there ∷ []) b p)) (place_is 64 (o + 24) i) refl $
      frame ! $ drop ! $ assume ! (‵ Stored) $
      rewrite ! 0 (λ (p : ℕ). ‵ (cell_at q (Mb.the_row).mir (member_val m ∷ []) b p))
      (sym (place_is 64 (o + 24) i)) refl $
      owned ! Mb.the_row (Is Mb.the_row) (LL.makes Mb.the_type Mb'.the_plain 𝓛) m _ is $ move ! (1 ∷ 0 ∷ []) $
      elem_put ! Mb.the_row q t.members i m (member_val m ∷ []) b (o + 24) (within len) $
      feq_i ! ℕ (length (set t.members i m)) 64 (length-set t.members i m ∙ len) $ fjoin ! $
      use1 𝓛 (‵ Behind) (Array-whole 𝓛 Mb.the_row q 64 (set t.members i m) b (o + 24)) $
      use2 𝓛 (‵ After) (apply∗ 𝓤 (sem 𝓛 Behind) (sem 𝓛 After)) $ done !))
    where
      within : length t.members ≡ 64 → i < length t.members
      within len = subst (λ (n : ℕ). i < n) (sym len) small
