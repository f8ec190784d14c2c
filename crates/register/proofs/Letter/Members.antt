-- Who stands after one event more, and which rows a call leaves.
use Prim.Native.Nat.{ℕ}
use mathlib.Core.Bool.{Bool, true, false, cond}
use mathlib.Core.List.Memᴰ
use mathlib.Core.List.{List, [], ◌∷◌, ◌++◌, append_assoc, Memᴰ}
use mathlib.Core.Logic.{◌⊎◌, inl, inr, ⊎_elim, ◌↔◌}
use mathlib.Core.Path.{◌≡◌, refl, sym, ap, ◌∙◌}
use native.Mathlib.Omega.{arith}
use borrow.Author.Tests.{eqb-true, eqb-false, eq-eqb}
use Rattle.register.specs.declared.Record.{Record}
use Rattle.register.specs.declared.Reading.{Reading}
use Rattle.register.specs.declared.Opening.{Opening}
use Rattle.register.specs.Register.{Rows, Call, has_number, renewed}
use Rattle.register.specs.Promise.{Unique}
use Rattle.register.specs.Letter.{Event, got, History, OfEachCall, Ends, Stands}
use Rattle.register.proofs.Rows.{clash}
use Rattle.register.proofs.Unique.{unique-rest, unique_tail}
use Rattle.register.proofs.Letter.Lines.{tells_any}

-- ---- a history with one event more

member_left : {A : Type 0} {x : A} {xs : List A} (ys : List A) → Memᴰ x xs → Memᴰ x (xs ++ ys)
member_left ys (Memᴰ.head e) = Memᴰ.head e
member_left ys (Memᴰ.tail m) = Memᴰ.tail (member_left ys m)

member_right : {A : Type 0} {x : A} (xs : List A) {ys : List A} → Memᴰ x ys → Memᴰ x (xs ++ ys)
member_right [] m = m
member_right (z ∷ zs) m = Memᴰ.tail (member_right zs m)

-- where a history of one event more is split at an event: that event is the last one, or lies in the history before it
pub data Split (h : History) (e : Event) (before : History) (r : Event) (behind : History) : Type 0 where
  here : h ≡ before → e ≡ r → behind ≡ [] → Split h e before r behind
  there : (rest : History) → h ≡ before ++ (r ∷ rest) → behind ≡ rest ++ (e ∷ []) → Split h e before r behind

pub no_cons : (before : History) (r : Event) (behind : History) → [] ≡ before ++ (r ∷ behind) → ⊥
no_cons [] r behind e = let z : ◌≡◌ {A = ℕ} 0 1 = cc in omega arith
no_cons (b ∷ before) r behind e = let z : ◌≡◌ {A = ℕ} 0 1 = cc in omega arith

split_cons :
    {h : History} {e : Event} {before : History} {r : Event} {behind : History} (x b : Event) → x ≡ b →
    Split h e before r behind → Split (x ∷ h) e (b ∷ before) r behind
split_cons x b same (here p q k) = here (cc) q k
split_cons x b same (there rest p k) = there rest (cc) k

pub split_last :
    (h : History) (e : Event) (before : History) (r : Event) (behind : History) →
    h ++ (e ∷ []) ≡ before ++ (r ∷ behind) → Split h e before r behind
split_last [] e [] r behind p = let same : e ≡ r = cc in let rest : [] ≡ behind = cc in here refl same (sym rest)
split_last [] e (b ∷ before) r behind p =
    let rest : [] ≡ before ++ (r ∷ behind) = cc in
    absurd (no_cons before r behind rest)
split_last (x ∷ h) e [] r behind p =
    let same : x ≡ r = cc in
    let rest : h ++ (e ∷ []) ≡ behind = cc in
    there h (ap (λ (y : Event). y ∷ h) same) (sym rest)
split_last (x ∷ h) e (b ∷ before) r behind p =
    let same : x ≡ b = cc in
    let rest : h ++ (e ∷ []) ≡ before ++ (r ∷ behind) = cc in
    split_cons x b same (split_last h e before r behind rest)

pub each_none : (Says : History → Call → ℕ → Type 0) → OfEachCall Says []
each_none Says before call number behind e = absurd (no_cons before (got call number) behind e)

pub each_more :
    (Says : History → Call → ℕ → Type 0) (h : History) (call : Call) (number : ℕ) → OfEachCall Says h →
    Says h call number → OfEachCall Says (h ++ (got call number ∷ []))
each_more Says h call number each says before call' number' behind p =
    go (split_last h (got call number) before (got call' number') behind p)
  where
    go : Split h (got call number) before (got call' number') behind → Says before call' number'
    go (here q e k) =
        let same : call ≡ call' = cc in
        let alike : number ≡ number' = cc in
        rw (q, same, alike) at says
    go (there rest q k) = each before call' number' rest q

-- ---- who stands

-- after one event more there stand whoever it accepted, and who stood before and is not ended by it
abbrev pub StandsAfter : Opening → History → Event → Record → Type 0
StandsAfter o h e x =
    ((at : Reading) × (e ≡ got (Call.report x at) 0)) ⊎ (Stands o h x × (Ends o x e → ⊥))

pub stands_more :
    (o : Opening) (h : History) (e : Event) (x : Record) → Stands o (h ++ (e ∷ [])) x ↔ StandsAfter o h e x
stands_more o h e x = (earlier, ⊎_elim anew still)
  where
    earlier : Stands o (h ++ (e ∷ [])) x → StandsAfter o h e x
    earlier s = go (split_last h e s.before (got (Call.report x s.at) 0) s.behind s.reported)
      where
        go : Split h e s.before (got (Call.report x s.at) 0) s.behind → StandsAfter o h e x
        go (here p q k) = inl (s.at, q)
        go (there rest p k) =
            let last : (f : Event) → Memᴰ f (rest ++ (e ∷ [])) → Ends o x f → ⊥ = rw k at s.last in
            inr (
              record {
                before = s.before;
                at = s.at;
                behind = rest;
                reported = p;
                last = λ f m. last f (member_left (e ∷ []) m);
              },
              last e (member_right rest (Memᴰ.head refl)),
            )

    anew : (at : Reading) × (e ≡ got (Call.report x at) 0) → Stands o (h ++ (e ∷ [])) x
    anew by =
        record {
          before = h;
          at = by.0;
          behind = [];
          reported = ap (λ (f : Event). h ++ (f ∷ [])) by.1;
          last = λ f m. absurd (Memᴰ.not-nil m);
        }

    still : Stands o h x × (Ends o x e → ⊥) → Stands o (h ++ (e ∷ [])) x
    still both =
        let s : Stands o h x = both.0 in
        record {
          before = s.before;
          at = s.at;
          behind = s.behind ++ (e ∷ []);
          reported = ap (λ (g : History). g ++ (e ∷ [])) s.reported ∙ append_assoc s.before _ (e ∷ []);
          last = λ f m. ⊎_elim (s.last f) (own f) (Memᴰ.append_cases s.behind m);
        }
      where
        own : (f : Event) → Memᴰ f (e ∷ []) → Ends o x f → ⊥
        own f (Memᴰ.tail x6) ends = elim x6 [ ]
        own f (Memᴰ.head q) ends = both.1 (rw q at ends)

-- ---- which rows a call leaves

-- a row of distinct numbers is alone with its number
pub alone : (r y : Record) (rows : Rows) → Unique (r ∷ rows) → Memᴰ y rows → y.source ≡ r.source → ⊥
alone r y rows u m e =
    let found : _ = (tells_any (has_number r.source) rows).1 (y, m, eq-eqb y.source r.source e) in
    clash (sym (unique_tail r rows u) ∙ found)

-- a report's own row, or a row of another number
abbrev pub OwnOrOther : Record → Record → Rows → Type 0
OwnOrOther x y rows = (y ≡ x) ⊎ (Memᴰ y rows × (y.source ≡ x.source → ⊥))

-- the rows that an accepted report leaves
pub member_renewed :
    (x y : Record) (rows : Rows) → Unique rows → Memᴰ y (renewed rows x) ↔ OwnOrOther x y rows
unfolding renewed
member_renewed x y [] u = (
  λ m. inl (Memᴰ.eq_of_singleton m),
  ⊎_elim Memᴰ.head (λ both. absurd (Memᴰ.not-nil both.0)),
)
member_renewed x y (r ∷ rows) u = go (has_number x.source r) refl (member_renewed x y rows (unique-rest r rows u))
  where
    go :
        (t : Bool) → has_number x.source r ≡ t → Memᴰ y (renewed rows x) ↔ OwnOrOther x y rows →
        Memᴰ y (cond t (x ∷ rows) (r ∷ renewed rows x)) ↔ OwnOrOther x y (r ∷ rows)
    go true e rest = (replaced, ⊎_elim Memᴰ.head (λ both. other both.0 both.1))
      where
        same : r.source ≡ x.source
        same = eqb-true r.source x.source e

        replaced : Memᴰ y (x ∷ rows) → OwnOrOther x y (r ∷ rows)
        replaced (Memᴰ.head q) = inl q
        replaced (Memᴰ.tail m) = inr (Memᴰ.tail m, λ f. alone r y rows u m (f ∙ sym same))

        other : Memᴰ y (r ∷ rows) → (y.source ≡ x.source → ⊥) → Memᴰ y (x ∷ rows)
        other (Memᴰ.head q) f = absurd (f (ap (λ (z : Record). z.source) q ∙ same))
        other (Memᴰ.tail m) f = Memᴰ.tail m
    go false e rest = (kept, ⊎_elim (λ q. Memᴰ.tail (rest.1 (inl q))) (λ both. other both.0 both.1))
      where
        kept : Memᴰ y (r ∷ renewed rows x) → OwnOrOther x y (r ∷ rows)
        kept (Memᴰ.head q) =
            let source : r.source ≡ y.source = ap (λ (z : Record). z.source) (sym q) in
            inr (Memᴰ.head q, λ f. eqb-false r.source x.source e (source ∙ f))
        kept (Memᴰ.tail m) = ⊎_elim inl (λ both. inr (Memᴰ.tail both.0, both.1)) (rest.0 m)

        other : Memᴰ y (r ∷ rows) → (y.source ≡ x.source → ⊥) → Memᴰ y (r ∷ renewed rows x)
        other (Memᴰ.head q) f = Memᴰ.head q
        other (Memᴰ.tail m) f = Memᴰ.tail (rest.1 (inr (m, f)))
