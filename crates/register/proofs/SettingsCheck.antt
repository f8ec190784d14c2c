-- What a verdict on a settings packet means: its number is that of the first line that applies, and its tests on the
-- counted rows tell what the request says. Our own choice passes them, its lateness being the greatest.
use Prim.Native.Nat.{ℕ, ◌*◌, ◌^◌, ◌≤◌}
use mathlib.Core.Bool.{Bool, true, false, not, cond, ◌&&◌, ◌||◌, and-eq-true_iff}
use mathlib.Core.List.Memᴰ
use mathlib.Core.List.{[], ◌∷◌, Memᴰ, Permᴰ}
use mathlib.Core.Logic.{◌⊎◌, inl, inr, ◌↔◌}
use mathlib.Core.Path.{◌≡◌, refl, sym, ap, ap₂, subst, ◌∙◌}
use lib.Dec.{T, ltb, eqb}
use lib.IntN.{ℤ, pos, ◌+ℤ◌, ◌*ℤ◌, +ℤ_idr}
use lib.ListN.{length}
use lib.Signed.{le_z, lt_z, ◌≤ℤ◌, ◌<ℤ◌, lt_z_no, ≤ℤ_refl, clash_ℤ}
use native.Mathlib.Omega.{arith}
use borrow.Author.Tests.{not-true, eqb-true, ltb-false, eq-eqb, ne_eqb}
use Rattle.std.specs.Prelude.{Result, Ok, Err}
use Rattle.refusals.specs.Refusals.{answer_number}
use Rattle.refusals.specs.declared.RefusalNumber.{RefusalNumber}
use Rattle.refusals.proofs.Laws.{answer_none, number_first}
use Rattle.idms.specs.declared.Settings.{Settings}
use Rattle.times.specs.Times.{ntp_age, rtp_age, expanded, delay, settings_delay, is_far, is_aged, is_badly_presented}
use Rattle.times.specs.Times.{settings_are_badly_presented}
use Rattle.times.proofs.Laws.{delay_positive}
use Rattle.register.specs.declared.Record.{Record}
use Rattle.register.specs.declared.Reading.{Reading}
use Rattle.register.specs.declared.Target.{Target}
use Rattle.register.specs.declared.Opening.{Opening}
use Rattle.register.specs.Register.{Rows, any, presents, is_other_stream}
use Rattle.register.specs.Choosing.{lateness, is_arrival, counted, delay_of, lateness_of, target_of, choice}
use Rattle.register.specs.Letter.{NoneOf, MeansBehind, Means}
use Rattle.register.specs.SettingsCheck.{slack_limit, settings_checks, is_none_counted, settings_lateness, allowance}
use Rattle.register.specs.SettingsCheck.{suits, verdict_by, verdict, target_settings}
use Rattle.register.specs.SettingsPromise.{settings_lines, refusal_of, IsGreatest, Suits, AsksSomeEarlier}
use Rattle.register.specs.SettingsPromise.{ExceedsSlack, VerdictMeans}
use Rattle.register.proofs.Rows.{clash, length-permuted, any-permuted, or_false}
use Rattle.integers.proofs.Laws.{≤ℤ-le_z, le_z-≤ℤ, lt_z-<ℤ, lt_z_not_le_z, ≤ℤ_trans, ≤ℤ_shift, <ℤ_shift}
use Rattle.register.proofs.Letter.Lines.{Tells, tells_equal, tells_less, tells_not, tells_and, tells_or}
use Rattle.register.proofs.Letter.Lines.{tells_any, untold, first_means}
use Rattle.register.proofs.Permuted.{counted-permuted}
use Rattle.register.proofs.Stands.{SoundRow, Sound}
use Rattle.register.proofs.Promised.{arrival_presents, presentation_presents, counted_member, delay_again}
use Rattle.register.proofs.Promised.{choice-none, ChosenRow, chosen_row}

-- ---- refusals

-- a check that did not refuse
pub passed :
    (t : Bool) (refused : RefusalNumber) (rest : Result Unit RefusalNumber) → cond t (Err refused) rest ≡ Ok tt →
    (t ≡ false) × (rest ≡ Ok tt)
passed true refused rest e = grind arith
passed false refused rest e = (refl, e)

-- what is known of a packet that no check refused
pub record PassedChecks (at : Reading) (s : Settings) (none : Bool) : Type 0 where
  pub some : none ≡ false
  pub near : ntp_age at.ntp s.received ≤ 30 * 2 ^ 32
  pub short : settings_delay s.received s.presented ≤ 30 * 2 ^ 32

pub passed_checks :
    (o : Opening) (s : Settings) (at : Reading) (slack : ℕ) (none : Bool) → settings_checks o s at slack none ≡ Ok tt →
    PassedChecks at s none
unfolding settings_checks
passed_checks o s at slack none e =
    let past11 : _ = passed (ltb slack_limit slack) RefusalNumber.OutOfRange _ e in
    let past20 : _ = passed none RefusalNumber.NoneCounted _ past11.1 in
    let past13 : _ = passed (is_other_stream o s.group s.media) RefusalNumber.OtherStream _ past20.1 in
    let past15 : _ = passed (is_far at.ntp s.received) RefusalNumber.ReceivedFar _ past13.1 in
    let past16 : _ = passed (is_aged o.rate at.rtp s.rtp) RefusalNumber.RtpAged _ past15.1 in
    let past17 : _ =
    passed (settings_are_badly_presented s.received s.presented) RefusalNumber.BadlyPresented _ past16.1 in
    let fair : _ =
    or_false
    (ltb (30 * 2 ^ 32) (settings_delay s.received s.presented) || eqb s.presented 0)
    (eqb (settings_delay s.received s.presented) 0)
    past17.0 in
    record {
      some = past20.0;
      near = ltb-false (30 * 2 ^ 32) (ntp_age at.ntp s.received) past15.0;
      short =
          ltb-false (30 * 2 ^ 32) (settings_delay s.received s.presented)
          (or_false (ltb (30 * 2 ^ 32) (settings_delay s.received s.presented)) (eqb s.presented 0) fair.0
          ).0;
    }

-- ---- the verdict by its refusal

pub verdict-refused :
    (o : Opening) (at : Reading) (rows : Rows) (s : Settings) (slack : ℕ) (refused : RefusalNumber) →
    Err refused ≡ settings_checks o s at slack (is_none_counted o at rows) →
    Err refused ≡ verdict o at rows s slack
unfolding verdict verdict_by
verdict-refused o at rows s slack refused e = rw (← e) refl

pub verdict-judged :
    (o : Opening) (at : Reading) (rows : Rows) (s : Settings) (slack : ℕ) →
    settings_checks o s at slack (is_none_counted o at rows) ≡ Ok tt → (t : Bool) →
    t ≡ suits (lateness_of o at) (counted o at rows) (settings_lateness o at s) (allowance o slack) →
    Ok t ≡ verdict o at rows s slack
unfolding verdict verdict_by
verdict-judged o at rows s slack e t same = rw e (ap Ok same)

-- ---- whatever the order of rows

pub verdict-permuted :
    (o : Opening) (at : Reading) (s : Settings) (slack : ℕ) {rows rows' : Rows} → Permᴰ rows rows' →
    verdict o at rows s slack ≡ verdict o at rows' s slack
unfolding verdict suits
verdict-permuted o at s slack {rows} {rows'} d =
    let among : Permᴰ (counted o at rows) (counted o at rows') = counted-permuted o at d in
    ap₂ verdict_by
    (ap (λ (n : ℕ). settings_checks o s at slack (eqb n 0)) (length-permuted among))
    (ap₂ (λ (a b : Bool). not a && b) (any-permuted _ among) (any-permuted _ among))

-- ---- what the tests tell

-- without rows
tells_empty : (rows : Rows) → Tells (eqb (length rows) 0) (rows ≡ [])
tells_empty [] = (λ e. refl, λ e. refl)
tells_empty (row ∷ rows) = (
  λ e. absurd (omega (arith, eqb-true (length (row ∷ rows)) 0 e)),
  λ e. absurd (Memᴰ.not-nil (subst (Memᴰ row) e (Memᴰ.head refl))),
)

-- no row's lateness is greater
tells_at_least :
    (late : Record → ℤ) (rows : Rows) (packet : ℤ) →
    Tells (not (any (λ row. lt_z packet (late row)) rows))
    ((row : Record) → Memᴰ row rows → late row ≤ℤ packet)
tells_at_least late rows packet =
    let none : _ = tells_not _ (tells_any (λ row. lt_z packet (late row)) rows) in (
      λ e row member. go row (lt_z packet (late row)) refl (λ above. none.0 e (row, member, above)),
      λ most. none.1 (λ found. clash_ℤ (lt_z-<ℤ found.2) (most found.0 found.1)),
    )
  where
    go : (row : Record) (t : Bool) → lt_z packet (late row) ≡ t → (lt_z packet (late row) ≡ true → ⊥) → late row ≤ℤ packet
    go row true e never = absurd (never e)
    go row false e never = lt_z_no (subst T (sym (ap not e)) tt)

module _ (o : Opening) (at : Reading) (rows : Rows) (s : Settings) (slack : ℕ) where
  -- where some row is counted, it exceeds some row's lateness by no more than is allowed where it so exceeds the greatest
  tells_within :
      (counted o at rows ≡ [] → ⊥) →
      Tells (any (λ row. le_z (settings_lateness o at s) (lateness_of o at row +ℤ pos (allowance o slack))) (counted o at rows))
      ((row : Record)
      × IsGreatest o at rows row
      × (settings_lateness o at s ≤ℤ (lateness_of o at row +ℤ pos (o.rate * slack * 2 ^ 16))))
  tells_within some =
      let chosen : _ = chosen_row o at rows some in
      let tells : _ = tells_any _ (counted o at rows) in (
        λ e.
            let found : _ = tells.0 e in (
              chosen.row,
              (chosen.member, chosen.greatest),
              ≤ℤ_trans (le_z-≤ℤ found.2) (≤ℤ_shift (pos (allowance o slack)) (chosen.greatest found.0 found.1)),
            ),
        λ found. tells.1 (found.0, found.1.0, ≤ℤ-le_z found.2),
      )

  tells_suits :
      (counted o at rows ≡ [] → ⊥) →
      Tells (suits (lateness_of o at) (counted o at rows) (settings_lateness o at s) (allowance o slack))
      (Suits o at rows s slack)
  unfolding suits
  tells_suits some =
      let both : _ =
      tells_and _ _
      (tells_at_least (lateness_of o at) (counted o at rows) (settings_lateness o at s))
      (tells_within some) in (
        λ e. let all : _ = both.0 e in record { at_least = all.0; within_slack = all.1 },
        λ fits. both.1 (fits.at_least, fits.within_slack),
      )

  -- every number means what the table of refusals says
  settings_means :
      Means (settings_lines o at rows s slack)
      (answer_number (settings_checks o s at slack (is_none_counted o at rows)))
  unfolding settings_checks NoneOf MeansBehind
  settings_means =
      simp number_first
      (first_means (settings_lines o at rows s slack)
      (ltb slack_limit slack
      ∷ is_none_counted o at rows
      ∷ is_other_stream o s.group s.media
      ∷ is_far at.ntp s.received
      ∷ is_aged o.rate at.rtp s.rtp
      ∷ settings_are_badly_presented s.received s.presented
      ∷ []) (
        tells_less _ _,
        (
          tells_empty (counted o at rows),
          (
            tells_not _ (tells_and _ _ (tells_equal s.group o.group) (tells_equal s.media o.media)),
            (
              tells_less _ _,
              (
                tells_less _ _,
                (tells_or _ _ (tells_or _ _ (tells_less _ _) (tells_equal _ _)) (tells_equal _ _), tt),
              ),
            ),
          ),
        ),
      )
      refl)

-- ---- the verdict's cases

number_by :
    (checked : Result Unit RefusalNumber) (t : Bool) → refusal_of (verdict_by checked t) ≡ answer_number checked
unfolding verdict_by
number_by (Ok tt) t = refl
number_by (Err refused) t = refl

judged_by :
    (checked : Result Unit RefusalNumber) (t u : Bool) → (verdict_by checked t ≡ Ok u) ↔ ((checked ≡ Ok tt) × (t ≡ u))
unfolding verdict_by
judged_by (Ok tt) t u = (λ v. (refl, grind arith), λ both. ap Ok both.1)
judged_by (Err refused) t u = (λ v. grind arith, λ both. grind arith)

-- ---- what a verdict means

module _ (o : Opening) (at : Reading) (rows : Rows) (s : Settings) (slack : ℕ) where
  abbrev checked : Result Unit RefusalNumber
  checked = settings_checks o s at slack (is_none_counted o at rows)

  abbrev fit : Bool
  fit = suits (lateness_of o at) (counted o at rows) (settings_lateness o at s) (allowance o slack)

  -- no line applies exactly where nothing is refused
  unrefused :
      (settings_checks o s at slack (is_none_counted o at rows) ≡ Ok tt) ↔ NoneOf (settings_lines o at rows s slack)
  unfolding NoneOf MeansBehind
  unrefused =
      let zero : _ = (settings_means o at rows s slack).1.1.1.1.1.1 in
      (λ e. zero.0 (ap answer_number e), λ none. answer_none checked (zero.1 none))

  pub verdict-accepted : (refusal_of (verdict o at rows s slack) ≡ 0) ↔ NoneOf (settings_lines o at rows s slack)
  unfolding verdict NoneOf MeansBehind
  verdict-accepted = rw (number_by checked fit) (settings_means o at rows s slack).1.1.1.1.1.1

  some_counted : NoneOf (settings_lines o at rows s slack) → counted o at rows ≡ [] → ⊥
  unfolding NoneOf
  some_counted none = none.1.0

  -- not suited: some counted row is asked earlier, or the greatest lateness is exceeded by more than is allowed
  unsuited_by :
      (counted o at rows ≡ [] → ⊥) →
      suits (lateness_of o at) (counted o at rows) (settings_lateness o at s) (allowance o slack) ≡ false →
      AsksSomeEarlier o at rows (settings_lateness o at s) ⊎ ExceedsSlack o at rows slack (settings_lateness o at s)
  unfolding suits
  unsuited_by some e = go (any (λ row. lt_z (settings_lateness o at s) (lateness_of o at row)) (counted o at rows)) refl
    where
      chosen : ChosenRow o at rows
      chosen = chosen_row o at rows some

      go :
          (t : Bool) → any (λ row. lt_z (settings_lateness o at s) (lateness_of o at row)) (counted o at rows) ≡ t →
          AsksSomeEarlier o at rows (settings_lateness o at s) ⊎ ExceedsSlack o at rows slack (settings_lateness o at s)
      go true later =
          let found : _ =
          (tells_any (λ row. lt_z (settings_lateness o at s) (lateness_of o at row)) (counted o at rows)).0 later in
          let less : settings_lateness o at s <ℤ lateness_of o at found.0 = lt_z-<ℤ found.2 in
          inl (found.0, found.1, λ k. <ℤ_shift (k *ℤ pos (2 ^ 32)) less)
      go false later = inr (chosen.row, (chosen.member, chosen.greatest), beyond)
        where
          test : Record → Bool
          test row = le_z (settings_lateness o at s) (lateness_of o at row +ℤ pos (allowance o slack))

          far : any test (counted o at rows) ≡ false
          far = rw later at e

          over : le_z (settings_lateness o at s) (lateness_of o at chosen.row +ℤ pos (allowance o slack)) ≡ false
          over =
              untold _ (λ h. h, λ h. h)
              (λ h. clash (sym far ∙ (tells_any test (counted o at rows)).1 (chosen.row, chosen.member, h)))

          beyond : (lateness_of o at chosen.row +ℤ pos (o.rate * slack * 2 ^ 16)) <ℤ settings_lateness o at s
          beyond =
              lt_z-<ℤ
              (lt_z_not_le_z (lateness_of o at chosen.row +ℤ pos (allowance o slack)) (settings_lateness o at s)
              ∙ ap not over)

  -- either rules out that the packet suits
  unsuited-not :
      AsksSomeEarlier o at rows (settings_lateness o at s) ⊎ ExceedsSlack o at rows slack (settings_lateness o at s) →
      Suits o at rows s slack → ⊥
  unsuited-not (inl earlier) fits =
      let less : _ = earlier.2 (pos 0) in
      clash_ℤ
      (rw (+ℤ_idr (settings_lateness o at s), +ℤ_idr (lateness_of o at earlier.0)) at less)
      (fits.at_least earlier.0 earlier.1)
  unsuited-not (inr over) fits =
      let near : _ = fits.within_slack in
      clash_ℤ over.2
      (≤ℤ_trans near.2 (≤ℤ_shift (pos (o.rate * slack * 2 ^ 16)) (over.1.1 near.0 near.1.0)))

  pub verdict_means : VerdictMeans o at rows s slack (verdict o at rows s slack)
  unfolding verdict
  verdict_means =
      let yes-is : _ = judged_by checked fit true in
      let no-is : _ = judged_by checked fit false in
      record {
        refusals = rw (number_by checked fit) (settings_means o at rows s slack);
        suited = (
          λ v.
              let none : _ = unrefused.0 (yes-is.0 v).0 in
              (none, (tells_suits o at rows s slack (some_counted none)).0 (yes-is.0 v).1),
          λ both.
              yes-is.1
              (unrefused.1 both.0, (tells_suits o at rows s slack (some_counted both.0)).1 both.1),
        );
        unsuited = (
          λ v.
              let none : _ = unrefused.0 (no-is.0 v).0 in
              (none, unsuited_by (some_counted none) (no-is.0 v).1),
          λ both.
              no-is.1 (
                unrefused.1 both.0,
                untold fit (tells_suits o at rows s slack (some_counted both.0)) (unsuited-not both.1),
              ),
        );
        none_earlier =
            λ v row member k.
            let none : _ = unrefused.0 (yes-is.0 v).0 in
            let fits : _ = (tells_suits o at rows s slack (some_counted none)).0 (yes-is.0 v).1 in
            ≤ℤ_shift (k *ℤ pos (2 ^ 32)) (fits.at_least row member);
        below_earlier = λ v row member less k. <ℤ_shift (k *ℤ pos (2 ^ 32)) less;
      }

-- ---- our own choice

-- the settings of a row as the target, from a sender
row_settings : ℕ → Record → Settings
row_settings sender row =
    record {
      sender = sender;
      media = row.report.media;
      group = row.report.group;
      received = row.report.received;
      rtp = row.report.rtp;
      presented = cond (presents row) (expanded row.report.received row.report.presented) 0;
    }

-- the target of a choice, or another where there is none
target_in : Target → Result Target RefusalNumber → Target
target_in other (Ok x) = x
target_in other (Err _) = other

target_row :
    (sender : ℕ) (x : Target) (row : Record) (n : ℕ) → Ok x ≡ target_of row n →
    target_settings sender x ≡ row_settings sender row
unfolding row_settings target_in
target_row sender x row n e = ap (λ (c : Result Target RefusalNumber). target_settings sender (target_in x c)) e

-- a choice with a target has counted rows
target-counted :
    (o : Opening) (at : Reading) (rows : Rows) (x : Target) → choice o at rows ≡ Ok x →
    counted o at rows ≡ [] → ⊥
target-counted o at rows x e none =
    let same : Err RefusalNumber.NoneCounted ≡ Ok x = sym (choice-none o at rows none) ∙ e in
    grind arith

module _ (o : Opening) (at : Reading) (rows : Rows) (sender : ℕ) (row : Record) (sound : SoundRow o row)
    (member : Memᴰ row (counted o at rows))
    (greatest : (other : Record) → Memᴰ other (counted o at rows) → lateness_of o at other ≤ℤ lateness_of o at row)
  where
    abbrev received : ℕ
    received = row.report.received

    abbrev full : ℕ
    full = expanded row.report.received row.report.presented

    -- 17 alone can refuse it
    own-checks :
        (p : Bool) → presents row ≡ p → (t : Bool) → settings_are_badly_presented received (cond p full 0) ≡ t →
        settings_checks o (row_settings sender row) at 0 (is_none_counted o at rows)
        ≡ cond t (Err RefusalNumber.BadlyPresented) (Ok tt)
    unfolding settings_checks row_settings
    own-checks p is t bad =
        let far : Bool = is_far at.ntp row.report.received in
        let aged : Bool = is_aged o.rate at.rtp row.report.rtp in
        let fresh-both : _ = (and-eq-true_iff (not far) (not aged)).0 (counted_member o at rows row member).0 in
        let some : is_none_counted o at rows ≡ false =
        ne_eqb (length (counted o at rows)) 0
        (λ none. Memᴰ.not-nil (subst (Memᴰ row) ((tells_empty (counted o at rows)).0 (eq-eqb _ 0 none)) member)) in
        rw (
          some,
          eq-eqb row.report.group o.group sound.group,
          eq-eqb row.report.media o.media sound.media,
          not-true far fresh-both.0,
          not-true aged fresh-both.1,
          is,
          bad,
        ) refl

    -- in arrival mode it has no presented time
    own_arrival :
        presents row ≡ false →
        verdict o at rows (row_settings sender row) 0 ≡ Err RefusalNumber.BadlyPresented
    own_arrival is =
        sym
        (verdict-refused o at rows (row_settings sender row) 0 RefusalNumber.BadlyPresented
        (sym (own-checks false is true (empty_bad received))))
      where
        empty_bad : (n : ℕ) → settings_are_badly_presented n 0 ≡ true
        empty_bad n = go (ltb (30 * 2 ^ 32) (settings_delay n 0))
          where
            go : (t : Bool) → (t || true || eqb (settings_delay n 0) 0) ≡ true
            go true = refl
            go false = refl

    -- in presentation mode its delay is the row's, and so is its lateness, which is the greatest
    own-delay : settings_delay received full ≡ delay received row.report.presented
    own-delay = delay_again received row.report.presented sound.range

    own_presentation : presents row ≡ true → verdict o at rows (row_settings sender row) 0 ≡ Ok true
    unfolding row_settings
    own_presentation is =
        sym
        (verdict-judged o at rows (row_settings sender row) 0 (own-checks true is false fair) true
        (sym ((tells_suits o at rows (row_settings sender row) 0 some).1 fits)))
      where
        good : is_badly_presented received row.report.presented ≡ false
        good = rw is at sound.presented

        parts :
            (ltb (30 * 2 ^ 32) (delay received row.report.presented) ≡ false)
            × (eqb (expanded received row.report.presented) 0 ≡ false)
        parts = or_false _ _ good

        fair : settings_are_badly_presented received full ≡ false
        fair =
            let some-wait : eqb (delay received row.report.presented) 0 ≡ false =
            ne_eqb (delay received row.report.presented) 0
            (λ z. omega (arith, z, delay_positive received row.report.presented)) in
            rw (own-delay, parts.0, parts.1, some-wait) refl

        some : counted o at rows ≡ [] → ⊥
        some none = Memᴰ.not-nil (subst (Memᴰ row) none member)

        wait : settings_delay received (cond (presents row) full 0) ≡ delay_of row
        wait = rw is own-delay

        late : settings_lateness o at (row_settings sender row) ≡ lateness_of o at row
        late =
            ap
            (λ (n : ℕ).
            lateness o.rate n (ntp_age at.ntp received) (rtp_age at.rtp row.report.rtp))
            wait

        none_more : lateness_of o at row ≤ℤ (lateness_of o at row +ℤ pos (o.rate * 0 * 2 ^ 16))
        none_more =
            let nothing : o.rate * 0 * 2 ^ 16 ≡ 0 = omega arith in
            rw (nothing, +ℤ_idr (lateness_of o at row)) (≤ℤ_refl (lateness_of o at row))

        fits : Suits o at rows (row_settings sender row) 0
        fits =
            record {
              at_least = λ other m. rw late (greatest other m);
              within_slack = (row, (member, greatest), rw late none_more);
            }

-- the chosen row's group is the opening's
pub target-group :
    (o : Opening) (at : Reading) (rows : Rows) → Sound o rows → (x : Target) → choice o at rows ≡ Ok x →
    x.group ≡ o.group
unfolding row_settings
target-group o at rows sound x e =
    let chosen : _ = chosen_row o at rows (target-counted o at rows x e) in
    ap (λ (s : Settings). s.group) (target_row 0 x chosen.row _ (sym e ∙ chosen.is))
    ∙ (sound chosen.row (counted_member o at rows chosen.row chosen.member).1).group

-- yes with slack 0 in presentation mode, 17 in arrival mode
pub own-verdict :
    (o : Opening) (at : Reading) (rows : Rows) → Sound o rows → (x : Target) (sender : ℕ) →
    choice o at rows ≡ Ok x →
    verdict o at rows (target_settings sender x) 0
    ≡ cond (is_arrival o at rows) (Err RefusalNumber.BadlyPresented) (Ok true)
own-verdict o at rows sound x sender e =
    ap (λ (s : Settings). verdict o at rows s 0) (target_row sender x row (length (counted o at rows)) (sym e ∙ y.is))
    ∙ go (is_arrival o at rows) refl
  where
    y : ChosenRow o at rows
    y = chosen_row o at rows (target-counted o at rows x e)

    row : Record
    row = y.row

    go :
        (t : Bool) → is_arrival o at rows ≡ t →
        verdict o at rows (row_settings sender row) 0
        ≡ cond (is_arrival o at rows) (Err RefusalNumber.BadlyPresented) (Ok true)
    go true arrival =
        rw arrival
        (own_arrival o at rows sender row (sound row (counted_member o at rows row y.member).1) y.member
        y.greatest
        (arrival_presents o at rows row arrival y.member))
    go false arrival =
        rw arrival
        (own_presentation o at rows sender row (sound row (counted_member o at rows row y.member).1) y.member
        y.greatest
        (presentation_presents o at rows row arrival y.member))
