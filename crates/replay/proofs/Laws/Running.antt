-- What the loop over entries keeps of its own variables: where it stands in the layout, the table's source numbers, and
-- what is left to run (`EntriesLeft`).
use Prim.Native.Nat.{ℕ, ◌+◌, ◌-◌, ◌*◌, ◌%◌, ◌≤◌, ◌<◌}
use Rattle.std.specs.Prelude.{Option, Some, None, Result}
use Rattle.idms.specs.declared.Refusal.{Refusal}
use mathlib.Core.Path.{◌≡◌, refl, sym, ap, subst, ◌∙◌}
use mathlib.Core.Bool.{Bool, true, false}
use mathlib.Core.List.{List, [], ◌∷◌, ◌++◌}
use lib.ListN.{length, take, drop, get_or, set, replicate, length-set}
use lib.Dec.{ltb}
use lib.Seq.{sets}
use native.Mathlib.Omega.{arith}
use borrow.Author.Tests.{ltb-true, ltb-false}
use Rattle.idms.specs.declared.Item.{Item}
use Rattle.idms.specs.declared.Placed.{Placed}
use Rattle.idms.specs.declared.Report.{Report}
use Rattle.idms.specs.declared.Settings.{Settings}
use Rattle.datagram.specs.Answers.{item_count}
use Rattle.rtcp.specs.declared.cursor.Cursor.{Cursor}
use Rattle.rtcp.specs.Cursor.{start, given}
use Rattle.register.specs.declared.Record.{Record}
use Rattle.register.specs.declared.Member.{Member}
use Rattle.register.specs.Register.{Call}
use Rattle.choosing.specs.Marked.{nobody}
use Rattle.table.specs.declared.Table.{Table}
use Rattle.table.specs.declared.Answered.{Answered}
use Rattle.table.specs.declared.filing.Filing.{Filing}
use Rattle.table.specs.Members.{opening_of, sources_of, place_among, place_in}
use Rattle.table.specs.Calls.{answered}
use Rattle.table.specs.Choose.{choice_of}
use Rattle.table.specs.Filing.{report_number_at, report_filing, farewell_number_at, farewell_filing}
use Rattle.table.specs.Filing.{filing_of, with_filing}
use Rattle.table.specs.Intake.{record_of}
use Rattle.table.proofs.Laws.Filing.{filing_answers, filing_searched, filing_number, farewell_stored}
use Rattle.table.proofs.Laws.Search.{place_among_lem, sources_set, sources_long, sources_after_farewell}
use Rattle.intake.specs.Datagrams.{calls_in}
use Rattle.replay.specs.declared.layout.Listed.{Listed}
use Rattle.replay.specs.declared.steps.Row.{Row}
use Rattle.replay.specs.Recording.{RecordedDatagram, entry_count, entry_place, body_length, entries_from, bodies_end}
use Rattle.replay.specs.Recording.{entries_in}
use Rattle.replay.specs.Replay.{entry_row_length, entry_rows, choice_at_end}
use Rattle.replay.specs.Steps.{listed_at, datagram_of, next_in, items_in, first_row, row_after, cells_of}
use Rattle.replay.proofs.Laws.Layout.{GoodLayout, bodies_next, bodies_onward, recorded_at}
use Rattle.replay.proofs.Laws.Layout.{entries_none, entries_next, entries_count, entries_in_lem, entries_in-count}
use Rattle.replay.proofs.Laws.Rows.{accepted-after}
use Rattle.replay.proofs.Laws.Left.{item-left, none_left}
use Rattle.replay.proofs.Laws.Calls.{rows-length}
use Rattle.replay.proofs.Laws.Entries.{report-left, farewell-left, settings-left}
use Rattle.replay.proofs.Laws.Entries.{Begins, entry_begins, begins_few, EntriesLeft, entries_left_start}
use Rattle.replay.proofs.Laws.Entries.{entries_left_call, entries_left_same, entries_left_next, entries_left_end}

-- the calls that are left of an entry, and the entries behind entry i, whose body ends at `end`
abbrev left_calls : List ℕ → Listed → ℕ → Cursor → List Call
left_calls f entry left cursor = calls_in entry.origin entry.at (given left (datagram_of f entry) cursor)

abbrev behind : List ℕ → ℕ → ℕ → ℕ → List RecordedDatagram
behind f n i end = entries_from f (n - (i + 1)) (entry_place (i + 1)) end

-- ---- an entry as it is listed, and as it is recorded

-- its items have been counted, and none is taken
pub record Begun (f : List ℕ) (entry : Listed) (left : ℕ) (cursor : Cursor) (row : Row) : Type 0 where
  pub count : Result ℕ Refusal
  pub counts : count ≡ item_count false (datagram_of f entry)
  pub left_is : left ≡ items_in count
  pub cursor_is : cursor ≡ start
  pub row_is : row ≡ first_row count

begun_few :
    (f : List ℕ) (entry : Listed) (left : ℕ) (cursor : Cursor) (row : Row) → Begun f entry left cursor row
    → row.accepted + left ≤ 512
begun_few f entry left cursor row b =
    let accepted : row.accepted ≡ (first_row b.count).accepted = ap (λ (v : Row). v.accepted) b.row_is in
    omega (arith, accepted, b.left_is, begins_few (datagram_of f entry) b.count b.counts)

same-datagram : (f : List ℕ) (p body : ℕ) → datagram_of f (listed_at f p body) ≡ (recorded_at f p body).datagram
same-datagram f p body =
    let long : body + body_length f p - body ≡ body_length f p = omega arith in
    ap (λ (k : ℕ). take k (drop body f)) long

listed_begins :
    (t : Table) (f : List ℕ) (p body : ℕ) (entry : Listed) (left : ℕ) (cursor : Cursor) (row : Row)
    → entry ≡ listed_at f p body → Begun f entry left cursor row
    → Begins t (recorded_at f p body) (left_calls f entry left cursor) row
listed_begins t f p body entry left cursor row e b =
    let recorded = recorded_at f p body in
    let d : datagram_of f entry ≡ recorded.datagram = ap (datagram_of f) e ∙ same-datagram f p body in
    let theirs = calls_in recorded.origin recorded.at (given (items_in b.count) recorded.datagram start) in
    let begun : Begins t recorded theirs (first_row b.count) =
    entry_begins t recorded b.count (b.counts ∙ ap (item_count false) d) in
    let calls : left_calls f entry left cursor ≡ theirs =
    ap (λ (g : Listed). calls_in g.origin g.at (given left (datagram_of f entry) cursor)) e
    ∙ ap (λ (bytes : List ℕ). calls_in recorded.origin recorded.at (given left bytes cursor)) d
    ∙ ap
    (λ (n : ℕ). calls_in recorded.origin recorded.at (given n recorded.datagram cursor)) b.left_is
    ∙ ap
    (λ (c : Cursor).
    calls_in recorded.origin recorded.at (given (items_in b.count) recorded.datagram c)) b.cursor_is in
    subst (λ (those : List Call). Begins t recorded those row) (sym calls)
    (subst (λ (w : Row). Begins t recorded theirs w) (sym b.row_is) begun)

-- ---- Running

pub record Running
    (f : List ℕ) (n : ℕ) (t₀ : Table) (rows₀ : List ℕ)
    (t : Table) (sources rows : List ℕ) (i : ℕ) (entry : Listed) (left : ℕ) (cursor : Cursor) (row : Row)
    : Type 0 where
  pub sources_are : sources ≡ sources_of t.members
  pub many : length sources ≡ 64
  pub inside : i < n
  pub here : entry ≡ listed_at f (entry_place i) entry.body
  pub bodies : bodies_end f (n - (i + 1)) (entry_place (i + 1)) entry.end ≡ length f
  pub few : row.accepted + left ≤ 512
  pub run :
      EntriesLeft t₀ rows₀ (entries_in f) t rows i (left_calls f entry left cursor) row entry.at
      (behind f n i entry.end)

-- ---- the entry lies in the file

-- the same place and the same body
pub listed_at_lem :
    (f : List ℕ) {p q body first : ℕ} (entry : Listed) → p ≡ q → body ≡ first → entry ≡ listed_at f p body
    → entry ≡ listed_at f q first
listed_at_lem f {p} {q} {body} {first} entry e h g =
    g ∙ ap (λ (k : ℕ). listed_at f k body) e ∙ ap (listed_at f q) h

-- an entry that is not the last has one behind it
pub not_last : (i n : ℕ) → i < n → (i + 1 ≡ n → ⊥) → i + 1 < n
not_last i n h other = go (ltb (i + 1) n) refl
  where
    go : (b : Bool) → ltb (i + 1) n ≡ b → i + 1 < n
    go true b = ltb-true (i + 1) n b
    go false b =
        let least : n ≤ i + 1 = ltb-false (i + 1) n b in
        absurd (other (omega arith))

pub bodies_whole :
    (f : List ℕ) (n : ℕ) → GoodLayout f → n ≡ entry_count f
    → bodies_end f (n - 0) (entry_place 0) (entry_place n) ≡ length f
bodies_whole f n good count =
    let all : n - 0 ≡ n = omega arith in
    ap (λ (k : ℕ). bodies_end f k (entry_place 0) (entry_place n)) all
    ∙ ap (λ (k : ℕ). bodies_end f k (entry_place 0) (entry_place k)) count
    ∙ good.ends

pub listed_inside :
    (f : List ℕ) (n i body : ℕ) (entry : Listed) → i < n → bodies_end f (n - i) (entry_place i) body ≡ length f
    → entry ≡ listed_at f (entry_place i) body → (entry.body ≤ entry.end) × (entry.end ≤ length f)
listed_inside f n i body entry less e g =
    let starts : entry.body ≡ body = ap (λ (h : Listed). h.body) g in
    let ends : entry.end ≡ body + body_length f (entry_place i) = ap (λ (h : Listed). h.end) g in
    let onward : _ = bodies_onward f (n - (i + 1)) (entry_place (i + 1)) (body + body_length f (entry_place i)) in (
      omega (arith, starts, ends),
      omega (arith, e, ends, bodies_next f n i body less, onward),
    )

module _
    {f : List ℕ} {n : ℕ} {t₀ : Table} {rows₀ : List ℕ}
    {t : Table} {sources rows : List ℕ} {i : ℕ} {entry : Listed} {left : ℕ} {cursor : Cursor} {row : Row}
    (l : Running f n t₀ rows₀ t sources rows i entry left cursor row) where
  pub running_inside : (entry.body ≤ entry.end) × (entry.end ≤ length f)
  running_inside =
      let end : entry.end ≡ entry.body + body_length f (entry_place i) = ap (λ (g : Listed). g.end) l.here in (
        omega (arith, end),
        omega (arith, l.bodies, bodies_onward f (n - (i + 1)) (entry_place (i + 1)) entry.end),
      )

  members_many : length t.members ≡ 64
  members_many = sym (sources_long t.members) ∙ ap length (sym l.sources_are) ∙ l.many

  -- the place that was found among the source numbers is the one in the table
  searched : (source found : ℕ) → found ≡ place_among source t.held sources → found ≡ place_in t source
  searched source found e =
      e ∙ ap (place_among source t.held) l.sources_are ∙ place_among_lem source t.held t.members

  -- ---- an item is taken

  module _
      (x : Placed) (next : Cursor) (s : Option (Placed × Cursor))
      (gives : s ≡ next_in (datagram_of f entry) left cursor)
      (has : s ≡ Some (x, next)) where
    pub some_left : 0 < left
    some_left = (item-left (datagram_of f entry) left cursor x next (sym gives ∙ has)).0

    items : given left (datagram_of f entry) cursor ≡ x ∷ given (left - 1) (datagram_of f entry) next
    items = (item-left (datagram_of f entry) left cursor x next (sym gives ∙ has)).1

    running_call :
        (call : Call) (a : Answered) (sources₁ : List ℕ) (row₁ : Row)
        → left_calls f entry left cursor ≡ call ∷ left_calls f entry (left - 1) next
        → a ≡ answered t call → sources₁ ≡ sources_of a.table.members → length sources₁ ≡ 64
        → row₁ ≡ row_after row a.number
        → Running f n t₀ rows₀ a.table sources₁ rows i entry (left - 1) next row₁
    running_call call a sources₁ row₁ calls e those k r =
        let accepted : row₁.accepted ≡ (row_after row a.number).accepted = ap (λ (w : Row). w.accepted) r in
        record {
          sources_are = those;
          many = k;
          inside = l.inside;
          here = l.here;
          bodies = l.bodies;
          few = omega (arith, l.few, some_left, accepted, accepted-after row a.number);
          run = subst
              (λ (w : Row).
              EntriesLeft t₀ rows₀ (entries_in f) a.table rows i (left_calls f entry (left - 1) next) w entry.at
              (behind f n i entry.end))
              (sym r) (entries_left_call l.run call _ a calls e);
        }

    -- a call is filed by the place that was found among the source numbers
    module _
        (found : ℕ) (there : Member) (number : ℕ) (filing : Filing)
        (stands : there ≡ get_or t.members (found % 64) nobody) where
      module _
          (r : Record) (place : found ≡ place_among r.source t.held sources)
          (gets : number ≡ report_number_at (opening_of t) t.held found there r entry.at)
          (filed : filing ≡ report_filing t.held found there r number) where
        filed_so : (filing ≡ filing_of t r entry.at) × (filing.place < 64)
        filed_so =
            filing_searched t r entry.at found there number filing members_many (searched r.source found place)
            stands gets filed

        pub report_within : filing.place < 64
        report_within = filed_so.1

        pub running_report :
            (report : Report) (row₁ : Row) → x.item ≡ Item.Report report → r ≡ record_of report entry.origin
            → row₁ ≡ row_after row number
            → Running f n t₀ rows₀ (with_filing t filing)
            (set sources filing.place filing.member.«record».source) rows i entry (left - 1) next
            row₁
        running_report report row₁ is e w =
            let same : filing.number ≡ number =
            ap (λ (h : Filing). h.number) filed ∙ filing_number t.held found there r number in
            running_call (Call.report r entry.at) (record { number = filing.number; table = with_filing t filing }) _
            row₁
            (report-left entry.origin entry.at (datagram_of f entry) left cursor x next items report is
            ∙ ap
            (λ (y : Record). Call.report y entry.at ∷ left_calls f entry (left - 1) next) (sym e))
            (filing_answers t r entry.at filing filed_so.0)
            (ap (λ (those : List ℕ). set those filing.place filing.member.«record».source) l.sources_are
            ∙ sym (sources_set t.members filing.place filing.member))
            (length-set sources filing.place filing.member.«record».source ∙ l.many)
            (w ∙ ap (row_after row) (sym same))

      module _
          (source : ℕ) (place : found ≡ place_among source t.held sources)
          (gets : number ≡ farewell_number_at found there entry.origin)
          (filed : filing ≡ farewell_filing t.held found there number) where
        abbrev called : Answered
        called = record { number = number; table = with_filing t filing }

        stored : (called ≡ answered t (Call.farewell source entry.origin)) × (filing.place < 64)
        stored =
            farewell_stored t source found there members_many (searched source found place) stands entry.origin
            number filing gets filed

        pub farewell_within : filing.place < 64
        farewell_within = stored.1

        pub running_farewell :
            (row₁ : Row) → x.item ≡ Item.Farewell source → row₁ ≡ row_after row number
            → Running f n t₀ rows₀ (with_filing t filing) sources rows i entry (left - 1) next row₁
        running_farewell row₁ is w =
            running_call (Call.farewell source entry.origin) called sources row₁
            (farewell-left entry.origin entry.at (datagram_of f entry) left cursor x next items source is)
            stored.0
            (l.sources_are
            ∙ sym (sources_after_farewell t source entry.origin)
            ∙ ap (λ (a : Answered). sources_of a.table.members) (sym stored.0))
            l.many w

    pub running_settings :
        (settings : Settings) → x.item ≡ Item.Settings settings
        → Running f n t₀ rows₀ t sources rows i entry (left - 1) next row
    running_settings settings is =
        record {
          sources_are = l.sources_are;
          many = l.many;
          inside = l.inside;
          here = l.here;
          bodies = l.bodies;
          few = omega (arith, l.few, some_left);
          run = entries_left_same l.run _
              (settings-left entry.origin entry.at (datagram_of f entry) left cursor x next items settings is);
        }

  -- ---- the entry is over, and its row is put

  module _
      (rows₁ : List ℕ) (s : Option (Placed × Cursor))
      (gives : s ≡ next_in (datagram_of f entry) left cursor) (over : s ≡ None)
      (put : rows₁ ≡ sets rows (entry_row_length * i) (cells_of row)) where
    none : left_calls f entry left cursor ≡ []
    unfolding calls_in
    none = ap (calls_in entry.origin entry.at) (none_left (datagram_of f entry) left cursor (sym gives ∙ over))

    pub running_next :
        (entry₁ : Listed) (left₁ : ℕ) (cursor₁ : Cursor) (row₁ : Row) → i + 1 < n
        → entry₁ ≡ listed_at f (entry_place (i + 1)) entry.end → Begun f entry₁ left₁ cursor₁ row₁
        → Running f n t₀ rows₀ t sources rows₁ (i + 1) entry₁ left₁ cursor₁ row₁
    running_next entry₁ left₁ cursor₁ row₁ less e b =
        let p = entry_place (i + 1) in
        let body : entry₁.body ≡ entry.end = ap (λ (g : Listed). g.body) e in
        record {
          sources_are = l.sources_are;
          many = l.many;
          inside = less;
          here = e ∙ ap (listed_at f p) (sym body);
          bodies = ap (λ (g : Listed). bodies_end f (n - (i + 1 + 1)) (entry_place (i + 1 + 1)) g.end) e
              ∙ sym (bodies_next f n (i + 1) entry.end less)
              ∙ l.bodies;
          few = begun_few f entry₁ left₁ cursor₁ row₁ b;
          run = subst
              (λ (g : Listed).
              EntriesLeft t₀ rows₀ (entries_in f) t rows₁ (i + 1) (left_calls f entry₁ left₁ cursor₁) row₁ g.at
              (behind f n (i + 1) g.end)) (sym e)
              (entries_left_next l.run none rows₁ put _ _ _ row₁ (entries_next f n (i + 1) entry.end less)
              (listed_begins t f p entry.end entry₁ left₁ cursor₁ row₁ e b));
        }

    pub running_end :
        i + 1 ≡ n → n ≡ entry_count f → entry_row_length * n ≤ length rows₀
        → (choice_of t entry.at ≡ choice_at_end t₀ (entries_in f))
        × (rows₁ ≡ entry_rows t₀ (entries_in f) ++ drop (entry_row_length * n) rows₀)
    running_end e count room =
        let all : length (entry_rows t₀ (entries_in f)) ≡ entry_row_length * n =
        omega (arith, rows-length t₀ (entries_in f), entries_in-count f, count) in
        let ended : _ =
        entries_left_end l.run none rows₁ put (entries_none f (n - (i + 1)) _ _ (omega (arith, e)))
        (omega (arith, all, room)) in
        (ended.0, ended.1 ∙ ap (λ (k : ℕ). entry_rows t₀ (entries_in f) ++ drop k rows₀) all)

-- ---- before the first turn

pub running_start :
    (f : List ℕ) (n : ℕ) (t₀ : Table) (rows₀ : List ℕ) (entry : Listed) (left : ℕ) (cursor : Cursor) (row : Row)
    → GoodLayout f → n ≡ entry_count f → sources_of t₀.members ≡ replicate 64 0 → 0 < n
    → entry_row_length * n ≤ length rows₀ → entry ≡ listed_at f (entry_place 0) (entry_place n)
    → Begun f entry left cursor row
    → Running f n t₀ rows₀ t₀ (replicate 64 0) rows₀ 0 entry left cursor row
running_start f n t₀ rows₀ entry left cursor row good count s some room e b =
    let listed = listed_at f (entry_place 0) (entry_place n) in
    let first = recorded_at f (entry_place 0) (entry_place n) in
    let later = behind f n 0 listed.end in
    let all : n ≡ n - 0 = omega arith in
    let entries : first ∷ later ≡ entries_in f =
    sym (entries_next f n 0 (entry_place n) some)
    ∙ ap (λ (k : ℕ). entries_from f k (entry_place 0) (entry_place n)) (sym all)
    ∙ entries_in_lem f n count in
    let bodies : bodies_end f (n - (0 + 1)) (entry_place (0 + 1)) listed.end ≡ length f =
    sym (bodies_next f n 0 (entry_place n) some) ∙ bodies_whole f n good count in
    let lengths : length later ≡ n - (0 + 1) = entries_count f (n - (0 + 1)) _ _ in
    record {
      sources_are = sym s;
      many = refl;
      inside = some;
      here = e ∙ ap (listed_at f (entry_place 0)) (sym (ap (λ (g : Listed). g.body) e));
      bodies = ap (λ (g : Listed). bodies_end f (n - (0 + 1)) (entry_place (0 + 1)) g.end) e ∙ bodies;
      few = begun_few f entry left cursor row b;
      run = subst
          (λ (es : List RecordedDatagram).
          EntriesLeft t₀ rows₀ es t₀ rows₀ 0 (left_calls f entry left cursor) row entry.at
          (behind f n 0 entry.end)) entries
          (subst
          (λ (g : Listed).
          EntriesLeft t₀ rows₀ (first ∷ later) t₀ rows₀ 0 (left_calls f entry left cursor) row g.at
          (behind f n 0 g.end)) (sym e)
          (entries_left_start t₀ rows₀ first later _ row
          (listed_begins t₀ f (entry_place 0) (entry_place n) entry left cursor row e b)
          (omega (arith, room, lengths, some))));
    }
