-- `check_burst` says how many reports are tried. Each turn leaves the table and the list that the single call with its
-- report leaves, and after the last turn they are the burst's.
use Rattle.std.proofs.Common.{◌≡◌, ◌∙◌, length, set, refl, sym, ap, arith, add-one}
use Rattle.table.specs.declared.Answered.{Answered}
use Rattle.table.proofs.Laws.Filing.{filing_answers}
use Rattle.burst.specs.Singles.{record_at, after_singles}
use Rattle.burst.proofs.Laws.{list_after, length-list, table_next, list_next, tried_all, burst-taken, burst-refused}
use Rattle.prunepocket.proofs.members.prunepocket_report_burst.Goals as goal

pub returns-in-Err : goal.returns-in-Err
returns-in-Err c =
    rw c.number.ensures
    (burst-refused c.args.reports.now c.args.answers.now c.args.t c.args.at c.in-Err.refused c.in-Err.ensures)

pub loop-i-init : goal.loop-i-init
unfolding after_singles list_after
loop-i-init c = record { singles = refl; numbers = refl }

pub bounds-answers-i : goal.bounds-answers-i
bounds-answers-i c =
    let long : length c.loop-i.answers ≡ length c.args.answers.now =
    ap length c.loop-i.invariant.numbers ∙ length-list _ _ _ _ c.loop-i.i in
    let all = tried_all c.args.reports.now c.args.answers.now _ c.in-Ok.ensures in
    omega (arith, all.1)

pub loop-i-preserved : goal.loop-i-preserved
loop-i-preserved c =
    let t = c.args.t in let xs = c.args.reports.now in let a = c.args.at in let i = c.loop-i.i in
    let ys = c.args.answers.now in
    let told = rw c.loop-i.invariant.singles at c.filing-f.ensures.0 in
    let answer = filing_answers (after_singles t xs a i) (record_at xs i) a c.filing-f.result told in
    record {
      singles =
          rw (add-one i, c.loop-i.invariant.singles)
          (ap (λ (u : Answered). u.table) answer ∙ sym (table_next t xs a i));
      numbers =
          rw (add-one i, c.loop-i.invariant.numbers)
          (ap (λ (u : Answered). set (list_after t xs a ys i) i u.number) answer ∙ sym (list_next t xs a ys i));
    }

pub returns : goal.returns
returns c =
    let is : c.loop-i.i ≡ c.in-Ok.tried = omega arith in
    rw (c.loop-i.invariant.singles, c.loop-i.invariant.numbers, is)
    (burst-taken c.args.reports.now c.args.answers.now c.args.t c.args.at _ c.in-Ok.ensures)
