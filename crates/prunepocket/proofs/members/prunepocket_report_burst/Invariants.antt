-- After i reports, table and list are those of the single calls.
use Rattle.std.proofs.Common.{◌≡◌}
use Rattle.burst.specs.Singles.{after_singles}
use Rattle.burst.proofs.Laws.{list_after}
use Rattle.prunepocket.proofs.members.prunepocket_report_burst.Given as goal

abbrev pub invariant-loop-i : goal.invariant-loop-i
invariant-loop-i l =
    record {
      singles : l.t ≡ after_singles l.fn.t l.fn.reports l.fn.at l.i;
      numbers : l.answers ≡ list_after l.fn.t l.fn.reports l.fn.at l.fn.answers l.i;
    }
