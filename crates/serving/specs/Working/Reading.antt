-- The call of a job that was read, as the contract of the code that makes it names it.
use Rattle.std.specs.Prelude.{◌*◌, take}
use Rattle.riscu.specs.Lent.{LentList, LentMut}
use Rattle.calls.specs.Call.{Call, call_of}
use Rattle.jobs.specs.declared.Counts.{Counts}

-- the call of what was read: as much of the code and the intervals as the counts say
abbrev pub call_read : LentList → LentList → Counts → LentMut → Call
call_read code intervals k report =
    call_of (take k.code code.entry.now) (take (2 * k.inputs) intervals.entry.now) k.limit report.entry.now k.first
