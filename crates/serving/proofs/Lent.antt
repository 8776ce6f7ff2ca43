-- What a job and a report of bytes lend to a call is of its types.
-- Assumes nothing.
use mathlib.Core.List.{List}
use Prim.Native.Nat.{ℕ}
use Rattle.calls.specs.Engine.{Lent}
use Rattle.jobs.specs.Header as header
use Rattle.jobs.specs.Job.{job_read, call_in}
use Rattle.jobs.proofs.Typed.{zeros_typed, word_below, code_typed, intervals_typed, memory_typed}
use Rattle.serving.specs.Served.{table_words}
use Rattle.serving.specs.Server.{zeros, Bytes}

-- the call that a job stands for is lent what its types say
pub lent : (job report : List ℕ) → Bytes job report → Lent (job_read job).memory zeros (call_in job report)
unfolding job_read
lent job report b =
    record {
      memory_words = memory_typed job b.of_job;
      table_words = zeros_typed table_words;
      typed = record {
        code = code_typed job b.of_job;
        intervals = intervals_typed job b.of_job;
        limit = word_below job b.of_job header.limit;
        report = b.of_report;
        bytes = b.size;
        first = word_below job b.of_job header.first;
      };
    }
