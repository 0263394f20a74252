-- How a sink in memory begins, and what its writes take.
use Rattle.std.specs.Prelude.{◌≡◌, ℕ, ◌-◌, ◌<◌, ◌≤◌, min, List, [], vec_len, Result, Ok, IsErr}
use Rattle.vr_base.specs.declared.outside.Failed.{Failed}
use Rattle.vr_memory_links.specs.declared.sink.MemSink.{MemSink}

-- A sink with this room and these failing writes, to which nothing was written yet.
pub record IsUnused (most : ℕ) (listed : List ℕ) (sink : MemSink) : Type 0 where
  pub bytes : sink.bytes.items ≡ []
  pub room : sink.room ≡ most
  pub failing : sink.calls.listed.items ≡ listed
  pub calls : sink.calls.calls ≡ 0
  pub faults : sink.calls.faults ≡ 0

-- A write of so many bytes that isn't one of the failing ones: it takes what fits, and fails where there are bytes and no
-- room is left for them.
pub record TakesWhatFits (sink : MemSink) (size : ℕ) (result : Result ℕ Failed) : Type 0 where
  pub fits : vec_len sink.bytes < sink.room
      → result ≡ Ok (min size (sink.room - vec_len sink.bytes))
  pub empty : size ≡ 0 → result ≡ Ok 0
  pub full : 0 < size → sink.room ≤ vec_len sink.bytes → IsErr result
