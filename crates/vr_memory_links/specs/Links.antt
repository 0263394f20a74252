-- What a connection in memory tells.
use Rattle.std.specs.Prelude.{◌≡◌, ℕ, List, [], drop}
use Rattle.vr_base.specs.Links.{EndedLink}
use Rattle.vr_memory_links.specs.declared.link.MemLink.{MemLink}

-- the bytes that are left to be read
abbrev pub input_left : MemLink → List ℕ
input_left link = drop link.at link.input

-- A connection with its input left whole, nothing written, and no fault.
pub record IsNewLink (link : MemLink) : Type 0 where
  pub unread : link.at ≡ 0
  pub empty : link.written.items ≡ []
  pub faultless : link.calls.faults ≡ 0

-- what is told of a connection that was given back
abbrev pub ended_link : MemLink → EndedLink
ended_link link = record {
  input = link.input;
  written = link.written.items;
  faults = link.calls.faults;
}
