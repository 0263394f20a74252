-- The limits on the sizes of policies.
use Rattle.std.specs.Prelude.{ℕ}

-- the most bytes of a policy file
abbrev pub most_policy : ℕ
most_policy = 4194304

-- the most entries of a list
abbrev pub most_entries : ℕ
most_entries = 1024

-- the most pages of memory of a run, of 64 KiB each
abbrev pub most_pages : ℕ
most_pages = 1024

-- how many pages make a MiB
abbrev pub pages_per_mib : ℕ
pages_per_mib = 16
