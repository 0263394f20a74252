-- When two worlds are the same to a program, and which files its calls can change.
use Rattle.std.specs.Prelude.{◌≡◌, ℕ, List, IsTrue, Bool, false, ◌||◌, ◌&&◌}
use Rattle.std.specs.FinMap.{get}
use Rattle.vr_base.specs.Rights.{has_bit, word_on, fd_write, path_create_file, path_filestat_get, path_filestat_set_size, fd_filestat_set_size, path_open, path_unlink_file}
use Rattle.vr_wasi_calls.specs.Replies.{reply}
use Rattle.vr_files.specs.Changes.{Layers}
use Rattle.vr_wasi_calls.specs.Worlds.{World, IsWorld, file_at, first_world, word_at}
use Rattle.vr_wasm_num.specs.Memory.{Contents}
use Rattle.vr_wasm_steps.specs.declared.host.HostAnswer.{HostAnswer}
use Rattle.vr_wasm_steps.specs.declared.host.HostAnswer.TheVariants.{Value, Nothing, Exit, NoMemory}
use Rattle.vr_wasm_steps.specs.Hosts.{Reply, gives_value, gives_nothing, exits}

-- whether a word lets a program learn of a file: it may open it, ask for its facts, or take it out
abbrev pub is_observing : ℕ → Bool
is_observing word =
    has_bit word path_open || has_bit word path_filestat_get || has_bit word path_unlink_file

-- whether a word lets a program change a file: it may take it out, or open it and write, make, cut
-- or size it
abbrev pub is_modifying : ℕ → Bool
is_modifying word =
    has_bit word path_unlink_file
    || (has_bit word path_open
    && (has_bit word fd_write || has_bit word path_create_file
    || has_bit word path_filestat_set_size || has_bit word fd_filestat_set_size))

-- The worlds are the same but for files of which the program can't learn.
pub record Agree (a b : World) : Type 0 where
  pub path : b.path ≡ a.path
  pub grants : b.grants ≡ a.grants
  pub input : b.input ≡ a.input
  pub taken : b.taken ≡ a.taken
  pub output : b.output ≡ a.output
  pub descriptors : b.descriptors ≡ a.descriptors
  pub files : (path : List ℕ) → IsTrue (is_observing (word_at a path))
      → file_at b path ≡ file_at a path

-- They agree, and what is true of each world is true of them: this is what calls keep.
pub record AreAlike (a b : World) : Type 0 where
  pub fits : IsWorld a
  pub agree : Agree a b

-- Two worlds are alike that a program begins with, where the files are the same of which it can learn.
abbrev pub BeginAlike : Type 0
BeginAlike =
    (path : List ℕ) (grants : List (List ℕ × ℕ)) (input : List ℕ) (a b : Layers)
    → ((name : List ℕ) → IsTrue (is_observing (word_on name grants))
    → get b.files name ≡ get a.files name)
    → AreAlike (first_world path grants a input) (first_world path grants b input)

-- A file that the program may not change is as before.
pub record ChangesOnly (old new : World) : Type 0 where
  pub files : (path : List ℕ) → is_modifying (word_at old path) ≡ false
      → file_at new path ≡ file_at old path

-- What a call may change of a world: no grants, and no files but those that the program may change.
pub record Keeps (old new : World) : Type 0 where
  pub grants : new.grants ≡ old.grants
  pub fits : IsWorld old → IsWorld new
  pub changes : IsWorld old → ChangesOnly old new

-- The reply has this answer and this memory, and leaves a world that agrees with this one.
abbrev pub RepliesAlike : Reply World → HostAnswer → Contents → World → Type 0
RepliesAlike reply (Value v) memory w =
    (other : World) × (reply ≡ gives_value v memory other) × Agree w other
RepliesAlike reply Nothing memory w =
    (other : World) × (reply ≡ gives_nothing memory other) × Agree w other
RepliesAlike reply (Exit code) memory w =
    (other : World) × (reply ≡ exits code memory other) × Agree w other
RepliesAlike reply NoMemory memory w = Unit {0}

-- A call is isolated from what the program can't learn: in every second world that agrees with the
-- first one it has the same answer and memory, and leaves worlds that agree again.
abbrev pub IsIsolated : World → ℕ → List ℕ → Contents → HostAnswer → Contents → World → Type 0
IsIsolated before which args old answer new after =
    (other : World) → Agree before other
    → RepliesAlike (reply other which args old) answer new after
