-- The run of a program, and of a pipeline, over files that it may change. What is said of a run as a whole, the policy and
-- the files with which it began, is its setting.
use Rattle.std.specs.Prelude.{◌≡◌, ◌≤◌, ℕ, zero, suc, ◌-◌, List, [], ◌++◌, bytes_eq, find, MatchOption, option_map, unwrap_or}
use Rattle.std.specs.FinMap.{get}
use Rattle.vr_files.specs.FileMaps.{FileMap}
use Rattle.vr_pipe.specs.Trees.{PipeTree, program, if_then, if_else, feed, sequence}
use Rattle.vr_policy_read.specs.PolicyData.{PolicyData}
use Rattle.vr_wasi_calls.specs.Replies.{reply}
use Rattle.vr_wasi_calls.specs.Worlds.{World, first_world}
use Rattle.vr_wasm_steps.specs.Rows.{Config, Program}
use Rattle.vr_wasm_steps.specs.Runs.{Ends, StillRuns, Traps, start}
use Rattle.vr_exec.specs.Programs.{Executable, HasProgram}

-- The policy, and the files with which the run began: each program's bytes are taken from them.
pub record Setting : Type 0 where
  pub policy : PolicyData
  pub opening : FileMap

-- How a program, or a part of a pipeline, ends.
pub data End : Type 0 where
  -- its code, its output, the files after it, and how many steps are left
  ended : ℕ → List ℕ → FileMap → ℕ → End
  -- the path of the program that trapped, and the kind of the trap
  trapped : List ℕ → ℕ → End
  -- the path of the program that still ran when no steps were left
  exhausted : List ℕ → End

-- how a part of a pipeline runs: over these files, with this input and so many steps left, it ends so
abbrev pub Part : Type 1
Part = FileMap → List ℕ → ℕ → End → Type 0

-- ---- one program

-- the grants of the program with this path
abbrev pub grants_at : PolicyData → List ℕ → List (List ℕ × ℕ)
grants_at policy path =
    unwrap_or (option_map (λ listed. listed.grants)
    (find (λ listed. bytes_eq listed.name path) policy.programs)) []

-- the world in which a program begins: its path and its grants, the files as they are now, and its input
abbrev pub world_at : Setting → List ℕ → FileMap → List ℕ → World
world_at setting path files input =
    first_world path (grants_at setting.policy path)
    (record { base = setting.opening; files = files }) input

-- its types and functions, over the calls of WASI
abbrev pub machine_of : Executable → Program World
machine_of executable = record {
  types = executable.tree.types;
  functions = executable.opening.functions;
  reply = reply;
}

-- the program before its first step
abbrev pub start_at : Setting → Executable → List ℕ → FileMap → List ℕ → Config World
start_at setting executable path files input =
    let opening = executable.opening in
    start opening.store (world_at setting path files input) opening.start opening.main

-- It ends with this code within so many steps: its output and the files are then those of its world.
pub record EndsWith (p : Program World) (k : Config World) (fuel code : ℕ) (output : List ℕ)
    (after : FileMap) (left : ℕ) : Type 0 where
  pub used : ℕ
  pub world : World
  pub within : used ≤ fuel
  pub ends : Ends p used k code world
  pub output_is : output ≡ world.output
  pub files_are : after ≡ world.files.files
  pub left_is : left ≡ fuel - used

-- It traps within so many steps.
pub record TrapsWithin (p : Program World) (k : Config World) (fuel kind : ℕ) : Type 0 where
  pub used : ℕ
  pub within : used ≤ fuel
  pub traps : Traps p used k kind

-- what comes of a program of this path within so many steps: it ends with a code, it traps, or it still runs
abbrev pub EndsAs : List ℕ → Program World → Config World → ℕ → End → Type 0
EndsAs path p k fuel (ended code output after left) = EndsWith p k fuel code output after left
EndsAs path p k fuel (trapped at kind) = (at ≡ path) × TrapsWithin p k fuel kind
EndsAs path p k fuel (exhausted at) = (at ≡ path) × StillRuns p fuel k

-- The program at a path runs so.
pub record RunsProgram (setting : Setting) (path : List ℕ) (files : FileMap) (input : List ℕ)
    (fuel : ℕ) (end : End) : Type 0 where
  pub executable : Executable
  pub loaded : HasProgram setting.policy.pages setting.opening path executable
  pub run : EndsAs path (machine_of executable)
      (start_at setting executable path files input) fuel end

-- ---- parts of pipelines

-- without anything to run the code is 0 and the output empty
abbrev pub RunsNothing : Part
RunsNothing files input fuel end = end ≡ ended 0 [] files fuel

-- the first of two parts, with the same input, where a file is there now, and else the second
abbrev pub RunsIf : List ℕ → Part → Part → Part
RunsIf path there absent files input fuel end =
    MatchOption (get files path) (absent files input fuel end) (λ _. there files input fuel end)

-- after `p` of `p | s`: where its code is 0, `s` runs on its output, and else its output is dropped
abbrev pub FeedsOn : Part → End → End → Type 0
FeedsOn second (ended zero output files left) end = second files output left end
FeedsOn second (ended (suc code) output files left) end = end ≡ ended (suc code) [] files left
FeedsOn second failure end = end ≡ failure

-- `p | s`, on the steps that `p` leaves
abbrev pub Feeds : Part → Part → Part
Feeds first second files input fuel end =
    (between : End) × first files input fuel between × FeedsOn second between end

-- a part's end with another part's output before its own
abbrev pub after_output : List ℕ → End → End
after_output output (ended code more files left) = ended code (output ++ more) files left
after_output output failure = failure

-- after `s` of `s ; e`: where its code is 0, `e` runs on no input, and its output comes after that of `s`
abbrev pub GoesOn : Part → End → End → Type 0
GoesOn second (ended zero output files left) end =
    (rest : End) × second files [] left rest × (end ≡ after_output output rest)
GoesOn second stopped end = end ≡ stopped

-- `s ; e`, on the steps that `s` leaves
abbrev pub Follows : Part → Part → Part
Follows first second files input fuel end =
    (between : End) × first files input fuel between × GoesOn second between end

-- ---- pipelines

-- how a pipeline runs
abbrev pub Runs : Setting → PipeTree → Part
Runs setting (program path) = RunsProgram setting path
Runs setting (if_then path taken) = RunsIf path (Runs setting taken) RunsNothing
Runs setting (if_else path taken other) =
    RunsIf path (Runs setting taken) (Runs setting other)
Runs setting (feed first second) = Feeds (Runs setting first) (Runs setting second)
Runs setting (sequence first second) = Follows (Runs setting first) (Runs setting second)
