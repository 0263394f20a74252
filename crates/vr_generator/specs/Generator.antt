-- What is replayed to compare two builds of the program: a policy, and a script that is made of draws.
use Rattle.std.specs.Prelude.{ℕ, zero, suc, ◌+◌, ◌*◌, ◌/◌, ◌%◌, ◌^◌, ◌==◌, List, [], ◌∷◌, ◌++◌, codes, decimal, if◌then◌else◌}
use Rattle.vr_base.specs.Signs.{line_feed}
use Rattle.vr_generator.specs.declared.generator.Drawn.{Drawn}

-- ---- draws

-- the state after one more draw: a linear congruence modulo 2^64
abbrev pub next_state : ℕ → ℕ
next_state state = (state * 6364136223846793005 + 1442695040888963407) % (2 ^ 64)

-- what a draw below a number gives, by the state after it
abbrev pub drawn : ℕ → ℕ → ℕ
drawn below state = state / (2 ^ 33) % below

-- ---- the policy

-- a list of JSON, with the items as they are
abbrev pub json_list : List ℕ → List ℕ
json_list items = codes "[" ++ items ++ codes "]"

-- a grant, whose rights are written as they are
abbrev pub grant_text : List ℕ → List ℕ → List ℕ
grant_text name rights =
    codes "{\"file_name\":\"" ++ name ++ codes "\",\"rights\":" ++ rights ++ codes "}"

-- an identity with a folder of its own and a file that all share, and with these rights on the programs
abbrev pub identity_text : List ℕ → List ℕ → List ℕ
identity_text id rights =
    codes "{\"id\":" ++ id ++ codes ",\"file_rights\":"
    ++ json_list (
    grant_text (codes "/d/" ++ id ++ codes "/") (codes "\"rw\"") ++ codes ","
    ++ grant_text (codes "/out") (codes "\"rw\"") ++ codes "," ++ grant_text (codes "/p/") rights
    )
    ++ codes "}"

-- a program with its grants
abbrev pub program_text : List ℕ → List ℕ → List ℕ
program_text name grants =
    codes "{\"program_file_name\":\"" ++ name ++ codes "\",\"file_rights\":"
    ++ json_list grants ++ codes "}"

-- a pipeline with its text
abbrev pub pipeline_text : List ℕ → List ℕ → List ℕ
pipeline_text id text = codes "{\"id\":" ++ id ++ codes ",\"pipeline\":\"" ++ text ++ codes "\"}"

-- the policy, without a line feed: four identities, of whom the first may write programs; two programs, of which the second
-- may unlink the file that all share; and two pipelines
unfoldable pub policy_text : List ℕ
policy_text =
    codes "{\"identities\":"
    ++ json_list (
    identity_text (codes "0") (codes "\"rwx\"") ++ codes ","
    ++ identity_text (codes "1") (codes "\"x\"") ++ codes ","
    ++ identity_text (codes "2") (codes "\"x\"") ++ codes ","
    ++ identity_text (codes "3") (codes "\"x\"")
    )
    ++ codes ",\"programs\":"
    ++ json_list (
    program_text (codes "/p/m2") [] ++ codes ","
    ++ program_text (codes "/p/m4") (grant_text (codes "/out") (codes "67108864"))
    )
    ++ codes ",\"pipelines\":"
    ++ json_list (
    pipeline_text (codes "0") (codes "/p/m2") ++ codes ","
    ++ pipeline_text (codes "1") (codes "/p/m4 ; /p/m2")
    )
    ++ codes "}"

-- ---- the script

-- the first eight bytes of a module, in hex digits
abbrev pub module_header : List ℕ
module_header = codes "0061736d01000000"

-- the name of WASI preview 1 with its length, in hex digits
abbrev pub wasi_name : List ℕ
wasi_name = codes "16776173695f736e617073686f745f7072657669657731"

-- a module that writes two bytes to its output, in hex digits
abbrev pub writing_module : List ℕ
writing_module =
    module_header ++ codes "010c0260047f7f7f7f017f600000022301" ++ wasi_name
    ++ codes "0866645f77726974650000030201010503010001070a01065f737461727400010a0f010d"
    ++ codes "00410141004101410810001a0b0b14010041000b0e0c00000002000000000000006869"

-- a module that unlinks `out` and exits with the answer, in hex digits
abbrev pub unlinking_module : List ℕ
unlinking_module =
    module_header ++ codes "010f0360037f7f7f017f60017f00600000024e02" ++ wasi_name
    ++ codes "10706174685f756e6c696e6b5f66696c650000" ++ wasi_name
    ++ codes "0970726f635f657869740001030201020503010001070a01065f737461727400020a0e010c"
    ++ codes "00410341004103100010010b0b09010041000b036f7574"

-- the lines that write the two programs
abbrev pub first_lines : List ℕ
first_lines =
    codes "0 write /p/m2 hex " ++ writing_module ++ line_feed ∷ []
    ++ codes "0 write /p/m4 hex " ++ unlinking_module ++ line_feed ∷ []

-- what is done, to the end of the line: a write, an append or a read of the file in a folder, a write of the file that all
-- share, or a run
abbrev pub act_text : Drawn → List ℕ
act_text call =
    if call.act == 0
    then codes "write /d/"
    ++ (decimal call.folder ++ (codes "/f fill 61 " ++ (decimal call.size ++ line_feed ∷ [])))
    else (if call.act == 1
    then codes "append /d/"
    ++ (decimal call.folder ++ (codes "/f fill 62 " ++ (decimal call.size ++ line_feed ∷ [])))
    else (if call.act == 2
    then codes "read /d/" ++ (decimal call.folder ++ (codes "/f" ++ line_feed ∷ []))
    else (if call.act == 3 then codes "write /out fill 63 " ++ (decimal call.size ++ line_feed ∷ [])
    else codes "run " ++ (decimal (call.size % 2) ++ line_feed ∷ []))))

-- the line of a call
abbrev pub call_line : Drawn → List ℕ
call_line call = decimal call.who ++ (codes " " ++ act_text call)

-- the call that four draws from a state make, in this order: who, what, in whose folder, how many bytes
abbrev pub call_drawn : ℕ → Drawn
call_drawn state =
    let first = next_state state in
    let second = next_state first in
    let third = next_state second in
    record {
      who = drawn 4 first;
      act = drawn 5 second;
      folder = drawn 4 third;
      size = drawn 2000 (next_state third);
    }

-- the state after the four draws of a call
abbrev pub state_after : ℕ → ℕ
state_after state = next_state (next_state (next_state (next_state state)))

-- the lines of so many calls, drawn from a state on
abbrev pub call_lines : ℕ → ℕ → List ℕ
call_lines zero state = []
call_lines (suc count) state = call_line (call_drawn state) ++ call_lines count (state_after state)

-- the script of a number: the two programs, and a hundred calls for each one of it, drawn from the number on
unfoldable pub script_text : ℕ → List ℕ
script_text n = first_lines ++ call_lines (100 * n) n
