-- What a request is answered without the desk, or which call of which identity it makes.
use Rattle.std.specs.Prelude.{ℕ, List, codes, bytes_eq, Option, option_and_then, Result, Ok, Err, if◌then◌else◌}
use Rattle.vr_base.specs.Checks.{◌>>=◌, ◌>>◌, or_fault, result_map_err, Told, nothing, exactly, GivesBy}
use Rattle.vr_base.specs.Names.{path_of}
use Rattle.vr_base.specs.declared.calls.Call.{Call}
use Rattle.vr_base.specs.declared.calls.Call.TheVariants as calls
use Rattle.vr_base.specs.declared.calls.Reply.TheVariants.{BadPath, Unkeyed}
use Rattle.vr_http.specs.declared.requests.Request.{Request}
use Rattle.vr_face.specs.Holders.{who}
use Rattle.vr_text.specs.Numerals.{id_of}
use Rattle.vr_face.specs.Resources.{Resource, FileNamed, PipelineNamed, HashOfPolicy, resource_of}
use Rattle.vr_face.specs.declared.answers.Answer.{Answer}
use Rattle.vr_face.specs.declared.answers.Answer.TheVariants.{Replied, NoRoute, BadMethod}
use Rattle.vr_face.specs.declared.answers.Methods.{Methods}
use Rattle.vr_face.specs.declared.answers.Methods.TheVariants.{GetPutPost, Post, Get}
use Rattle.vr_face.specs.declared.asks.Ask.{Ask}
use Rattle.vr_face.specs.declared.asks.AskFault.{AskFault}
use Rattle.vr_face.specs.declared.asks.AskFault.TheVariants.{Answered, OutOfMemory}
use Rattle.vr_face.specs.declared.keys.Keys.{Keys}

-- the call that a method makes of the file with a name
abbrev pub file_call : List ℕ → List ℕ → List ℕ → Result Call Answer
file_call name method body =
    if bytes_eq method (codes "GET") then Ok (calls.Read name)
    else (if bytes_eq method (codes "PUT") then Ok (calls.Write name body)
    else (if bytes_eq method (codes "POST") then Ok (calls.Append name body)
    else Err (BadMethod GetPutPost)))

-- the path that a name stands for, or that it stands for none
abbrev pub named_path : List ℕ → Result (List ℕ) Answer
named_path name = result_map_err (λ fault. Replied (BadPath fault)) (path_of name)

-- the call, where the method is the one that makes it
abbrev pub only_call : Methods → List ℕ → List ℕ → Call → Result Call Answer
only_call methods wanted method call =
    if bytes_eq method wanted then Ok call else Err (BadMethod methods)

-- the pipeline that the text of an id names; a text that is no id has no route
abbrev pub pipeline_id : List ℕ → Result ℕ Answer
pipeline_id digits = or_fault NoRoute (id_of digits)

-- the call that a method makes of a resource: its method first, and then a file's name, which has
-- to stand for a path
abbrev pub call_on : Resource → List ℕ → List ℕ → Result Call Answer
call_on (FileNamed name) method body =
    file_call name method body >>= λ call. named_path name >> Ok call
call_on (PipelineNamed digits) method body =
    pipeline_id digits >>= λ id. only_call Post (codes "POST") method (calls.Run id)
call_on HashOfPolicy method body = only_call Get (codes "GET") method calls.Hash

-- The call that a request makes by its target, its method and its body, or what it is answered
-- whoever asks: that there is no route; then that the method isn't one of its route; then that the
-- name stands for no path.
abbrev pub call_of : List ℕ → List ℕ → List ℕ → Result Call Answer
call_of target method body =
    or_fault NoRoute (resource_of target) >>= λ resource. call_on resource method body

-- the identity that holds a request's key; a request may have none, and no line may have it
abbrev pub asker : Keys → Option (List ℕ) → Result ℕ Answer
asker keys key = or_fault (Replied Unkeyed) (option_and_then (who keys) key)

-- The call that a request makes, and as which identity, or what it is answered without the desk.
abbrev pub ask_of : Keys → Request → Result Ask Answer
ask_of keys request = do
  call ← call_of request.target request.method request.body
  identity ← asker keys request.key
  Ok (record { who = identity; call = call })

-- what a fault of the code tells: the answer
abbrev pub told : AskFault → Told Answer
told OutOfMemory = nothing
told (Answered answer) = exactly answer

-- What was returned is what the request asks for, unless memory ran out.
abbrev pub Gives : {A : Type 0} → Result A AskFault → Result A Answer → Type 0
Gives result answer = GivesBy told result answer
