-- The laws of the replies: worlds that a program can't tell apart stay so, and no call changes a
-- file but those that the program may change.
use Rattle.std.proofs.Common.{◌≡◌, ℕ, List, [], ◌∷◌, Ok, Err, refl, ap, subst, sym}
use Rattle.vr_wasm_num.specs.Memory.{Contents}
use Rattle.vr_wasm_steps.specs.Hosts.{Reply, IsReply, gives_value, gives_nothing, exits}
use Rattle.vr_wasm_steps.specs.declared.host.HostAnswer.{HostAnswer}
use Rattle.vr_wasm_steps.specs.declared.host.HostAnswer.TheVariants.{Value, Nothing, Exit, NoMemory}
use Rattle.vr_wasm_in_step.specs.InStep.{RepliesAgree, SameReply}
use Rattle.vr_wasm_in_step.specs.Kept.{RepliesKeep, world_after}
use Rattle.vr_wasi_calls.specs.Calls.{Done}
use Rattle.vr_wasi_calls.specs.Checks.{Checked}
use Rattle.vr_wasi_calls.specs.Functions.{function_of}
use Rattle.vr_wasi_calls.specs.Replies.{answered, call_of, replied, reply}
use Rattle.vr_wasi_calls.specs.Worlds.{World, IsWorld}
use Rattle.vr_wasi_calls.specs.declared.functions.Function.{Function}
use Rattle.vr_wasi_calls.specs.declared.functions.Function.TheVariants.{ProcExit}
use Rattle.vr_files.specs.Changes.{Layers}
use Rattle.vr_wasi_fs.specs.Agreement.{Agree, AreAlike, ChangesOnly, IsIsolated, Keeps, RepliesAlike}
use Rattle.vr_wasi_fs.specs.Alike.{AgreeOn, SameDone, agree_with, call_same, with_files}
use Rattle.vr_wasi_fs.specs.Chains.{Passes, passes, refused, Same, both, neither}
use Rattle.vr_wasi_fs.specs.Leaving.{Leaves, call_leaves, keeps_all, keeps_then}

-- ---- replies in two worlds

-- a world that agrees is this one with other files
same_but_files : (a b : World) → Agree a b → b ≡ with_files a b.files
same_but_files a b agree = λ i. record {
  path = agree.path i;
  grants = agree.grants i;
  files = b.files;
  input = agree.input i;
  taken = agree.taken i;
  output = agree.output i;
  descriptors = agree.descriptors i;
}

answers_alike : (w v : World) (m : Contents) (c d : Checked Done) → AreAlike w v
    → Passes (Leaves w m) c → Same SameDone c d
    → SameReply AreAlike (answered w m c) (answered v m d)
answers_alike w v m (Ok c) (Ok d) alike (passes left) (both same) =
    (refl, same.memory, record { fits = left.world.fits alike.fits; agree = same.world })
answers_alike w v m (Err a) (Err b) alike refused neither = (refl, refl, alike)
answers_alike w v m (Ok c) (Err b) alike left same = elim same [ ]
answers_alike w v m (Err a) (Ok d) alike left same = elim same [ ]

with_others : (w : World) (others : Layers) (m : Contents) (f : Function) (args : List ℕ)
    → AreAlike w (with_files w others) → AgreeOn w.grants w.files.files others.files
    → SameReply AreAlike (replied w m f args) (replied (with_files w others) m f args)
with_others w others m ProcExit (code ∷ []) alike on = (refl, refl, alike)
with_others w others m ProcExit args alike on = (refl, alike)
with_others w others m f args alike on =
    answers_alike w (with_files w others) m (call_of w m f args) (call_of
    (with_files w others) m f args) alike
    (call_leaves w m f args) (call_same w others alike.fits on m f args)

-- the law: worlds that are alike have the same replies, and are alike after them
pub replies_agree_each : RepliesAgree AreAlike reply reply
replies_agree_each v w alike which args memory =
    let f : Function = function_of which in
    let Goal : World → Type 0 = λ u. SameReply AreAlike (replied v memory f args)
    (replied u memory f args) in
    let on : AgreeOn v.grants v.files.files w.files.files = record { seen = alike.agree.files } in
    let beside : AreAlike v (with_files v w.files) = record {
      fits = alike.fits;
      agree = agree_with
          v w.files on;
    } in
    subst Goal (sym (same_but_files v w alike.agree))
    (with_others v w.files memory f args beside on)

-- ---- what replies keep

answer_keeps : (w : World) (m : Contents) (c : Checked Done) → Passes (Leaves w m) c
    → Keeps w (world_after (answered w m c))
answer_keeps w m (Ok done) (passes left) = left.world
answer_keeps w m (Err errno) refused = keeps_all w

reply_keeps : (w : World) (m : Contents) (f : Function) (args : List ℕ)
    → Keeps w (world_after (replied w m f args))
reply_keeps w m ProcExit (code ∷ []) = keeps_all w
reply_keeps w m ProcExit args = keeps_all w
reply_keeps w m f args = answer_keeps w m (call_of w m f args) (call_leaves w m f args)

-- the law: what may have changed since another world is no more after a reply
pub replies_keep_each : (other : World) → RepliesKeep (Keeps other) reply
replies_keep_each other w kept which args memory =
    keeps_then other w (world_after (reply w which args memory)) kept (reply_keeps w memory
    (function_of which) args)

-- ---- an answer of the host

value_alike : (v : ℕ) (new : Contents) (after : World) (theirs : Reply World)
    → SameReply AreAlike (gives_value v new after) theirs → RepliesAlike theirs (Value v) new after
value_alike v new after (gives_value x m u) same = (
  u,
  (λ i. gives_value (sym same.0 i)
      (sym same.1 i) u),
  same.2.agree,
)
value_alike v new after (gives_nothing m u) same = absurd same
value_alike v new after (exits code m u) same = absurd same

nothing_alike : (new : Contents) (after : World) (theirs : Reply World)
    → SameReply AreAlike (gives_nothing new after) theirs → RepliesAlike theirs Nothing new after
nothing_alike new after (gives_nothing m u) same = (
  u,
  (λ i. gives_nothing
      (sym same.0 i) u),
  same.1.agree,
)
nothing_alike new after (gives_value x m u) same = absurd same
nothing_alike new after (exits code m u) same = absurd same

exit_alike : (code : ℕ) (new : Contents) (after : World) (theirs : Reply World)
    → SameReply AreAlike (exits code new after) theirs → RepliesAlike theirs (Exit code) new after
exit_alike code new after (exits other m u) same = (
  u,
  (λ i. exits (sym same.0 i)
      (sym same.1 i) u),
  same.2.agree,
)
exit_alike code new after (gives_value x m u) same = absurd same
exit_alike code new after (gives_nothing m u) same = absurd same

answer_alike : (answer : HostAnswer) (new : Contents) (after : World) (mine theirs : Reply World)
    → IsReply mine answer new after → SameReply AreAlike mine theirs
    → RepliesAlike theirs answer new after
answer_alike (Value v) new after mine theirs given same =
    let Goal : Reply World
    → Type 0 = λ r. SameReply AreAlike r theirs in value_alike v new after theirs
    (subst Goal given same)
answer_alike Nothing new after mine theirs given same =
    let Goal : Reply World
    → Type 0 = λ r. SameReply AreAlike r theirs in nothing_alike new after theirs
    (subst Goal given same)
answer_alike (Exit code) new after mine theirs given same =
    let Goal : Reply World
    → Type 0 = λ r. SameReply AreAlike r theirs in exit_alike code new after theirs
    (subst Goal given same)
answer_alike NoMemory new after mine theirs given same = tt

-- an answer that is the reply's is isolated
pub answer_isolated : (w : World) (which : ℕ) (args : List ℕ) (old : Contents) (answer : HostAnswer)
    (new : Contents) (after : World) → IsWorld w → IsReply (reply w which args old) answer new after
    → IsIsolated w which args old answer new after
answer_isolated w which args old answer new after is given other agree =
    let alike : AreAlike w other = record { fits = is; agree = agree } in
    answer_alike answer new after (reply w which args old) (reply other which args old) given
    (replies_agree_each w other alike which args old)

-- and changes no file but those that the program may change
pub answer_changes : (w : World) (which : ℕ) (args : List ℕ) (old : Contents) (answer : HostAnswer)
    (new : Contents) (after : World) → IsWorld w → IsReply (reply w which args old) answer new after
    → (answer ≡ NoMemory → after ≡ w) → ChangesOnly w after
answer_changes w which args old answer new after is given same = by_answer answer given same
  where
    left : ChangesOnly w (world_after (reply w which args old))
    left = (reply_keeps w old (function_of which) args).changes is

    by_answer : (a : HostAnswer) → IsReply (reply w which args old) a new after → (a ≡ NoMemory
        → after ≡ w) → ChangesOnly w after
    by_answer (Value v) given same = subst (ChangesOnly w) (ap world_after given) left
    by_answer Nothing given same = subst (ChangesOnly w) (ap world_after given) left
    by_answer (Exit code) given same = subst (ChangesOnly w) (ap world_after given) left
    by_answer NoMemory given same = subst (ChangesOnly w) (sym (same refl))
        (record { files = λ path fixed. refl })
