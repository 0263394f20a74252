use Rattle.std.proofs.Common.{map, refl}
use Rattle.std.specs.Prelude.{string_bytes}
use Rattle.vr_face.proofs.PorchLemmas.{keeps_none}
use Rattle.vr_cli.specs.Servings.{servers}
use Rattle.vr_cli.proofs.FileWordLemmas.{named_asked}
use Rattle.vr_cli.proofs.ServerLemmas.{complete_over, crashes_kept, usage_causes, usage_ends}
use Rattle.vr_cli.proofs.ServerWords.{server_no_usage, server_usage, where_asked, where_wrong}
use Rattle.vr_cli.proofs.serving.serve.Goals as goal

pub returns-in-Ok-clause-usage : goal.returns-in-Ok-clause-usage
returns-in-Ok-clause-usage g c =
    server_no_usage (map string_bytes c.args.words.now) c.in-Ok.asked c.serve_asked.result.0 c.in-Ok.ensures.refused c.serve_asked.ensures.asked

pub returns-in-Ok-clause-says : goal.returns-in-Ok-clause-says
returns-in-Ok-clause-says g c = where_asked (map string_bytes c.args.words.now) c.in-Ok.asked _ _ refl c.in-Ok.ensures.accepted c.serve_asked.ensures.says

pub returns-in-Ok-clause-complete : goal.returns-in-Ok-clause-complete
returns-in-Ok-clause-complete g c =
    where_asked (map string_bytes c.args.words.now) c.in-Ok.asked _ _ refl c.in-Ok.ensures.accepted
    (complete_over _ _ c.serve_asked.result.0 _ _ c.serve_asked.ensures.says c.serve_asked.ensures.causes)

pub returns-in-Ok-clause-started : goal.returns-in-Ok-clause-started
returns-in-Ok-clause-started g c = where_asked (map string_bytes c.args.words.now) c.in-Ok.asked _ _ refl c.in-Ok.ensures.accepted c.serve_asked.ensures.started

pub returns-in-Ok-clause-under : goal.returns-in-Ok-clause-under
returns-in-Ok-clause-under g c = where_asked (map string_bytes c.args.words.now) c.in-Ok.asked _ _ refl c.in-Ok.ensures.accepted c.serve_asked.ensures.under

pub returns-in-Ok-clause-count : goal.returns-in-Ok-clause-count
returns-in-Ok-clause-count g c = where_asked (map string_bytes c.args.words.now) c.in-Ok.asked _ _ refl c.in-Ok.ensures.accepted c.serve_asked.ensures.count

pub returns-in-Ok-clause-alone : goal.returns-in-Ok-clause-alone
returns-in-Ok-clause-alone g c = where_asked (map string_bytes c.args.words.now) c.in-Ok.asked _ _ refl c.in-Ok.ensures.accepted c.serve_asked.ensures.alone

pub returns-in-Err-clause-usage : goal.returns-in-Err-clause-usage
returns-in-Err-clause-usage g c = server_usage (map string_bytes c.args.words.now) _ c.in-Err.index refl c.in-Err.ensures.refused

pub returns-in-Err-clause-says : goal.returns-in-Err-clause-says
returns-in-Err-clause-says g c = where_wrong (map string_bytes c.args.words.now) c.in-Err.index _ _ refl c.in-Err.ensures.accepted

pub returns-in-Err-clause-causes : goal.returns-in-Err-clause-causes
returns-in-Err-clause-causes g c = usage_causes c.in-Err.index _

pub returns-in-Err-clause-complete : goal.returns-in-Err-clause-complete
returns-in-Err-clause-complete g c = where_wrong (map string_bytes c.args.words.now) c.in-Err.index _ _ refl c.in-Err.ensures.accepted

pub returns-in-Err-clause-unstarted : goal.returns-in-Err-clause-unstarted
returns-in-Err-clause-unstarted g c = usage_ends g.K.Keeper.rows g.K.Keeper.listed g.K.Keeper.is_loaded c.in-Err.index _ _ c.args.keeper

pub returns-in-Err-clause-started : goal.returns-in-Err-clause-started
returns-in-Err-clause-started g c = where_wrong (map string_bytes c.args.words.now) c.in-Err.index _ _ refl c.in-Err.ensures.accepted

pub returns-in-Err-clause-under : goal.returns-in-Err-clause-under
returns-in-Err-clause-under g c = where_wrong (map string_bytes c.args.words.now) c.in-Err.index _ _ refl c.in-Err.ensures.accepted

pub returns-in-Err-clause-count : goal.returns-in-Err-clause-count
returns-in-Err-clause-count g c = where_wrong (map string_bytes c.args.words.now) c.in-Err.index _ _ refl c.in-Err.ensures.accepted

pub returns-in-Err-clause-served : goal.returns-in-Err-clause-served
returns-in-Err-clause-served g c = keeps_none _ _ _ refl

pub returns-in-Err-clause-alone : goal.returns-in-Err-clause-alone
returns-in-Err-clause-alone g c = where_wrong (map string_bytes c.args.words.now) c.in-Err.index _ _ refl c.in-Err.ensures.accepted

pub returns-in-Ok-clause-first : goal.returns-in-Ok-clause-first
returns-in-Ok-clause-first g c = where_asked (map string_bytes c.args.words.now) c.in-Ok.asked _ _ refl c.in-Ok.ensures.accepted c.serve_asked.ensures.first

pub returns-in-Err-clause-first : goal.returns-in-Err-clause-first
returns-in-Err-clause-first g c = where_wrong (map string_bytes c.args.words.now) c.in-Err.index _ _ refl c.in-Err.ensures.accepted

pub returns-in-Err-clause-unheard : goal.returns-in-Err-clause-unheard
returns-in-Err-clause-unheard g c before = (refl, refl)

pub returns-in-Err-clause-unserved : goal.returns-in-Err-clause-unserved
returns-in-Err-clause-unserved g c = record { handed_out = refl; ended = refl }

pub returns-in-Ok-clause-word : goal.returns-in-Ok-clause-word
returns-in-Ok-clause-word g c =
    named_asked (map string_bytes c.args.words.now) servers _ _ _ refl c.in-Ok.ensures.accepted c.serve_asked.ensures.word

pub returns-in-Err-clause-crashes : goal.returns-in-Err-clause-crashes
returns-in-Err-clause-crashes g c = crashes_kept _ _ _ c.args.keeper
