use Rattle.std.proofs.Common.{refl}
use Rattle.vr_face.proofs.PorchLemmas.{keeps_none}
use Rattle.vr_cli.proofs.ServerLemmas.{begun_asked, begun_blames_none, begun_causes, begun_heard, crashes_kept, freely, hands_none, read_alone, read_said, read_says, read_under, unread_asked, unread_causes, unread_done, unread_ends, unread_says}
use Rattle.vr_cli.proofs.serving.serve_asked.Goals as goal

pub returns-in-Ok-clause-asked : goal.returns-in-Ok-clause-asked
returns-in-Ok-clause-asked g c = begun_asked c.open.result.0 c.open.ensures.begun

pub returns-in-Ok-clause-says : goal.returns-in-Ok-clause-says
returns-in-Ok-clause-says g c = read_says _ _ c.in-Ok.basis.0 c.in-Ok.basis.1 c.in-Ok.basis.2 c.in-Ok.ensures.told c.open.result.0 c.open.ensures.begun

pub returns-in-Ok-clause-causes : goal.returns-in-Ok-clause-causes
returns-in-Ok-clause-causes g c = begun_causes c.open.result.0 c.open.ensures.begun _ _ _ c.in-Ok.ensures.cause c.open.ensures.text c.open.ensures.listener.connections c.open.ensures.keeper

pub returns-in-Ok-clause-unheard : goal.returns-in-Ok-clause-unheard
returns-in-Ok-clause-unheard g c = begun_heard c.open.result.0 c.open.ensures.begun

pub returns-in-Ok-clause-under : goal.returns-in-Ok-clause-under
returns-in-Ok-clause-under g c = read_under _ _ c.in-Ok.basis.0 c.in-Ok.basis.1 c.in-Ok.basis.2 c.in-Ok.ensures.told c.open.result.2 c.open.ensures.under

pub returns-in-Ok-clause-alone : goal.returns-in-Ok-clause-alone
returns-in-Ok-clause-alone g c one =
    read_alone _ _ c.in-Ok.basis.0 c.in-Ok.basis.1 c.in-Ok.basis.2 c.in-Ok.ensures.told g.K.Keeper.faults c.open.result.2 c.open.result.0 _ _ _ _ _ c.in-Ok.ensures.said c.open.ensures.under (c.open.ensures.listener.alone one)

pub returns-in-Err-clause-asked : goal.returns-in-Err-clause-asked
returns-in-Err-clause-asked g c = unread_asked c.in-Err.status _ _ c.in-Err.ensures.cause.counted

pub returns-in-Err-clause-says : goal.returns-in-Err-clause-says
returns-in-Err-clause-says g c = unread_says c.in-Err.status _ _ c.in-Err.ensures.cause.counted _ _ c.in-Err.ensures.told

pub returns-in-Err-clause-causes : goal.returns-in-Err-clause-causes
returns-in-Err-clause-causes g c = unread_causes c.in-Err.status _ _ c.in-Err.ensures.cause.counted c.in-Err.ensures.cause _ _ _

pub returns-in-Err-clause-unstarted : goal.returns-in-Err-clause-unstarted
returns-in-Err-clause-unstarted g c = unread_ends c.in-Err.status _ _ c.in-Err.ensures.cause.counted g.K.Keeper.rows g.K.Keeper.listed g.K.Keeper.is_loaded _ _ c.args.keeper

pub returns-in-Err-clause-under : goal.returns-in-Err-clause-under
returns-in-Err-clause-under g c = freely _

pub returns-in-Err-clause-count : goal.returns-in-Err-clause-count
returns-in-Err-clause-count g c = hands_none _ _ _ _ refl (unread_done c.in-Err.status _ _ c.in-Err.ensures.cause.counted)

pub returns-in-Err-clause-served : goal.returns-in-Err-clause-served
returns-in-Err-clause-served g c = keeps_none _ _ _ refl

pub returns-in-Err-clause-alone : goal.returns-in-Err-clause-alone
returns-in-Err-clause-alone g c one = freely _

pub returns-in-Ok-clause-said : goal.returns-in-Ok-clause-said
returns-in-Ok-clause-said g c = read_said _ _ c.in-Ok.basis.0 c.in-Ok.basis.1 c.in-Ok.basis.2 c.in-Ok.ensures.told c.open.result.2 c.in-Ok.ensures.said c.open.ensures.under

pub returns-in-Err-clause-unheard : goal.returns-in-Err-clause-unheard
returns-in-Err-clause-unheard g c before = (refl, refl)

pub returns-in-Err-clause-unserved : goal.returns-in-Err-clause-unserved
returns-in-Err-clause-unserved g c = record { handed_out = refl; ended = refl }

pub returns-in-Ok-clause-word : goal.returns-in-Ok-clause-word
returns-in-Ok-clause-word g c = begun_blames_none c.open.result.0 _ c.open.ensures.begun

pub returns-in-Err-clause-word : goal.returns-in-Err-clause-word
returns-in-Err-clause-word g c = c.in-Err.ensures.word

pub returns-in-Err-clause-crashes : goal.returns-in-Err-clause-crashes
returns-in-Err-clause-crashes g c = crashes_kept _ _ _ c.args.keeper
