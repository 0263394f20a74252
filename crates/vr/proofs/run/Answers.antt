use denote.Param.Send.{arg_send, param_send}
use Rattle.vr_keeper_sql.proofs.Crossing.{sql_keeper_send}
use Rattle.vr.proofs.run.Goals as goal

pub serve-status-requires-send-K : goal.serve-status-requires-send-K
serve-status-requires-send-K g c κs = search (sql_keeper_send, param_send, arg_send)
